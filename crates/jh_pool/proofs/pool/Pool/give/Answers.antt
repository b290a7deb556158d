-- A taken page is one page more of the free ones.
use Rattle.std.specs.Prelude.{is_ok, vec_capacity, vec_len}
use Rattle.std.proofs.Common.{◌≡◌, ◌+◌, ◌≤◌, ◌<◌, [], ◌∷◌, ◌++◌, length, length-append, ◌∙◌, arith, rules}
use Rattle.std.proofs.lemmas.Bool.{cond-true}
use Rattle.jh_pool.proofs.EditLemmas.{more_stands, more_fits, last_free, others_free}
use Rattle.jh_pool.proofs.pool.Pool.give.Goals as goal

more : (c : goal.After-push) → c.push.new.self.items ≡ c.self.inside.free.items ++ c.args.page ∷ []
more c =
    let taken = rw (← c.self.view_is) at c.requires in
    let fits : length c.self.inside.free.items + 1 ≤ c.self.inside.size = more_fits c.self.inside.base c.self.inside.size (vec_capacity c.self.inside.free) c.args.page c.self.inside.free.items taken.in_range taken.taken c.self.invariant in
    let len : vec_len c.self.inside.free ≡ length c.self.inside.free.items = search rules in
    let room : c.self.inside.size ≤ vec_capacity c.self.inside.free = c.self.invariant.room in
    let free : vec_len c.self.inside.free < vec_capacity c.self.inside.free = omega arith in
    c.push.ensures.items
    ∙ cond-true (is_ok c.push.result) (c.self.inside.free.items ++ c.args.page ∷ []) c.self.inside.free.items (c.push.ensures.succeeds free)

pub invariant_of-self : goal.invariant_of-self
invariant_of-self c =
    let taken = rw (← c.self.view_is) at c.requires in
    rw (more c) (more_stands c.self.inside.base c.self.inside.size (vec_capacity c.self.inside.free) (vec_capacity c.push.new.self) c.args.page c.self.inside.free.items c.push.ensures.capacity taken.in_range taken.taken c.self.invariant)

pub returns-clause-given : goal.returns-clause-given
returns-clause-given c = rw (more c) (last_free c.args.page c.self.inside.free.items)

pub returns-clause-used : goal.returns-clause-used
returns-clause-used c =
    let taken = rw (← c.self.view_is) at c.requires in
    let fits : length c.self.inside.free.items + 1 ≤ c.self.inside.size = more_fits c.self.inside.base c.self.inside.size (vec_capacity c.self.inside.free) c.args.page c.self.inside.free.items taken.in_range taken.taken c.self.invariant in
    rw (more c, ← c.self.view_is) (omega (arith, length-append c.self.inside.free.items (c.args.page ∷ [])))

pub returns-clause-others : goal.returns-clause-others
returns-clause-others c = rw (more c, ← c.self.view_is) (λ q ne. others_free q c.args.page c.self.inside.free.items ne)
