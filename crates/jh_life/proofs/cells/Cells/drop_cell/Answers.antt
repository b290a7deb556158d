-- Each list of the records loses the same index, and the pages that go are among those taken.
use Rattle.std.proofs.Common.{◌≡◌, ℕ, ◌+◌, ◌-◌, ◌<◌, List, length, remove, sum_by, vec_len, rules, ap, ◌∙◌, arith}
use Rattle.std.proofs.lemmas.List.{length-map}
use Rattle.jh_life.proofs.JoinedLemmas.{own_among, stands_remove}
use Rattle.jh_shape.specs.Pages.{own_pages}
use Rattle.jh_shape.proofs.Public.{length_joined, joined_remove}
use Rattle.jh_life.proofs.cells.Cells.drop_cell.Goals as goal

pub remove-gone-requires : goal.remove-gone-requires
remove-gone-requires c =
    let len : vec_len c.self.inside.own ≡ length c.self.inside.own.items = search rules in
    let each : length c.self.inside.own.items ≡ length c.self.inside.configs.items = ap (λ (l : List ℕ). length l) c.self.invariant.each ∙ length-map c.self.inside.configs.items own_pages in
    let lives : length c.args.self.now.lives ≡ length c.self.inside.configs.items = rw (← c.self.view_is) (length_joined c.self.inside.configs.items c.self.inside.marks.items c.self.invariant.even) in
    omega arith

pub remove-requires : goal.remove-requires
remove-requires c =
    let len : vec_len c.self.inside.configs ≡ length c.self.inside.configs.items = search rules in
    let lives : length c.args.self.now.lives ≡ length c.self.inside.configs.items = rw (← c.self.view_is) (length_joined c.self.inside.configs.items c.self.inside.marks.items c.self.invariant.even) in
    omega arith

pub overflow_sub-self : goal.overflow_sub-self
overflow_sub-self c =
    let root = c.self.inside.system.root in
    let configs = c.self.inside.configs.items in
    let marks = c.self.inside.marks.items in
    let own = c.self.inside.own.items in
    let i = c.args.number - 1 in
    let gone = c.remove-gone.result in
    let lives : length c.args.self.now.lives ≡ length configs = rw (← c.self.view_is) (length_joined configs marks c.self.invariant.even) in
    let index : i < length configs = omega arith in
    let among : sum_by own_pages (remove configs i) + gone ≡ c.self.inside.taken = own_among root configs marks own c.self.inside.taken i gone gone c.self.invariant index c.remove-gone.ensures.value in
    omega arith

pub invariant_of-self : goal.invariant_of-self
invariant_of-self c =
    let configs = c.self.inside.configs.items in
    let marks = c.self.inside.marks.items in
    let own = c.self.inside.own.items in
    let i = c.args.number - 1 in
    let gone = c.remove-gone.result in
    let lives : length c.args.self.now.lives ≡ length configs = rw (← c.self.view_is) (length_joined configs marks c.self.invariant.even) in
    let index : i < length configs = omega arith in
    rw (c.remove.ensures.items, c.remove-2.ensures.items, c.remove-gone.ensures.items) (stands_remove c.self.inside.system.root configs marks own c.self.inside.taken i gone gone c.self.invariant index c.remove-gone.ensures.value)

pub returns-clause-lives : goal.returns-clause-lives
returns-clause-lives c =
    let configs = c.self.inside.configs.items in
    let marks = c.self.inside.marks.items in
    let i = c.args.number - 1 in
    let lives : length c.args.self.now.lives ≡ length configs = rw (← c.self.view_is) (length_joined configs marks c.self.invariant.even) in
    let index : i < length configs = omega arith in
    rw (c.remove.ensures.items, c.remove-2.ensures.items, ← c.self.view_is) (joined_remove i configs marks c.self.invariant.even index)
