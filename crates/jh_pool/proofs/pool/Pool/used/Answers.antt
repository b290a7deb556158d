-- Free pages are at most as many as there are, and the others are taken.
use Rattle.std.specs.Prelude.{vec_capacity}
use Rattle.std.proofs.Common.{◌≡◌, ◌∙◌, ◌-◌, length, rules, sym, ap}
use Rattle.jh_pool.proofs.CountLemmas.{taken_pages}
use Rattle.jh_pool.proofs.pool.Pool.used.Goals as goal

pub returns-clause-exact : goal.returns-clause-exact
returns-clause-exact c =
    let len : c.len.result ≡ length c.self.inside.free.items = search rules in
    rw (← c.self.view_is) (ap (λ n. c.self.inside.size - n) len ∙ sym (taken_pages c.self.inside.base c.self.inside.size (vec_capacity c.self.inside.free) c.self.inside.free.items c.self.invariant))
