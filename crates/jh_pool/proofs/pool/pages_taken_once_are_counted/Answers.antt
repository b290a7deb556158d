-- Pages that are had and pages that are free make the range.
use Rattle.std.specs.Prelude.{vec_capacity}
use Rattle.jh_pool.proofs.CountLemmas.{had_pages}
use Rattle.jh_pool.proofs.pool.pages_taken_once_are_counted.Goals as goal

pub returns : goal.returns
returns c = rw (← c.pool.view_is) (λ had h. had_pages c.pool.inside.base c.pool.inside.size (vec_capacity c.pool.inside.free) c.pool.inside.free.items had c.pool.invariant h.once h.taken)
