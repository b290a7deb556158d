-- The last pages are free, each once.
use Rattle.std.specs.Prelude.{vec_capacity}
use Rattle.jh_pool.proofs.OpenLemmas.{Opens}
use Rattle.jh_pool.proofs.pool.Pool.open.Given as goal

abbrev pub invariant-loop-k : goal.invariant-loop-k
invariant-loop-k l = Opens l.base l.pages l.k l.free.items (vec_capacity l.free)
