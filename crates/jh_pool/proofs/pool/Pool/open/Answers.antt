-- The loop makes the pages free from the last down.
use Rattle.std.specs.Prelude.{vec_capacity}
use Rattle.std.proofs.Common.{arith, rules}
use Rattle.jh_pool.proofs.OpenLemmas.{opens_more, opened_free, opened_used}
use Rattle.jh_pool.proofs.pool.Pool.open.Goals as goal

pub loop-k-preserved : goal.loop-k-preserved
loop-k-preserved c = rw c.in_ok-push.ensures.items (opens_more c.args.base c.args.pages c.loop-k.k (vec_capacity c.loop-k.free) (vec_capacity c.push.new.self) _ c.loop-k.free.items c.requires.aligned (omega arith) c.push.ensures.capacity (search rules) c.loop-k.invariant)

pub returns-clause-free : goal.returns-clause-free
returns-clause-free c = λ page is. opened_free c.args.base c.args.pages c.loop-k.k (vec_capacity c.loop-k.free) page c.loop-k.free.items c.requires.aligned (omega arith) c.loop-k.invariant is

pub returns-clause-used : goal.returns-clause-used
returns-clause-used c = opened_used c.args.base c.args.pages c.loop-k.k (vec_capacity c.loop-k.free) c.loop-k.free.items (omega arith) c.loop-k.invariant
