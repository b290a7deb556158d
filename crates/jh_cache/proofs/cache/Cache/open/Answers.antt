-- Lists without a translation.
use Rattle.std.proofs.Common.{rules, arith}
use Rattle.jh_cache.proofs.ListLemmas.{empty_more}
use Rattle.jh_cache.proofs.cache.Cache.open.Goals as goal

pub invariant_of-result : goal.invariant_of-result
invariant_of-result c = λ cpu. rw (c.loop.invariant.empty cpu) (record { few = omega arith; apart = tt })

pub loop-preserved : goal.loop-preserved
loop-preserved c = record {
  count = search rules;
  empty = rw c.in_ok-push.ensures.items (empty_more c.loop.caches.items c.in_ok-cache.cache c.in_ok-cache.ensures c.loop.invariant.empty);
}
