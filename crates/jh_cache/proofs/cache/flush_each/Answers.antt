-- One list more is flushed.
use Rattle.jh_cache.specs.Translations.{flushed}
use Rattle.jh_cache.proofs.ListLemmas.{one_mapped, all_mapped}
use Rattle.jh_cache.proofs.cache.flush_each.Goals as goal

pub loop-cache-preserved : goal.loop-cache-preserved
loop-cache-preserved c =
    one_mapped (flushed c.args.tag) c.args.caches.now c.loop-cache.caches c.loop-cache.cache-index c.flush.new.self c.cache-item.result c.loop-cache-test.true c.loop-cache.invariant c.flush.ensures.value

pub returns : goal.returns
returns c = all_mapped (flushed c.args.tag) c.args.caches.now c.loop-cache.caches c.loop-cache.cache-index c.loop-cache-test.false c.loop-cache.invariant
