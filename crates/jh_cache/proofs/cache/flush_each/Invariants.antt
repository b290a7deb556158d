-- The lists so far are flushed.
use Rattle.std.proofs.Common.{◌≡◌, ◌++◌, take, drop, map}
use Rattle.jh_cache.specs.Translations.{flushed}
use Rattle.jh_cache.proofs.cache.flush_each.Given as goal

abbrev pub invariant-loop-cache : goal.invariant-loop-cache
invariant-loop-cache l = l.caches ≡ map (flushed l.tag) (take l.cache-index l.initial.caches) ++ drop l.cache-index l.initial.caches
