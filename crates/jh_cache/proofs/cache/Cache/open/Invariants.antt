-- As many empty lists as were made.
use Rattle.std.proofs.Common.{◌≡◌, ℕ, [], length, get_or}
use Rattle.jh_cache.proofs.cache.Cache.open.Given as goal

abbrev pub invariant-loop : goal.invariant-loop
invariant-loop l = record {
  count : length l.caches.items ≡ l.counter;
  empty : (k : ℕ) → get_or l.caches.items k [] ≡ [];
}
