-- The numbers so far are those of the regions so far that aren't empty.
use Rattle.std.proofs.Common.{ℕ, ◌<◌}
use Rattle.std.specs.Prelude.{All, Contains}
use Rattle.jh_mmio.specs.Index.{size_at}
use Rattle.jh_mmio.proofs.index.not_empty.Given as goal

abbrev pub invariant-loop-number : goal.invariant-loop-number
invariant-loop-number l = record {
  some : All (λ k. 0 < size_at l.regions k) l.numbers.items;
  whole : (k : ℕ) → k < l.number → 0 < size_at l.regions k → Contains l.numbers.items k;
}
