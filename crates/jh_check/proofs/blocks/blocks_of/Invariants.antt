-- There are as many blocks as turns so far, and each has its own regions that take part.
use Rattle.std.proofs.Common.{◌≡◌, ◌<◌, ◌+◌, ◌*◌, ℕ, get_or, length}
use Rattle.jh_check.specs.declared.blocks.Extents.{Extents}
use Rattle.jh_check.specs.declared.blocks.TheConstants.{BLOCK}
use Rattle.jh_check.specs.Private.Blocks.{AreExtentsOf}
use Rattle.jh_check.proofs.blocks.blocks_of.Given as goal

abbrev pub invariant-loop-k : goal.invariant-loop-k
invariant-loop-k l = record {
  count : length l.blocks.items ≡ l.k;
  each : (k : ℕ) (d : Extents) → k < l.k → AreExtentsOf l.rule l.regions (BLOCK * k) (BLOCK * k + BLOCK) (get_or l.blocks.items k d);
}
