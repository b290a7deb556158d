-- The extents have each region of the block read so far that takes part.
use Rattle.jh_check.specs.Private.Blocks.{AreExtentsOf}
use Rattle.jh_check.proofs.blocks.block_from.Given as goal

abbrev pub invariant-loop-item : goal.invariant-loop-item
invariant-loop-item l = AreExtentsOf l.rule l.regions l.first l.item l.extents
