-- The extents of each block so far lie within those of all, in both kinds.
use Rattle.std.proofs.Common.{◌<◌, ℕ, get_or}
use Rattle.jh_check.specs.declared.blocks.Extents.{Extents}
use Rattle.jh_check.specs.Private.Blocks.{AreInside}
use Rattle.jh_check.proofs.blocks.extents_of.Given as goal

abbrev pub invariant-loop-block : goal.invariant-loop-block
invariant-loop-block l = (k : ℕ) (d : Extents) → k < l.block-index → AreInside (get_or l.blocks k d) l.extents
