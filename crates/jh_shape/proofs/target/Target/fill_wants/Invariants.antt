-- The slots are as the regions so far would have them.
use Rattle.std.proofs.Common.{◌≡◌, ℕ, ◌+◌, ◌*◌, ◌<◌, length, slice_get, Some, take}
use Rattle.jh_num.specs.Levels.{slot_size}
use Rattle.jh_shape.specs.declared.marks.TheConstants.{TABLE_SLOTS}
use Rattle.jh_shape.specs.Claims.{claims_of}
use Rattle.jh_shape.specs.Shapes.{want_of}
use Rattle.jh_shape.proofs.PutLemmas.{with_regions}
use Rattle.jh_shape.proofs.target.Target.fill_wants.Given as goal

abbrev pub invariant-loop-region : goal.invariant-loop-region
invariant-loop-region l =
    (length l.wants ≡ TABLE_SLOTS)
    × ((n : ℕ) → n < TABLE_SLOTS → slice_get l.wants n ≡ Some (want_of (with_regions (claims_of l.self) (take l.region-index l.self.regions.now)) l.level (l.start + n * slot_size l.level)))
