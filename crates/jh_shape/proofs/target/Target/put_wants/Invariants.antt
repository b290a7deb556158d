-- Of the slots so far that the region has addresses in each is as it makes it, and the others are as they were.
use Rattle.std.proofs.Common.{◌≡◌, ℕ, ◌+◌, ◌*◌, ◌<◌, ◌≤◌, cond, length, max, slice_get, Some}
use Rattle.jh_num.specs.Levels.{slot_size}
use Rattle.jh_shape.specs.declared.marks.TheConstants.{TABLE_SLOTS}
use Rattle.jh_shape.specs.Claims.{claims_of}
use Rattle.jh_shape.specs.Private.Marks.{want_by}
use Rattle.jh_shape.proofs.MarkLemmas.{is_from}
use Rattle.jh_shape.proofs.target.Target.put_wants.Given as goal

abbrev pub invariant-loop-n : goal.invariant-loop-n
invariant-loop-n l =
    (l.n ≤ max l.initial.n l.n-end)
    × (length l.wants ≡ TABLE_SLOTS)
    × ((k : ℕ) → k < TABLE_SLOTS → slice_get l.wants k ≡ cond (is_from l.initial.n l.n k) (Some (want_by (claims_of l.self) l.level (l.start + k * slot_size l.level) l.region)) (slice_get l.initial.wants k))
