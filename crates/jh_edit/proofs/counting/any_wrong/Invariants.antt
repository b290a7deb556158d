-- No slot gone over has such a leaf.
use Rattle.std.proofs.Common.{◌≡◌, false}
use Rattle.jh_num.specs.Below.{any_below}
use Rattle.jh_frames.specs.Memory.{byte_at, word_in}
use Rattle.jh_edit.specs.Private.Slots.{wrong_at}
use Rattle.jh_edit.proofs.counting.any_wrong.Given as goal

abbrev pub invariant-loop-slot : goal.invariant-loop-slot
invariant-loop-slot l = any_below (wrong_at l.wants (word_in (byte_at l.f)) l.level l.table) l.slot ≡ false
