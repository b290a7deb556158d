-- No slot gone over lacks its leaf.
use Rattle.std.proofs.Common.{◌≡◌, false}
use Rattle.jh_num.specs.Below.{any_below}
use Rattle.jh_frames.specs.Memory.{byte_at, word_in}
use Rattle.jh_edit.specs.Private.Slots.{lacks_at}
use Rattle.jh_edit.proofs.counting.any_lacking.Given as goal

abbrev pub invariant-loop-slot : goal.invariant-loop-slot
invariant-loop-slot l = any_below (lacks_at l.wants (word_in (byte_at l.f)) l.level l.table) l.slot ≡ false
