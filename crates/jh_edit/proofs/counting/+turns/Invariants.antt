-- Each call goes one level down; the turns are those of the table's own leaves and of the slots gone over.
use Rattle.std.proofs.Common.{◌≡◌, ◌+◌, ◌-◌, ◌*◌, ◌≤◌}
use Rattle.jh_num.specs.Below.{sum_below}
use Rattle.jh_desc.specs.Descriptors.{read_of}
use Rattle.jh_frames.specs.Memory.{byte_at, word_in}
use Rattle.jh_shape.specs.Claims.{claims_of}
use Rattle.jh_shape.specs.Shapes.{want_of}
use Rattle.jh_edit.specs.Turns.{turn_if}
use Rattle.jh_edit.specs.Private.Slots.{slot_turns, want_at}
use Rattle.jh_edit.proofs.counting.+turns.Given as goal

abbrev pub decreases-turns_at : goal.decreases-turns_at
decreases-turns_at l = 2 * l.left + 1

abbrev pub decreases-turns_from : goal.decreases-turns_from
decreases-turns_from l = 2 * l.left

abbrev pub invariant-turns_from-loop-slot : goal.invariant-turns_from-loop-slot
invariant-turns_from-loop-slot l =
    (l.turns ≡ (turn_if l.wrong + turn_if l.lacking) + sum_below l.slot (λ i. slot_turns (want_of (claims_of l.t)) (word_in (byte_at l.f)) (l.left - 1) (l.start + i * l.size) (want_at l.wants i) (read_of (word_in (byte_at l.f) (l.table + 8 * i)) l.level)))
    × (l.turns ≤ 2 + l.slot * 1050628)
