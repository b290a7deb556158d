-- Each call goes one level down, from the search of a table by its slots to that of the table of a slot; the slots gone
-- over stand.
use Rattle.std.proofs.Common.{ℕ, ◌+◌, ◌*◌, ◌<◌}
use Rattle.jh_frames.specs.Memory.{byte_at, word_in}
use Rattle.jh_shape.specs.Claims.{claims_of}
use Rattle.jh_shape.specs.Shapes.{want_of}
use Rattle.jh_edit.specs.Private.Finding.{SlotStands}
use Rattle.jh_edit.proofs.finding.+find.Given as goal

abbrev pub decreases-find : goal.decreases-find
decreases-find l = 6 * l.node.below + 5

abbrev pub decreases-rest_todo : goal.decreases-rest_todo
decreases-rest_todo l = 6 * l.node.below + 4

abbrev pub decreases-tables_todo : goal.decreases-tables_todo
decreases-tables_todo l = 6 * l.node.below + 3

abbrev pub decreases-slot_todo : goal.decreases-slot_todo
decreases-slot_todo l = 6 * l.node.below + 2

abbrev pub decreases-table_todo : goal.decreases-table_todo
decreases-table_todo l = 6 * l.node.below + 1

abbrev pub decreases-begun_todo : goal.decreases-begun_todo
decreases-begun_todo l = 6 * l.node.below + 1

abbrev pub decreases-below_todo : goal.decreases-below_todo
decreases-below_todo l = 6 * l.node.below

abbrev pub invariant-tables_todo-loop-slot : goal.invariant-tables_todo-loop-slot
invariant-tables_todo-loop-slot l = (slot : ℕ) → slot < l.slot → SlotStands (want_of (claims_of l.t)) (word_in (byte_at l.f)) l.node slot
