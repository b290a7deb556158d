-- Those cells that stand at the place or behind it have left.
use Rattle.std.proofs.Common.{◌≡◌, length}
use Rattle.jh_history.specs.Commits.{is_other}
use Rattle.jh_shape.specs.Lives.{with_marks}
use Rattle.jh_history.proofs.LiveLemmas.{left_from}
use Rattle.jh_history.proofs.plain_cells.leave.Given as goal

abbrev pub invariant-loop-i : goal.invariant-loop-i
invariant-loop-i l = record {
  even : length l.marks.items ≡ length l.cells.items;
  left : with_marks l.cells.items l.marks.items ≡ left_from l.i (is_other l.id) (with_marks l.fn.cells.items l.fn.marks.items);
}
