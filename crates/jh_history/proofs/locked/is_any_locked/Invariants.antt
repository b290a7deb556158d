-- None of the cells so far.
use Rattle.std.proofs.Common.{◌≡◌, false, take}
use Rattle.std.specs.List.{list_any}
use Rattle.jh_history.specs.LiveView.{is_locked_by}
use Rattle.jh_history.proofs.locked.is_any_locked.Given as goal

abbrev pub invariant-loop-cell : goal.invariant-loop-cell
invariant-loop-cell g l = list_any (is_locked_by (g.B.Bytes.byte_of l.bytes)) (take l.cell-index l.cells) ≡ false
