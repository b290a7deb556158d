-- None of the cells so far.
use Rattle.std.proofs.Common.{◌≡◌, false, take}
use Rattle.std.specs.List.{list_any}
use Rattle.jh_shape.specs.Lives.{with_marks}
use Rattle.jh_history.proofs.LoopLemmas.{closing}
use Rattle.jh_history.proofs.plain_cells.any_closes.Given as goal

abbrev pub invariant-loop-i : goal.invariant-loop-i
invariant-loop-i l = list_any (closing l.place) (take l.i (with_marks l.cells l.marks)) ≡ false
