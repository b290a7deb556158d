-- What is done with of the others, and the runs that are left so far.
use Rattle.std.proofs.Common.{◌+◌, ◌-◌, Bool, length}
use Rattle.jh_pins.specs.declared.pin.Pin.{Pin}
use Rattle.jh_pins.specs.Runs.{AreRuns}
use Rattle.jh_pins.proofs.PieceLemmas.{LeavesSoFar}
use Rattle.jh_pins.proofs.pieces.without.Given as goal

abbrev pub invariant-some_left : goal.invariant-some_left
invariant-some_left l = (has other : Pin → Bool) → AreRuns has l.runs → AreRuns other l.others → LeavesSoFar has other l.runs l.others l.i l.j l.past l.left.items

abbrev pub decreases-some_left : goal.decreases-some_left
decreases-some_left l = (length l.runs - l.i) + (length l.others - l.j)
