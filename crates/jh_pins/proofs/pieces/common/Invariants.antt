-- The runs so far are those of the pins in common that no rest has.
use Rattle.std.proofs.Common.{◌+◌, ◌-◌, Bool, length}
use Rattle.jh_pins.specs.declared.pin.Pin.{Pin}
use Rattle.jh_pins.specs.Runs.{AreRuns}
use Rattle.jh_pins.specs.Private.Pieces.{is_common}
use Rattle.jh_pins.proofs.PieceLemmas.{InBoth, Comes}
use Rattle.jh_pins.proofs.pieces.common.Given as goal

abbrev pub invariant-both_left : goal.invariant-both_left
invariant-both_left l = (has other : Pin → Bool) → AreRuns has l.runs → AreRuns other l.others → Comes (is_common has other) (InBoth l.runs l.others l.i l.j) l.met.items

abbrev pub decreases-both_left : goal.decreases-both_left
decreases-both_left l = (length l.runs - l.i) + (length l.others - l.j)
