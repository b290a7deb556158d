-- What the cells so far leave.
use Rattle.std.proofs.Common.{take}
use Rattle.jh_pins.specs.Runs.{AreRuns}
use Rattle.jh_pins.specs.Private.Pieces.{is_left}
use Rattle.jh_pins.proofs.table.runs_left.Given as goal

abbrev pub invariant-loop-other : goal.invariant-loop-other
invariant-loop-other l = AreRuns (is_left l.own (take l.other-index l.others)) l.left.items
