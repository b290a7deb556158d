-- The runs of the rows so far.
use Rattle.std.proofs.Common.{◌≡◌, ◌++◌, map, take}
use Rattle.jh_pins.specs.Private.Given.{run_on}
use Rattle.jh_pins.proofs.runs.push_runs.Given as goal

abbrev pub invariant-loop-numbers : goal.invariant-loop-numbers
invariant-loop-numbers l = l.runs.items ≡ l.fn.runs.items ++ map (run_on l.chip) (take l.numbers-index l.rows)
