-- What is written so far are the lines of the runs so far.
use Rattle.std.proofs.Common.{◌≡◌, ◌++◌, take}
use Rattle.std.specs.List.{flat_map}
use Rattle.jh_pins.specs.Texts.{run_line}
use Rattle.jh_pins.proofs.text.push_runs.Given as goal

abbrev pub invariant-loop-run : goal.invariant-loop-run
invariant-loop-run l = l.text.items ≡ l.fn.text.items ++ flat_map run_line (take l.run-index l.runs)
