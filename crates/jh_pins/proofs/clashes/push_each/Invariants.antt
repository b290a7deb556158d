-- The clashes of the runs so far.
use Rattle.std.proofs.Common.{◌≡◌, ◌++◌, map, take}
use Rattle.jh_pins.specs.Clashes.{clash_of}
use Rattle.jh_pins.proofs.clashes.push_each.Given as goal

abbrev pub invariant-loop-run : goal.invariant-loop-run
invariant-loop-run l = l.clashes.items ≡ l.fn.clashes.items ++ map (clash_of l.one l.other) (take l.run-index l.runs)
