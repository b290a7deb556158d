-- The sections still to be compared match exactly where the whole lists do.
use Rattle.std.proofs.Common.{◌≡◌, drop}
use Rattle.jh_check.specs.Devices.{are_same_memory}
use Rattle.jh_check.proofs.devices.are_same_memory.Given as goal

abbrev pub invariant-loop-i : goal.invariant-loop-i
invariant-loop-i l = are_same_memory (drop l.i l.ones) (drop l.i l.others) ≡ are_same_memory l.ones l.others
