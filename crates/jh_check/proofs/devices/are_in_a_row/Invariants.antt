-- The sections still to be read are in a row exactly where all of them are.
use Rattle.std.proofs.Common.{◌≡◌, drop}
use Rattle.jh_check.specs.Devices.{are_in_a_row}
use Rattle.jh_check.proofs.devices.are_in_a_row.Given as goal

abbrev pub invariant-loop-i : goal.invariant-loop-i
invariant-loop-i l = are_in_a_row (drop l.i l.sections) ≡ are_in_a_row l.sections
