-- The outputs from this peer's on lack WRITE, but for the own, exactly where all outputs do.
use Rattle.std.proofs.Common.{◌≡◌, drop}
use Rattle.jh_check.specs.Devices.{are_read_only}
use Rattle.jh_check.proofs.devices.are_read_only.Given as goal

abbrev pub invariant-loop-peer : goal.invariant-loop-peer
invariant-loop-peer l = are_read_only l.own l.peer (drop l.peer l.sections) ≡ are_read_only l.own 0 l.sections
