-- What is left of the devices has the function sought.
use Rattle.std.proofs.Common.{◌≡◌, drop}
use Rattle.jh_history.specs.Devices.{number_from}
use Rattle.jh_history.proofs.devices.number_at_bdf.Given as goal

abbrev pub invariant-loop-number : goal.invariant-loop-number
invariant-loop-number l = number_from l.bdf l.number (drop l.number l.list) ≡ number_from l.bdf 0 l.list
