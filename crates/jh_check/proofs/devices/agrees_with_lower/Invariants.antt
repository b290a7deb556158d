-- The lower cells still to be asked agree exactly where all lower cells do.
use Rattle.std.proofs.Common.{◌≡◌, take, drop}
use Rattle.jh_check.specs.Private.Cells.{cells_of}
use Rattle.jh_check.specs.Devices.{agrees_with_all}
use Rattle.jh_check.proofs.devices.agrees_with_lower.Given as goal

abbrev pub invariant-loop-lower : goal.invariant-loop-lower
invariant-loop-lower l =
    agrees_with_all (drop l.lower (take l.number (cells_of l.setup))) l.regions l.device
    ≡ agrees_with_all (take l.number (cells_of l.setup)) l.regions l.device
