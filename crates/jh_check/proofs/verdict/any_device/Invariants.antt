-- A device ahead breaks a rule exactly if any of the cell does.
use Rattle.std.proofs.Common.{◌≡◌, drop, take}
use Rattle.jh_check.specs.Private.Cells.{cells_of}
use Rattle.jh_check.specs.Lists.{found_from, is_any}
use Rattle.jh_check.specs.Findings.{device_at, in_devices_of}
use Rattle.jh_check.proofs.verdict.any_device.Given as goal

abbrev pub invariant-loop-n : goal.invariant-loop-n
invariant-loop-n l = is_any (found_from (device_at (take l.number (cells_of l.setup)) l.number l.cell) l.n (drop l.n l.cell.pci_devices)) ≡ is_any (in_devices_of (take l.number (cells_of l.setup)) l.number l.cell)
