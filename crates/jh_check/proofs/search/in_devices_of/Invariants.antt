-- Findings so far and ahead are the cell's, no mark is lost, and devices so far have its own.
use Rattle.std.proofs.Common.{◌≡◌, ◌<◌, ℕ, ◌++◌, length, take, drop, get_or}
use Rattle.jh_check.specs.Private.Cells.{cells_of}
use Rattle.jh_check.specs.Lists.{found_from, capped}
use Rattle.jh_check.specs.Findings.{device_at, in_devices_of}
use Rattle.jh_check.specs.Private.Bus.{AreMarkedBy}
use Rattle.jh_check.proofs.search.in_devices_of.Given as goal

abbrev pub invariant-loop-n : goal.invariant-loop-n
invariant-loop-n l = record {
  told : capped (l.found ++ found_from (device_at (take l.a (cells_of l.setup)) l.a l.cell) l.n (drop l.n l.cell.pci_devices)) ≡ capped (l.initial.found ++ in_devices_of (take l.a (cells_of l.setup)) l.a l.cell);
  length : length l.marks.items ≡ 65536;
  kept : (bdf : ℕ) → 0 < get_or l.initial.marks.items bdf 0 → 0 < get_or l.marks.items bdf 0;
  own : AreMarkedBy l.a l.cell.pci_devices l.n l.marks.items;
}
