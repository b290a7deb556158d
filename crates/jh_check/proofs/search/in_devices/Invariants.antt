-- Findings so far and ahead are all, and the devices of the cells so far have marked bdfs.
use Rattle.std.proofs.Common.{◌≡◌, ◌++◌, length, take, drop}
use Rattle.jh_check.specs.Private.Bus.{HasBdfs}
use Rattle.jh_check.specs.Private.Cells.{cells_of}
use Rattle.jh_check.specs.Lists.{found_from, capped}
use Rattle.jh_check.specs.Findings.{in_devices_at, in_devices}
use Rattle.jh_check.proofs.search.in_devices.Given as goal

abbrev pub invariant-loop-a : goal.invariant-loop-a
invariant-loop-a l = record {
  told : capped (l.found ++ found_from (in_devices_at (cells_of l.setup)) l.a (drop l.a (cells_of l.setup))) ≡ capped (l.initial.found ++ in_devices (cells_of l.setup));
  length : length l.marks.items ≡ 65536;
  bdfs : HasBdfs (take l.a (cells_of l.setup)) l.marks.items;
}
