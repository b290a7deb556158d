-- The seat's device is the other one, where it is of a cell below that number; else nothing is asked.
use Rattle.std.proofs.Common.{◌≡◌, true}
use Rattle.jh_cellcfg.specs.declared.config.PciDevice.{PciDevice}
use Rattle.jh_cellcfg.specs.declared.config.CellConfig.{CellConfig}
use Rattle.jh_check.specs.Private.Cells.{cells_of}
use Rattle.jh_check.specs.Devices.{agrees_with}
use Rattle.jh_check.proofs.SeatLemmas.{holds_at, no_seat}
use Rattle.jh_check.proofs.devices.agrees_with_seat.Goals as goal

pub returns-in-Some : goal.returns-in-Some
returns-in-Some c = λ t cell device low.
    let other = c.in-Some.other in
    let P : CellConfig → PciDevice → Type 0 = λ there at. agrees_with c.args.regions.now c.args.device.now there.memory_regions at ≡ true in
    let v = c.as_slice.ensures.value in
    let e = c.agrees_with.ensures in
    let here : P other.cell.now other.device.now = cc in
    holds_at (cells_of c.args.setup.now) c.args.seat.now other.cell.now other.device.now c.in-Some.ensures.is P here cell device

pub returns-in-None : goal.returns-in-None
returns-in-None c = λ t cell device low sits.
    absurd (no_seat (cells_of c.args.setup.now) c.args.seat.now cell device sits (c.in-None.ensures.none cell low))
