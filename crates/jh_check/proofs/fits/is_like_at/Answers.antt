-- The seat's device is the other one, where the seat is of a device; else nothing is asked.
use Rattle.std.proofs.Common.{◌≡◌, ◌<◌, true, sym, subst}
use Rattle.jh_cellcfg.specs.declared.config.PciDevice.{PciDevice}
use Rattle.jh_cellcfg.specs.declared.config.CellConfig.{CellConfig}
use Rattle.jh_check.specs.Private.Cells.{cells_of}
use Rattle.jh_check.specs.Private.Fits.{is_like}
use Rattle.jh_check.proofs.SeatLemmas.{holds_at, no_seat}
use Rattle.jh_check.proofs.fits.is_like_at.Goals as goal

pub returns-in-Some : goal.returns-in-Some
returns-in-Some c = λ t.
    let other = c.in-Some.other in
    let P : CellConfig → PciDevice → Type 0 = λ there at. is_like c.args.regions.now c.args.device.now there.memory_regions at c.args.seat.now.id ≡ true in
    let v = c.as_slice.ensures.value in
    let e = c.is_like.ensures in
    let here : P other.cell.now other.device.now = cc in
    holds_at (cells_of c.args.setup.now) c.args.seat.now other.cell.now other.device.now c.in-Some.ensures.is P here

pub returns-in-None : goal.returns-in-None
returns-in-None c = λ t cell device sits.
    let n = c.count.ensures in
    let e = c.in-None.ensures.none cell (subst (λ k. c.args.seat.now.cell < k) (sym n) sits.among) in
    absurd (no_seat (cells_of c.args.setup.now) c.args.seat.now cell device sits e)
