-- A device that is linked has its seat at the device's own bdf, where each seat is looked at.
use Rattle.jh_check.specs.Private.Cells.{cells_of}
use Rattle.jh_check.proofs.SeatLemmas.{agrees_linked}
use Rattle.jh_check.proofs.devices.agrees_with_linked.Goals as goal

pub returns : goal.returns
returns c = λ t.
    agrees_linked (cells_of c.args.setup.now) c.args.number c.args.regions.now c.args.device.now c.args.seats.now c.requires.number c.requires.seats (λ x cx e. c.agrees_with_seats.ensures t x (c.at_bdf.ensures x cx e))
