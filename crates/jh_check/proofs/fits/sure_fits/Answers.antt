-- At the start no bdf is marked, so that nothing is claimed of any.
use Rattle.jh_check.specs.Private.Cells.{cells_of}
use Rattle.jh_check.proofs.FitLemmas.{sure_none}
use Rattle.jh_check.proofs.fits.sure_fits.Goals as goal

pub loop-i-init : goal.loop-i-init
loop-i-init c = record { length = c.in_ok-sure.ensures.length; sure = sure_none (cells_of c.args.setup.now) c.args.seats.now c.in_ok-sure.sure.items c.in_ok-sure.ensures.none }
