-- The devices of the seats so far are like the one, and no two of them have one number.
use Rattle.jh_check.specs.Private.Cells.{cells_of}
use Rattle.jh_check.specs.Private.Fits.{AreLike}
use Rattle.jh_check.proofs.fits.are_like.Given as goal

abbrev pub invariant-loop-i : goal.invariant-loop-i
invariant-loop-i l = AreLike (cells_of l.setup) l.regions l.device l.run l.i
