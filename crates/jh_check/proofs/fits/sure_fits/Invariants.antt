-- Each bdf has a mark, and where it is set the devices of different cells there fit.
use Rattle.std.proofs.Common.{◌≡◌, length}
use Rattle.jh_check.specs.Private.Cells.{cells_of}
use Rattle.jh_check.specs.Private.Fits.{AreSure}
use Rattle.jh_check.proofs.fits.sure_fits.Given as goal

abbrev pub invariant-loop-i : goal.invariant-loop-i
invariant-loop-i l = record {
  length : length l.sure.items ≡ 65536;
  sure : AreSure (cells_of l.setup) l.seats l.sure.items;
}
