-- Cell by cell, and each leaves its devices' bdfs marked for the cells behind it.
use Rattle.std.proofs.Common.{◌≡◌, ◌<◌, ◌++◌, length, get_or, refl, sym, subst, arith}
use Rattle.jh_check.specs.Private.Seats.{HasSeats, AreByBdf}
use Rattle.jh_check.specs.Private.Fits.{AreSure}
use Rattle.jh_check.specs.Private.Cells.{cells_of}
use Rattle.jh_check.specs.Lists.{capped}
use Rattle.jh_check.specs.Findings.{in_devices, in_devices_at}
use Rattle.jh_check.proofs.BusLemmas.{bdfs_none, bdfs_more}
use Rattle.jh_check.proofs.ListLemmas.{found_step, found_done}
use Rattle.jh_check.proofs.search.in_devices.Goals as goal

pub loop-a-init : goal.loop-a-init
unfolding in_devices
loop-a-init c = record { told = refl; length = c.in_ok-marks.ensures; bdfs = bdfs_none c.in_ok-marks.marks.items }

pub loop-a-preserved : goal.loop-a-preserved
loop-a-preserved c =
    let found = in_devices_at (cells_of c.args.setup.now) in
    let all = cells_of c.args.setup.now in
    let v = c.cell.ensures in
    let h : c.loop-a.a < length all = omega arith in
    let a = c.in_ok-in_devices_of.ensures.told in
    let e : capped c.in_devices_of.new.found ≡ capped (c.loop-a.found ++ found c.loop-a.a (get_or all c.loop-a.a c.cell.result.now)) = cc in
    let told = found_step found all c.loop-a.a c.cell.result.now c.loop-a.found c.in_devices_of.new.found _ h e c.loop-a.invariant.told in
    record {
      told = told;
      length = c.in_ok-in_devices_of.ensures.length;
      bdfs = bdfs_more all c.loop-a.a c.cell.result.now c.loop-a.marks.items c.in_devices_of.new.marks.items h v c.loop-a.invariant.bdfs c.in_ok-in_devices_of.ensures.kept c.in_ok-in_devices_of.ensures.each;
    }

pub returns : goal.returns
returns c =
    found_done (in_devices_at (cells_of c.args.setup.now)) (cells_of c.args.setup.now) c.loop-a.a c.loop-a.found _ (omega arith) c.loop-a.invariant.told

pub in_devices_of-requires-clause-seats : goal.in_devices_of-requires-clause-seats
in_devices_of-requires-clause-seats c = subst (λ seats. HasSeats (cells_of c.args.setup.now) seats) (sym c.as_slice-seats.ensures.value) c.in_ok-each.ensures.each

pub in_devices_of-requires-clause-order : goal.in_devices_of-requires-clause-order
in_devices_of-requires-clause-order c = subst AreByBdf (sym c.as_slice-seats.ensures.value) c.in_ok-each.ensures.order

pub sure_fits-requires-clause-order : goal.sure_fits-requires-clause-order
sure_fits-requires-clause-order c = subst AreByBdf (sym c.as_slice-seats.ensures.value) c.in_ok-each.ensures.order

pub in_devices_of-requires-clause-sure : goal.in_devices_of-requires-clause-sure
in_devices_of-requires-clause-sure c =
    subst (λ sure. AreSure (cells_of c.args.setup.now) c.as_slice-seats.result.now sure) (sym c.as_slice.ensures.value) c.in_ok-sure.ensures.sure
