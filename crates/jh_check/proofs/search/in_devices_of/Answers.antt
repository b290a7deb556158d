-- Where a bdf lacks the cell's own mark, none of the cell's earlier devices stands.
use Rattle.std.proofs.Common.{◌≡◌, ◌≢◌, ℕ, ◌+◌, ◌<◌, ◌≤◌, ◌++◌, List, take, length, get_or, refl, sym, ap, subst, arith}
use Rattle.jh_cellcfg.specs.declared.config.PciDevice.{PciDevice}
use Rattle.jh_check.specs.Private.Cells.{cells_of}
use Rattle.jh_check.specs.Lists.{capped}
use Rattle.jh_check.specs.Findings.{in_devices_of, device_at}
use Rattle.jh_check.specs.Private.Bus.{HasBdfs, AreMarkedBy}
use Rattle.jh_check.specs.Private.Fits.{IsSeated}
use Rattle.jh_check.proofs.DeviceLemmas.{no_device}
use Rattle.jh_check.proofs.FitLemmas.{seated}
use Rattle.jh_check.proofs.BusLemmas.{still_marked, marked_more, once_unmarked}
use Rattle.jh_check.proofs.ListLemmas.{found_step, found_done}
use Rattle.jh_check.proofs.search.in_devices_of.Goals as goal

pub loop-n-init : goal.loop-n-init
unfolding in_devices_of
loop-n-init c = record { told = refl; length = c.requires.length; kept = λ bdf h. h; own = λ k d h. absurd (omega arith) }

pub loop-n-preserved : goal.loop-n-preserved
loop-n-preserved c =
    let found = device_at (take c.args.a (cells_of c.args.setup.now)) c.args.a c.args.cell.now in
    let regions = c.args.cell.now.pci_devices in
    let v = c.as_slice-devices.ensures.value in
    let t = c.loop-n-test.true in
    let h : c.loop-n.n < length regions = rw v at t in
    let a = c.in_ok-put.ensures in
    let b = c.device_breaks-breaks.ensures in
    let f = c.finding.ensures in
    let e : capped c.put.new.found ≡ capped (c.loop-n.found ++ found c.loop-n.n (get_or regions c.loop-n.n no_device)) = cc in
    let device = get_or c.as_slice-devices.result.now c.loop-n.n no_device in
    let is : device ≡ get_or regions c.loop-n.n no_device = ap (λ (xs : List PciDevice). get_or xs c.loop-n.n no_device) v in
    let old = c.loop-n.marks.items in
    let new = c.mark.new.marks.items in
    let P : PciDevice → Type 0 = λ d. ((b : ℕ) → b ≢ d.bdf → get_or new b 0 ≡ get_or old b 0) × (get_or new d.bdf 0 ≡ c.args.a + 1) in
    let marked : P (get_or regions c.loop-n.n no_device) = subst P is (c.mark.ensures.others, c.mark.ensures.own) in
    record {
      told = found_step found regions c.loop-n.n no_device c.loop-n.found c.put.new.found _ h e c.loop-n.invariant.told;
      length = c.mark.ensures.length;
      kept = λ bdf b. still_marked old new c.args.a (get_or regions c.loop-n.n no_device).bdf bdf marked.0 marked.1 (c.loop-n.invariant.kept bdf b);
      own = marked_more old new c.args.a c.loop-n.n regions no_device h marked.0 marked.1 c.loop-n.invariant.own;
    }

pub returns-clause-told : goal.returns-clause-told
returns-clause-told c =
    found_done (device_at (take c.args.a (cells_of c.args.setup.now)) c.args.a c.args.cell.now) c.args.cell.now.pci_devices c.loop-n.n c.loop-n.found _ (rw c.as_slice-devices.ensures.value at c.loop-n-test.false) c.loop-n.invariant.told

pub returns-clause-each : goal.returns-clause-each
returns-clause-each c = λ device cd.
    let k = cd.0 in
    let within = cd.1 in
    let all : length c.args.cell.now.pci_devices ≤ c.loop-n.n = rw c.as_slice-devices.ensures.value at c.loop-n-test.false in
    let marked : get_or c.loop-n.marks.items device.bdf 0 ≡ c.args.a + 1 = subst (λ (d : PciDevice). get_or c.loop-n.marks.items d.bdf 0 ≡ c.args.a + 1) cd.2 (c.loop-n.invariant.own k device (omega arith)) in
    omega arith

pub may_differ-doubted-requires-clause-bdfs : goal.may_differ-doubted-requires-clause-bdfs
may_differ-doubted-requires-clause-bdfs c =
    subst (λ marks. HasBdfs (take c.args.a (cells_of c.args.setup.now)) marks) (sym c.as_slice-known.ensures.value) (λ cell device cc cd. c.loop-n.invariant.kept device.bdf (c.requires.bdfs cell device cc cd))

pub may_differ-doubted-requires-clause-seated : goal.may_differ-doubted-requires-clause-seated
may_differ-doubted-requires-clause-seated c =
    let v = c.as_slice-devices.ensures.value in
    let t = c.loop-n-test.true in
    let h : c.loop-n.n < length c.args.cell.now.pci_devices = rw v at t in
    let all = cells_of c.args.setup.now in
    subst (λ (xs : List PciDevice). IsSeated all c.args.seats.now c.args.a c.args.cell.now (get_or xs c.loop-n.n no_device)) (sym v) (
    seated all c.args.seats.now c.args.a c.loop-n.n c.args.cell.now no_device c.requires.among c.requires.one c.requires.seats h)

pub device_breaks-breaks-requires-clause-repeated : goal.device_breaks-breaks-requires-clause-repeated
device_breaks-breaks-requires-clause-repeated c = λ f.
    let devices = c.as_slice-devices.result.now in
    let known = c.as_slice-known.result.now in
    let own = subst (λ marks. AreMarkedBy c.args.a devices c.loop-n.n marks) (sym c.as_slice-known.ensures.value) (subst (λ xs. AreMarkedBy c.args.a xs c.loop-n.n c.loop-n.marks.items) (sym c.as_slice-devices.ensures.value) c.loop-n.invariant.own) in
    once_unmarked known c.args.a c.loop-n.n devices (get_or devices c.loop-n.n no_device) own (c.has_mark_of-repeated.ensures.another f)

pub device_breaks-breaks-requires-clause-doubted : goal.device_breaks-breaks-requires-clause-doubted
device_breaks-breaks-requires-clause-doubted c = c.may_differ-doubted.ensures
