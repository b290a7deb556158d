-- Device by device, each compared with all others before it, up to the first that breaks a rule.
use Rattle.std.proofs.Common.{◌≡◌, ◌<◌, true, false, take, length, get_or, refl}
use Rattle.jh_check.specs.Private.Cells.{cells_of}
use Rattle.jh_check.specs.Devices.{device_breaks}
use Rattle.jh_check.specs.declared.rule.Rule.TheVariants.{Shmem}
use Rattle.jh_check.specs.Lists.{is_any}
use Rattle.jh_check.specs.Findings.{device_at, in_devices_of, finding_of}
use Rattle.jh_check.proofs.DeviceLemmas.{no_device}
use Rattle.jh_check.proofs.ListLemmas.{any_step, any_hit, any_done, any_only}
use Rattle.jh_check.proofs.verdict.any_device.Goals as goal

pub loop-n-init : goal.loop-n-init
unfolding in_devices_of
loop-n-init c = refl

pub returns-then-device_breaks : goal.returns-then-device_breaks
returns-then-device_breaks c =
    let found = device_at (take c.args.number (cells_of c.args.setup.now)) c.args.number c.args.cell.now in
    let items = c.args.cell.now.pci_devices in
    let v = c.as_slice-devices.ensures.value in
    let t = c.loop-n-test.true in
    let h : c.loop-n.n < length items = rw v at t in
    let b = c.device_breaks.ensures in
    let i = c.if-device_breaks.true in
    let o = any_only (device_breaks (take c.args.number (cells_of c.args.setup.now)) c.args.cell.now (take c.loop-n.n items) (get_or items c.loop-n.n no_device)) (finding_of Shmem c.args.number c.loop-n.n 0 0) in
    let e : is_any (found c.loop-n.n (get_or items c.loop-n.n no_device)) ≡ true = cc in
    any_hit found items c.loop-n.n no_device _ h e c.loop-n.invariant

pub loop-n-preserved : goal.loop-n-preserved
loop-n-preserved c =
    let found = device_at (take c.args.number (cells_of c.args.setup.now)) c.args.number c.args.cell.now in
    let items = c.args.cell.now.pci_devices in
    let v = c.as_slice-devices.ensures.value in
    let t = c.loop-n-test.true in
    let h : c.loop-n.n < length items = rw v at t in
    let b = c.device_breaks.ensures in
    let i = c.if-device_breaks.false in
    let o = any_only (device_breaks (take c.args.number (cells_of c.args.setup.now)) c.args.cell.now (take c.loop-n.n items) (get_or items c.loop-n.n no_device)) (finding_of Shmem c.args.number c.loop-n.n 0 0) in
    let e : is_any (found c.loop-n.n (get_or items c.loop-n.n no_device)) ≡ false = cc in
    any_step found items c.loop-n.n no_device _ h e c.loop-n.invariant

pub returns : goal.returns
returns c = any_done (device_at (take c.args.number (cells_of c.args.setup.now)) c.args.number c.args.cell.now) (c.args.cell.now.pci_devices) c.loop-n.n _ (rw c.as_slice-devices.ensures.value at c.loop-n-test.false) c.loop-n.invariant
