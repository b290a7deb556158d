-- The pair noted next is of one offset, which is below the section counts of both devices.
use Rattle.std.proofs.Common.{◌≡◌, ◌≢◌, ℕ, ◌+◌, ◌<◌, true, ◌∙◌, List, None, Some, get_or, sym, subst, arith}
use Rattle.std.specs.List.{Contains}
use Rattle.std.proofs.lemmas.List.{get_or_default}
use Rattle.jh_cellcfg.specs.declared.config.PciDevice.{PciDevice}
use Rattle.jh_check.specs.Devices.{are_linked, section_count}
use Rattle.jh_check.proofs.DeviceLemmas.{no_device}
use Rattle.jh_check.proofs.LinkLemmas.{partners_more}
use Rattle.jh_check.proofs.links.note.Goals as goal

pub loop-k-preserved : goal.loop-k-preserved
loop-k-preserved c =
    let one = c.args.one.now in
    let other = c.args.other.now in
    let v = c.as_slice.ensures.value in
    let w = c.as_slice-2.ensures.value in
    let d = get_or one.pci_devices c.args.n no_device in
    let e = get_or other.pci_devices c.args.m no_device in
    let cd : Contains one.pci_devices d = (c.args.n, c.requires.one, sym (get_or_default one.pci_devices c.args.n no_device d c.requires.one)) in
    let ce : Contains other.pci_devices e = (c.args.m, c.requires.other, sym (get_or_default other.pci_devices c.args.m no_device e c.requires.other)) in
    let linked : are_linked d e ≡ true = rw (sym v) (rw (sym w) (sym c.are_linked.ensures ∙ c.if-not-are_linked.false)) in
    let first = c.section_count.ensures.value in
    let second = c.section_count-2.ensures.value in
    let least = c.min-count.ensures in
    let t = c.loop-k-test.true in
    let h : c.loop-k.k < section_count (get_or c.as_slice.result.now c.args.n no_device) = rw (sym first) (omega arith) in
    let i : c.loop-k.k < section_count (get_or c.as_slice-2.result.now c.args.m no_device) = rw (sym second) (omega arith) in
    let P : List PciDevice → List PciDevice → Type 0 = λ xs ys.
    ((j : ℕ) → j ≢ (get_or xs c.args.n no_device).shmem_regions_start + c.loop-k.k → get_or c.put.new.partners.items j None ≡ get_or c.loop-k.partners.items j None)
    × ((s : ℕ) → get_or c.put.new.partners.items ((get_or xs c.args.n no_device).shmem_regions_start + c.loop-k.k) None ≡ Some s → (get_or ys c.args.m no_device).shmem_regions_start + c.loop-k.k ≡ s)
    × (c.loop-k.k < section_count (get_or xs c.args.n no_device))
    × (c.loop-k.k < section_count (get_or ys c.args.m no_device))
    in
    let all : P one.pci_devices other.pci_devices = subst (λ ys. P one.pci_devices ys) w (subst (λ xs. P xs c.as_slice-2.result.now) v (c.put.ensures.others, c.put.ensures.own, h, i)) in
    partners_more one other c.loop-k.partners.items c.put.new.partners.items d e c.loop-k.k c.loop-k.invariant all.0 all.1 cd ce linked all.2 all.3
