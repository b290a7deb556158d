-- Devices whose bdf on the bus isn't marked are linked with none, and those whose bdf isn't marked by their own cell are
-- the first of it there.
use Rattle.std.proofs.Common.{◌≡◌, ◌≢◌, ℕ, ◌+◌, ◌<◌, true, false, ◌&&◌, not, ◌==◌, List, [], length, get_or, take, sym, ap, subst, ◌∙◌, inl, inr, arith}
use Rattle.std.specs.List.{Contains, list_all}
use Rattle.std.proofs.lemmas.Bool.{eqb-true, not_from_false, or_left, cases_eq, false_from_ne_true, and_parts}
use Rattle.std.proofs.lemmas.List.{get_or-take, get_or_default, length-take}
use Rattle.jh_cellcfg.specs.declared.region.Region.{Region}
use Rattle.jh_cellcfg.specs.declared.config.PciDevice.{PciDevice}
use Rattle.jh_cellcfg.specs.declared.config.CellConfig.{CellConfig}
use Rattle.jh_check.specs.Devices.{is_shmem, are_linked, are_same_memory, sections_of, agrees_with, agrees_with_all, is_twice}
use Rattle.jh_check.specs.Private.Bus.{HasBdfs, AreMarkedBy}
use Rattle.jh_num.proofs.Public.{list_all_each, list_any_nothing}

unlinked : (marks : List ℕ) (device other : PciDevice) → get_or marks device.bdf 0 ≡ 0 → 0 < get_or marks other.bdf 0 → are_linked device other ≡ false
unlinked marks device other unmarked marked =
    false_from_ne_true (are_linked device other) (λ t.
    let both = (and_parts (is_shmem device) (is_shmem other && (device.bdf == other.bdf)) t).1 in
    let e = eqb-true device.bdf other.bdf ((and_parts (is_shmem other) (device.bdf == other.bdf) both).1) in
    let none : get_or marks other.bdf 0 ≡ 0 = subst (λ bdf. get_or marks bdf 0 ≡ 0) e unmarked in
    omega arith)

pub agrees_unmarked : (cells : List CellConfig) (marks : List ℕ) (regions : List Region) (device : PciDevice) → HasBdfs cells marks → get_or marks device.bdf 0 ≡ 0 → agrees_with_all cells regions device ≡ true
agrees_unmarked cells marks regions device has unmarked =
    list_all_each (λ (cell : CellConfig). list_all (λ (other : PciDevice). agrees_with regions device cell.memory_regions other) cell.pci_devices) cells (λ cell cc.
    list_all_each (λ (other : PciDevice). agrees_with regions device cell.memory_regions other) cell.pci_devices (λ other co.
    let rest = (device.shmem_peers == other.shmem_peers) && (not (device.shmem_dev_id == other.shmem_dev_id) && are_same_memory (sections_of regions device) (sections_of cell.memory_regions other)) in
    or_left (not (are_linked device other)) rest (not_from_false (are_linked device other) (unlinked marks device other unmarked (has cell other cc co)))))

pub bdfs_none : (marks : List ℕ) → HasBdfs [] marks
bdfs_none marks = λ cell device cc cd. absurd (let h = cc.1 in omega arith)

-- one cell more
pub bdfs_more : (all : List CellConfig) (a : ℕ) (one : CellConfig) (old new : List ℕ) → a < length all → one ≡ get_or all a one → HasBdfs (take a all) old → ((bdf : ℕ) → 0 < get_or old bdf 0 → 0 < get_or new bdf 0) → ((device : PciDevice) → Contains one.pci_devices device → 0 < get_or new device.bdf 0) → HasBdfs (take (a + 1) all) new
bdfs_more all a one old new within is before kept each = λ cell device cc cd.
    let k = cc.0 in
    let h = cc.1 in
    let more = length-take (a + 1) all in
    let less = length-take a all in
    let e : get_or all k cell ≡ cell = sym (get_or-take (a + 1) all k cell (omega arith)) ∙ cc.2 in
    elim (cases_eq k a) [
      | inl f ↦
          let same : one ≡ cell = is ∙ get_or_default all a one cell within ∙ ap (λ i. get_or all i cell) (sym f) ∙ e in
          each device (subst (λ (c : CellConfig). Contains c.pci_devices device) (sym same) cd)
      | inr n ↦ kept device.bdf (before cell device (k, omega arith, get_or-take a all k cell (omega arith) ∙ e) cd)
    ]

-- ---- one device more

-- a bdf stays marked where that of a device is marked
pub still_marked : (old new : List ℕ) (cell at bdf : ℕ) → ((b : ℕ) → b ≢ at → get_or new b 0 ≡ get_or old b 0) → get_or new at 0 ≡ cell + 1 → 0 < get_or old bdf 0 → 0 < get_or new bdf 0
still_marked old new cell at bdf others own marked =
    elim (cases_eq bdf at) [
      | inl e ↦ let here : get_or new bdf 0 ≡ cell + 1 = ap (λ b. get_or new b 0) e ∙ own in omega arith
      | inr n ↦ let there : get_or new bdf 0 ≡ get_or old bdf 0 = others bdf n in omega arith
    ]

-- so do those of the cell's devices before it, and its own is marked
pub marked_more : (old new : List ℕ) (cell n : ℕ) (devices : List PciDevice) (none : PciDevice) → n < length devices → ((b : ℕ) → b ≢ (get_or devices n none).bdf → get_or new b 0 ≡ get_or old b 0) → get_or new (get_or devices n none).bdf 0 ≡ cell + 1 → AreMarkedBy cell devices n old → AreMarkedBy cell devices (n + 1) new
marked_more old new cell n devices none within others own before = λ k d h.
    elim (cases_eq k n) [
      | inl e ↦
          let same : get_or devices n none ≡ get_or devices k d = get_or_default devices n none d within ∙ ap (λ j. get_or devices j d) (sym e) in
          subst (λ (x : PciDevice). get_or new x.bdf 0 ≡ cell + 1) same own
      | inr m ↦
          let was = before k d (omega arith) in
          elim (cases_eq (get_or devices k d).bdf (get_or devices n none).bdf) [
            | inl e ↦ ap (λ b. get_or new b 0) e ∙ own
            | inr o ↦ others (get_or devices k d).bdf o ∙ was
          ]
    ]

-- a device whose bdf the cell hasn't marked is none of those over again
pub once_unmarked : (marks : List ℕ) (cell n : ℕ) (devices : List PciDevice) (device : PciDevice) → AreMarkedBy cell devices n marks → get_or marks device.bdf 0 ≢ cell + 1 → is_twice (take n devices) device ≡ false
once_unmarked marks cell n devices device each unmarked =
    list_any_nothing (λ (other : PciDevice). is_shmem other && (other.bdf == device.bdf)) (take n devices) (λ other co.
    false_from_ne_true (is_shmem other && (other.bdf == device.bdf)) (λ t.
    let k = co.0 in
    let h = co.1 in
    let size = length-take n devices in
    let low : k < n = omega arith in
    let is : get_or devices k other ≡ other = sym (get_or-take n devices k other low) ∙ co.2 in
    let e = eqb-true other.bdf device.bdf ((and_parts (is_shmem other) (other.bdf == device.bdf) t).1) in
    let marked : get_or marks other.bdf 0 ≡ cell + 1 = subst (λ (d : PciDevice). get_or marks d.bdf 0 ≡ cell + 1) is (each k other low) in
    unmarked (subst (λ b. get_or marks b 0 ≡ cell + 1) e marked)))
