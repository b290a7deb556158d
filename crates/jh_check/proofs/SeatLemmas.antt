-- The seats of devices: those of one bdf stand side by side, and tell of all that are linked.
use Rattle.std.proofs.Common.{◌≡◌, ℕ, ◌+◌, ◌-◌, ◌<◌, ◌≤◌, true, false, ◌&&◌, not, ◌==◌, nat_lt, leb, List, length, get_or, take, drop, length-drop, sym, ap, subst, ◌∙◌, inl, inr, arith}
use Rattle.std.specs.List.{Contains, AllWithin, list_all}
use Rattle.std.proofs.lemmas.Bool.{cases_Bool, cases_lt, ltb-true, leb-false, eqb-true, not_from_false, or_left, and_parts}
use Rattle.std.proofs.lemmas.List.{get_or_default, get_or-take, get_or-drop, length-take}
use Rattle.jh_cellcfg.specs.declared.region.Region.{Region}
use Rattle.jh_cellcfg.specs.declared.config.PciDevice.{PciDevice}
use Rattle.jh_cellcfg.specs.declared.config.CellConfig.{CellConfig}
use Rattle.jh_check.specs.declared.seats.Seat.{Seat}
use Rattle.jh_check.specs.Devices.{is_shmem, are_linked, are_same_memory, sections_of, agrees_with, agrees_with_all}
use Rattle.jh_check.specs.Private.Seats.{seat_of, HasSeats, IsSeatOf, AgreesAt}
use Rattle.jh_num.proofs.Public.{list_all_each}

-- ---- side by side

-- what stands between the two borders
pub seat_within : (seats : List Seat) (bdf begin m n : ℕ) → begin ≤ m → begin ≤ n → n ≤ length seats → AllWithin (λ (seat : Seat). leb seat.bdf bdf ≡ false) seats n (length seats) → AllWithin (λ (seat : Seat). nat_lt seat.bdf bdf ≡ true) seats 0 m → (x : Seat) → Contains seats x → x.bdf ≡ bdf → Contains (take (n - begin) (drop begin seats)) x
seat_within seats bdf begin m n low high bound after before x cx is =
    let k = cx.0 in
    let within = cx.1 in
    let a : k < n = elim (cases_lt k n) [
      | inl h ↦ h
      | inr h ↦
          let e = leb-false x.bdf bdf (subst (λ (s : Seat). leb s.bdf bdf ≡ false) cx.2 (after k x h within)) in
          absurd (omega arith)
    ] in
    let b : m ≤ k = elim (cases_lt k m) [
      | inl h ↦
          let e = ltb-true x.bdf bdf (subst (λ (s : Seat). nat_lt s.bdf bdf ≡ true) cx.2 (before k x (omega arith) h)) in
          absurd (omega arith)
      | inr h ↦ h
    ] in
    let sum : begin + (k - begin) ≡ k = omega arith in
    let size = length-take (n - begin) (drop begin seats) in
    let rest = length-drop begin seats in
    (k - begin, omega arith, get_or-take (n - begin) (drop begin seats) (k - begin) x (omega arith) ∙ get_or-drop begin seats (k - begin) x ∙ ap (λ i. get_or seats i x) sum ∙ cx.2)

-- ---- the device of a seat

-- a seat is of one device of one cell: what holds of the one holds of the other
pub holds_at : (cells : List CellConfig) (seat : Seat) (cell : CellConfig) (device : PciDevice) → IsSeatOf cells seat cell device → (P : CellConfig → PciDevice → Type 0) → P cell device → (c : CellConfig) (d : PciDevice) → IsSeatOf cells seat c d → P c d
holds_at cells seat cell device at P p c d there =
    let e : cell ≡ c = sym at.cell_is ∙ get_or_default cells seat.cell cell c at.among ∙ there.cell_is in
    let f : device ≡ d =
    sym at.device_is ∙ get_or_default cell.pci_devices seat.item device d at.within
    ∙ ap (λ (x : CellConfig). get_or x.pci_devices seat.item d) e ∙ there.device_is in
    subst (λ (x : CellConfig). P x d) e (subst (λ (y : PciDevice). P cell y) f p)

-- a seat past the devices of its cell is of none
pub no_seat : (cells : List CellConfig) (seat : Seat) (cell : CellConfig) (device : PciDevice) → IsSeatOf cells seat cell device → length (get_or cells seat.cell cell).pci_devices ≤ seat.item → ⊥
no_seat cells seat cell device at past =
    let within = at.within in
    let none : length cell.pci_devices ≤ seat.item = subst (λ (x : CellConfig). length x.pci_devices ≤ seat.item) at.cell_is past in
    omega arith

-- ---- linked devices

-- a device of one of the cells is linked with none, or its seat tells that it fits
agrees_seated : (cells : List CellConfig) (number : ℕ) (regions : List Region) (device : PciDevice) (seats : List Seat) → HasSeats cells seats → ((x : Seat) → Contains seats x → x.bdf ≡ device.bdf → AgreesAt cells number regions device x) → (k : ℕ) (cell : CellConfig) (other : PciDevice) → k < number → k < length cells → Contains (get_or cells k cell).pci_devices other → agrees_with regions device (get_or cells k cell).memory_regions other ≡ true
agrees_seated cells number regions device seats has agree k cell other low within co =
    let there = get_or cells k cell in
    let n = co.0 in
    let rest = (device.shmem_peers == other.shmem_peers) && (not (device.shmem_dev_id == other.shmem_dev_id) && are_same_memory (sections_of regions device) (sections_of there.memory_regions other)) in
    elim (cases_Bool (are_linked device other)) [
      | inl t ↦
          let both = (and_parts (is_shmem device) (is_shmem other && (device.bdf == other.bdf)) t).1 in
          let e = eqb-true device.bdf other.bdf ((and_parts (is_shmem other) (device.bdf == other.bdf) both).1) in
          let seated : Contains seats (seat_of k n other) = subst (λ (d : PciDevice). Contains seats (seat_of k n d)) co.2 (has k cell within n other co.1) in
          let sits : IsSeatOf cells (seat_of k n other) there other = record { among = within; cell_is = get_or_default cells k there cell within; within = co.1; device_is = co.2 } in
          agree (seat_of k n other) seated (sym e) there other low sits
      | inr f ↦ or_left (not (are_linked device other)) rest (not_from_false (are_linked device other) f)
    ]

pub agrees_linked : (cells : List CellConfig) (number : ℕ) (regions : List Region) (device : PciDevice) (seats : List Seat) → number ≤ length cells → HasSeats cells seats → ((x : Seat) → Contains seats x → x.bdf ≡ device.bdf → AgreesAt cells number regions device x) → agrees_with_all (take number cells) regions device ≡ true
agrees_linked cells number regions device seats bound has agree =
    list_all_each (λ (cell : CellConfig). list_all (λ (other : PciDevice). agrees_with regions device cell.memory_regions other) cell.pci_devices) (take number cells) (λ cell cc.
    list_all_each (λ (other : PciDevice). agrees_with regions device cell.memory_regions other) cell.pci_devices (λ other co.
    let k = cc.0 in
    let size = length-take number cells in
    let inside = cc.1 in
    let low : k < number = omega arith in
    let here : get_or cells k cell ≡ cell = sym (get_or-take number cells k cell low) ∙ cc.2 in
    let P : CellConfig → Type 0 = λ (c : CellConfig). Contains c.pci_devices other → agrees_with regions device c.memory_regions other ≡ true in
    let there : P (get_or cells k cell) = λ c. agrees_seated cells number regions device seats has agree k cell other low (omega arith) c in
    subst P here there co))
