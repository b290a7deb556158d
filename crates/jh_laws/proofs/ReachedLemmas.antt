-- What an access of a live cell reaches on a sound board: memory that the cell is granted, what a subpage region of its own
-- answers, configuration space, a register of a device of its own, or nothing.
use Rattle.std.proofs.Common.{◌≡◌, ◌≢◌, ℕ, zero, suc, ◌+◌, ◌-◌, ◌*◌, ◌%◌, ◌^◌, ◌<◌, ◌≤◌, List, [], Bool, true, false, cond, not, ◌&&◌, ◌||◌, eqb, Option, Some, None, refl, sym, ap, subst, ◌∙◌, inl, inr, ⊎_elim, arith}
use Rattle.std.specs.Prelude.{◌⊎◌, Contains, find, min, position, slice_get, IsTrue}
use Rattle.std.specs.List.{list_any}
use Rattle.std.specs.Option.{option_map_or}
use Rattle.std.proofs.lemmas.Bool.{both_ways, or_parts, or_cases, and_parts, and_from, not-true, eqb-true, eq-eqb, cases_lt, cases_Bool, lt-ltb}
use Rattle.std.proofs.lemmas.Option.{same_Some, slice_get-get_or}
use Rattle.jh_num.specs.declared.address.TheConstants.{ADDRESS_END}
use Rattle.jh_num.proofs.Public.{IsFound_from_find, find_None}
use Rattle.jh_cellcfg.specs.declared.config.CellConfig.{CellConfig}
use Rattle.jh_cellcfg.specs.declared.config.SystemConfig.{SystemConfig}
use Rattle.jh_cellcfg.specs.declared.live.Live.{Live}
use Rattle.jh_cellcfg.specs.declared.region.Region.{Region}
use Rattle.jh_cellcfg.specs.Regions.{has_size, has_address, is_page_mapped, virt_end, allows_width, allows_unaligned}
use Rattle.jh_cellcfg.proofs.Public.{has_address_from}
use Rattle.jh_mmio.specs.declared.hitting.Hitting.TheVariants.{Ecam, Bar, Nothing as HitsNothing}
use Rattle.jh_mmio.specs.declared.hitting.Window.{Window as TheWindow}
use Rattle.jh_mmio.specs.Dispatch.{lies_between, is_at_closed, takes_all, has_whole, has_right, lets_through, by_ecam, by_window, window_has}
use Rattle.jh_num.specs.Numbers.{item_number}
use Rattle.jh_mmio.proofs.Public.{lies_from, lies_parts}
use Rattle.jh_ivshmem.specs.declared.endpoint.Endpoint.{Endpoint}
use Rattle.jh_script.specs.declared.image.Image.{Image}
use Rattle.jh_history.specs.declared.place.Place.{Place}
use Rattle.jh_history.specs.declared.place.Place.TheVariants.{Physical}
use Rattle.jh_history.specs.declared.access.Access.{Access}
use Rattle.jh_history.specs.declared.access.Access.TheVariants.{Read as ToRead, Write as ToWrite, Fetch as ToFetch}
use Rattle.jh_history.specs.declared.access.Wanted.{Wanted}
use Rattle.jh_history.specs.declared.access.Reach.{Reach}
use Rattle.jh_history.specs.declared.access.Reach.TheVariants.{Memory, Subpage, Config, Window, Nothing}
use Rattle.jh_history.specs.Places.{further, places_in_row}
use Rattle.jh_history.specs.Access.{place_in_cell, places_from, memory_or_nothing, reach_by, or_behind}
use Rattle.jh_history.specs.Behind.{Asked, Windows, ecam_start, ecam_end, is_write, by_device, asked_windows, window_of_access, region_or_window, answer_behind}
use Rattle.jh_history.specs.Facts.{Facts}
use Rattle.jh_history.specs.Grants.{is_closed_to, granted, behind_of, behind_in, reach, devices_of}
use Rattle.jh_history.specs.Lives.{cell_in, regions_in}
use Rattle.jh_shape.specs.Lives.{configs_of}
use Rattle.jh_history.specs.Sound.{AreSoundCells, IsSound}
use Rattle.jh_history.proofs.Public.{reach_by_within, reach_by_beyond, places_from_row, further_none, further_next, place_in_cell_further, takes_all_subpage, kept_row, answer_within, answer_beyond, nothing_memory}
use Rattle.jh_laws.specs.Grants.{may}
use Rattle.jh_laws.specs.Held.{IsRootOrLive, IsGrantedTo, AreGrantedTo}
use Rattle.jh_laws.specs.Ends.{HasAccess, LetsThrough, IsBehindMemory, IsAnsweredBy, IsInEcam, IsAnsweredByConfig, IsAnsweredByRegister, IsAnswered, GivesPlaces, AreItsPlaces}
use Rattle.jh_laws.proofs.DevicesLemmas.{position_single, window_lies, window_none, found_passes}
use Rattle.jh_laws.proofs.ListedLemmas.{places_from_listed, places_from_each, places_from_some, listed}
use Rattle.jh_laws.proofs.HeldLemmas.{live_cell, cell_live, number_of_holds, granted_to, to_granted_holds, regions_of_live, left_free, free_left}

-- ---- memory

-- where each byte is granted it reaches memory
memory_granted : (image : Image) (f : Facts) (id : ℕ) (access : Access) (at width : ℕ) → AreSoundCells image.system (configs_of f.cells) → 0 < width → AreGrantedTo image f.cells id access at width
    → (ps : List Place) × (reach_by (granted image f id access) at width ≡ Memory ps)
memory_granted image f id access at width sound some each =
    let g : ℕ → Option Place = granted image f id access in
    let end = (each (width - 1) (omega arith)).1.given in
    let below : at + (width - 1) < ADDRESS_END = end.below in
    let within : at + width ≤ ADDRESS_END = omega arith in
    let found = places_from_some g at width (λ k lt. ((each k lt).0, granted_to image f id access (at + k) (each k lt).0 sound (each k lt).1)) in
    (found.0, reach_by_within g at width within ∙ ap memory_or_nothing found.1)

-- and it reaches the places that are granted
memory_listed : (image : Image) (f : Facts) (id : ℕ) (access : Access) (at width : ℕ) (place : ℕ → Place) → AreSoundCells image.system (configs_of f.cells) → 0 < width → ((k : ℕ) → k < width → IsGrantedTo image f.cells id access (at + k) (place k))
    → reach_by (granted image f id access) at width ≡ Memory (listed place width)
memory_listed image f id access at width place sound some each =
    let g : ℕ → Option Place = granted image f id access in
    let below : at + (width - 1) < ADDRESS_END = (each (width - 1) (omega arith)).given.below in
    let within : at + width ≤ ADDRESS_END = omega arith in
    reach_by_within g at width within ∙ ap memory_or_nothing (places_from_listed g place at width (λ k lt. granted_to image f id access (at + k) (place k) sound (each k lt)))

granted_of : (image : Image) (f : Facts) (id : ℕ) (access : Access) (at width : ℕ) (o : Option (List Place)) (ps : List Place) → AreSoundCells image.system (configs_of f.cells) → places_from (granted image f id access) at width ≡ o → memory_or_nothing o ≡ Memory ps
    → AreGrantedTo image f.cells id access at width
granted_of image f id access at width None ps sound is e = absurd (nothing_memory ps e)
granted_of image f id access at width (Some qs) ps sound is e = λ k lt.
    let found = places_from_each (granted image f id access) at width qs is k lt in
    (found.0, to_granted_holds image f id access (at + k) found.0 sound found.1)

-- where an access reaches memory, each byte is granted
pub granted_memory : (image : Image) (f : Facts) (id : ℕ) (access : Access) (at width : ℕ) (ps : List Place) → AreSoundCells image.system (configs_of f.cells) → reach_by (granted image f id access) at width ≡ Memory ps → AreGrantedTo image f.cells id access at width
granted_memory image f id access at width ps sound e = elim (cases_lt ADDRESS_END (at + width)) [
  | inl beyond ↦ absurd (nothing_memory ps (sym (reach_by_beyond (granted image f id access) at width beyond) ∙ e))
  | inr within ↦ granted_of image f id access at width (places_from (granted image f id access) at width) ps sound refl (sym (reach_by_within (granted image f id access) at width within) ∙ e)
]

-- memory is reached, or nothing of it
memory_by : (o : Option (List Place)) → ((ps : List Place) × (memory_or_nothing o ≡ Memory ps)) ⊎ (memory_or_nothing o ≡ Nothing)
memory_by None = inr refl
memory_by (Some ps) = inl (ps, refl)

memory_cases : (g : ℕ → Option Place) (at width : ℕ) → ((ps : List Place) × (reach_by g at width ≡ Memory ps)) ⊎ (reach_by g at width ≡ Nothing)
memory_cases g at width = elim (cases_lt ADDRESS_END (at + width)) [
  | inl beyond ↦ inr (reach_by_beyond g at width beyond)
  | inr within ↦ ⊎_elim (λ found. inl (found.0, reach_by_within g at width within ∙ found.1)) (λ none. inr (reach_by_within g at width within ∙ none)) (memory_by (places_from g at width))
]

-- ---- a subpage region that has the access

abbrev kept_of : Image → List Live → ℕ → ℕ → Bool
kept_of image cells id p = is_closed_to image cells id (Physical p)

row_free : (kept : Place → Bool) (p : Place) (n : ℕ) → ((k : ℕ) → k < n → kept (further p k) ≡ false) → list_any kept (places_in_row p n) ≡ false
row_free kept p zero each = refl
row_free kept p (suc n) each =
    ap (λ (b : Bool). b || list_any kept (places_in_row (further p 1) n)) (ap kept (sym (further_none p)) ∙ each 0 (omega arith))
    ∙ row_free kept (further p 1) n (λ k lt. ap kept (further_next p k) ∙ each (k + 1) (omega arith))

free_row : (kept : Place → Bool) (p : Place) (n k : ℕ) → k < n → list_any kept (places_in_row p n) ≡ false → kept (further p k) ≡ false
free_row kept p zero k lt none = absurd (omega arith)
free_row kept p (suc n) zero lt none = ap kept (further_none p) ∙ (or_parts (kept p) (list_any kept (places_in_row (further p 1) n)) none).0
free_row kept p (suc n) (suc k) lt none =
    let e : k + 1 ≡ suc k = omega arith in
    ap kept (ap (further p) (sym e) ∙ sym (further_next p k)) ∙ free_row kept (further p 1) n k (omega arith) (or_parts (kept p) (list_any kept (places_in_row (further p 1) n)) none).1

-- by the definition it takes the access
pub has_takes : (image : Image) (cells : List Live) (id at width : ℕ) (r : Region) → AreSoundCells image.system (configs_of cells) → 0 < width → HasAccess image cells id at width r
    → Contains (regions_in image cells id) r × (takes_all (kept_of image cells id) at width r ≡ true)
has_takes image cells id at width r sound some h =
    let kept : Place → Bool = is_closed_to image cells id in
    let low : r.virt_start ≤ at = h.first in
    let high : at + width ≤ r.virt_start + r.size = h.last in
    let size : has_size r ≡ true = lt-ltb 0 r.size (omega arith) in
    let lies : lies_between r.virt_start (virt_end r) at width ≡ true = lies_from r.virt_start (virt_end r) at width low high in
    let free : list_any kept (places_in_row (place_in_cell id r at) width) ≡ false = row_free kept (place_in_cell id r at) width
    (λ k lt.
    let P : ℕ → Type 0 = λ i. is_closed_to image cells i (place_in_cell i r (at + k)) ≡ false in
    ap kept (sym (place_in_cell_further id r at k low)) ∙ subst P h.named (left_free image cells h.cell (place_in_cell h.cell.id r (at + k)) (h.left k lt))) in
    let open_is : is_at_closed (kept_of image cells id) at width r ≡ false = sym (kept_row image cells id at width r low) ∙ free in
    let C : List Region → Type 0 = λ rs. Contains rs r in
    let R : ℕ → Type 0 = λ i. regions_in image cells i ≡ h.cell.memory_regions in (
      subst C (sym (subst R h.named (regions_of_live image cells h.cell sound h.live))) h.among,
      and_from (has_whole at width r) (not (is_at_closed (kept_of image cells id) at width r))
          (and_from (has_size r && not (is_page_mapped r)) (lies_between r.virt_start (virt_end r) at width) (and_from (has_size r) (not (is_page_mapped r)) size (ap not h.part)) lies)
          (ap not open_is),
    )

has_of_cell : (image : Image) (cells : List Live) (id at width : ℕ) (r : Region) (o : Option CellConfig) → 0 < width → cell_in image cells id ≡ o → Contains (option_map_or (λ (c : CellConfig). c.memory_regions) o []) r
    → takes_all (kept_of image cells id) at width r ≡ true → HasAccess image cells id at width r
has_of_cell image cells id at width r None some is held takes = let lt : held.0 < 0 = held.1 in absurd (omega arith)
has_of_cell image cells id at width r (Some cell) some is held takes =
    let kept : Place → Bool = is_closed_to image cells id in
    let live = cell_live image cells id cell is in
    let open_whole = and_parts (has_whole at width r) (not (is_at_closed (kept_of image cells id) at width r)) takes in
    let whole = and_parts (has_size r && not (is_page_mapped r)) (lies_between r.virt_start (virt_end r) at width) open_whole.0 in
    let parts = lies_parts r.virt_start (virt_end r) at width some whole.1 in
    let free : list_any kept (places_in_row (place_in_cell id r at) width) ≡ false = kept_row image cells id at width r parts.0 ∙ not-true (is_at_closed (kept_of image cells id) at width r) open_whole.1 in
    record {
      cell = cell;
      live = live.0;
      named = live.1;
      among = held;
      part = takes_all_subpage (kept_of image cells id) at width r takes;
      first = parts.0;
      last = parts.1;
      left = λ k lt.
          let P : ℕ → Type 0 = λ i. is_closed_to image cells i (place_in_cell i r (at + k)) ≡ false in
          free_left image cells cell (place_in_cell cell.id r (at + k))
          (subst P (sym live.1) (ap kept (place_in_cell_further id r at k parts.0) ∙ free_row kept (place_in_cell id r at) width k lt free));
    }

-- and what takes it has the access
pub takes_has : (image : Image) (cells : List Live) (id at width : ℕ) (r : Region) → 0 < width → Contains (regions_in image cells id) r → takes_all (kept_of image cells id) at width r ≡ true → HasAccess image cells id at width r
takes_has image cells id at width r some held takes = has_of_cell image cells id at width r (cell_in image cells id) some refl held takes

-- one region has it at most
same_at : (image : Image) (cells : List Live) (cell : CellConfig) (r s : Region) (at : ℕ) → AreSoundCells image.system (configs_of cells) → IsRootOrLive image cells cell → Contains cell.memory_regions r → Contains cell.memory_regions s
    → has_address r at ≡ true → has_address s at ≡ true → r ≡ s
same_at image cells cell r s at sound live in_r in_s has_r has_s =
    let number = number_of_holds image cells cell live in
    let regions : List Region = cell.memory_regions in
    let item_r : slice_get regions in_r.0 ≡ Some r = slice_get-get_or regions in_r.0 r in_r.1 ∙ ap Some in_r.2 in
    let item_s : slice_get regions in_s.0 ≡ Some s = slice_get-get_or regions in_s.0 s in_s.1 ∙ ap Some in_s.2 in
    let same : in_r.0 ≡ in_s.0 = sound.clean.addresses number.0 cell number.1 in_r.0 in_s.0 r s item_r item_s at has_r has_s in
    same_Some r s (sym item_r ∙ ap (slice_get regions) same ∙ item_s)

has_first : (image : Image) (cells : List Live) (id at width : ℕ) (r : Region) → 0 < width → HasAccess image cells id at width r → has_address r at ≡ true
has_first image cells id at width r some h = let last = h.last in has_address_from r at h.first (omega arith)

pub one_region : (image : Image) (cells : List Live) (id at width : ℕ) (r s : Region) → AreSoundCells image.system (configs_of cells) → 0 < width → (h : HasAccess image cells id at width r) (k : HasAccess image cells id at width s) → r ≡ s
one_region image cells id at width r s sound some h k =
    let P : ℕ → Type 0 = λ i. cell_in image cells i ≡ Some h.cell in
    let Q : ℕ → Type 0 = λ i. cell_in image cells i ≡ Some k.cell in
    let same : k.cell ≡ h.cell = same_Some k.cell h.cell (sym (subst Q k.named (live_cell image cells k.cell sound k.live)) ∙ subst P h.named (live_cell image cells h.cell sound h.live)) in
    let C : CellConfig → Type 0 = λ c. Contains c.memory_regions s in
    same_at image cells h.cell r s at sound h.live h.among (subst C same k.among) (has_first image cells id at width r some h) (has_first image cells id at width s some k)

-- ---- whether it lets the access through

may_by : (access : Access) (r : Region) → access ≢ ToFetch → has_right (is_write access) r ≡ may access r
may_by ToRead r other = refl
may_by ToWrite r other = refl
may_by ToFetch r other = absurd (other refl)

through_lets : (access : Access) (at width : ℕ) (r : Region) → access ≢ ToFetch → LetsThrough access at width r → lets_through at width (is_write access) r ≡ true
through_lets access at width r other h =
    let aligned : (allows_unaligned r || eqb (at % width) 0) ≡ true = ⊎_elim
    (λ (e : at % width ≡ 0). ap (λ (b : Bool). allows_unaligned r || b) (eq-eqb (at % width) 0 e) ∙ or_true (allows_unaligned r))
    (λ (e : IsTrue (allows_unaligned r)). ap (λ (b : Bool). b || eqb (at % width) 0) e)
    h.aligned in
    and_from (has_right (is_write access) r) (allows_width width r && (allows_unaligned r || eqb (at % width) 0)) (may_by access r other ∙ h.right)
    (and_from (allows_width width r) (allows_unaligned r || eqb (at % width) 0) h.wide aligned)
  where
    or_true : (b : Bool) → (b || true) ≡ true
    or_true true = refl
    or_true false = refl

lets_through_holds : (access : Access) (at width : ℕ) (r : Region) → access ≢ ToFetch → lets_through at width (is_write access) r ≡ true → LetsThrough access at width r
lets_through_holds access at width r other h =
    let right = and_parts (has_right (is_write access) r) (allows_width width r && (allows_unaligned r || eqb (at % width) 0)) h in
    let wide = and_parts (allows_width width r) (allows_unaligned r || eqb (at % width) 0) right.1 in
    record {
      right = sym (may_by access r other) ∙ right.0;
      wide = wide.0;
      aligned = ⊎_elim (λ (e : allows_unaligned r ≡ true). inr e) (λ (e : eqb (at % width) 0 ≡ true). inl (eqb-true (at % width) 0 e)) (or_cases (allows_unaligned r) (eqb (at % width) 0) wide.1);
    }

-- ---- the ECAM window

window_from : (base end_bus at width : ℕ) (b : Bool) → eqb base 0 ≡ b → at + width ≤ ADDRESS_END → base ≢ 0 → base ≤ at → at + width ≤ base + (end_bus + 1) * 2 ^ 20
    → lies_between base (cond b 0 (min (base + (end_bus + 1) * 0x100000) 0xffffffffffffffff)) at width ≡ true
window_from base end_bus at width true is below some first last = absurd (some (eqb-true base 0 is))
window_from base end_bus at width false is below some first last = lies_from base (min (base + (end_bus + 1) * 0x100000) 0xffffffffffffffff) at width first (omega arith)

window_parts : (base end_bus at width : ℕ) (b : Bool) → eqb base 0 ≡ b → 0 < width → lies_between base (cond b 0 (min (base + (end_bus + 1) * 0x100000) 0xffffffffffffffff)) at width ≡ true
    → (base ≢ 0) × (base ≤ at) × (at + width ≤ base + (end_bus + 1) * 2 ^ 20)
window_parts base end_bus at width true is some lies = let parts = lies_parts base 0 at width some lies in absurd (omega (arith, parts.1))
window_parts base end_bus at width false is some lies =
    let parts = lies_parts base (min (base + (end_bus + 1) * 0x100000) 0xffffffffffffffff) at width some lies in
    let last : at + width ≤ min (base + (end_bus + 1) * 0x100000) 0xffffffffffffffff = parts.1 in
    (λ zero. both_ways (eqb base 0) is (eq-eqb base 0 zero), parts.0, omega arith)

in_window : (system : SystemConfig) (at width : ℕ) → at + width ≤ ADDRESS_END → IsInEcam system at width → lies_between (ecam_start system) (ecam_end system) at width ≡ true
in_window system at width below h = window_from system.platform.pci_mmconfig_base system.platform.pci_mmconfig_end_bus at width (eqb system.platform.pci_mmconfig_base 0) refl below h.some h.first h.last

window_in : (system : SystemConfig) (at width : ℕ) → 0 < width → lies_between (ecam_start system) (ecam_end system) at width ≡ true → IsInEcam system at width
window_in system at width some lies =
    let parts = window_parts system.platform.pci_mmconfig_base system.platform.pci_mmconfig_end_bus at width (eqb system.platform.pci_mmconfig_base 0) refl some lies in
    record { some = parts.0; first = parts.1; last = parts.2 }

abbrev IsWide : ℕ → Type 0
IsWide width = (width ≡ 1) ⊎ (width ≡ 2) ⊎ (width ≡ 4)

wide_true : (width : ℕ) → IsWide width → (eqb width 1 || eqb width 2 || eqb width 4) ≡ true
wide_true width wide = ⊎_elim (λ (e : width ≡ 1). rw e refl) (λ rest. ⊎_elim (λ (e : width ≡ 2). rw e refl) (λ (e : width ≡ 4). rw e refl) rest) wide

true_wide : (width : ℕ) → (eqb width 1 || eqb width 2 || eqb width 4) ≡ true → IsWide width
true_wide width h = elim (cases_Bool (eqb width 1)) [
  | inl e ↦ inl (eqb-true width 1 e)
  | inr one ↦ elim (cases_Bool (eqb width 2)) [
    | inl e ↦ inr (inl (eqb-true width 2 e))
    | inr two ↦ (let last : (eqb width 1 || eqb width 2 || eqb width 4) ≡ eqb width 4 = rw (one, two) refl in inr (inr (eqb-true width 4 (sym last ∙ h))))
  ]
]

abbrev is_wide : ℕ → Bool
is_wide width = eqb width 1 || eqb width 2 || eqb width 4

-- the windows that an access asks, where that is the first window of a device which has it
abbrev windows_with : Image → Option TheWindow → Windows
windows_with image window = record { start = ecam_start image.system; end = ecam_end image.system; device = window }

-- what an access of the cell asks, where that is the region which has it
abbrev asked_with : Image → ℕ → Option Region → Option TheWindow → Asked
asked_with image id region window = record { cell = id; region = region; windows = windows_with image window }

abbrev wanted_at : Access → ℕ → ℕ → Wanted
wanted_at access at width = record { access = access; at = at; width = width }

-- ---- the ways in which an access ends

pub data Way (image : Image) (f : Facts) (id : ℕ) (access : Access) (at width : ℕ) : Type 0 where
  OnMemory : (ps : List Place) → AreGrantedTo image f.cells id access at width → reach image f id access at width ≡ Memory ps → Way image f id access at width
  OnRegion : (r : Region) → IsAnsweredBy image f.cells id access at width r → reach image f id access at width ≡ Subpage (places_in_row (place_in_cell id r at) width) → Way image f id access at width
  OnWindow : IsAnsweredByConfig image f.cells id access at width → reach image f id access at width ≡ Config (record { at = at - image.system.platform.pci_mmconfig_base; width = width }) → Way image f id access at width
  OnRegister : (n bar offset : ℕ) (e : Endpoint) → IsAnsweredByRegister image f id access at width n bar offset e → reach image f id access at width ≡ Window (record { device = n; bar = bar; at = offset }) → Way image f id access at width
  OnNothing : (IsAnswered image f id access at width → ⊥) → reach image f id access at width ≡ Nothing → Way image f id access at width

-- some register answers
abbrev pub ByRegister : Image → Facts → ℕ → Access → ℕ → ℕ → Type 0
ByRegister image f id access at width = (n : ℕ) × (bar : ℕ) × (offset : ℕ) × (e : Endpoint) × IsAnsweredByRegister image f id access at width n bar offset e

-- nothing answers where memory doesn't, and neither a region nor the window nor a register does
unanswered : (image : Image) (f : Facts) (id : ℕ) (access : Access) (at width : ℕ) → (AreGrantedTo image f.cells id access at width → ⊥) → ((r : Region) → IsAnsweredBy image f.cells id access at width r → ⊥)
    → (IsAnsweredByConfig image f.cells id access at width → ⊥) → ((n bar offset : ℕ) (e : Endpoint) → IsAnsweredByRegister image f id access at width n bar offset e → ⊥) → IsAnswered image f id access at width → ⊥
unanswered image f id access at width memory region window register h =
    ⊎_elim memory
    (λ rest. ⊎_elim
    (λ (by : (r : Region) × IsAnsweredBy image f.cells id access at width r). region by.0 by.1)
    (λ more. ⊎_elim window (λ (by : ByRegister image f id access at width). register by.0 by.1 by.2 by.3 by.4) more)
    rest)
    h

abbrev Behind : Image → Facts → ℕ → Access → ℕ → ℕ → Type 0
Behind image f id access at width = IsBehindMemory image f.cells id access at width

-- a region has the access, and lets it through or not
region_way : (image : Image) (f : Facts) (id : ℕ) (access : Access) (at width : ℕ) (r : Region) (b : Bool) → AreSoundCells image.system (configs_of f.cells) → 0 < width → Behind image f id access at width → HasAccess image f.cells id at width r
    → lets_through at width (is_write access) r ≡ b → reach image f id access at width ≡ cond b (Subpage (places_in_row (place_in_cell id r at) width)) Nothing → Way image f id access at width
region_way image f id access at width r true sound some behind has is e = OnRegion r (record { behind = behind; has = has; through = lets_through_holds access at width r behind.no_fetch is }) e
region_way image f id access at width r false sound some behind has is e =
    OnNothing
    (unanswered image f id access at width behind.lacks
    (λ s by.
    let P : Region → Type 0 = LetsThrough access at width in
    both_ways (lets_through at width (is_write access) r) is (through_lets access at width r behind.no_fetch (subst P (one_region image f.cells id at width s r sound some by.has has) by.through)))
    (λ by. by.none r has)
    (λ n bar offset o by. by.none r has))
    e

-- no region has the access
abbrev NoRegion : Image → Facts → ℕ → ℕ → ℕ → Type 0
NoRegion image f id at width = (r : Region) → HasAccess image f.cells id at width r → ⊥

-- the access lies in the window of configuration space
config_way : (image : Image) (f : Facts) (id : ℕ) (access : Access) (at width : ℕ) (window : Option TheWindow) (b : Bool) → Behind image f id access at width → NoRegion image f id at width → IsInEcam image.system at width
    → (is_wide width && eqb ((at - image.system.platform.pci_mmconfig_base) % width) 0) ≡ b → reach image f id access at width ≡ by_device (windows_with image window) (wanted_at access at width) (cond b Ecam HitsNothing) → Way image f id access at width
config_way image f id access at width window true behind none within is e =
    let parts = and_parts (is_wide width) (eqb ((at - image.system.platform.pci_mmconfig_base) % width) 0) is in
    OnWindow (record { behind = behind; none = none; within = within; wide = true_wide width parts.0; aligned = eqb-true ((at - image.system.platform.pci_mmconfig_base) % width) 0 parts.1 }) e
config_way image f id access at width window false behind none within is e =
    OnNothing
    (unanswered image f id access at width behind.lacks (λ r by. none r by.has)
    (λ by. both_ways (is_wide width && eqb ((at - image.system.platform.pci_mmconfig_base) % width) 0) is
    (and_from (is_wide width) (eqb ((at - image.system.platform.pci_mmconfig_base) % width) 0) (wide_true width by.wide) (eq-eqb ((at - image.system.platform.pci_mmconfig_base) % width) 0 by.aligned)))
    (λ n bar offset o by. by.outside within))
    e

-- the access lies outside it
abbrev Outside : Image → ℕ → ℕ → Type 0
Outside image at width = IsInEcam image.system at width → ⊥

abbrev is_word : ℕ → ℕ → Bool
is_word at width = eqb width 4 && eqb (at % 4) 0

-- a window of a device has it, and it is a word or not
word_way : (image : Image) (f : Facts) (id : ℕ) (access : Access) (at width : ℕ) (w : TheWindow) (b : Bool) → IsSound image f → 0 < width → Behind image f id access at width → NoRegion image f id at width → Outside image at width
    → window_of_access (devices_of image f id) at width ≡ Some w → is_word at width ≡ b → reach image f id access at width ≡ by_device (windows_with image (Some w)) (wanted_at access at width) (cond b (Bar (item_number 0)) HitsNothing)
    → Way image f id access at width
word_way image f id access at width w true sound some behind none outside found is e =
    let parts = and_parts (eqb width 4) (eqb (at % 4) 0) is in
    let own = window_lies image f id at width w sound some found in
    let aligned : at % 4 ≡ 0 = eqb-true (at % 4) 0 parts.1 in
    OnRegister w.device w.bar (at - w.start) own.endpoint
    (record {
      behind = behind;
      none = none;
      outside = outside;
      within = own.lies;
      earliest = own.earliest;
      wide = eqb-true width 4 parts.0;
      aligned = aligned;
      there = own.there;
    })
    (e ∙ ap (λ (k : ℕ). Window (record { device = w.device; bar = w.bar; at = k })) (own.rounded aligned))
word_way image f id access at width w false sound some behind none outside found is e =
    OnNothing
    (unanswered image f id access at width behind.lacks (λ r by. none r by.has) (λ by. outside by.within)
    (λ n bar offset o by. both_ways (is_word at width) is (and_from (eqb width 4) (eqb (at % 4) 0) (eq-eqb width 4 by.wide) (eq-eqb (at % 4) 0 by.aligned))))
    e

bar_way : (image : Image) (f : Facts) (id : ℕ) (access : Access) (at width : ℕ) (o : Option TheWindow) → IsSound image f → 0 < width → Behind image f id access at width → NoRegion image f id at width → Outside image at width
    → window_of_access (devices_of image f id) at width ≡ o
    → reach image f id access at width ≡ by_device (windows_with image o) (wanted_at access at width) (option_map_or (by_window at width) (position (window_has at width) (asked_windows o)) HitsNothing) → Way image f id access at width
bar_way image f id access at width None sound some behind none outside found e =
    OnNothing
    (unanswered image f id access at width behind.lacks (λ r by. none r by.has) (λ by. outside by.within) (λ n bar offset o by. window_none image f id at width sound found n bar o by.within))
    e
bar_way image f id access at width (Some w) sound some behind none outside found e =
    word_way image f id access at width w (is_word at width) sound some behind none outside found refl
    (e ∙ ap (λ (p : Option ℕ). by_device (windows_with image (Some w)) (wanted_at access at width) (option_map_or (by_window at width) p HitsNothing)) (position_single (window_has at width) w (found_passes image f id at width w found)))

window_way : (image : Image) (f : Facts) (id : ℕ) (access : Access) (at width : ℕ) (o : Option TheWindow) (b : Bool) → IsSound image f → 0 < width → Behind image f id access at width → NoRegion image f id at width
    → window_of_access (devices_of image f id) at width ≡ o → lies_between (ecam_start image.system) (ecam_end image.system) at width ≡ b
    → reach image f id access at width
    ≡ by_device (windows_with image o) (wanted_at access at width) (cond b (by_ecam image.system.platform.pci_mmconfig_base at width) (option_map_or (by_window at width) (position (window_has at width) (asked_windows o)) HitsNothing))
    → Way image f id access at width
window_way image f id access at width o true sound some behind none found is e =
    config_way image f id access at width o (is_wide width && eqb ((at - image.system.platform.pci_mmconfig_base) % width) 0) behind none (window_in image.system at width some is) refl e
window_way image f id access at width o false sound some behind none found is e =
    bar_way image f id access at width o sound some behind none
    (λ within. both_ways (lies_between (ecam_start image.system) (ecam_end image.system) at width) is (in_window image.system at width behind.below within))
    found e

found_way : (image : Image) (f : Facts) (id : ℕ) (access : Access) (at width : ℕ) (o : Option Region) → IsSound image f → 0 < width → Behind image f id access at width
    → find (takes_all (kept_of image f.cells id) at width) (regions_in image f.cells id) ≡ o → reach image f id access at width ≡ region_or_window (asked_with image id o (window_of_access (devices_of image f id) at width)) (wanted_at access at width) → Way image f id access at width
found_way image f id access at width (Some r) sound some behind is e =
    let found = IsFound_from_find (takes_all (kept_of image f.cells id) at width) (regions_in image f.cells id) r is in
    region_way image f id access at width r (lets_through at width (is_write access) r) sound.cells some behind (takes_has image f.cells id at width r some found.among found.passes) refl e
found_way image f id access at width None sound some behind is e =
    window_way image f id access at width (window_of_access (devices_of image f id) at width) (lies_between (ecam_start image.system) (ecam_end image.system) at width) sound some behind
    (λ r has.
    let takes = has_takes image f.cells id at width r sound.cells some has in
    both_ways (takes_all (kept_of image f.cells id) at width r) (find_None (takes_all (kept_of image f.cells id) at width) (regions_in image f.cells id) r is takes.0) takes.1)
    refl refl e

-- an access that is no fetch
register_way : (image : Image) (f : Facts) (id : ℕ) (access : Access) (at width : ℕ) → IsSound image f → 0 < width → access ≢ ToFetch → (AreGrantedTo image f.cells id access at width → ⊥)
    → ((o : Option Region) (w : Option TheWindow) → answer_behind (asked_with image id o w) (wanted_at access at width) ≡ region_or_window (asked_with image id o w) (wanted_at access at width))
    → reach image f id access at width ≡ behind_in image f.cells f.endpoints id access at width → Way image f id access at width
register_way image f id access at width sound some other lacks by e = elim (cases_lt ADDRESS_END (at + width)) [
  | inl beyond ↦
      OnNothing
      (unanswered image f id access at width lacks (λ r h. let low = h.behind.below in absurd (omega arith)) (λ h. let low = h.behind.below in absurd (omega arith)) (λ n bar offset o h. let low = h.behind.below in absurd (omega arith)))
      (e ∙ answer_beyond (behind_of image f.cells f.endpoints id) (wanted_at access at width) beyond)
  | inr within ↦
      found_way image f id access at width (find (takes_all (kept_of image f.cells id) at width) (regions_in image f.cells id)) sound some (record { no_fetch = other; below = within; lacks = lacks }) refl
      (e ∙ answer_within (behind_of image f.cells f.endpoints id) (wanted_at access at width) within
      ∙ by (find (takes_all (kept_of image f.cells id) at width) (regions_in image f.cells id)) (window_of_access (devices_of image f id) at width))
]

fetch_way : (image : Image) (f : Facts) (id at width : ℕ) → (AreGrantedTo image f.cells id ToFetch at width → ⊥) → reach image f id ToFetch at width ≡ behind_in image f.cells f.endpoints id ToFetch at width → Way image f id ToFetch at width
fetch_way image f id at width lacks e =
    OnNothing
    (unanswered image f id ToFetch at width lacks (λ r h. h.behind.no_fetch refl) (λ h. h.behind.no_fetch refl) (λ n bar offset o h. h.behind.no_fetch refl))
    (e ∙ elim (cases_lt ADDRESS_END (at + width)) [
      | inl beyond ↦ answer_beyond (behind_of image f.cells f.endpoints id) (wanted_at ToFetch at width) beyond
      | inr within ↦ answer_within (behind_of image f.cells f.endpoints id) (wanted_at ToFetch at width) within
    ])

abbrev access_number : Access → ℕ
access_number ToRead = 0
access_number ToWrite = 1
access_number ToFetch = 2

behind_way : (image : Image) (f : Facts) (id : ℕ) (access : Access) (at width : ℕ) → IsSound image f → 0 < width → (AreGrantedTo image f.cells id access at width → ⊥)
    → reach image f id access at width ≡ behind_in image f.cells f.endpoints id access at width → Way image f id access at width
behind_way image f id ToRead at width sound some lacks e = register_way image f id ToRead at width sound some (λ same. let n : 0 ≡ 2 = ap access_number same in absurd (omega arith)) lacks (λ o w. refl) e
behind_way image f id ToWrite at width sound some lacks e = register_way image f id ToWrite at width sound some (λ same. let n : 1 ≡ 2 = ap access_number same in absurd (omega arith)) lacks (λ o w. refl) e
behind_way image f id ToFetch at width sound some lacks e = fetch_way image f id at width lacks e

pub way : (image : Image) (f : Facts) (id : ℕ) (access : Access) (at width : ℕ) → IsSound image f → 0 < width → Way image f id access at width
way image f id access at width sound some =
    ⊎_elim
    (λ (found : (ps : List Place) × (reach_by (granted image f id access) at width ≡ Memory ps)).
    OnMemory found.0 (granted_memory image f id access at width found.0 sound.cells found.1) (ap (λ (r : Reach). or_behind r (behind_in image f.cells f.endpoints id access at width)) found.1))
    (λ (none : reach_by (granted image f id access) at width ≡ Nothing).
    behind_way image f id access at width sound some
    (λ each. let found = memory_granted image f id access at width sound.cells some each in nothing_memory found.0 (sym none ∙ found.1))
    (ap (λ (r : Reach). or_behind r (behind_in image f.cells f.endpoints id access at width)) none))
    (memory_cases (granted image f id access) at width)

-- ---- the places of an access

row_listed : (id : ℕ) (r : Region) (at width : ℕ) (place : ℕ → Place) → r.virt_start ≤ at → ((k : ℕ) → k < width → place k ≡ place_in_cell id r (at + k)) → places_in_row (place_in_cell id r at) width ≡ listed place width
row_listed id r at width place low each =
    let g : ℕ → Option Place = λ a. Some (place_in_cell id r a) in
    same_Some (places_in_row (place_in_cell id r at) width) (listed place width)
    (sym (places_from_row g (place_in_cell id r at) at width (λ k lt. ap Some (place_in_cell_further id r at k low)))
    ∙ places_from_listed g place at width (λ k lt. ap Some (sym (each k lt))))

-- those of memory
pub places_of_memory : (image : Image) (f : Facts) (id : ℕ) (access : Access) (at width : ℕ) (ps : List Place) (place : ℕ → Place) → AreSoundCells image.system (configs_of f.cells) → 0 < width → AreGrantedTo image f.cells id access at width
    → reach image f id access at width ≡ Memory ps → AreItsPlaces image f.cells id access at width place → ps ≡ listed place width
places_of_memory image f id access at width ps place sound some granted is are =
    ⊎_elim
    (λ (each : (k : ℕ) → k < width → IsGrantedTo image f.cells id access (at + k) (place k)).
    same_memory ps (listed place width) (sym is ∙ ap (λ (r : Reach). or_behind r (behind_in image f.cells f.endpoints id access at width)) (memory_listed image f id access at width place sound some each)))
    (λ (by : GivesPlaces image f.cells id access at width place). absurd (by.answers.behind.lacks granted))
    are
  where
    memory_of : Reach → List Place
    memory_of (Memory qs) = qs
    memory_of found = []

    same_memory : (qs rs : List Place) → Memory qs ≡ Memory rs → qs ≡ rs
    same_memory qs rs e = ap memory_of e

-- those of a subpage region
pub places_of_region : (image : Image) (f : Facts) (id : ℕ) (access : Access) (at width : ℕ) (r : Region) (place : ℕ → Place) → AreSoundCells image.system (configs_of f.cells) → 0 < width → IsAnsweredBy image f.cells id access at width r
    → AreItsPlaces image f.cells id access at width place → places_in_row (place_in_cell id r at) width ≡ listed place width
places_of_region image f id access at width r place sound some answers are =
    ⊎_elim
    (λ (each : (k : ℕ) → k < width → IsGrantedTo image f.cells id access (at + k) (place k)). absurd (answers.behind.lacks (λ k lt. (place k, each k lt))))
    (λ (by : GivesPlaces image f.cells id access at width place).
    let same : by.region ≡ r = one_region image f.cells id at width by.region r sound some by.answers.has answers.has in
    let P : Region → Type 0 = λ s. places_in_row (place_in_cell id s at) width ≡ listed place width in
    subst P same
    (row_listed id by.region at width place by.answers.has.first (λ k lt.
    by.given k lt ∙ ap (λ (i : ℕ). place_in_cell i by.region (at + k)) by.answers.has.named)))
    are

-- and each access that a region answers has them
pub region_places : (image : Image) (cells : List Live) (id : ℕ) (access : Access) (at width : ℕ) (r : Region) → IsAnsweredBy image cells id access at width r → AreItsPlaces image cells id access at width (λ k. place_in_cell id r (at + k))
region_places image cells id access at width r answers =
    inr (record { region = r; answers = answers; given = λ k lt. ap (λ (i : ℕ). place_in_cell i r (at + k)) (sym answers.has.named) })
