-- A configuration may be put where a region begins that is no section, and nowhere else before.
use Rattle.std.proofs.Common.{◌≡◌, ℕ, ◌+◌, ◌-◌, ◌<◌, ◌≤◌, true, false, ◌&&◌, not, nat_lt, nat_le, Option, Some, None, sym, ap, ◌∙◌, inl, inr, cond, length, arith}
use Rattle.std.specs.Prelude.{IfSome, MatchOption}
use Rattle.std.specs.List.{list_any}
use Rattle.std.proofs.lemmas.Bool.{not-true, ltb-true, leb-true, lt-ltb, le-leb, lt-leb, cases_eq, cases_lt, both_ways, and_parts, and_from, false_from_ne_true}
use Rattle.std.proofs.lemmas.Option.{slice_get_within}
use Rattle.jh_cellcfg.specs.declared.region.Region.{Region}
use Rattle.jh_cellcfg.specs.declared.config.CellConfig.{CellConfig}
use Rattle.jh_cellcfg.specs.Regions.{has_flags, has_place, is_device, is_page_mapped, phys_end, phys_meet}
use Rattle.jh_check.specs.Devices.{is_shmem, is_section, sections_of}
use Rattle.jh_check.specs.Laws.{IsItem}
use Rattle.jh_talk.specs.Places.{are_shared, has_met_section, may_hold, places_from, HasNoPlace, IsPlace, IsLeastPlace}
use Rattle.jh_talk.specs.Private.Rooms.{has_section, is_room, is_section_of, lesser, IsBest, IsSoundMap}
use Rattle.jh_check.proofs.Public.{any_at, any_of, common_phys, phys_common, same_item}
use Rattle.jh_talk.proofs.SectionLemmas.{section_at_number, number_in_sections}

-- ---- regions that have a place together

-- a place of both, where the one region's first places, so many, meet the other
record Both (x y : Region) : Type 0 where
  place : ℕ
  one : has_place x place ≡ true
  other : has_place y place ≡ true
  some : 0 < y.size

first_places_meet : (x y : Region) (count : ℕ) → count ≤ x.size → phys_meet (places_from x.phys_start count) y ≡ true → Both x y
first_places_meet x y count room e =
    let common = common_phys (places_from x.phys_start count) y e in
    let place = common.0 in
    let here = and_parts (nat_le x.phys_start place) (nat_lt place (x.phys_start + count)) common.1 in
    let there = and_parts (nat_le y.phys_start place) (nat_lt place (phys_end y)) common.2 in
    let ends = ltb-true place (x.phys_start + count) here.1 in
    let from = leb-true y.phys_start place there.0 in
    let to = ltb-true place (phys_end y) there.1 in
    record {
      place = place;
      one = and_from (nat_le x.phys_start place) (nat_lt place (phys_end x)) here.0 (lt-ltb place (phys_end x) (omega arith));
      other = common.2;
      some = omega arith;
    }

-- ---- where a region begins

-- the region of that number serves
record Serves (root : CellConfig) (count number : ℕ) (region : Region) : Type 0 where
  holds : may_hold region ≡ true
  room : count ≤ region.size
  free : has_section root number ≡ false

serves_to : (root : CellConfig) (count number : ℕ) (region : Region) → is_room root count number region ≡ true → Serves root count number region
serves_to root count number region e =
    let p = and_parts (may_hold region) (nat_le count region.size && not (has_section root number)) e in
    let q = and_parts (nat_le count region.size) (not (has_section root number)) p.1 in
    record { holds = p.0; room = leb-true count region.size q.0; free = not-true (has_section root number) q.1 }

serves_from : (root : CellConfig) (count number : ℕ) (region : Region) → Serves root count number region → is_room root count number region ≡ true
serves_from root count number region s =
    and_from (may_hold region) (nat_le count region.size && not (has_section root number)) s.holds
    (and_from (nat_le count region.size) (not (has_section root number)) (le-leb count region.size s.room) (ap not s.free))

-- the first places of a region that is no section are in no section
clear_of_sections : (root : CellConfig) (count number : ℕ) (region : Region) → 0 < count → IsSoundMap root → IsItem root number region → Serves root count number region → are_shared root (places_from region.phys_start count) ≡ true → ⊥
clear_of_sections root count number region some sound item serves shared =
    let places = places_from region.phys_start count in
    let d = any_of (has_met_section root places) root.pci_devices shared in
    let device = d.1 in
    let parts = and_parts (is_shmem device) (list_any (phys_meet places) (sections_of root.memory_regions device)) d.3 in
    let s = any_of (phys_meet places) (sections_of root.memory_regions device) parts.1 in
    let at = section_at_number root device s.0 s.1 s.2 in
    let both = first_places_meet region s.1 count serves.room s.3 in
    let other = both.some in
    let room = serves.room in
    let same : number ≡ at.number = sound.single number at.number region s.1 item at.item (omega arith) other both.place both.one both.other in
    let is : is_section device number ≡ true = ap (is_section device) same ∙ at.is in
    let has : has_section root number ≡ true = any_at (is_section_of number) root.pci_devices d.0 device d.2 (and_from (is_shmem device) (is_section device number) parts.0 is) in
    both_ways (has_section root number) serves.free has

pub place_of_room : (root : CellConfig) (count number : ℕ) (region : Region) → 0 < count → IsSoundMap root → IsItem root number region → is_room root count number region ≡ true → IsPlace root count region.phys_start
place_of_room root count number region some sound item room =
    let serves = serves_to root count number region room in
    let fits = serves.room in
    let large : 0 < region.size = omega arith in
    let mapped = (and_parts (is_page_mapped region) (has_flags 0x1 region && not (is_device region)) serves.holds).0 in
    record {
      aligned = sound.aligned number region item large mapped;
      number = number;
      region = region;
      item = item;
      holds = serves.holds;
      begins = omega arith;
      ends = omega arith;
      clear = false_from_ne_true (are_shared root (places_from region.phys_start count)) (clear_of_sections root count number region some sound item serves);
    }

-- where bytes may be put, their region is no section
no_section : (root : CellConfig) (count place : ℕ) → 0 < count → (is : IsPlace root count place) → has_section root is.number ≡ true → ⊥
no_section root count place some is has =
    let places = places_from place count in
    let d = any_of (is_section_of is.number) root.pci_devices has in
    let device = d.1 in
    let parts = and_parts (is_shmem device) (is_section device is.number) d.3 in
    let sections = sections_of root.memory_regions device in
    let begins = is.begins in
    let ends = is.ends in
    let region = is.region in
    let first : has_place places place ≡ true = and_from (nat_le place place) (nat_lt place (place + count)) (le-leb place place (omega arith)) (lt-ltb place (place + count) (omega arith)) in
    let mine : has_place region place ≡ true = and_from (nat_le region.phys_start place) (nat_lt place (phys_end region)) (le-leb region.phys_start place begins) (lt-ltb place (phys_end region) (omega arith)) in
    let met : list_any (phys_meet places) sections ≡ true =
    any_at (phys_meet places) sections (is.number - device.shmem_regions_start) region (number_in_sections root device is.number region is.item parts.1) (phys_common places region place first mine) in
    let shared : are_shared root places ≡ true =
    any_at (has_met_section root places) root.pci_devices d.0 device d.2 (and_from (is_shmem device) (list_any (phys_meet places) sections) parts.0 met) in
    both_ways (are_shared root places) is.clear shared

room_of_place : (root : CellConfig) (count place : ℕ) → 0 < count → (is : IsPlace root count place) → is_room root count is.number is.region ≡ true
room_of_place root count place some is =
    let begins = is.begins in
    let ends = is.ends in
    serves_from root count is.number is.region (record {
      holds = is.holds;
      room = omega arith;
      free = false_from_ne_true (has_section root is.number) (no_section root count place some is);
    })

-- ---- the least of the regions so far

lesser_one : (one place other : ℕ) → one ≤ other → cond (nat_le one place) one place ≤ other
lesser_one one place other le = elim (cases_lt place one) [
  | inl l ↦ rw (lt-leb one place l) (omega arith)
  | inr g ↦ rw (le-leb one place g) le
]

lesser_other : (one place other : ℕ) → place ≤ other → cond (nat_le one place) one place ≤ other
lesser_other one place other le = elim (cases_lt place one) [
  | inl l ↦ rw (lt-leb one place l) le
  | inr g ↦ rw (le-leb one place g) (omega arith)
]

pub best_more : (root : CellConfig) (count number : ℕ) (region : Region) (best : Option ℕ) → IsItem root number region → IsBest root count number best → IsBest root count (number + 1) (lesser best region.phys_start)
best_more root count number region None item before = λ place is below. elim (cases_eq is.number number) [
  | inl e ↦ let same = ap (λ (r : Region). r.phys_start) (same_item root.memory_regions is.number number is.region region e is.item item) in let begins = is.begins in omega arith
  | inr ne ↦ absurd (before place is (omega arith))
]
best_more root count number region (Some best) item before = λ place is below. elim (cases_eq is.number number) [
  | inl e ↦ let same = ap (λ (r : Region). r.phys_start) (same_item root.memory_regions is.number number is.region region e is.item item) in let begins = is.begins in lesser_other best region.phys_start place (omega arith)
  | inr ne ↦ lesser_one best region.phys_start place (before place is (omega arith))
]

pub is_lesser : (P : ℕ → Type 0) (best : Option ℕ) (place : ℕ) → IfSome best P → P place → IfSome (lesser best place) P
is_lesser P None place p q = q
is_lesser P (Some best) place p q = elim (nat_le best place) as (λ t. P (cond t best place)) [ true ↦ p | false ↦ q ]

not_there : (root : CellConfig) (count number : ℕ) (region : Region) → 0 < count → IsItem root number region → is_room root count number region ≡ false → (place : ℕ) (is : IsPlace root count place) → is.number ≡ number → ⊥
not_there root count number region some item none place is e =
    let same = same_item root.memory_regions is.number number is.region region e is.item item in
    let there = room_of_place root count place some is in
    let here : is_room root count number region ≡ true = sym (ap (λ k. is_room root count k region) e) ∙ sym (ap (λ r. is_room root count is.number r) same) ∙ there in
    both_ways (is_room root count number region) none here

pub best_skipped : (root : CellConfig) (count number : ℕ) (region : Region) (best : Option ℕ) → 0 < count → IsItem root number region → IsBest root count number best → is_room root count number region ≡ false → IsBest root count (number + 1) best
best_skipped root count number region None some item before none = λ place is below. elim (cases_eq is.number number) [
  | inl e ↦ not_there root count number region some item none place is e
  | inr ne ↦ before place is (omega arith)
]
best_skipped root count number region (Some best) some item before none = λ place is below. elim (cases_eq is.number number) [
  | inl e ↦ absurd (not_there root count number region some item none place is e)
  | inr ne ↦ before place is (omega arith)
]

pub best_of_all : (root : CellConfig) (count number : ℕ) (best : Option ℕ) → length root.memory_regions ≤ number → IfSome best (IsPlace root count) → IsBest root count number best → MatchOption best (HasNoPlace root count) (IsLeastPlace root count)
best_of_all root count number None all none before = λ place is. before place is (let w = slice_get_within root.memory_regions is.number is.region is.item in omega arith)
best_of_all root count number (Some best) all place before = record {
  is = place;
  least = λ other is. before other is (let w = slice_get_within root.memory_regions is.number is.region is.item in omega arith);
}
