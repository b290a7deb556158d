-- A region gives a whole page of addresses, or none.
use Rattle.std.proofs.Common.{◌≡◌, ℕ, ◌+◌, ◌-◌, ◌%◌, ◌<◌, ◌≤◌, List, Bool, true, false, ◌&&◌, cond, leb, ltb, eqb, Some, None, refl, ap, sym, ◌∙◌, arith, inl, inr}
use Rattle.std.specs.Prelude.{find, option_map, IsTrue}
use Rattle.std.proofs.lemmas.Bool.{cases_lt, lt-leb, le-leb, lt-ltb, le-ltb, eqb-true, and_parts, and_right, and_from}
use Rattle.jh_cellcfg.specs.declared.region.Region.{Region}
use Rattle.jh_cellcfg.specs.Regions.{has_address, is_page_mapped, is_comm, has_flags, place_in, byte_in}
use Rattle.jh_cellcfg.proofs.Public.{has_address_first}
use Rattle.jh_history.specs.declared.place.Place.TheVariants.{Physical, Page}
use Rattle.jh_history.specs.declared.access.Access.{Access}
use Rattle.jh_history.specs.Places.{further, places_in_row}
use Rattle.jh_history.specs.Access.{gives, right_of, place_in_cell, region_of, place_of, places_from}
use Rattle.jh_history.proofs.FactsLemmas.{same_function}
use Rattle.jh_num.proofs.Public.{IsFound_from_find}
use Rattle.jh_history.proofs.AccessLemmas.{places_from_row, places_from_none}

-- what ends at a page's border has all of the page or nothing
page_below : (s at k : ℕ) → s % 4096 ≡ 0 → at % 4096 + k < 4096 → at < s → at + k < s
page_below s at k whole within lt = omega arith

leb_same : (s at k : ℕ) → s % 4096 ≡ 0 → at % 4096 + k < 4096 → leb s (at + k) ≡ leb s at
leb_same s at k whole within = elim (cases_lt at s) [
  | inl lt ↦ lt-leb s (at + k) (page_below s at k whole within lt) ∙ sym (lt-leb s at lt)
  | inr le ↦ le-leb s (at + k) (omega arith) ∙ sym (le-leb s at le)
]

ltb_same : (s at k : ℕ) → s % 4096 ≡ 0 → at % 4096 + k < 4096 → ltb (at + k) s ≡ ltb at s
ltb_same s at k whole within = elim (cases_lt at s) [
  | inl lt ↦ lt-ltb (at + k) s (page_below s at k whole within lt) ∙ sym (lt-ltb at s lt)
  | inr le ↦ le-ltb (at + k) s (omega arith) ∙ sym (le-ltb at s le)
]

whole_start : (r : Region) → is_page_mapped r ≡ true → r.virt_start % 4096 ≡ 0
whole_start r h = eqb-true (r.virt_start % 4096) 0 (and_parts (eqb (r.virt_start % 4096) 0) (eqb (r.size % 4096) 0) h).0

whole_end : (r : Region) → is_page_mapped r ≡ true → (r.virt_start + r.size) % 4096 ≡ 0
whole_end r h =
    let start : r.virt_start % 4096 ≡ 0 = whole_start r h in
    let size : r.size % 4096 ≡ 0 = eqb-true (r.size % 4096) 0 (and_parts (eqb (r.virt_start % 4096) 0) (eqb (r.size % 4096) 0) h).1 in
    omega arith

has_same : (r : Region) (at k : ℕ) → is_page_mapped r ≡ true → at % 4096 + k < 4096 → has_address r (at + k) ≡ has_address r at
has_same r at k pages within =
    ap (λ (b : Bool). b && ltb (at + k) (r.virt_start + r.size)) (leb_same r.virt_start at k (whole_start r pages) within)
    ∙ ap (λ (b : Bool). leb r.virt_start at && b) (ltb_same (r.virt_start + r.size) at k (whole_end r pages) within)

gives_by : (r : Region) (access : Access) (at k : ℕ) (b : Bool) → is_page_mapped r ≡ b → at % 4096 + k < 4096 → has_address r (at + k) && b && has_flags (right_of access) r ≡ has_address r at && b && has_flags (right_of access) r
gives_by r access at k true is within = ap (λ (b : Bool). b && true && has_flags (right_of access) r) (has_same r at k is within)
gives_by r access at k false is within = ap (λ (b : Bool). b && has_flags (right_of access) r) (and_right (has_address r (at + k)) false refl ∙ sym (and_right (has_address r at) false refl))

-- the region gives each address of a page or none
pub gives_same : (r : Region) (access : Access) (at k : ℕ) → at % 4096 + k < 4096 → gives access (at + k) r ≡ gives access at r
gives_same r access at k within =
    let h = gives_by r access at k (is_page_mapped r) refl within in h

-- so the region is the same for each address of a page
pub region_of_same : (regions : List Region) (access : Access) (at k : ℕ) → at % 4096 + k < 4096 → region_of regions access (at + k) ≡ region_of regions access at
region_of_same regions access at k within =
    ap (λ (p : Region → Bool). find p regions) (same_function (gives access (at + k)) (gives access at) (λ r. gives_same r access at k within))

-- the place of an address further on
by_comm : (id : ℕ) (r : Region) (at k : ℕ) (b : Bool) → r.virt_start ≤ at
    → cond b (Page id (byte_in r (at + k))) (Physical (place_in r (at + k))) ≡ further (cond b (Page id (byte_in r at)) (Physical (place_in r at))) k
by_comm id r at k true le = let e : (at + k) - r.virt_start ≡ (at - r.virt_start) + k = omega arith in ap (Page id) e
by_comm id r at k false le = let e : r.phys_start + ((at + k) - r.virt_start) ≡ (r.phys_start + (at - r.virt_start)) + k = omega arith in ap Physical e

pub place_in_cell_further : (id : ℕ) (r : Region) (at k : ℕ) → r.virt_start ≤ at → place_in_cell id r (at + k) ≡ further (place_in_cell id r at) k
place_in_cell_further id r at k le = by_comm id r at k (is_comm r) le

-- the address is one of the region's that gives it
pub gives_has : (access : Access) (at : ℕ) (r : Region) → gives access at r ≡ true → IsTrue (has_address r at)
gives_has access at r h = (and_parts (has_address r at) (is_page_mapped r) (and_parts (has_address r at && is_page_mapped r) (has_flags (right_of access) r) h).0).0

pub gives_from : (access : Access) (at : ℕ) (r : Region) → has_address r at ≡ true → is_page_mapped r ≡ true → has_flags (right_of access) r ≡ true → gives access at r ≡ true
gives_from access at r has pages right = and_from (has_address r at && is_page_mapped r) (has_flags (right_of access) r) (and_from (has_address r at) (is_page_mapped r) has pages) right

-- what the region found gives the addresses of its page
pub places_from_page : (id : ℕ) (regions : List Region) (access : Access) (at count : ℕ) (r : Region) → at % 4096 + count ≤ 4096 → region_of regions access at ≡ Some r
    → places_from (place_of id regions access) at count ≡ Some (places_in_row (place_in_cell id r at) count)
unfolding place_of
places_from_page id regions access at count r within is =
    let passes = (IsFound_from_find (gives access at) regions r is).passes in
    let low = has_address_first r at (gives_has access at r passes) in
    places_from_row (place_of id regions access) (place_in_cell id r at) at count
    (λ k lt. ap (option_map (λ (s : Region). place_in_cell id s (at + k))) (region_of_same regions access at k (omega arith) ∙ is) ∙ ap Some (place_in_cell_further id r at k low))

pub places_from_page_none : (id : ℕ) (regions : List Region) (access : Access) (at count : ℕ) → 0 < count → region_of regions access at ≡ None
    → places_from (place_of id regions access) at count ≡ None
unfolding place_of
places_from_page_none id regions access at count some is = places_from_none (place_of id regions access) at count some (ap (option_map (λ (s : Region). place_in_cell id s at)) is)

-- the region that is found has the address
pub region_of_has : (regions : List Region) (access : Access) (at : ℕ) (r : Region) → region_of regions access at ≡ Some r → IsTrue (has_address r at)
region_of_has regions access at r is = gives_has access at r (IsFound_from_find (gives access at) regions r is).passes
