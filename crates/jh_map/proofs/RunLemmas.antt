-- The map of one region.
use Rattle.std.proofs.Common.{◌≡◌, ℕ, ◌+◌, ◌-◌, ◌<◌, ◌≤◌, Bool, true, false, cond, ◌&&◌, ◌||◌, not, List, [], ◌∷◌, length, get_or, map, refl, sym, ap, subst, ◌∙◌, ⊎_elim, arith}
use Rattle.std.specs.Prelude.{All, AllPairs}
use Rattle.std.proofs.lemmas.Bool.{and_parts, and_left, cases_Bool, cases_order, both_ways, false_from_ne_true}
use Rattle.std.proofs.lemmas.Bool.Decides.{nat_tests}
use Rattle.std.proofs.lemmas.List.{get_or-map, get_or_default, length-map}
use Rattle.std.proofs.lemmas.List.Elements.{All-nil, All-cons, All-map, Contains-get_or}
use Rattle.jh_num.specs.declared.range.Range.{Range}
use Rattle.jh_num.specs.Bytes.{in_range, has_byte, AreApart}
use Rattle.jh_num.proofs.Public.{within_range, not_empty_at, ends_before, IsFound_from_list_any, list_any_from_Contains, Contains_map, Contains_head}
use Rattle.jh_cellcfg.specs.declared.region.Region.{Region}
use Rattle.jh_cellcfg.specs.Regions.{has_address, has_place, is_comm, place_in, byte_in, virt_end, phys_end, IsInRange}
use Rattle.jh_cellcfg.proofs.Public.{has_address_first, has_address_last, has_address_from}
use Rattle.jh_map.specs.declared.run.Run.{Run}
use Rattle.jh_map.specs.Maps.{is_granted, IsRunOf, IsRunIn, IsInRun, EndsBefore, IsMap}
use Rattle.jh_map.specs.Private.Places.{AreFree, run_to}
use Rattle.jh_map.proofs.MapLemmas.{granted_has, alone}

-- one run has all that a region grants
pub whole_map : (closed : ℕ → Bool) (r : Region) (run : Run) → IsRunOf closed r run → run.start ≡ r.virt_start → run.end ≡ virt_end r → IsMap closed (r ∷ []) (run ∷ [])
whole_map closed r run of start end = record {
  own = All-cons (IsRunIn closed (r ∷ [])) run [] (record { region = r; among = Contains_head r []; of = of }) (All-nil (IsRunIn closed (r ∷ [])));
  whole = λ s at held granted.
      let same = alone r s held in
      let P : Region → Type 0 = λ x. is_granted closed x at ≡ true in
      let Q : Region → Type 0 = λ x. IsRunOf closed x run in
      let has = granted_has closed r at (subst P (sym same) granted) in
      let low = has_address_first r at has in
      let high = has_address_last r at has in
      record { run = run; among = Contains_head run []; of = subst Q same of; has = record { first = omega arith; last = omega arith } };
  order = λ i j d lt jl. absurd (omega arith);
}

-- ---- ranges of places

range_low : (x : Range) (p : ℕ) → in_range x p ≡ true → x.start ≤ p
range_low x p h = grind (arith, nat_tests)

range_high : (x : Range) (p : ℕ) → in_range x p ≡ true → p < x.end
range_high x p h = grind (arith, nat_tests)

place_low : (r : Region) (p : ℕ) → has_place r p ≡ true → r.phys_start ≤ p
place_low r p h = grind (arith, nat_tests)

place_high : (r : Region) (p : ℕ) → has_place r p ≡ true → p < phys_end r
place_high r p h = grind (arith, nat_tests)

place_from : (r : Region) (p : ℕ) → r.phys_start ≤ p → p < phys_end r → has_place r p ≡ true
place_from r p low high = grind (arith, nat_tests)

-- a range is one of those that are apart, by its place
record IsOneOf (ranges : List Range) (x : Range) : Type 0 where
  some : x.start < x.end
  each : (p : ℕ) → x.start ≤ p → p < x.end → has_byte ranges p ≡ true
  before : (p : ℕ) → p + 1 ≡ x.start → has_byte ranges p ≡ false
  behind : has_byte ranges x.end ≡ false

-- a place that two ranges have or touch is of one range alone
touched : (ranges : List Range) (k j : ℕ) (d : Range) (p : ℕ) → AreApart ranges → k < length ranges → j < length ranges → (get_or ranges k d).start ≤ p + 1 → p ≤ (get_or ranges k d).end → (get_or ranges j d).start ≤ p → p < (get_or ranges j d).end → j ≡ k
touched ranges k j d p apart kl jl low high j_low j_high =
    ⊎_elim (λ (e : j ≡ k). e)
    (λ o. ⊎_elim
    (λ (lt : j < k). let b = ends_before 0 ranges j k d apart lt kl in absurd (omega arith))
    (λ (gt : k < j). let b = ends_before 0 ranges k j d apart gt jl in absurd (omega arith))
    o)
    (cases_order j k)

-- so one that a range touches and doesn't have is in none
not_in : (ranges : List Range) (k : ℕ) (d : Range) (p : ℕ) → AreApart ranges → k < length ranges → (get_or ranges k d).start ≤ p + 1 → p ≤ (get_or ranges k d).end → ((get_or ranges k d).start ≤ p → p < (get_or ranges k d).end → ⊥) → has_byte ranges p ≡ false
not_in ranges k d p apart kl low high out = false_from_ne_true (has_byte ranges p) (λ h.
    let found = IsFound_from_list_any (λ (x : Range). in_range x p) ranges h in
    let y : Range = found.0 in
    let place = found.1.among in
    let j : ℕ = place.0 in
    let is : get_or ranges j d ≡ y = get_or_default ranges j d y place.1 ∙ place.2 in
    let P : Range → Type 0 = λ x. in_range x p ≡ true in
    let here : in_range (get_or ranges j d) p ≡ true = subst P (sym is) found.1.passes in
    let j_low = range_low (get_or ranges j d) p here in
    let j_high = range_high (get_or ranges j d) p here in
    let same : j ≡ k = touched ranges k j d p apart kl place.1 low high j_low j_high in
    let Q : ℕ → Type 0 = λ m. in_range (get_or ranges m d) p ≡ true in
    let own : in_range (get_or ranges k d) p ≡ true = subst Q same here in
    out (range_low (get_or ranges k d) p own) (range_high (get_or ranges k d) p own))

one_of : (ranges : List Range) (k : ℕ) (d : Range) → AreApart ranges → k < length ranges → IsOneOf ranges (get_or ranges k d)
one_of ranges k d apart kl =
    let some = not_empty_at 0 ranges k d apart kl in
    record {
      some = some.1;
      each = λ p low high. list_any_from_Contains (λ (x : Range). in_range x p) ranges (get_or ranges k d) (Contains-get_or ranges k d kl) (within_range (get_or ranges k d) p low high);
      before = λ p e. not_in ranges k d p apart kl (omega arith) (omega (arith, some.1)) (λ low high. absurd (omega arith));
      behind = not_in ranges k d (get_or ranges k d).end apart kl (omega (arith, some.1)) (omega arith) (λ low high. absurd (omega arith));
    }

-- the ranges have the places of the region that aren't closed
pub record AreLeft (closed : ℕ → Bool) (r : Region) (ranges : List Range) : Type 0 where
  pub within : IsInRange r
  pub no_comm : is_comm r ≡ false
  pub apart : AreApart ranges
  pub bytes : (p : ℕ) → has_byte ranges p ≡ (not (closed p) && has_place r p)

left_by : (f c h w : Bool) → f ≡ not c → w ≡ (f && h) → w ≡ (not c && h)
left_by f c h w e is = is ∙ ap (λ v. v && h) e

left_past : (f c h w : Bool) → h ≡ false → w ≡ (f && h) → w ≡ (not c && h)
left_past f c h w none is = is ∙ ap (λ v. f && v) none ∙ last f c ∙ ap (λ v. not c && v) (sym none)
  where
    last : (f c : Bool) → (f && false) ≡ (not c && false)
    last true true = refl
    last true false = refl
    last false true = refl
    last false false = refl

pub left_from : (closed : ℕ → Bool) (r : Region) (free ranges : List Range) → IsInRange r → is_comm r ≡ false → AreFree closed free → AreApart ranges → ((p : ℕ) → has_byte ranges p ≡ (has_byte free p && has_place r p)) → AreLeft closed r ranges
left_from closed r free ranges within no_comm are apart bytes = record {
  within = within;
  no_comm = no_comm;
  apart = apart;
  bytes = λ p. ⊎_elim
      (λ (has : has_place r p ≡ true).
      let high = place_high r p has in
      let end = within.phys no_comm in
      left_by (has_byte free p) (closed p) (has_place r p) (has_byte ranges p) (are p (omega arith)) (bytes p))
      (λ (lacks : has_place r p ≡ false). left_past (has_byte free p) (closed p) (has_place r p) (has_byte ranges p) lacks (bytes p))
      (cases_Bool (has_place r p));
}

-- they are the region's
pub own_ranges : (r : Region) (free ranges : List Range) → AreApart ranges → ((p : ℕ) → has_byte ranges p ≡ (has_byte free p && has_place r p)) → All (λ (x : Range). (r.phys_start ≤ x.start) × (x.end ≤ phys_end r)) ranges
own_ranges r free ranges apart bytes k d kl =
    let is = one_of ranges k d apart kl in
    let some = is.some in
    let first = (and_parts (has_byte free (get_or ranges k d).start) (has_place r (get_or ranges k d).start) (sym (bytes (get_or ranges k d).start) ∙ is.each (get_or ranges k d).start (omega arith) some)).1 in
    let last = (and_parts (has_byte free ((get_or ranges k d).end - 1)) (has_place r ((get_or ranges k d).end - 1)) (sym (bytes ((get_or ranges k d).end - 1)) ∙ is.each ((get_or ranges k d).end - 1) (omega arith) (omega arith))).1 in
    let low = place_low r (get_or ranges k d).start first in
    let high = place_high r ((get_or ranges k d).end - 1) last in
    (low, omega arith)

-- an address of the region is granted where its place is left
granted_as : (h c : Bool) (b : Bool) → c ≡ false → h ≡ true → (h && (c || not b)) ≡ not b
granted_as true false b e f = refl
granted_as true true b e f = absurd (both_ways true e refl)
granted_as false c b e f = absurd (both_ways false refl f)

left_as : (b h w : Bool) → h ≡ true → w ≡ (not b && h) → w ≡ not b
left_as true true w e is = is
left_as false true w e is = is
left_as b false w e is = absurd (both_ways false refl e)

granted_is : (closed : ℕ → Bool) (r : Region) (ranges : List Range) (at : ℕ) → AreLeft closed r ranges → has_address r at ≡ true → is_granted closed r at ≡ has_byte ranges (place_in r at)
granted_is closed r ranges at left has =
    let low = has_address_first r at has in
    let high = has_address_last r at has in
    let own = place_from r (place_in r at) (omega arith) (omega arith) in
    granted_as (has_address r at) (is_comm r) (closed (place_in r at)) left.no_comm has ∙ sym (left_as (closed (place_in r at)) (has_place r (place_in r at)) (has_byte ranges (place_in r at)) own (left.bytes (place_in r at)))

-- and isn't where it isn't
not_granted : (closed : ℕ → Bool) (r : Region) (ranges : List Range) (at p : ℕ) → AreLeft closed r ranges → (r.virt_start ≤ at → place_in r at ≡ p) → has_byte ranges p ≡ false → is_granted closed r at ≡ false
not_granted closed r ranges at p left leads none = ⊎_elim
    (λ (has : has_address r at ≡ true). granted_is closed r ranges at left has ∙ ap (has_byte ranges) (leads (has_address_first r at has)) ∙ none)
    (λ (lacks : has_address r at ≡ false). and_left (has_address r at) (is_comm r || not (closed (place_in r at))) lacks)
    (cases_Bool (has_address r at))

leads_as : (c : Bool) (b p q : ℕ) → c ≡ false → p ≡ q → q ≡ cond c b p
leads_as false b p q e is = sym is
leads_as true b p q e is = absurd (both_ways true e refl)

-- the addresses that lead to a range are a run
run_of : (closed : ℕ → Bool) (r : Region) (ranges : List Range) (x : Range) → AreLeft closed r ranges → IsOneOf ranges x → r.phys_start ≤ x.start → x.end ≤ phys_end r → IsRunOf closed r (run_to r x)
run_of closed r ranges x left is low high =
    let some = is.some in
    record {
      some = omega arith;
      each = λ at has.
          let first = has.first in
          let last = has.last in
          let own = has_address_from r at (omega arith) (omega arith) in
          granted_is closed r ranges at left own ∙ is.each (place_in r at) (omega arith) (omega arith);
      before = λ at e. before_run at e;
      behind = not_granted closed r ranges (run_to r x).end x.end left (λ le. omega arith) is.behind;
      place = leads_as (is_comm r) (byte_in r (run_to r x).start) (place_in r (run_to r x).start) x.start left.no_comm (omega arith);
      comm = sym left.no_comm;
      rights = refl;
      page = refl;
    }
  where
    before_run : (at : ℕ) → at + 1 ≡ (run_to r x).start → is_granted closed r at ≡ false
    before_run at e = ⊎_elim
        (λ (has : has_address r at ≡ true).
        let at_low = has_address_first r at has in
        granted_is closed r ranges at left has ∙ is.before (place_in r at) (omega arith))
        (λ (lacks : has_address r at ≡ false). and_left (has_address r at) (is_comm r || not (closed (place_in r at))) lacks)
        (cases_Bool (has_address r at))

-- the run of an address that is granted
told_at : (closed : ℕ → Bool) (r : Region) (ranges : List Range) (at : ℕ) → AreLeft closed r ranges → All (λ (x : Range). (r.phys_start ≤ x.start) × (x.end ≤ phys_end r)) ranges → is_granted closed r at ≡ true → IsInRun closed (map (run_to r) ranges) r at
told_at closed r ranges at left own granted =
    let has = granted_has closed r at granted in
    let low = has_address_first r at has in
    let found = IsFound_from_list_any (λ (x : Range). in_range x (place_in r at)) ranges (sym (granted_is closed r ranges at left has) ∙ granted) in
    let x : Range = found.0 in
    let held = found.1.among in
    let first = range_low x (place_in r at) found.1.passes in
    let last = range_high x (place_in r at) found.1.passes in
    let P : Range → Type 0 = λ y. IsRunOf closed r (run_to r y) in
    let Q : Range → Type 0 = λ y. r.phys_start ≤ y.start in
    let ends = own held.0 x held.1 in
    let start : r.phys_start ≤ x.start = subst Q held.2 ends.0 in
    record {
      run = run_to r x;
      among = Contains_map (run_to r) ranges x held;
      of = subst P held.2 (run_of closed r ranges (get_or ranges held.0 x) left (one_of ranges held.0 x left.apart held.1) ends.0 ends.1);
      has = record { first = omega arith; last = omega arith };
    }

-- the runs of the ranges are the region's map
pub ranges_map : (closed : ℕ → Bool) (r : Region) (ranges : List Range) → AreLeft closed r ranges → All (λ (x : Range). (r.phys_start ≤ x.start) × (x.end ≤ phys_end r)) ranges → IsMap closed (r ∷ []) (map (run_to r) ranges)
ranges_map closed r ranges left own = record {
  own = All-map (IsRunIn closed (r ∷ [])) (run_to r) ranges
      (λ k d kl. record { region = r; among = Contains_head r []; of = run_of closed r ranges (get_or ranges k d) left (one_of ranges k d left.apart kl) (own k d kl).0 (own k d kl).1 });
  whole = λ s at held granted.
      let same = alone r s held in
      let P : Region → Type 0 = λ y. is_granted closed y at ≡ true in
      let Q : Region → Type 0 = λ y. IsInRun closed (map (run_to r) ranges) y at in
      subst Q same (told_at closed r ranges at left own (subst P (sym same) granted));
  order = λ i j d lt jl. ordered i j d lt jl;
}
  where
    some_range : (xs : List Range) (k : ℕ) → k < length xs → Range
    some_range [] k kl = absurd (omega arith)
    some_range (x ∷ xs) k kl = x

    in_order : (k m : ℕ) (d : Range) → k < m → m < length ranges → EndsBefore (run_to r (get_or ranges k d)) (run_to r (get_or ranges m d))
    in_order k m d lt ml =
        let apart = ends_before 0 ranges k m d left.apart lt ml in
        omega arith

    ordered : AllPairs EndsBefore (map (run_to r) ranges)
    ordered i j e lt jl =
        let n : length (map (run_to r) ranges) ≡ length ranges = length-map ranges (run_to r) in
        let jr : j < length ranges = omega arith in
        let d = some_range ranges j jr in
        let P : Run → Type 0 = λ x. EndsBefore x (get_or (map (run_to r) ranges) j e) in
        let Q : Run → Type 0 = λ y. EndsBefore (run_to r (get_or ranges i d)) y in
        subst P (sym (get_or-map (run_to r) ranges i d e (omega arith))) (subst Q (sym (get_or-map (run_to r) ranges j d e jr)) (in_order i j d lt jr))
