-- The places of addresses that follow one another: by two stretches, in a row, or none; and what an access
-- reaches by them.
use Rattle.std.proofs.Common.{◌≡◌, ℕ, zero, suc, ◌+◌, ◌<◌, ◌≤◌, List, [], ◌∷◌, ◌++◌, Option, Some, None, refl, ap, sym, ◌∙◌, arith}
use Rattle.std.specs.Prelude.{option_map, option_and_then}
use Rattle.std.proofs.lemmas.Grind.{common_steps}
use Rattle.jh_num.specs.declared.address.TheConstants.{ADDRESS_END}
use Rattle.jh_history.specs.declared.place.Place.{Place}
use Rattle.jh_history.specs.declared.access.Reach.TheVariants.{Nothing}
use Rattle.jh_history.specs.Places.{further, places_in_row}
use Rattle.jh_history.specs.Access.{places_from, memory_or_nothing, reach_by}
use Rattle.jh_history.proofs.PlaceLemmas.{further_none, further_next}

abbrev MaybePlaces : Type 0
MaybePlaces = Option (List Place)

-- the places of two stretches, one behind the other
abbrev both : MaybePlaces → MaybePlaces → MaybePlaces
both low high = option_and_then (λ (ps : List Place). option_map (λ (qs : List Place). ps ++ qs) high) low

both_one : (p : Place) (low high : MaybePlaces) → option_map (λ (ps : List Place). p ∷ ps) (both low high) ≡ both (option_map (λ (ps : List Place). p ∷ ps) low) high
both_one p None high = refl
both_one p (Some ps) None = refl
both_one p (Some ps) (Some qs) = refl

split_by : (o : Option Place) (low high whole : MaybePlaces) → whole ≡ both low high
    → option_and_then (λ (p : Place). option_map (λ (ps : List Place). p ∷ ps) whole) o ≡ both (option_and_then (λ (p : Place). option_map (λ (ps : List Place). p ∷ ps) low) o) high
split_by None low high whole e = refl
split_by (Some p) low high whole e = ap (option_map (λ (ps : List Place). p ∷ ps)) e ∙ both_one p low high

nil_both : (high : MaybePlaces) → high ≡ both (Some []) high
nil_both None = refl
nil_both (Some qs) = refl

pub places_from_split : (f : ℕ → Option Place) (at m n : ℕ) → places_from f at (m + n) ≡ both (places_from f at m) (places_from f (at + m) n)
places_from_split f at zero n =
    let count : 0 + n ≡ n = omega arith in
    let next : at + 0 ≡ at = omega arith in
    rw (count, next) (nil_both (places_from f at n))
places_from_split f at (suc m) n =
    let count : suc m + n ≡ suc (m + n) = omega arith in
    let next : at + suc m ≡ (at + 1) + m = omega arith in
    rw (count, next) (split_by (f at) (places_from f (at + 1) m) (places_from f ((at + 1) + m) n) (places_from f (at + 1) (m + n)) (places_from_split f (at + 1) m n))

-- where each address has the place so many further, these are in a row
pub places_from_row : (f : ℕ → Option Place) (p : Place) (at count : ℕ) → ((k : ℕ) → k < count → f (at + k) ≡ Some (further p k)) → places_from f at count ≡ Some (places_in_row p count)
places_from_row f p at zero each = refl
places_from_row f p at (suc count) each =
    let here : f at ≡ Some p = (let e : at ≡ at + 0 = omega arith in ap f e) ∙ each 0 (omega arith) ∙ ap Some (further_none p) in
    let rest : places_from f (at + 1) count ≡ Some (places_in_row (further p 1) count) = places_from_row f (further p 1) (at + 1) count
    (λ k lt. (let e : (at + 1) + k ≡ at + (k + 1) = omega arith in ap f e) ∙ each (k + 1) (omega arith) ∙ ap Some (sym (further_next p k))) in
    rw (here, rest) refl

-- where the first address has none
pub places_from_none : (f : ℕ → Option Place) (at count : ℕ) → 0 < count → f at ≡ None → places_from f at count ≡ None
places_from_none f at zero some none = absurd (omega arith)
places_from_none f at (suc count) some none = rw none refl

pub reach_by_within : (place : ℕ → Option Place) (at width : ℕ) → at + width ≤ ADDRESS_END → reach_by place at width ≡ memory_or_nothing (places_from place at width)
unfolding reach_by
reach_by_within place at width h = grind (arith, common_steps)

pub reach_by_beyond : (place : ℕ → Option Place) (at width : ℕ) → ADDRESS_END < at + width → reach_by place at width ≡ Nothing
unfolding reach_by
reach_by_beyond place at width h = grind (arith, common_steps)

-- the places of two stretches, where there are both, and where one lacks some
pub places_from_both : (place : ℕ → Option Place) (at width low high : ℕ) (ps qs : List Place) → width ≡ low + high
    → Some ps ≡ places_from place at low → Some qs ≡ places_from place (at + low) high → Some (ps ++ qs) ≡ places_from place at width
places_from_both place at width low high ps qs e is_low is_high = rw (e, places_from_split, ← is_low, ← is_high) refl

pub places_from_no_low : (place : ℕ → Option Place) (at width low high : ℕ) → width ≡ low + high → None ≡ places_from place at low → None ≡ places_from place at width
places_from_no_low place at width low high e none = rw (e, places_from_split, ← none) refl

pub places_from_no_high : (place : ℕ → Option Place) (at width low high : ℕ) (ps : List Place) → width ≡ low + high
    → Some ps ≡ places_from place at low → None ≡ places_from place (at + low) high → None ≡ places_from place at width
places_from_no_high place at width low high ps e is_low none = rw (e, places_from_split, ← is_low, ← none) refl

-- what is reached within the addresses
pub reach_by_places : (place : ℕ → Option Place) (at width : ℕ) (o : Option (List Place)) → at + width ≤ ADDRESS_END → o ≡ places_from place at width → memory_or_nothing o ≡ reach_by place at width
reach_by_places place at width o within is = ap memory_or_nothing is ∙ sym (reach_by_within place at width within)
