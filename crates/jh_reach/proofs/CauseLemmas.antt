-- So many addresses have no places exactly where one has none.
use Rattle.std.proofs.Common.{◌≡◌, ℕ, ◌+◌, ◌<◌, ◌≤◌, ◌⊎◌, inl, inr, zero, suc, if◌then◌else◌, Bool, List, ◌∷◌, Option, Some, None, refl, sym, ap, subst, ◌∙◌, arith}
use Rattle.std.specs.Option.{option_map, option_and_then}
use Rattle.std.proofs.lemmas.Bool.{cases_lt, le-leb, lt-leb}
use Rattle.jh_num.specs.declared.address.TheConstants.{ADDRESS_END}
use Rattle.jh_reach.specs.declared.access.Access.{Access}
use Rattle.jh_reach.specs.Places.{Sight, LacksPlace, place_given, places_from, places_given}

none_inside : (p : ℕ) (o : Option (List ℕ)) → option_map (λ (ps : List ℕ). p ∷ ps) o ≡ None → o ≡ None
none_inside p None is = refl
none_inside p (Some ps) is = cc

missing_by : (f : ℕ → Option ℕ) (at n : ℕ) (o : Option ℕ) → f at ≡ o → option_and_then (λ (p : ℕ). option_map (λ (ps : List ℕ). p ∷ ps) (places_from f (at + 1) n)) o ≡ None → (places_from f (at + 1) n ≡ None → (k : ℕ) × ((k < n) × (f (at + 1 + k) ≡ None))) → (k : ℕ) × ((k < suc n) × (f (at + k) ≡ None))
missing_by f at n None is none rest = let here : at ≡ at + 0 = omega arith in (0, (omega arith, subst (λ i. f i ≡ None) here is))
missing_by f at n (Some p) is none rest =
    let later = rest (none_inside p (places_from f (at + 1) n) none) in
    let less : later.0 < n = later.1.0 in
    let there : at + 1 + later.0 ≡ at + suc later.0 = omega arith in
    (suc later.0, (omega arith, subst (λ i. f i ≡ None) there later.1.1))

pub missing : (f : ℕ → Option ℕ) (at n : ℕ) → places_from f at n ≡ None → (k : ℕ) × ((k < n) × (f (at + k) ≡ None))
missing f at zero none = cc
missing f at (suc n) none = missing_by f at n (f at) refl none (λ later. missing f (at + 1) n later)

past_none : (o : Option ℕ) (whole : Option (List ℕ)) → whole ≡ None → option_and_then (λ (p : ℕ). option_map (λ (ps : List ℕ). p ∷ ps) whole) o ≡ None
past_none None whole is = refl
past_none (Some p) whole is = ap (option_map (λ (ps : List ℕ). p ∷ ps)) is

pub lacking : (f : ℕ → Option ℕ) (at n k : ℕ) → k < n → f (at + k) ≡ None → places_from f at n ≡ None
lacking f at zero k less none = absurd (omega arith)
lacking f at (suc n) zero less none =
    let here : at + 0 ≡ at = omega arith in
    ap (option_and_then (λ (p : ℕ). option_map (λ (ps : List ℕ). p ∷ ps) (places_from f (at + 1) n))) (subst (λ i. f i ≡ None) here none)
lacking f at (suc n) (suc k) less none =
    let there : at + suc k ≡ at + 1 + k = omega arith in
    past_none (f at) (places_from f (at + 1) n) (lacking f (at + 1) n k (omega arith) (subst (λ i. f i ≡ None) there none))

pub within_given : (s : Sight) (access : Access) → access.at + access.width ≤ ADDRESS_END → places_given s access ≡ places_from (place_given s access.needs) access.at access.width
within_given s access within = ap (λ (b : Bool). if b then places_from (place_given s access.needs) access.at access.width else None) (le-leb (access.at + access.width) ADDRESS_END within)

pub beyond_given : (s : Sight) (access : Access) → ADDRESS_END < access.at + access.width → places_given s access ≡ None
beyond_given s access beyond = ap (λ (b : Bool). if b then places_from (place_given s access.needs) access.at access.width else None) (lt-leb (access.at + access.width) ADDRESS_END beyond)

lacks : (s : Sight) (access : Access) → places_from (place_given s access.needs) access.at access.width ≡ None → LacksPlace s access
lacks s access none = let byte = missing (place_given s access.needs) access.at access.width none in record { byte = byte.0; within = byte.1.0; none = byte.1.1 }

pub cause_of : (s : Sight) (access : Access) → places_given s access ≡ None → (ADDRESS_END < access.at + access.width) ⊎ LacksPlace s access
cause_of s access none = elim (cases_lt ADDRESS_END (access.at + access.width)) [
  | inl beyond ↦ inl beyond
  | inr within ↦ inr (lacks s access (sym (within_given s access within) ∙ none))
]

pub caused : (s : Sight) (access : Access) → (ADDRESS_END < access.at + access.width) ⊎ LacksPlace s access → places_given s access ≡ None
caused s access (inl beyond) = beyond_given s access beyond
caused s access (inr lacks) = elim (cases_lt ADDRESS_END (access.at + access.width)) [
  | inl beyond ↦ beyond_given s access beyond
  | inr within ↦ within_given s access within ∙ lacking (place_given s access.needs) access.at access.width lacks.byte lacks.within lacks.none
]

-- where all have places, each has one
place_by : (f : ℕ → Option ℕ) (at n k : ℕ) (o : Option ℕ) → f (at + k) ≡ o → k < n → (places_from f at n ≡ None → ⊥) → (p : ℕ) × (f (at + k) ≡ Some p)
place_by f at n k None is less some = absurd (some (lacking f at n k less is))
place_by f at n k (Some p) is less some = (p, is)

pub place_of : (f : ℕ → Option ℕ) (at n k : ℕ) (ps : List ℕ) → places_from f at n ≡ Some ps → k < n → (p : ℕ) × (f (at + k) ≡ Some p)
place_of f at n k ps is less = place_by f at n k (f (at + k)) refl less (λ none. let wrong : Some ps ≡ None = sym is ∙ none in cc)
