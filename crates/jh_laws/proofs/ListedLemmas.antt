-- Places that are told by their index.
use Rattle.std.proofs.Common.{inl, inr, ◌≡◌, ◌≢◌, ℕ, zero, suc, ◌+◌, ◌/◌, ◌%◌, ◌^◌, ◌<◌, List, [], ◌∷◌, Option, Some, None, refl, sym, ap, ◌∙◌, add-one, eqb, Bool, true, false, cond, arith, ◌*◌, map}
use Rattle.std.specs.Prelude.{option_map, option_and_then}
use Rattle.std.proofs.lemmas.Bool.{eqb-true, and_parts, and_from, cases_Bool, false≢true}
use Rattle.std.proofs.lemmas.Option.{none-some}
use Rattle.std.proofs.Math.Nat.{pow-succ', div-one, div-div-eq-div-mul}
use Rattle.jh_num.proofs.Public.{same_number, little_endian_first}
use Rattle.jh_num.specs.Memory.{spelled, little_endian}
use Rattle.jh_history.specs.declared.place.Place.{Place}
use Rattle.jh_history.specs.declared.place.Place.TheVariants.{Physical, Page}
use Rattle.jh_history.specs.Places.{is_same, overlaid}
use Rattle.jh_history.specs.Access.{places_from}

-- the first so many places
abbrev pub listed : {P : Type 0} → (ℕ → P) → ℕ → List P
listed place zero = []
listed place (suc count) = place 0 ∷ listed (λ k. place (k + 1)) count

-- what the bytes at the places spell
pub spelled_listed : {P : Type 0} (byte : P → ℕ) (place : ℕ → P) (count : ℕ) → spelled (map byte (listed place count)) ≡ little_endian count (λ k. byte (place k))
spelled_listed byte place zero = refl
spelled_listed byte place (suc count) =
    ap (λ (n : ℕ). byte (place 0) + 256 * n) (spelled_listed byte (λ k. place (k + 1)) count) ∙ sym (little_endian_first count (λ k. byte (place k)))

-- where each address has its place, these are the places
pub places_from_listed : (f : ℕ → Option Place) (place : ℕ → Place) (at count : ℕ) → ((k : ℕ) → k < count → f (at + k) ≡ Some (place k)) → places_from f at count ≡ Some (listed place count)
places_from_listed f place at zero each = refl
places_from_listed f place at (suc count) each =
    let here : f at ≡ Some (place 0) = (let e : at ≡ at + 0 = omega arith in ap f e) ∙ each 0 (omega arith) in
    let rest : places_from f (at + 1) count ≡ Some (listed (λ k. place (k + 1)) count) = places_from_listed f (λ k. place (k + 1)) (at + 1) count
    (λ k lt. (let e : (at + 1) + k ≡ at + (k + 1) = omega arith in ap f e) ∙ each (k + 1) (omega arith)) in
    rw (here, rest) refl

-- where there are places, each address has one
one_of : (f : ℕ → Option Place) (at count : ℕ) (ps : List Place) (o : Option Place) (os : Option (List Place)) → f at ≡ o → places_from f (at + 1) count ≡ os
    → ((qs : List Place) → places_from f (at + 1) count ≡ Some qs → (k : ℕ) → k < count → (p : Place) × (f ((at + 1) + k) ≡ Some p))
    → option_and_then (λ (p : Place). option_map (λ (qs : List Place). p ∷ qs) os) o ≡ Some ps → (k : ℕ) → k < suc count → (p : Place) × (f (at + k) ≡ Some p)
one_of f at count ps None os is_o is_os rest e k lt = absurd (none-some ps e)
one_of f at count ps (Some p) None is_o is_os rest e k lt = absurd (none-some ps e)
one_of f at count ps (Some p) (Some qs) is_o is_os rest e zero lt = (p, (let same : at + 0 ≡ at = omega arith in ap f same) ∙ is_o)
one_of f at count ps (Some p) (Some qs) is_o is_os rest e (suc k) lt =
    let found = rest qs is_os k (omega arith) in
    (found.0, (let same : at + suc k ≡ (at + 1) + k = omega arith in ap f same) ∙ found.1)

pub places_from_each : (f : ℕ → Option Place) (at count : ℕ) (ps : List Place) → places_from f at count ≡ Some ps → (k : ℕ) → k < count → (p : Place) × (f (at + k) ≡ Some p)
places_from_each f at zero ps e k lt = absurd (omega arith)
places_from_each f at (suc count) ps e k lt = one_of f at count ps (f at) (places_from f (at + 1) count) refl refl (λ qs h i below. places_from_each f (at + 1) count qs h i below) e k lt

-- where each address has a place, there are places
pub places_from_some : (f : ℕ → Option Place) (at count : ℕ) → ((k : ℕ) → k < count → (p : Place) × (f (at + k) ≡ Some p)) → (ps : List Place) × (places_from f at count ≡ Some ps)
places_from_some f at zero each = ([], refl)
places_from_some f at (suc count) each =
    let first = each 0 (omega arith) in
    let here : f at ≡ Some first.0 = (let e : at ≡ at + 0 = omega arith in ap f e) ∙ first.1 in
    let rest = places_from_some f (at + 1) count (λ k lt. ((each (k + 1) (omega arith)).0, (let e : (at + 1) + k ≡ at + (k + 1) = omega arith in ap f e) ∙ (each (k + 1) (omega arith)).1)) in
    let others : places_from f (at + 1) count ≡ Some rest.0 = rest.1 in
    (first.0 ∷ rest.0, rw (here, others) refl)

-- a test for one place
pub same_place : (p q : Place) → is_same p q ≡ true → p ≡ q
same_place (Physical p) (Physical q) h = ap Physical (eqb-true p q h)
same_place (Physical p) (Page cell offset) h = absurd (false≢true h)
same_place (Page cell offset) (Physical q) h = absurd (false≢true h)
same_place (Page cell offset) (Page other at) h =
    let parts = and_parts (eqb cell other) (eqb offset at) h in
    ap (λ (c : ℕ). Page c offset) (eqb-true cell other parts.0) ∙ ap (Page other) (eqb-true offset at parts.1)

is_same_self : (p : Place) → is_same p p ≡ true
is_same_self (Physical p) = same_number p
is_same_self (Page cell offset) = and_from (eqb cell cell) (eqb offset offset) (same_number cell) (same_number offset)

is_same_eq : (p q : Place) → p ≡ q → is_same p q ≡ true
is_same_eq p q e = ap (is_same p) (sym e) ∙ is_same_self p

is_same_ne : (p q : Place) → p ≢ q → is_same p q ≡ false
is_same_ne p q ne = elim (cases_Bool (is_same p q)) [
  | inl alike ↦ absurd (ne (same_place p q alike))
  | inr unlike ↦ unlike
]

-- the first place, written or not
one_over : (place : ℕ → Place) (count value : ℕ) (q : Place) (b : ℕ) (t : Bool) → is_same q (place 0) ≡ t
    → overlaid (listed place (suc count)) value q b ≡ overlaid (listed (λ k. place (k + 1)) count) (value / 256) q (cond t (value % 256) b)
one_over place count value q b t e = ap (λ (t' : Bool). overlaid (listed (λ k. place (k + 1)) count) (value / 256) q (cond t' (value % 256) b)) e

-- a place that isn't one of those written keeps its byte
pub over_other : (place : ℕ → Place) (count value : ℕ) (q : Place) (b : ℕ) → ((k : ℕ) → k < count → q ≢ place k) → overlaid (listed place count) value q b ≡ b
over_other place zero value q b other = refl
over_other place (suc count) value q b other =
    one_over place count value q b false (is_same_ne q (place 0) (other 0 (omega arith)))
    ∙ over_other (λ k. place (k + 1)) count (value / 256) q b (λ k lt. other (k + 1) (omega arith))

-- the place of index k gets byte k of the value
pub over_at : (place : ℕ → Place) (count value : ℕ) (q : Place) (b k : ℕ) → k < count → q ≡ place k → ((j : ℕ) → j < count → q ≡ place j → j ≡ k) → overlaid (listed place count) value q b ≡ value / 256 ^ k % 256
over_at place zero value q b k lt same only = absurd (omega arith)
over_at place (suc count) value q b zero lt same only =
    let whole : value / 256 ^ zero ≡ value = div-one value in
    one_over place count value q b true (is_same_eq q (place 0) same)
    ∙ over_other (λ k. place (k + 1)) count (value / 256) q (value % 256) (λ k lt' h. let e : k + 1 ≡ zero = only (k + 1) (omega arith) h in absurd (omega arith))
    ∙ ap (λ (n : ℕ). n % 256) (sym whole)
over_at place (suc count) value q b (suc k) lt same only =
    let ne : is_same q (place 0) ≡ false = is_same_ne q (place 0) (λ h. let e : 0 ≡ suc k = only 0 (omega arith) h in absurd (omega arith)) in
    let part : value / 256 / 256 ^ k ≡ value / 256 ^ suc k = div-div-eq-div-mul value 256 (256 ^ k) ∙ ap (λ (n : ℕ). value / n) (sym (pow-succ' 256 k)) in
    let next : q ≡ place (k + 1) = same ∙ ap place (sym (add-one k)) in
    let rest : overlaid (listed (λ k. place (k + 1)) count) (value / 256) q b ≡ value / 256 / 256 ^ k % 256 = over_at (λ k. place (k + 1)) count (value / 256) q b k (omega arith) next
    (λ j below h. let e : j + 1 ≡ suc k = only (j + 1) (omega arith) h in omega arith) in
    one_over place count value q b false ne ∙ rest ∙ ap (λ (n : ℕ). n % 256) part
