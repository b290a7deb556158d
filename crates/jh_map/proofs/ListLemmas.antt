-- Pairs of a list that is put in another order, and of two lists one behind the other.
use Rattle.std.proofs.Common.{◌≡◌, ℕ, ◌+◌, ◌-◌, ◌<◌, ◌≤◌, List, ◌++◌, length, get_or, refl, sym, ap, subst, ◌∙◌, inl, inr, ◌⊎◌, ⊎_elim, arith}
use Rattle.std.specs.Prelude.{AllPairs}
use Rattle.std.specs.List.{swap}
use Rattle.std.specs.List.Sorted.{IsPermutation}
use Rattle.std.proofs.lemmas.Bool.{cases_eq, cases_lt, cases_order}
use Rattle.std.proofs.lemmas.List.{get_or_append_left, get_or-append_right, length-append}
use Rattle.std.proofs.lemmas.List.Edits.{swapped_from_swap, length-swap}
use Rattle.std.proofs.lemmas.List.Sorted.{IsPermutation-keeps}

-- what stands at m after a swap of a and b stood at n
Stood : (a b m n : ℕ) → Type 0
Stood a b m n = ((m ≡ a) × (n ≡ b)) ⊎ (((m ≡ b) × (n ≡ a)) ⊎ ((n ≡ m) × (m ≡ a → ⊥) × (m ≡ b → ⊥)))

stood_apart : (a b m n k l : ℕ) → Stood a b m n → Stood a b k l → (m ≡ k → ⊥) → n ≡ l → ⊥
unfolding Stood
stood_apart a b m n k l one other ne e = ne (grind arith)

record StoodAt {X : Type 0} (xs ys : List X) (a b m : ℕ) (d : X) : Type 0 where
  n : ℕ
  within : n < length xs
  is : get_or ys m d ≡ get_or xs n d
  moved : Stood a b m n

stood_at : {X : Type 0} (xs : List X) (a b m : ℕ) (d : X) → a < length xs → b < length xs → m < length xs → StoodAt xs (swap xs a b) a b m d
unfolding Stood
stood_at xs a b m d al bl ml =
    let s = swapped_from_swap xs (swap xs a b) a b d al bl refl in
    ⊎_elim
    (λ (e : m ≡ a). record { n = b; within = bl; is = ap (λ k. get_or (swap xs a b) k d) e ∙ s.0; moved = inl (e, refl) })
    (λ (na : m ≡ a → ⊥). ⊎_elim
    (λ (e : m ≡ b). record { n = a; within = al; is = ap (λ k. get_or (swap xs a b) k d) e ∙ s.1; moved = inr (inl (e, refl)) })
    (λ (nb : m ≡ b → ⊥). record { n = m; within = ml; is = s.2 m na nb; moved = inr (inr (refl, na, nb)) })
    (cases_eq m b))
    (cases_eq m a)

-- R holds of each two elements at different places
AreApart : {X : Type 0} → (X → X → Type 0) → List X → Type 0
AreApart {X} R xs = (i j : ℕ) (d : X) → i < length xs → j < length xs → (i ≡ j → ⊥) → R (get_or xs i d) (get_or xs j d)

apart_swapped : {X : Type 0} (R : X → X → Type 0) (xs : List X) (a b : ℕ) → a < length xs → b < length xs → AreApart R xs → AreApart R (swap xs a b)
unfolding AreApart
apart_swapped {X} R xs a b al bl apart i j d il jl ne =
    let n : length (swap xs a b) ≡ length xs = length-swap xs a b in
    let one = stood_at xs a b i d al bl (omega arith) in
    let other = stood_at xs a b j d al bl (omega arith) in
    let P : X → Type 0 = λ x. R x (get_or (swap xs a b) j d) in
    let Q : X → Type 0 = λ y. R (get_or xs one.n d) y in
    subst P (sym one.is) (subst Q (sym other.is) (apart one.n other.n d one.within other.within (stood_apart a b i one.n j other.n one.moved other.moved ne)))

-- a relation that goes both ways holds of each two elements whatever their order
pub all_pairs_moved : {X : Type 0} (R : X → X → Type 0) → ((x y : X) → R x y → R y x) → (xs ys : List X) → IsPermutation xs ys → AllPairs R xs → AllPairs R ys
unfolding AreApart
all_pairs_moved {X} R flip xs ys moved pairs =
    let both : AreApart R xs = λ i j d il jl ne. ⊎_elim (λ (e : i ≡ j). absurd (ne e)) (λ o. ⊎_elim (λ (lt : i < j). pairs i j d lt jl) (λ (lt : j < i). flip (get_or xs j d) (get_or xs i d) (pairs j i d lt il)) o) (cases_order i j) in
    let kept = IsPermutation-keeps xs (AreApart R) both (λ l i j il jl apart. apart_swapped R l i j il jl apart) ys moved in
    λ i j d lt jl. kept i j d (omega arith) jl (omega arith)

-- the pairs of one list, those of another, and each of the one with each of the other
pub all_pairs_append : {X : Type 0} (R : X → X → Type 0) (xs ys : List X) → AllPairs R xs → AllPairs R ys → ((i j : ℕ) (d : X) → i < length xs → j < length ys → R (get_or xs i d) (get_or ys j d)) → AllPairs R (xs ++ ys)
all_pairs_append {X} R xs ys one other both i j d lt jl =
    let n : length (xs ++ ys) ≡ length xs + length ys = length-append xs ys in
    ⊎_elim
    (λ (jx : j < length xs).
    let P : X → Type 0 = λ x. R x (get_or (xs ++ ys) j d) in
    let Q : X → Type 0 = λ y. R (get_or xs i d) y in
    subst P (sym (get_or_append_left xs ys d i (omega arith))) (subst Q (sym (get_or_append_left xs ys d j jx)) (one i j d lt jx)))
    (λ (jy : length xs ≤ j).
    let Q : X → Type 0 = λ y. R (get_or (xs ++ ys) i d) y in
    subst Q (sym (get_or-append_right xs ys (length xs) j d refl jy))
    (⊎_elim
    (λ (ix : i < length xs).
    let P : X → Type 0 = λ x. R x (get_or ys (j - length xs) d) in
    subst P (sym (get_or_append_left xs ys d i ix)) (both i (j - length xs) d ix (omega arith)))
    (λ (iy : length xs ≤ i).
    let P : X → Type 0 = λ x. R x (get_or ys (j - length xs) d) in
    subst P (sym (get_or-append_right xs ys (length xs) i d refl iy)) (other (i - length xs) (j - length xs) d (omega arith) (omega arith)))
    (cases_lt i (length xs))))
    (cases_lt j (length xs))
