-- The element of a list that is found.
use Rattle.std.proofs.Common.{◌≡◌, ℕ, zero, suc, ◌<◌, Bool, true, cond, List, [], ◌∷◌, length, get_or, Some, refl, ap, ◌∙◌, inl, inr, arith}
use Rattle.std.specs.List.{find, Contains}
use Rattle.std.proofs.lemmas.Bool.{cases_Bool}
use Rattle.jh_num.proofs.Public.{Contains_head, Contains_tail}

-- no two elements pass
abbrev pub IsOnly : {X : Type 0} → (X → Bool) → List X → Type 0
IsOnly {X} p xs = (j k : ℕ) (d : X) → j < k → k < length xs → p (get_or xs j d) ≡ true → p (get_or xs k d) ≡ true → ⊥

only_later : {X : Type 0} (p : X → Bool) (y : X) (ys : List X) → IsOnly p (y ∷ ys) → IsOnly p ys
only_later p y ys only j k d lt within at_j at_k = only (suc j) (suc k) d (omega arith) (omega arith) at_j at_k

-- the one element that passes is found
pub find_only : {X : Type 0} (p : X → Bool) (xs : List X) (i : ℕ) (d : X) → i < length xs → p (get_or xs i d) ≡ true → IsOnly p xs → find p xs ≡ Some (get_or xs i d)
find_only p [] i d lt passes only = absurd (omega arith)
find_only p (y ∷ ys) zero d lt passes only = rw passes refl
find_only p (y ∷ ys) (suc i) d lt passes only = elim (cases_Bool (p y)) [
  | inl first ↦ absurd (only 0 (suc i) d (omega arith) lt first passes)
  | inr other ↦ rw other (find_only p ys i d (omega arith) passes (only_later p y ys only))
]

-- two tests that agree on the elements
pub find_agree : {X : Type 0} (p q : X → Bool) (xs : List X) → ((x : X) → Contains xs x → p x ≡ q x) → find p xs ≡ find q xs
find_agree p q [] h = refl
find_agree p q (y ∷ ys) h =
    ap (λ b. cond b (Some y) (find p ys)) (h y (Contains_head y ys))
    ∙ ap (λ o. cond (q y) (Some y) o) (find_agree p q ys (λ x k. h x (Contains_tail y ys x k)))
