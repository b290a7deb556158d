-- Lists of views and hands, read at a place.
use Rattle.std.proofs.Common.{◌≡◌, ◌≢◌, ◌⊎◌, ℕ, zero, suc, ◌<◌, List, [], ◌∷◌, ◌++◌, length, get_or, set, Contains, refl, ap, sym, subst, ◌∙◌, inl, inr, ⊎_elim, arith}
use mathlib.Core.Option.{some, some-injective, some-ne-none}
use lib.ListN.{get_elem?}
use Rattle.atomic_table.proofs.Lists.{at_set}

module _ {A : Type 0} where
  -- what stands at a place is within the list
  pub inside : (l : List A) (i : ℕ) (a : A) → get_elem? l i ≡ some a → i < length l
  inside [] i a e = absurd (some-ne-none a (sym e))
  inside (x ∷ xs) zero a e = omega arith
  inside (x ∷ xs) (suc i) a e = let more = inside xs i a e in omega arith

  -- each place after one was written
  pub seats_stay : (K : ℕ → A → Type 0) (vs : List A) (me : ℕ) (w : A) → K me w → ((j : ℕ) (v : A) → j ≢ me → get_elem? vs j ≡ some v → K j v)
      → (j : ℕ) (v : A) → get_elem? (set vs me w) j ≡ some v → K j v
  seats_stay K vs me w mine others j v e = ⊎_elim (λ (t : (j ≡ me) × (w ≡ v)). subst (λ (x : ℕ × A). K x.0 x.1) (λ i. (sym t.0 i, t.1 i)) mine)
      (λ (t : (j ≢ me) × (get_elem? vs j ≡ some v)). others j v t.0 t.1) (at_set vs me j w v e)

  -- the last place, and those before
  pub at_end : (l : List A) (a b : A) (j : ℕ) → get_elem? (l ++ a ∷ []) j ≡ some b → (get_elem? l j ≡ some b) ⊎ ((j ≡ length l) × (a ≡ b))
  at_end [] a b zero e = inr (refl, some-injective a b e)
  at_end [] a b (suc j) e = absurd (some-ne-none b (sym e))
  at_end (x ∷ xs) a b zero e = inl e
  at_end (x ∷ xs) a b (suc j) e = ⊎_elim (λ t. inl t) (λ t. inr (ap suc t.0, t.1)) (at_end xs a b j e)

  pub one_there : (l : List A) (i : ℕ) (a b : A) → get_elem? l i ≡ some a → get_elem? l i ≡ some b → a ≡ b
  one_there l i a b e f = some-injective a b (sym e ∙ f)

  one_place : (x y : A) (k : ℕ) → k < length (x ∷ []) → get_or (x ∷ []) k y ≡ y → y ≡ x
  one_place x y zero l e = sym e
  one_place x y (suc k) l e = absurd (omega arith)

  -- the list of one
  pub contains_one : (x y : A) → Contains (x ∷ []) y → y ≡ x
  contains_one x y c = one_place x y c.0 c.1 c.2

  pub contains_none : (y : A) → Contains [] y → ⊥
  contains_none y c = let l = c.1 in omega arith

  -- the only place
  pub only_seat : (K : ℕ → A → Type 0) (a : A) → K 0 a → (j : ℕ) (b : A) → get_elem? (a ∷ []) j ≡ some b → K j b
  only_seat K a first zero b e = subst (K 0) (some-injective a b e) first
  only_seat K a first (suc j) b e = absurd (some-ne-none b (sym e))

  -- each place after one was written and another added
  pub seats_and_one : (K : ℕ → A → Type 0) (vs : List A) (me : ℕ) (w new : A) → K me w → ((j : ℕ) (v : A) → j ≢ me → get_elem? vs j ≡ some v → K j v) → K (length (set vs me w)) new
      → (j : ℕ) (v : A) → get_elem? (set vs me w ++ new ∷ []) j ≡ some v → K j v
  seats_and_one K vs me w new mine others last j v e = ⊎_elim (seats_stay K vs me w mine others j v)
      (λ (t : (j ≡ length (set vs me w)) × (new ≡ v)). subst (λ (x : ℕ × A). K x.0 x.1) (λ i. (sym t.0 i, t.1 i)) last) (at_end (set vs me w) new v j e)
