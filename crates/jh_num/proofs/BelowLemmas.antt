-- Sums of which one term changes or each is compared, and tests of all numbers below a bound.
use Rattle.std.proofs.Common.{◌≡◌, ◌≢◌, ℕ, ◌+◌, ◌<◌, ◌≤◌, ◌⊎◌, Bool, true, false, ◌||◌, inl, inr, zero, suc, ◌∙◌, sym, subst, arith, refl}
use Rattle.std.proofs.lemmas.Bool.{cases_eq, cases_lt, false≢true, or_cases, or_from, or_left, or_right}
use Rattle.jh_num.specs.Below.{sum_below, any_below}

-- ---- sums

pub sum_same : (n : ℕ) (f g : ℕ → ℕ) → ((i : ℕ) → i < n → f i ≡ g i) → sum_below n f ≡ sum_below n g
unfolding sum_below
sum_same zero f g e = refl
sum_same (suc n) f g e =
    let rest : sum_below n f ≡ sum_below n g = sum_same n f g (λ i lt. e i (omega arith)) in
    let last : f n ≡ g n = e n (omega arith) in omega arith

moves_by_cases : (n : ℕ) (f g : ℕ → ℕ) (i a b : ℕ) → i < suc n → g i + a ≡ f i + b → ((j : ℕ) → j < suc n → j ≢ i → g j ≡ f j) → (i < n → sum_below n g + a ≡ sum_below n f + b) → (n ≡ i) ⊎ (n ≡ i → ⊥) → (sum_below n g + g n) + a ≡ (sum_below n f + f n) + b
moves_by_cases n f g i a b lt moved same before (inl e) =
    let rest : sum_below n g ≡ sum_below n f = sum_same n g f (λ j small. same j (omega arith) (omega arith)) in
    let here : g n + a ≡ f n + b = subst (λ z. g z + a ≡ f z + b) (sym e) moved in omega arith
moves_by_cases n f g i a b lt moved same before (inr ne) =
    let rest : sum_below n g + a ≡ sum_below n f + b = before (omega arith) in
    let last : g n ≡ f n = same n (omega arith) (omega arith) in omega arith

-- one term moved by a and b, so the sum did
pub sum_moves : (n : ℕ) (f g : ℕ → ℕ) (i a b : ℕ) → i < n → g i + a ≡ f i + b → ((j : ℕ) → j < n → j ≢ i → g j ≡ f j) → sum_below n g + a ≡ sum_below n f + b
unfolding sum_below
sum_moves zero f g i a b lt moved same = elim lt [ ]
sum_moves (suc n) f g i a b lt moved same =
    moves_by_cases n f g i a b lt moved same (λ small. sum_moves n f g i a b small moved (λ j lt'. same j (omega arith))) (cases_eq n i)

-- one term fell by one
pub sum_falls : (n : ℕ) (f g : ℕ → ℕ) (i : ℕ) → i < n → g i + 1 ≡ f i → ((j : ℕ) → j < n → j ≢ i → g j ≡ f j) → sum_below n g + 1 ≡ sum_below n f
sum_falls n f g i lt fall same =
    let here : g i + 1 ≡ f i + 0 = omega arith in
    let moved : sum_below n g + 1 ≡ sum_below n f + 0 = sum_moves n f g i 1 0 lt here same in omega arith

le_by_cases : (n : ℕ) (f : ℕ → ℕ) (i : ℕ) → i < suc n → (i < n → f i ≤ sum_below n f) → (n ≡ i) ⊎ (n ≡ i → ⊥) → f i ≤ sum_below n f + f n
le_by_cases n f i lt before (inl e) = subst (λ z. f i ≤ sum_below n f + f z) (sym e) (omega arith)
le_by_cases n f i lt before (inr ne) = let a : f i ≤ sum_below n f = before (omega arith) in omega arith

-- a term is at most the sum
pub term_le : (n : ℕ) (f : ℕ → ℕ) (i : ℕ) → i < n → f i ≤ sum_below n f
unfolding sum_below
term_le zero f i lt = elim lt [ ]
term_le (suc n) f i lt = le_by_cases n f i lt (λ small. term_le n f i small) (cases_eq n i)

none_by_cases : (n : ℕ) (f : ℕ → ℕ) (i j : ℕ) → i < suc n → j < suc n → j ≢ i → 0 < f i → sum_below n f + f n ≤ 1 → (i < n → j < n → f j ≡ 0) → (n ≡ i) ⊎ (n ≡ i → ⊥) → (n ≡ j) ⊎ (n ≡ j → ⊥) → f j ≡ 0
none_by_cases n f i j lt lt' ne some most before (inl e) (inl e') = elim (ne (sym e' ∙ e)) [ ]
none_by_cases n f i j lt lt' ne some most before (inl e) (inr ne') =
    let here : 0 < f n = subst (λ z. 0 < f z) (sym e) some in
    let a : f j ≤ sum_below n f = term_le n f j (omega arith) in omega arith
none_by_cases n f i j lt lt' ne some most before (inr ne') (inl e) =
    let a : f i ≤ sum_below n f = term_le n f i (omega arith) in
    subst (λ z. f z ≡ 0) e (omega arith)
none_by_cases n f i j lt lt' ne some most before (inr ni) (inr nj) = before (omega arith) (omega arith)

-- in a sum of at most one, no term but one counts
pub others_none : (n : ℕ) (f : ℕ → ℕ) (i j : ℕ) → i < n → j < n → j ≢ i → 0 < f i → sum_below n f ≤ 1 → f j ≡ 0
unfolding sum_below
others_none zero f i j lt lt' ne some most = elim lt [ ]
others_none (suc n) f i j lt lt' ne some most = none_by_cases n f i j lt lt' ne some most (λ a b. others_none n f i j a b ne some (omega arith)) (cases_eq n i) (cases_eq n j)

-- each term is at most its fellow, so the sum is
pub sum_le : (n : ℕ) (f g : ℕ → ℕ) → ((i : ℕ) → i < n → f i ≤ g i) → sum_below n f ≤ sum_below n g
unfolding sum_below
sum_le zero f g h = omega arith
sum_le (suc n) f g h =
    let rest : sum_below n f ≤ sum_below n g = sum_le n f g (λ i lt. h i (omega arith)) in
    let last : f n ≤ g n = h n (omega arith) in omega arith

-- ---- tests

pub below_at : (p : ℕ → Bool) (n k : ℕ) → k < n → p k ≡ true → any_below p n ≡ true
unfolding any_below
below_at p zero k l t = absurd (omega arith)
below_at p (suc n) k l t =
    elim (cases_lt k n) [
      | inl m ↦ or_left (any_below p n) (p n) (below_at p n k m t)
      | inr m ↦ let e : k ≡ n = omega arith in or_right (any_below p n) (p n) (subst (λ i. p i ≡ true) e t)
    ]

pub below_of : (p : ℕ → Bool) (n : ℕ) → any_below p n ≡ true → (k : ℕ) × (k < n) × (p k ≡ true)
unfolding any_below
below_of p zero t = absurd (false≢true t)
below_of p (suc n) t =
    elim (or_cases (any_below p n) (p n) t) [
      | inl u ↦ let r = below_of p n u in (r.0, omega (arith, r.1), r.2)
      | inr u ↦ (n, omega arith, u)
    ]

pub below_none : (p : ℕ → Bool) (k : ℕ) → k ≡ 0 → any_below p k ≡ false
unfolding any_below
below_none p zero e = refl
below_none p (suc k) e = absurd (omega arith)

pub below_more : (p : ℕ → Bool) (k m : ℕ) → m ≡ suc k → any_below p k ≡ false → p k ≡ false → any_below p m ≡ false
unfolding any_below
below_more p k zero e f g = absurd (omega arith)
below_more p k (suc m) e f g =
    let same : k ≡ m = omega arith in
    subst (λ i. (any_below p i || p i) ≡ false) same (or_from (any_below p k) (p k) f g)
