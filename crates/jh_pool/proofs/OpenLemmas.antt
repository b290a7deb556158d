-- Pages made free one by one, from the last down.
use Rattle.std.proofs.Common.{◌≡◌, ℕ, ◌+◌, ◌-◌, ◌*◌, ◌/◌, ◌%◌, ◌<◌, ◌≤◌, ◌⊎◌, inl, inr, true, eqb, List, [], ◌∷◌, ◌++◌, zero, suc, length, length-append, refl, arith, subst, sym}
use Rattle.std.specs.List.{list_any}
use Rattle.std.proofs.lemmas.Bool.{cases_eq}
use Rattle.jh_pool.specs.Pages.{IsPageIn}
use Rattle.jh_pool.specs.SoundPool.{often}
use Rattle.jh_pool.proofs.ListLemmas.{often_same, often_other, any_from_often}

-- the last k pages of n are free, each once
pub record Opens (base n k : ℕ) (free : List ℕ) (capacity : ℕ) : Type 0 where
  pub len : length free ≡ k
  pub room : n ≤ capacity
  pub pages : (page : ℕ) → 0 < often page free → IsPageIn base n page
  pub above : (page : ℕ) → 0 < often page free → base + 4096 * n ≤ page + 4096 * k
  pub once : (page : ℕ) → often page free ≤ 1
  pub all : (j : ℕ) → j < n → n ≤ j + k → 0 < often (base + 4096 * j) free

pub next_by_cases : (P : ℕ → Type 0) (page next : ℕ) (free : List ℕ) → (0 < often page free → P page) → P next → (page ≡ next) ⊎ (page ≡ next → ⊥) → 0 < often page (free ++ next ∷ []) → P page
next_by_cases P page next free old new (inl e) some = subst P (sym e) new
next_by_cases P page next free old new (inr ne) some =
    let same : often page (free ++ next ∷ []) ≡ often page free = often_other page free next ne in old (omega arith)

pub once_by_cases : (page next : ℕ) (free : List ℕ) → often page free ≤ 1 → often next free ≡ 0 → (page ≡ next) ⊎ (page ≡ next → ⊥) → often page (free ++ next ∷ []) ≤ 1
once_by_cases page next free old none (inl e) =
    let same : often next (free ++ next ∷ []) ≡ often next free + 1 = often_same next free in
    subst (λ z. often z (free ++ next ∷ []) ≤ 1) (sym e) (omega arith)
once_by_cases page next free old none (inr ne) =
    let same : often page (free ++ next ∷ []) ≡ often page free = often_other page free next ne in omega arith

all_by_cases : (page next : ℕ) (free : List ℕ) → ((page ≡ next → ⊥) → 0 < often page free) → (page ≡ next) ⊎ (page ≡ next → ⊥) → 0 < often page (free ++ next ∷ [])
all_by_cases page next free old (inl e) =
    let same : often next (free ++ next ∷ []) ≡ often next free + 1 = often_same next free in
    subst (λ z. 0 < often z (free ++ next ∷ [])) (sym e) (omega arith)
all_by_cases page next free old (inr ne) =
    let same : often page (free ++ next ∷ []) ≡ often page free = often_other page free next ne in
    let some : 0 < often page free = old ne in omega arith

none_above : (m page low : ℕ) → (0 < m → low ≤ page) → page < low → m ≡ 0
none_above zero page low h lt = refl
none_above (suc m) page low h lt = let le : low ≤ page = h (omega arith) in absurd (omega arith)

pub opens_more : (base n k capacity capacity' next : ℕ) (free : List ℕ) → base % 4096 ≡ 0 → k < n → capacity ≤ capacity' → next ≡ base + 4096 * (n - 1 - k) → Opens base n k free capacity → Opens base n (k + 1) (free ++ next ∷ []) capacity'
opens_more base n k capacity capacity' next free aligned lt more is opens =
    let len : length free ≡ k = opens.len in
    let room : n ≤ capacity = opens.room in
    let none : often next free ≡ 0 = none_above (often next free) (next + 4096 * k) (base + 4096 * n) (opens.above next) (omega arith) in
    let at : IsPageIn base n next = record { aligned = omega arith; above = omega arith; below = omega arith } in
    record {
      len = omega (arith, length-append free (next ∷ []));
      room = omega arith;
      pages = λ page some. next_by_cases (λ z. IsPageIn base n z) page next free (opens.pages page) at (cases_eq page next) some;
      above = λ page some. next_by_cases (λ z. base + 4096 * n ≤ z + 4096 * (k + 1)) page next free (λ old. let le : base + 4096 * n ≤ page + 4096 * k = opens.above page old in omega arith) (omega arith) (cases_eq page next) some;
      once = λ page. once_by_cases page next free (opens.once page) none (cases_eq page next);
      all = λ j small le. all_by_cases (base + 4096 * j) next free (λ ne. opens.all j small (omega arith)) (cases_eq (base + 4096 * j) next);
    }

pub opened_free : (base n k capacity page : ℕ) (free : List ℕ) → base % 4096 ≡ 0 → k ≡ n → Opens base n k free capacity → IsPageIn base n page → list_any (λ x. eqb x page) free ≡ true
opened_free base n k capacity page free aligned e opens is =
    let at : base + 4096 * (page / 4096 - base / 4096) ≡ page = omega (arith, is.aligned, is.above, is.below) in
    any_from_often page free (subst (λ z. 0 < often z free) at (opens.all (page / 4096 - base / 4096) (omega (arith, is.aligned, is.above, is.below)) (omega arith)))

pub opened_used : (base n k capacity : ℕ) (free : List ℕ) → k ≡ n → Opens base n k free capacity → n - length free ≡ 0
opened_used base n k capacity free e opens = let len : length free ≡ k = opens.len in omega arith
