-- Each page of a range is in a list of its pages or had elsewhere.
use Rattle.std.proofs.Common.{◌≡◌, ◌≢◌, ℕ, ◌+◌, ◌-◌, ◌*◌, ◌/◌, ◌%◌, ◌<◌, ◌≤◌, ◌⊎◌, inl, inr, Bool, true, false, cond, eqb, List, [], ◌∷◌, length, get_or, zero, suc, refl, ◌∙◌, arith}
use Rattle.std.specs.List.{sum_by, range_with_len, list_any}
use Rattle.std.specs.Prelude.{map, ◌↔◌, not}
use Rattle.std.proofs.lemmas.Bool.{cases_eq}
use Rattle.std.proofs.lemmas.Bool.Decides.{nat_tests}
use Rattle.std.proofs.lemmas.List.Sums.{sum_by-cons, sum_by-le}
use Rattle.std.proofs.lemmas.List.FromFn.{length-map-range_with_len}
use Rattle.jh_num.proofs.Public.{count_few}
use Rattle.jh_pool.specs.Pages.{IsPageIn, IsTakenPage}
use Rattle.jh_pool.specs.SoundPool.{often, IsSoundPool}
use Rattle.jh_pool.proofs.ListLemmas.{often_from_any, none_from_any}

-- the pages of that many numbers from `a` on
abbrev pages_from : ℕ → ℕ → ℕ → List ℕ
pages_from base a n = map (λ k. base + 4096 * k) (range_with_len a n)

-- 1 where they are the same
abbrev one : ℕ → ℕ → ℕ
one x q = cond (eqb x q) 1 0

sum_zero : (base a n : ℕ) → sum_by (λ q. often q []) (pages_from base a n) ≡ 0
sum_zero base a zero = refl
sum_zero base a (suc n) = let all : sum_by (λ q. often q []) (pages_from base a (suc n)) ≡ 0 + sum_by (λ q. often q []) (pages_from base (a + 1) n) = sum_by-cons (λ q. often q []) (base + 4096 * a) (pages_from base (a + 1) n) in
    let rest : sum_by (λ q. often q []) (pages_from base (a + 1) n) ≡ 0 = sum_zero base (a + 1) n in
    omega arith

sum_plus : (f g : ℕ → ℕ) (qs : List ℕ) → sum_by (λ q. f q + g q) qs ≡ sum_by f qs + sum_by g qs
sum_plus f g [] = refl
sum_plus f g (q ∷ qs) =
    let all : sum_by (λ q. f q + g q) (q ∷ qs) ≡ (f q + g q) + sum_by (λ q. f q + g q) qs = sum_by-cons (λ q. f q + g q) q qs in
    let rest : sum_by (λ q. f q + g q) qs ≡ sum_by f qs + sum_by g qs = sum_plus f g qs in
    let left : sum_by f (q ∷ qs) ≡ f q + sum_by f qs = sum_by-cons f q qs in
    let right : sum_by g (q ∷ qs) ≡ g q + sum_by g qs = sum_by-cons g q qs in
    omega arith

head_same : (x base a j : ℕ) → x ≡ base + 4096 * j → j ≡ a → one x (base + 4096 * a) ≡ 1
head_same x base a j e is = grind (arith, nat_tests)

head_other : (x base a j : ℕ) → x ≡ base + 4096 * j → (j ≡ a → ⊥) → one x (base + 4096 * a) ≡ 0
head_other x base a j e ne = let other : x ≢ base + 4096 * a = omega arith in grind (arith, nat_tests)

one_cons : (x base a n : ℕ) → sum_by (λ q. one x q) (pages_from base a (suc n)) ≡ one x (base + 4096 * a) + sum_by (λ q. one x q) (pages_from base (a + 1) n)
one_cons x base a n = sum_by-cons (λ q. one x q) (base + 4096 * a) (pages_from base (a + 1) n)

one_before : (x base a n j : ℕ) → x ≡ base + 4096 * j → j < a → sum_by (λ q. one x q) (pages_from base a n) ≡ 0
one_before x base a zero j e lt = refl
one_before x base a (suc n) j e lt =
    let head : one x (base + 4096 * a) ≡ 0 = head_other x base a j e (λ is. omega arith) in
    let rest : sum_by (λ q. one x q) (pages_from base (a + 1) n) ≡ 0 = one_before x base (a + 1) n j e (omega arith) in
    one_cons x base a n ∙ omega arith

one_by_cases : (x base a n j : ℕ) → x ≡ base + 4096 * j → a ≤ j → (a + 1 ≤ j → sum_by (λ q. one x q) (pages_from base (a + 1) n) ≡ 1) → (j ≡ a) ⊎ (j ≡ a → ⊥) → one x (base + 4096 * a) + sum_by (λ q. one x q) (pages_from base (a + 1) n) ≡ 1
one_by_cases x base a n j e low rest (inl is) =
    let head : one x (base + 4096 * a) ≡ 1 = head_same x base a j e is in
    let none : sum_by (λ q. one x q) (pages_from base (a + 1) n) ≡ 0 = one_before x base (a + 1) n j e (omega arith) in
    omega arith
one_by_cases x base a n j e low rest (inr ne) =
    let head : one x (base + 4096 * a) ≡ 0 = head_other x base a j e ne in
    let one : sum_by (λ q. one x q) (pages_from base (a + 1) n) ≡ 1 = rest (omega arith) in
    omega arith

one_there : (x base a n j : ℕ) → x ≡ base + 4096 * j → a ≤ j → j < a + n → sum_by (λ q. one x q) (pages_from base a n) ≡ 1
one_there x base a zero j e low high = absurd (omega arith)
one_there x base a (suc n) j e low high =
    one_cons x base a n ∙ one_by_cases x base a n j e low (λ more. one_there x base (a + 1) n j e more (omega arith)) (cases_eq j a)

one_of_pages : (x base n : ℕ) → base % 4096 ≡ 0 → IsPageIn base n x → sum_by (λ q. one x q) (pages_from base 0 n) ≡ 1
one_of_pages x base n aligned is = one_there x base 0 n (x / 4096 - base / 4096) (omega arith) (omega arith) (omega arith)

more_often : (x : ℕ) (xs : List ℕ) (page : ℕ) → 0 < often page xs → 0 < often page (x ∷ xs)
more_often x xs page some = omega arith

itself_often : (x : ℕ) (xs : List ℕ) → 0 < often x (x ∷ xs)
itself_often x xs = grind (arith, nat_tests)

-- how often the pages of a list are in it, all pages of the range together, is how many they are
pub sum_often : (base n : ℕ) (xs : List ℕ) → base % 4096 ≡ 0 → ((page : ℕ) → 0 < often page xs → IsPageIn base n page) → sum_by (λ q. often q xs) (pages_from base 0 n) ≡ length xs
sum_often base n [] aligned in_range = sum_zero base 0 n
sum_often base n (x ∷ xs) aligned in_range =
    let all : sum_by (λ q. often q (x ∷ xs)) (pages_from base 0 n) ≡ sum_by (λ q. one x q) (pages_from base 0 n) + sum_by (λ q. often q xs) (pages_from base 0 n) = sum_plus (λ q. one x q) (λ q. often q xs) (pages_from base 0 n) in
    let one : sum_by (λ q. one x q) (pages_from base 0 n) ≡ 1 = one_of_pages x base n aligned (in_range x (itself_often x xs)) in
    let rest : sum_by (λ q. often q xs) (pages_from base 0 n) ≡ length xs = sum_often base n xs aligned (λ page some. in_range page (more_often x xs page some)) in
    omega arith

sum_ones : (f : ℕ → ℕ) (base a n : ℕ) → ((k : ℕ) → a ≤ k → k < a + n → f (base + 4096 * k) ≡ 1) → sum_by f (pages_from base a n) ≡ n
sum_ones f base a zero each = refl
sum_ones f base a (suc n) each =
    let head : f (base + 4096 * a) ≡ 1 = each a (omega arith) (omega arith) in
    let rest : sum_by f (pages_from base (a + 1) n) ≡ n = sum_ones f base (a + 1) n (λ k low high. each k (omega arith) (omega arith)) in
    sum_by-cons f (base + 4096 * a) (pages_from base (a + 1) n) ∙ omega arith

sum_few : (f : ℕ → ℕ) (base a n : ℕ) → ((q : ℕ) → f q ≤ 1) → sum_by f (pages_from base a n) ≤ n
sum_few f base a n each =
    let few : sum_by f (pages_from base a n) ≤ length (pages_from base a n) * 1 = sum_by-le f 1 (pages_from base a n) (λ k d within. each (get_or (pages_from base a n) k d)) in
    let len : length (pages_from base a n) ≡ n = length-map-range_with_len (λ k. base + 4096 * k) a n in
    omega arith

-- pages of the range, each once, are at most as many as it has
pub few_pages : (base n : ℕ) (xs : List ℕ) → base % 4096 ≡ 0 → ((page : ℕ) → 0 < often page xs → IsPageIn base n page) → ((page : ℕ) → often page xs ≤ 1) → length xs ≤ n
few_pages base n xs aligned in_range once =
    let e : sum_by (λ q. often q xs) (pages_from base 0 n) ≡ length xs = sum_often base n xs aligned in_range in
    let le : sum_by (λ q. often q xs) (pages_from base 0 n) ≤ n = sum_few (λ q. often q xs) base 0 n once in
    omega arith

page_at : (base n k : ℕ) → base % 4096 ≡ 0 → k < n → IsPageIn base n (base + 4096 * k)
page_at base n k aligned lt = record { aligned = omega arith; above = omega arith; below = omega arith }

had_by_cases : (b : Bool) (had free : ℕ) → had ≤ 1 → free ≤ 1 → (b ≡ true → 0 < free) → (b ≡ false → free ≡ 0) → (0 < had → b ≡ false) → (b ≡ false → 0 < had) → had + free ≡ 1
had_by_cases true had free a b there none not_had is_had =
    let some : 0 < free = there refl in
    let zero' : had ≡ 0 = had_none had not_had in omega arith
  where
    had_none : (had : ℕ) → (0 < had → true ≡ false) → had ≡ 0
    had_none zero h = refl
    had_none (suc had) h = let wrong : true ≡ false = h (omega arith) in cc
had_by_cases false had free a b there none not_had is_had =
    let some : 0 < had = is_had refl in
    let zero' : free ≡ 0 = none refl in omega arith

-- where each taken page is had once and no other page is, as many are had as aren't free
pub had_pages : (base n capacity : ℕ) (xs : List ℕ) (had : ℕ → ℕ) → IsSoundPool base n xs capacity → ((page : ℕ) → IsPageIn base n page → had page ≤ 1) → ((page : ℕ) → IsPageIn base n page → 0 < had page ↔ IsTakenPage (record { base = base; size = n; free = xs }) page) → sum_by had (pages_from base 0 n) ≡ n - length xs
had_pages base n capacity xs had stands most each =
    let all : sum_by (λ q. had q + often q xs) (pages_from base 0 n) ≡ n = sum_ones (λ q. had q + often q xs) base 0 n (λ k low high.
    let at : IsPageIn base n (base + 4096 * k) = page_at base n k stands.aligned (omega arith) in
    had_by_cases (list_any (λ x. eqb x (base + 4096 * k)) xs) (had (base + 4096 * k)) (often (base + 4096 * k) xs)
    (most (base + 4096 * k) at) (stands.once (base + 4096 * k))
    (often_from_any (base + 4096 * k) xs) (none_from_any (base + 4096 * k) xs)
    (λ some. ((each (base + 4096 * k) at).0 some).taken)
    (λ no. (each (base + 4096 * k) at).1 (record { in_range = at; taken = no }))) in
    let sum : sum_by (λ q. had q + often q xs) (pages_from base 0 n) ≡ sum_by had (pages_from base 0 n) + sum_by (λ q. often q xs) (pages_from base 0 n) = sum_plus had (λ q. often q xs) (pages_from base 0 n) in
    let free : sum_by (λ q. often q xs) (pages_from base 0 n) ≡ length xs = sum_often base n xs stands.aligned stands.pages in
    omega arith

-- a page that isn't free, as a number
not_had : (b : Bool) → 0 < cond (not b) 1 0 → b ≡ false
not_had true h = absurd (omega arith)
not_had false h = refl

not_some : (b : Bool) → b ≡ false → 0 < cond (not b) 1 0
not_some true h = cc
not_some false h = omega arith

-- the pages that aren't free are as many as `used_of` says
pub taken_pages : (base n capacity : ℕ) (xs : List ℕ) → IsSoundPool base n xs capacity → sum_by (λ q. cond (not (list_any (λ x. eqb x q) xs)) 1 0) (pages_from base 0 n) ≡ n - length xs
taken_pages base n capacity xs stands =
    had_pages base n capacity xs (λ q. cond (not (list_any (λ x. eqb x q) xs)) 1 0) stands
    (λ page at. count_few (list_any (λ x. eqb x page) xs))
    (λ page at. ((λ some. record { in_range = at; taken = not_had (list_any (λ x. eqb x page) xs) some }), (λ is. not_some (list_any (λ x. eqb x page) xs) is.taken)))
