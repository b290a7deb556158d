-- How often a page is in a list.
use Rattle.std.proofs.Common.{◌≡◌, ◌≢◌, ℕ, ◌+◌, ◌<◌, Bool, true, false, cond, ◌||◌, eqb, List, [], ◌∷◌, ◌++◌, refl, arith}
use Rattle.std.specs.List.{list_any}
use Rattle.std.proofs.lemmas.Bool.Decides.{nat_tests}
use Rattle.jh_pool.specs.SoundPool.{often}

pub often_push : (page : ℕ) (xs : List ℕ) (x : ℕ) → often page (xs ++ x ∷ []) ≡ often page xs + cond (eqb x page) 1 0
often_push page [] x = omega arith
often_push page (y ∷ ys) x = let rest = often_push page ys x in omega (arith, rest)

pub often_same : (page : ℕ) (xs : List ℕ) → often page (xs ++ page ∷ []) ≡ often page xs + 1
often_same page xs = rw (often_push page xs page) (grind (arith, nat_tests))

pub often_other : (page : ℕ) (xs : List ℕ) (x : ℕ) → page ≢ x → often page (xs ++ x ∷ []) ≡ often page xs
often_other page xs x ne = rw (often_push page xs x) (grind (arith, nat_tests))

one_free : (b : Bool) (rest : Bool) (n : ℕ) → (rest ≡ true → 0 < n) → (b || rest) ≡ true → 0 < cond b 1 0 + n
one_free true rest n h e = omega arith
one_free false rest n h e = let p : 0 < n = h e in omega arith

one_often : (b : Bool) (rest : Bool) (n : ℕ) → (0 < n → rest ≡ true) → 0 < cond b 1 0 + n → (b || rest) ≡ true
one_often true rest n h p = refl
one_often false rest n h p = h (omega arith)

-- a page is one of the list where it is in it at least once
pub often_from_any : (page : ℕ) (xs : List ℕ) → list_any (λ x. eqb x page) xs ≡ true → 0 < often page xs
often_from_any page [] h = cc
often_from_any page (x ∷ xs) h = one_free (eqb x page) (list_any (λ x. eqb x page) xs) (often page xs) (often_from_any page xs) h

pub any_from_often : (page : ℕ) (xs : List ℕ) → 0 < often page xs → list_any (λ x. eqb x page) xs ≡ true
any_from_often page [] h = elim h [ ]
any_from_often page (x ∷ xs) h = one_often (eqb x page) (list_any (λ x. eqb x page) xs) (often page xs) (any_from_often page xs) h

none_of_one : (b : Bool) (rest : Bool) (n : ℕ) → (rest ≡ false → n ≡ 0) → (b || rest) ≡ false → cond b 1 0 + n ≡ 0
none_of_one true rest n h e = cc
none_of_one false rest n h e = let p : n ≡ 0 = h e in omega arith

one_of_none : (b : Bool) (rest : Bool) (n : ℕ) → (n ≡ 0 → rest ≡ false) → cond b 1 0 + n ≡ 0 → (b || rest) ≡ false
one_of_none true rest n h e = absurd (omega arith)
one_of_none false rest n h e = h (omega arith)

pub none_from_any : (page : ℕ) (xs : List ℕ) → list_any (λ x. eqb x page) xs ≡ false → often page xs ≡ 0
none_from_any page [] h = refl
none_from_any page (x ∷ xs) h = none_of_one (eqb x page) (list_any (λ x. eqb x page) xs) (often page xs) (none_from_any page xs) h

pub any_from_none : (page : ℕ) (xs : List ℕ) → often page xs ≡ 0 → list_any (λ x. eqb x page) xs ≡ false
any_from_none page [] h = refl
any_from_none page (x ∷ xs) h = one_of_none (eqb x page) (list_any (λ x. eqb x page) xs) (often page xs) (any_from_none page xs) h

-- lists with a page equally often have it or not alike
any_by_cases : (b : Bool) (page : ℕ) (xs ys : List ℕ) → list_any (λ x. eqb x page) xs ≡ b → often page ys ≡ often page xs → list_any (λ x. eqb x page) ys ≡ b
any_by_cases true page xs ys h e = let p : 0 < often page xs = often_from_any page xs h in any_from_often page ys (omega arith)
any_by_cases false page xs ys h e = let p : often page xs ≡ 0 = none_from_any page xs h in any_from_none page ys (omega arith)

pub any_alike : (page : ℕ) (xs ys : List ℕ) → often page ys ≡ often page xs → list_any (λ x. eqb x page) ys ≡ list_any (λ x. eqb x page) xs
any_alike page xs ys e = any_by_cases (list_any (λ x. eqb x page) xs) page xs ys refl e
