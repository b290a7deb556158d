-- Bytes over numbers in a row.
use Rattle.std.proofs.Common.{◌≡◌, ℕ, zero, suc, ◌+◌, ◌<◌, List, ◌∷◌, ◌++◌, append_assoc, map, replicate, refl, ap, sym, ◌∙◌, arith}
use Rattle.std.specs.List.{range_with_len}
use Rattle.jh_num.specs.Memory.{spelled}

-- two functions that agree number by number over two rows
pub alike_over : (f g : ℕ → ℕ) (a b n : ℕ) → ((j x y : ℕ) → j < n → x ≡ a + j → y ≡ b + j → f x ≡ g y) → map f (range_with_len a n) ≡ map g (range_with_len b n)
alike_over f g a b zero h = refl
alike_over f g a b (suc n) h =
    let first : f a ≡ g b = h 0 a b (omega arith) (omega arith) (omega arith) in
    let rest : map f (range_with_len (a + 1) n) ≡ map g (range_with_len (b + 1) n) = alike_over f g (a + 1) (b + 1) n (λ j x y lt p q. h (suc j) x y (omega arith) (omega arith) (omega arith)) in
    ap (λ z. z ∷ map f (range_with_len (a + 1) n)) first ∙ ap (λ l. g b ∷ l) rest

-- what is 0 all over a row spells 0
pub zero_over : (f : ℕ → ℕ) (a n : ℕ) → ((j x : ℕ) → j < n → x ≡ a + j → f x ≡ 0) → 0 ≡ spelled (map f (range_with_len a n))
zero_over f a zero h = refl
zero_over f a (suc n) h =
    let first : f a ≡ 0 = h 0 a (omega arith) (omega arith) in
    let rest : 0 ≡ spelled (map f (range_with_len (a + 1) n)) = zero_over f (a + 1) n (λ j x lt p. h (suc j) x (omega arith) (omega arith)) in
    omega arith

-- and is a row of zeros
pub zeros_over : (f : ℕ → ℕ) (a n : ℕ) → ((j x : ℕ) → j < n → x ≡ a + j → f x ≡ 0) → replicate n 0 ≡ map f (range_with_len a n)
zeros_over f a zero h = refl
zeros_over f a (suc n) h =
    let first : f a ≡ 0 = h 0 a (omega arith) (omega arith) in
    ap (λ l. 0 ∷ l) (zeros_over f (a + 1) n (λ j x lt p. h (suc j) x (omega arith) (omega arith))) ∙ ap (λ z. z ∷ map f (range_with_len (a + 1) n)) (sym first)

-- a row behind another
pub row_behind : (f : ℕ → ℕ) (a m n : ℕ) → map f (range_with_len a m) ++ map f (range_with_len (a + m) n) ≡ map f (range_with_len a (m + n))
row_behind f a zero n =
    let start : a + 0 ≡ a = omega arith in
    let all : n ≡ 0 + n = omega arith in
    ap (λ b. map f (range_with_len b n)) start ∙ ap (λ k. map f (range_with_len a k)) all
row_behind f a (suc m) n =
    let start : a + suc m ≡ a + 1 + m = omega arith in
    let all : suc (m + n) ≡ suc m + n = omega arith in
    ap (λ l. f a ∷ l) (ap (λ b. map f (range_with_len (a + 1) m) ++ map f (range_with_len b n)) start ∙ row_behind f (a + 1) m n)
    ∙ ap (λ k. map f (range_with_len a k)) all

-- what is put behind a row that stands behind others
pub row_more : (old items : List ℕ) (f : ℕ → ℕ) (a m n : ℕ) → items ≡ old ++ map f (range_with_len a m) → items ++ map f (range_with_len (a + m) n) ≡ old ++ map f (range_with_len a (m + n))
row_more old items f a m n is =
    ap (λ l. l ++ map f (range_with_len (a + m) n)) is
    ∙ append_assoc old (map f (range_with_len a m)) (map f (range_with_len (a + m) n))
    ∙ ap (λ l. old ++ l) (row_behind f a m n)
