-- The digits of a number, from the last to the first.
use Rattle.std.proofs.Common.{◌≡◌, ℕ, zero, suc, ◌+◌, ◌*◌, ◌/◌, ◌%◌, ◌^◌, ◌<◌, ◌≤◌, false, List, [], ◌∷◌, refl, arith}
use Rattle.std.specs.Fmt.{digits, digits_onto, digit_glyph}
use Rattle.std.proofs.lemmas.Bool.{eq-eqb, ne_eqb}
use Rattle.std.proofs.Math.Nat.{div-eq_of_lt, mod-eq_of_lt, div-lt_iff_lt-mul, lt-div-mul-add, pow-zero, pow-suc}

-- no digit is written yet
pub none_written : (base n : ℕ) → digits_onto 64 base false n [] ≡ digits base false n
unfolding digits
none_written base n = refl

pub some_left : (base n : ℕ) → 2 ≤ base → base ≤ n → n / base ≡ 0 → ⊥
some_left base n low more none =
    let some : 0 < base = omega arith in
    let less : n < 0 * base + base = rw none at (lt-div-mul-add {a = n} some) in
    omega arith

-- the last digit of what is left is written before the others
pub next_written : (i j base n : ℕ) (written : List ℕ) → j ≡ suc i → 2 ≤ base → base ≤ n
    → digits_onto i base false (n / base) (digit_glyph false (n % base) ∷ written) ≡ digits_onto j base false n written
next_written i j base n written is low more = rw (is, ne_eqb (n / base) 0 (some_left base n low more)) refl

-- the first digit is written before the others
pub first_written : (i j base n : ℕ) (written : List ℕ) → j ≡ suc i → n < base → digits_onto j base false n written ≡ digit_glyph false n ∷ written
first_written i j base n written is less = rw (is, eq-eqb (n / base) 0 (div-eq_of_lt less), mod-eq_of_lt less) refl

-- a digit fewer is left
pub fewer_left : (base n i j : ℕ) → j ≡ suc i → 0 < base → n < base ^ j → n / base < base ^ i
fewer_left base n i j is some fits = (div-lt_iff_lt-mul some).1 (rw (is, pow-suc base i) at fits)

-- a number of several digits
pub several : (base n k : ℕ) → 2 ≤ base → base ≤ n → n < base ^ k → 1 < k
several base n zero low more fits = absurd (omega (arith, pow-zero base))
several base n (suc zero) low more fits =
    let one : base ^ 1 ≡ base = rw (pow-suc base 0, pow-zero base) (omega arith) in
    absurd (omega arith)
several base n (suc (suc k)) low more fits = omega arith
