-- Marks as bits.
use Rattle.std.proofs.Common.{◌≡◌, ℕ, zero, suc, ◌+◌, ◌^◌, ◌<◌, ◌≤◌, Bool, false, List, [], ◌∷◌, length, get_or, refl, subst, ⊎_elim, arith}
use Rattle.std.proofs.lemmas.Bool.{cases_lt}
use Rattle.std.proofs.lemmas.Nat.Bits.{bit_at-zero, bit_at_above}
use Rattle.jh_num.specs.Bits.{has_bit}

pub no_bit : (k : ℕ) → has_bit 0 k ≡ false
no_bit k = rw (bit_at-zero k) refl

pub past_end : (xs : List Bool) (i : ℕ) → length xs ≤ i → get_or xs i false ≡ false
past_end [] i l = refl
past_end (b ∷ xs) zero l = absurd (omega arith)
past_end (b ∷ xs) (suc i) l = past_end xs i (omega arith)

-- a bit past the width
pub high_bit : (mask k : ℕ) → mask < 2 ^ 16 → 16 ≤ k → has_bit mask k ≡ false
high_bit mask k small high = rw (bit_at_above mask 16 k small high) refl

-- a list as far as a loop has come
pub so_far : {A : Type 0} (f g : ℕ → A) (i : ℕ) → ((k : ℕ) → k < i → f k ≡ g k) → f i ≡ g i → (k : ℕ) → k < i + 1 → f k ≡ g k
so_far f g i before here k l =
    ⊎_elim
    (λ (low : k < i). before k low)
    (λ (high : i ≤ k). let same : i ≡ k = omega arith in subst (λ j. f j ≡ g j) same here)
    (cases_lt k i)
