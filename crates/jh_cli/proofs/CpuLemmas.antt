-- The CPUs of a board as the bits of a number.
use Rattle.std.proofs.Common.{◌≡◌, ◌≢◌, ℕ, ◌+◌, ◌*◌, ◌<◌, ◌≤◌, ◌^◌, ◌%◌, Bool, true, false, ◌&&◌, ◌==◌, refl, sym, ◌∙◌, ap, subst, arith, inl, inr, w16}
use Rattle.std.specs.Prelude.{nat_lt, bit_or}
use Rattle.std.specs.Int.{bit_at}
use Rattle.std.proofs.lemmas.Bool.{cases_eq}
use Rattle.std.proofs.lemmas.Nat.Bits.{bit_at-zero, bit_at_set_same, bit_at_set_other}

-- the numbers below k that have the property are the bits of the set
abbrev pub AreBelow : (ℕ → Bool) → ℕ → ℕ → Type 0
AreBelow p k set = (n : ℕ) → (bit_at set n == 1) ≡ (nat_lt n k && p n)

nothing_below : (n : ℕ) → nat_lt n 0 ≡ false
nothing_below n = grind arith

pub none_below : (p : ℕ → Bool) → AreBelow p 0 0
none_below p n = rw (bit_at-zero n, nothing_below n) refl

is_below : (n k : ℕ) → n < k → nat_lt n k ≡ true
is_below n k lt = grind arith

pub all_below : (p : ℕ → Bool) (k set : ℕ) → 16 ≤ k → AreBelow p k set → (n : ℕ) → n < 16 → (bit_at set n == 1) ≡ p n
all_below p k set end h n lt = h n ∙ ap (λ (b : Bool). b && p n) (is_below n k (omega arith))

-- below k + 1 and not k is below k
below_other : (n k : ℕ) → n ≢ k → nat_lt n k ≡ nat_lt n (k + 1)
below_other n k other = grind arith

below_next : (k : ℕ) → nat_lt k (k + 1) ≡ true
below_next k = grind arith

not_below : (k : ℕ) → nat_lt k k ≡ false
not_below k = grind arith

-- the CPU's bit is set, where the board has it
pub one_more : (p : ℕ → Bool) (k set more : ℕ) → k < 16 → more ≡ bit_or set (1 * 2 ^ k % 65536) → p k ≡ true → AreBelow p k set → AreBelow p (k + 1) more
one_more p k set more lt is there h n =
    let same : bit_at more k ≡ 1 = rw is (bit_at_set_same w16 set k lt) in
    let other : (i : ℕ) → i ≢ k → bit_at more i ≡ bit_at set i = λ i ne. rw is (bit_at_set_other w16 set k lt i ne) in
    elim (cases_eq n k) [
      | inl e ↦ subst (λ (m : ℕ). (bit_at more m == 1) ≡ (nat_lt m (k + 1) && p m)) (sym e) (rw (same, below_next k, there) refl)
      | inr ne ↦ ap (λ (b : ℕ). b == 1) (other n ne) ∙ h n ∙ ap (λ (b : Bool). b && p n) (below_other n k ne)
    ]

-- and else nothing is
pub one_less : (p : ℕ → Bool) (k set less : ℕ) → less ≡ set → p k ≡ false → AreBelow p k set → AreBelow p (k + 1) less
one_less p k set less is there h n = rw is (elim (cases_eq n k) [
  | inl e ↦ subst (λ (m : ℕ). (bit_at set m == 1) ≡ (nat_lt m (k + 1) && p m)) (sym e) (h k ∙ rw (not_below k, below_next k, there) refl)
  | inr ne ↦ h n ∙ ap (λ (b : Bool). b && p n) (below_other n k ne)
])
