-- The bits of the words that can be written, after a word was put and before.
use Rattle.std.proofs.Common.{ℕ, zero, suc, ◌≡◌, ◌≢◌, ◌+◌, ◌-◌, ◌*◌, ◌/◌, ◌%◌, ◌^◌, ◌<◌, ◌≤◌, ◌⊎◌, Bool, true, false, ◌&&◌, ◌||◌, ◌==◌, nat_lt, if◌then◌else◌, inl, inr, arith, refl, sym, ◌∙◌, ap, subst}
use Rattle.std.specs.Int.{bit_at}
use Rattle.std.proofs.lemmas.Bool.{cases_eq, cases_lt, and_parts}
use Rattle.std.proofs.lemmas.Bool.Decides.{nat_tests}
use Rattle.std.proofs.lemmas.Nat.{pow_pos, shr-shr}
use Rattle.std.proofs.lemmas.Nat.Bits.{bit_at_cat_low, bit_at_cat_high, bit_at-lt, bit_at-zero}

-- new has the bit of the word where the mask has it, and that of old elsewhere
pub record Mixes (mask old new word k : ℕ) : Type 0 where
  pub inside : bit_at mask k ≡ 1 → bit_at new k ≡ bit_at word k
  pub outside : bit_at mask k ≢ 1 → bit_at new k ≡ bit_at old k

-- a test holds of each number below n
abbrev each_below : ℕ → (ℕ → Bool) → Bool
each_below zero p = true
each_below (suc n) p = p n && each_below n p

below_all : (n : ℕ) (p : ℕ → Bool) → each_below n p ≡ true → (k : ℕ) → k < n → p k ≡ true
below_all zero p h k lt = absurd (let no : ⊥ = omega arith in no)
below_all (suc n) p h k lt =
    elim (cases_eq k n) as (λ _. p k ≡ true) [
      | inl same ↦ ap p same ∙ (and_parts (p n) (each_below n p) h).0
      | inr other ↦ below_all n p (and_parts (p n) (each_below n p) h).1 k (let lower : k < n = omega arith in lower)
    ]

-- 1 where the test holds
abbrev as_number : Bool → ℕ
as_number b = if b then 1 else 0

as_number_bit : (n k : ℕ) → as_number (bit_at n k == 1) ≡ bit_at n k
as_number_bit n k = let low = bit_at-lt n k in grind (arith, nat_tests)

-- a number without its bits below j
aligned_high : (n j k : ℕ) → j ≤ k → bit_at (n / 2 ^ j * 2 ^ j) k ≡ bit_at n k
aligned_high n j k above =
    ap (λ m. bit_at m k) (let e : n / 2 ^ j * 2 ^ j ≡ n / 2 ^ j * 2 ^ j + 0 = omega arith in e)
    ∙ bit_at_cat_high (n / 2 ^ j) j 0 k (pow_pos j) above
    ∙ ap (λ m. m % 2) (shr-shr n j (k - j))
    ∙ ap (λ m. n / 2 ^ m % 2) (let e : j + (k - j) ≡ k = omega arith in e)

aligned_low : (n j k : ℕ) → k < j → bit_at (n / 2 ^ j * 2 ^ j) k ≡ bit_at 0 k
aligned_low n j k below =
    ap (λ m. bit_at m k) (let e : n / 2 ^ j * 2 ^ j ≡ n / 2 ^ j * 2 ^ j + 0 = omega arith in e)
    ∙ bit_at_cat_low (n / 2 ^ j) j 0 k below

-- a BAR, whose bits from j on can be written
pub bar_mixes : (mask j old word k : ℕ) → old / 2 ^ j * 2 ^ j ≡ old
    → (k < j → bit_at mask k ≡ 0) → (j ≤ k → bit_at mask k ≡ 1)
    → Mixes mask old (word / 2 ^ j * 2 ^ j) word k
bar_mixes mask j old word k aligned low high =
    elim (cases_lt k j) as (λ _. Mixes mask old (word / 2 ^ j * 2 ^ j) word k) [
      | inl below ↦ record {
        inside = λ h. absurd (let z = low below in let no : ⊥ = omega arith in no);
        outside = λ _. aligned_low word j k below ∙ sym (aligned_low old j k below) ∙ ap (λ m. bit_at m k) aligned;
      }
      | inr above ↦ record {
        inside = λ _. aligned_high word j k above;
        outside = λ h. absurd (h (high above));
      }
    ]

page_mask : (k : ℕ) → k < 32 → (bit_at 0xfffff000 k == as_number (nat_lt 11 k)) ≡ true
page_mask = below_all 32 (λ k. bit_at 0xfffff000 k == as_number (nat_lt 11 k)) refl

table_mask : (k : ℕ) → k < 32 → (bit_at 0xfffffe00 k == as_number (nat_lt 8 k)) ≡ true
table_mask = below_all 32 (λ k. bit_at 0xfffffe00 k == as_number (nat_lt 8 k)) refl

pub bar0_mixes : (old word k : ℕ) → k < 32 → old / 0x1000 * 0x1000 ≡ old
    → Mixes 0xfffff000 old (word / 0x1000 * 0x1000) word k
bar0_mixes old word k lt aligned =
    bar_mixes 0xfffff000 12 old word k aligned
    (λ below. let t = page_mask k lt in grind (arith, nat_tests))
    (λ above. let t = page_mask k lt in grind (arith, nat_tests))

pub bar1_mixes : (old word k : ℕ) → k < 32 → old / 0x200 * 0x200 ≡ old
    → Mixes 0xfffffe00 old (word / 0x200 * 0x200) word k
bar1_mixes old word k lt aligned =
    bar_mixes 0xfffffe00 9 old word k aligned
    (λ below. let t = table_mask k lt in grind (arith, nat_tests))
    (λ above. let t = table_mask k lt in grind (arith, nat_tests))

-- command below the status
abbrev command_word : Bool → Bool → Bool → ℕ
command_word a b c =
    0x0010 * 2 ^ 16 + ((if a then 0x2 else 0) + (if b then 0x4 else 0) + (if c then 0x400 else 0))

abbrev command_test : Bool → Bool → Bool → ℕ → Bool
command_test a b c k =
    (k == 1) || ((k == 2) || ((k == 10)
    || ((bit_at 0x0406 k == 0) && (bit_at (command_word a b c) k == bit_at 0x00100000 k))))

command_all : (a b c : Bool) → each_below 32 (command_test a b c) ≡ true
command_all true true true = refl
command_all true true false = refl
command_all true false true = refl
command_all true false false = refl
command_all false true true = refl
command_all false true false = refl
command_all false false true = refl
command_all false false false = refl

command_1 : (a b c : Bool) → bit_at (command_word a b c) 1 ≡ as_number a
command_1 true true true = refl
command_1 true true false = refl
command_1 true false true = refl
command_1 true false false = refl
command_1 false true true = refl
command_1 false true false = refl
command_1 false false true = refl
command_1 false false false = refl

command_2 : (a b c : Bool) → bit_at (command_word a b c) 2 ≡ as_number b
command_2 true true true = refl
command_2 true true false = refl
command_2 true false true = refl
command_2 true false false = refl
command_2 false true true = refl
command_2 false true false = refl
command_2 false false true = refl
command_2 false false false = refl

command_10 : (a b c : Bool) → bit_at (command_word a b c) 10 ≡ as_number c
command_10 true true true = refl
command_10 true true false = refl
command_10 true false true = refl
command_10 true false false = refl
command_10 false true true = refl
command_10 false true false = refl
command_10 false false true = refl
command_10 false false false = refl

-- a test of four parts, of which three fail
fourth : (a b c d : Bool) → (a || (b || (c || d))) ≡ true → a ≡ false → b ≡ false → c ≡ false → d ≡ true
fourth true b c d h p q r = cc
fourth false true c d h p q r = cc
fourth false false true d h p q r = cc
fourth false false false d h p q r = h

pub differs : (a b : ℕ) → a ≢ b → (a == b) ≡ false
differs a b h = grind (arith, nat_tests)

pub equals : (a b : ℕ) → (a == b) ≡ true → a ≡ b
equals a b h = grind (arith, nat_tests)

command_other : (a b c : Bool) (k : ℕ) → k < 32 → k ≢ 1 → k ≢ 2 → k ≢ 10
    → (bit_at 0x0406 k ≡ 0) × (bit_at (command_word a b c) k ≡ bit_at 0x00100000 k)
command_other a b c k lt p q r =
    let whole = below_all 32 (command_test a b c) (command_all a b c) k lt in
    let rest = and_parts _ _ (fourth (k == 1) (k == 2) (k == 10)
    ((bit_at 0x0406 k == 0) && (bit_at (command_word a b c) k == bit_at 0x00100000 k))
    whole (differs k 1 p) (differs k 2 q) (differs k 10 r)) in
    (equals (bit_at 0x0406 k) 0 rest.0, equals (bit_at (command_word a b c) k) (bit_at 0x00100000 k) rest.1)

-- a bit that the mask has
put_bit : (mask old new word k : ℕ) → bit_at mask k ≡ 1 → bit_at new k ≡ bit_at word k → Mixes mask old new word k
put_bit mask old new word k has same = record { inside = λ _. same; outside = λ h. absurd (h has) }

-- one that it lacks
kept_bit : (mask old new word k : ℕ) → bit_at mask k ≡ 0 → bit_at new k ≡ bit_at old k → Mixes mask old new word k
kept_bit mask old new word k lacks same = record {
  inside = λ h. absurd (let no : ⊥ = omega arith in no);
  outside = λ _. same;
}

command_at : (a b c x y z : Bool) (word k : ℕ) → k < 32
    → x ≡ (bit_at word 1 == 1) → y ≡ (bit_at word 2 == 1) → z ≡ (bit_at word 10 == 1)
    → (k ≡ 1) ⊎ (k ≢ 1) → (k ≡ 2) ⊎ (k ≢ 2) → (k ≡ 10) ⊎ (k ≢ 10)
    → Mixes 0x0406 (command_word a b c) (command_word x y z) word k
command_at a b c x y z word k lt is_x is_y is_z (inl e) two ten =
    let P : ℕ → Type 0 = Mixes 0x0406 (command_word a b c) (command_word x y z) word in
    subst P (sym e) (put_bit 0x0406 (command_word a b c) (command_word x y z) word 1 refl
    (command_1 x y z ∙ ap as_number is_x ∙ as_number_bit word 1))
command_at a b c x y z word k lt is_x is_y is_z (inr one) (inl e) ten =
    let P : ℕ → Type 0 = Mixes 0x0406 (command_word a b c) (command_word x y z) word in
    subst P (sym e) (put_bit 0x0406 (command_word a b c) (command_word x y z) word 2 refl
    (command_2 x y z ∙ ap as_number is_y ∙ as_number_bit word 2))
command_at a b c x y z word k lt is_x is_y is_z (inr one) (inr two) (inl e) =
    let P : ℕ → Type 0 = Mixes 0x0406 (command_word a b c) (command_word x y z) word in
    subst P (sym e) (put_bit 0x0406 (command_word a b c) (command_word x y z) word 10 refl
    (command_10 x y z ∙ ap as_number is_z ∙ as_number_bit word 10))
command_at a b c x y z word k lt is_x is_y is_z (inr one) (inr two) (inr ten) =
    let new = command_other x y z k lt one two ten in
    let old = command_other a b c k lt one two ten in
    kept_bit 0x0406 (command_word a b c) (command_word x y z) word k new.0 (new.1 ∙ sym old.1)

pub command_mixes : (a b c : Bool) (word k : ℕ) → k < 32
    → Mixes 0x0406 (command_word a b c)
    (command_word (bit_at word 1 == 1) (bit_at word 2 == 1) (bit_at word 10 == 1)) word k
command_mixes a b c word k lt =
    command_at a b c (bit_at word 1 == 1) (bit_at word 2 == 1) (bit_at word 10 == 1) word k lt refl refl refl
    (cases_eq k 1) (cases_eq k 2) (cases_eq k 10)

-- the vendor's capability, with or without one after it
abbrev capability_word : Bool → Bool → ℕ
capability_word v a = (if a then 1 else 0) * 2 ^ 24 + 0x20 * 2 ^ 16 + (if v then 0x60 else 0) * 2 ^ 8 + 0x09

abbrev capability_test : Bool → Bool → ℕ → Bool
capability_test v a k =
    (k == 24) || ((bit_at 0x01000000 k == 0) && (bit_at (capability_word v a) k == bit_at (capability_word v false) k))

capability_all : (v a : Bool) → each_below 32 (capability_test v a) ≡ true
capability_all true true = refl
capability_all true false = refl
capability_all false true = refl
capability_all false false = refl

capability_24 : (v a : Bool) → bit_at (capability_word v a) 24 ≡ as_number a
capability_24 true true = refl
capability_24 true false = refl
capability_24 false true = refl
capability_24 false false = refl

second : (a d : Bool) → (a || d) ≡ true → a ≡ false → d ≡ true
second true d h p = cc
second false d h p = h

capability_other : (v a : Bool) (k : ℕ) → k < 32 → k ≢ 24
    → (bit_at 0x01000000 k ≡ 0) × (bit_at (capability_word v a) k ≡ bit_at (capability_word v false) k)
capability_other v a k lt p =
    let rest = and_parts _ _ (second (k == 24)
    ((bit_at 0x01000000 k == 0) && (bit_at (capability_word v a) k == bit_at (capability_word v false) k))
    (below_all 32 (capability_test v a) (capability_all v a) k lt) (differs k 24 p)) in (
      equals (bit_at 0x01000000 k) 0 rest.0,
      equals (bit_at (capability_word v a) k) (bit_at (capability_word v false) k) rest.1,
    )

pub capability_mixes : (v a : Bool) (word k : ℕ) → k < 32
    → Mixes 0x01000000 (capability_word v a) (capability_word v (bit_at word 24 == 1)) word k
capability_mixes v a word k lt =
    elim (cases_eq k 24) as (λ _. Mixes 0x01000000 (capability_word v a) (capability_word v (bit_at word 24 == 1)) word k) [
      | inl e ↦
          let P : ℕ → Type 0 = Mixes 0x01000000 (capability_word v a) (capability_word v (bit_at word 24 == 1)) word in
          subst P (sym e) (put_bit 0x01000000 (capability_word v a) (capability_word v (bit_at word 24 == 1)) word 24 refl
          (capability_24 v (bit_at word 24 == 1) ∙ as_number_bit word 24))
      | inr other ↦
          let new = capability_other v (bit_at word 24 == 1) k lt other in
          let old = capability_other v a k lt other in
          kept_bit 0x01000000 (capability_word v a) (capability_word v (bit_at word 24 == 1)) word k
          new.0 (new.1 ∙ sym old.1)
    ]

-- control of MSI-X above the capability's head; n is one less than the vectors
abbrev control_word : ℕ → Bool → Bool → ℕ
control_word n m e = (n + (if m then 0x4000 else 0) + (if e then 0x8000 else 0)) * 2 ^ 16 + 0x11

-- the two bits on top
abbrev top_bits : Bool → Bool → ℕ
top_bits m e = (if m then 1 else 0) + (if e then 2 else 0)

control_parts : (n : ℕ) (m e : Bool) → control_word n m e ≡ top_bits m e * 2 ^ 30 + (n * 2 ^ 16 + 0x11)
control_parts n true true = omega arith
control_parts n true false = omega arith
control_parts n false true = omega arith
control_parts n false false = omega arith

top_0 : (m e : Bool) → bit_at (top_bits m e) 0 ≡ as_number m
top_0 true true = refl
top_0 true false = refl
top_0 false true = refl
top_0 false false = refl

top_1 : (m e : Bool) → bit_at (top_bits m e) 1 ≡ as_number e
top_1 true true = refl
top_1 true false = refl
top_1 false true = refl
top_1 false false = refl

control_low : (n : ℕ) (m e : Bool) (k : ℕ) → k < 30
    → bit_at (control_word n m e) k ≡ bit_at (n * 2 ^ 16 + 0x11) k
control_low n m e k lt =
    ap (λ w. bit_at w k) (control_parts n m e) ∙ bit_at_cat_low (top_bits m e) 30 (n * 2 ^ 16 + 0x11) k lt

control_high : (n : ℕ) (m e : Bool) (k : ℕ) → n < 256 → 30 ≤ k
    → bit_at (control_word n m e) k ≡ bit_at (top_bits m e) (k - 30)
control_high n m e k small above =
    ap (λ w. bit_at w k) (control_parts n m e)
    ∙ bit_at_cat_high (top_bits m e) 30 (n * 2 ^ 16 + 0x11) k (omega arith) above

control_mask : (k : ℕ) → k < 32 → (bit_at 0xc0000000 k == as_number (nat_lt 29 k)) ≡ true
control_mask = below_all 32 (λ k. bit_at 0xc0000000 k == as_number (nat_lt 29 k)) refl

pub control_mixes : (n : ℕ) (m e : Bool) (word k : ℕ) → n < 256 → k < 32
    → Mixes 0xc0000000 (control_word n m e) (control_word n (bit_at word 30 == 1) (bit_at word 31 == 1)) word k
control_mixes n m e word k small lt =
    let x = (bit_at word 30 == 1) in
    let y = (bit_at word 31 == 1) in
    let P : ℕ → Type 0 = Mixes 0xc0000000 (control_word n m e) (control_word n (bit_at word 30 == 1) (bit_at word 31 == 1)) word in
    elim (cases_lt k 30) as (λ _. P k) [
      | inl below ↦
          kept_bit 0xc0000000 (control_word n m e) (control_word n (bit_at word 30 == 1) (bit_at word 31 == 1)) word k
          (let t = control_mask k lt in grind (arith, nat_tests))
          (control_low n (bit_at word 30 == 1) (bit_at word 31 == 1) k below ∙ sym (control_low n m e k below))
      | inr above ↦
          elim (cases_eq k 30) as (λ _. P k) [
            | inl e30 ↦ subst P (sym e30)
                (put_bit 0xc0000000 (control_word n m e) (control_word n (bit_at word 30 == 1) (bit_at word 31 == 1)) word 30 refl
                (control_high n (bit_at word 30 == 1) (bit_at word 31 == 1) 30 small (omega arith)
                ∙ top_0 (bit_at word 30 == 1) (bit_at word 31 == 1) ∙ as_number_bit word 30))
            | inr other ↦ subst P (let same : 31 ≡ k = omega arith in same)
                (put_bit 0xc0000000 (control_word n m e) (control_word n (bit_at word 30 == 1) (bit_at word 31 == 1)) word 31 refl
                (control_high n (bit_at word 30 == 1) (bit_at word 31 == 1) 31 small (omega arith)
                ∙ top_1 (bit_at word 30 == 1) (bit_at word 31 == 1) ∙ as_number_bit word 31))
          ]
    ]

-- a word without a bit that can be written
pub nothing_mixes : (old word k : ℕ) → Mixes 0 old old word k
nothing_mixes old word k = kept_bit 0 old old word k (bit_at-zero k) refl
