-- Pins that are given, one index of a bitmap after another.
use Rattle.std.proofs.Common.{◌≡◌, ℕ, ◌+◌, ◌-◌, ◌/◌, ◌%◌, ◌^◌, ◌<◌, ◌≤◌, Bool, true, false, eqb, leb, ltb, not, ◌&&◌, ◌||◌, List, length, get_or, take, refl, sym, ap, ◌∙◌, ⊎_elim, arith}
use Rattle.std.specs.Prelude.{slice_index}
use Rattle.std.specs.List.{list_any}
use Rattle.std.proofs.lemmas.Bool.{and_left, and_right, cases_lt, le-leb, le-ltb, lt-leb, lt-ltb}
use Rattle.std.proofs.lemmas.Nat.Bits.{bit_at_ones}
use Rattle.std.proofs.lemmas.List.Folds.{list_any_more}
use Rattle.jh_num.specs.Bits.{has_bit}
use Rattle.jh_num.specs.declared.range.Range.{Range}
use Rattle.jh_num.specs.Bytes.{in_range, has_byte}
use Rattle.jh_num.proofs.Public.{or_assoc}

-- ---- the bits of a word, and of words

-- the number is that of an index below `n` which passes the test, where that of index 0 is `base`
abbrev pub passes_below : (ℕ → Bool) → ℕ → ℕ → ℕ → Bool
passes_below test base n number = leb base number && (ltb (number - base) n && test (number - base))

-- the bit of the index is one of those that are set in the words, behind whose last there is none
abbrev pub bit_of : List ℕ → ℕ → Bool
bit_of words index = has_bit (slice_index words (index / 32)) (index % 32)

-- the number is before them, among them, or behind them
not_below : (test : ℕ → Bool) (base n number : ℕ) → number < base → passes_below test base n number ≡ false
not_below test base n number lt = and_left (leb base number) (ltb (number - base) n && test (number - base)) (lt-leb base number lt)

within : (test : ℕ → Bool) (base n number : ℕ) → base ≤ number → number - base < n → passes_below test base n number ≡ test (number - base)
within test base n number le lt = rw (le-leb base number le, lt-ltb (number - base) n lt) refl

beyond : (test : ℕ → Bool) (base n number : ℕ) → n ≤ number - base → passes_below test base n number ≡ false
beyond test base n number le = and_right (leb base number) (ltb (number - base) n && test (number - base)) (and_left (ltb (number - base) n) (test (number - base)) (le-ltb (number - base) n le))

-- a word of all bits
pub all_bits : (first number : ℕ) → passes_below (has_bit (2 ^ 32 - 1)) first 32 number ≡ (leb first number && ltb number (first + 32))
all_bits first number =
    ⊎_elim
    (λ (lt : number < first). not_below (has_bit (2 ^ 32 - 1)) first 32 number lt ∙ sym (and_left (leb first number) (ltb number (first + 32)) (lt-leb first number lt)))
    (λ (le : first ≤ number).
    ⊎_elim
    (λ (few : number - first < 32).
    within (has_bit (2 ^ 32 - 1)) first 32 number le few ∙ ap (λ n. eqb n 1) (bit_at_ones 32 (number - first) few)
    ∙ sym (rw (le-leb first number le, lt-ltb number (first + 32) (omega arith)) refl))
    (λ (past : 32 ≤ number - first). beyond (has_bit (2 ^ 32 - 1)) first 32 number past ∙ sym (and_right (leb first number) (ltb number (first + 32)) (le-ltb number (first + 32) (omega arith))))
    (cases_lt (number - first) 32))
    (cases_lt number first)

-- ---- one irqchip, and one cell, after another

-- the new numbers are the old ones, and those that one of the elements has
abbrev pub AreMore : {X : Type 0} → (ℕ → X → Bool) → List X → List Range → List Range → Type 0
AreMore {X} has xs old new = (n : ℕ) → has_byte new n ≡ (has_byte old n || list_any (has n) xs)

pub those_of_one : {X : Type 0} (has : ℕ → X → Bool) (xs : List X) (i : ℕ) (d : X) (old mid new : List Range) → i < length xs → AreMore has (take i xs) old mid → ((n : ℕ) → has_byte new n ≡ (has_byte mid n || has n (get_or xs i d))) → AreMore has (take (i + 1) xs) old new
those_of_one {X} has xs i d old mid new lt so_far is n =
    is n ∙ ap (λ b. b || has n (get_or xs i d)) (so_far n)
    ∙ sym (or_assoc (has_byte old n) (list_any (has n) (take i xs)) (has n (get_or xs i d)))
    ∙ ap (λ b. has_byte old n || b) (sym (list_any_more (has n) xs i d lt))
