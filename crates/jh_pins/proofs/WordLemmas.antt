-- Pins of the bits of a word, one bit that is set after another.
use Rattle.std.proofs.Common.{◌≡◌, ℕ, ◌+◌, ◌-◌, ◌*◌, ◌%◌, ◌^◌, ◌<◌, ◌≤◌, bit_and, Bool, true, false, eqb, leb, ltb, not, ◌&&◌, ◌||◌, List, refl, sym, ap, subst, ◌∙◌, ⊎_elim, arith}
use Rattle.std.proofs.lemmas.Bool.{and_from, and_left, and_right, cases_Bool, cases_lt, both_ways, eq-eqb, eqb-true, le-leb, le-ltb, lt-leb, lt-ltb, or_right}
use Rattle.std.proofs.Math.Bool.{or-false}
use Rattle.std.specs.Int.{bit_at, w32, bit_not, trailing_zeros}
use Rattle.std.proofs.lemmas.Nat.Bits.{bit_at-trailing_zeros, bit_at_clear_same, bit_at_clear_other}
use Rattle.std.proofs.lemmas.Nat.{and_le_l}
use Rattle.jh_num.specs.Bits.{has_bit}
use Rattle.jh_num.specs.declared.range.Range.{Range}
use Rattle.jh_num.specs.Bytes.{has_byte}
use Rattle.jh_pins.specs.Private.Words.{is_in_word}

-- the pins of the word's bits that are left out by now are put in, and each bit that is left is one of the word's
pub record PutIn (word left first : ℕ) (old new : List Range) : Type 0 where
  pub done : (n : ℕ) → has_byte new n ≡ (has_byte old n || (is_in_word word first n && not (is_in_word left first n)))
  pub own : (i : ℕ) → i < 32 → has_bit left i ≡ true → has_bit word i ≡ true

-- the bit goes, and all others stay
pub record IsLeftOut (left bit rest : ℕ) : Type 0 where
  pub within : bit < 32
  pub set : has_bit left bit ≡ true
  pub gone : has_bit rest bit ≡ false
  pub others : (i : ℕ) → i < 32 → (i ≡ bit → ⊥) → has_bit rest i ≡ has_bit left i

-- the lowest bit that is set
abbrev pub lowest : ℕ → ℕ
lowest left = trailing_zeros w32 left

-- the word without that bit
abbrev pub without_lowest : ℕ → ℕ
without_lowest left = bit_and left (bit_not w32 (1 * 2 ^ lowest left % 2 ^ 32))

pub lowest_out : (left : ℕ) → 0 < left → left < 2 ^ 32 → IsLeftOut left (lowest left) (without_lowest left)
lowest_out left some fits =
    let at = bit_at-trailing_zeros w32 left some fits in
    record {
      within = at.0;
      set = eq-eqb (bit_at left (lowest left)) 1 at.1;
      gone = ap (λ b. eqb b 1) (bit_at_clear_same w32 left (lowest left) at.0);
      others = λ i lt ne. ap (λ b. eqb b 1) (bit_at_clear_other w32 left (lowest left) at.0 i lt ne);
    }

pub fewer_left : (left : ℕ) → 0 < left → left < 2 ^ 32 → without_lowest left < left
fewer_left left some fits =
    let out = lowest_out left some fits in
    let le : without_lowest left ≤ left = and_le_l left (bit_not w32 (1 * 2 ^ lowest left % 2 ^ 32)) in
    ⊎_elim
    (λ (lt : without_lowest left < left). lt)
    (λ (ge : left ≤ without_lowest left).
    let same : without_lowest left ≡ left = omega (arith, le, ge) in
    absurd (both_ways (has_bit left (lowest left)) (ap (λ w. has_bit w (lowest left)) (sym same) ∙ out.gone) out.set))
    (cases_lt (without_lowest left) left)

-- words that agree at a number's bit agree at the number
same_in_word : (word other first n : ℕ) → (first ≤ n → n - first < 32 → has_bit word (n - first) ≡ has_bit other (n - first)) → is_in_word word first n ≡ is_in_word other first n
same_in_word word other first n same =
    ⊎_elim
    (λ (lt : n < first).
    and_left (leb first n) (ltb (n - first) 32 && has_bit word (n - first)) (lt-leb first n lt) ∙ sym (and_left (leb first n) (ltb (n - first) 32 && has_bit other (n - first)) (lt-leb first n lt)))
    (λ (le : first ≤ n).
    ⊎_elim
    (λ (few : n - first < 32). ap (λ b. leb first n && (ltb (n - first) 32 && b)) (same le few))
    (λ (past : 32 ≤ n - first).
    ap (λ b. leb first n && b) (and_left (ltb (n - first) 32) (has_bit word (n - first)) (le-ltb (n - first) 32 past) ∙ sym (and_left (ltb (n - first) 32) (has_bit other (n - first)) (le-ltb (n - first) 32 past))))
    (cases_lt (n - first) 32))
    (cases_lt n first)

-- the pin of a bit
pin_of_bit : (word first bit n : ℕ) (b : Bool) → bit < 32 → n ≡ first + bit → has_bit word bit ≡ b → is_in_word word first n ≡ b
pin_of_bit word first bit n b lt at is =
    let off : n - first ≡ bit = omega arith in
    let le : first ≤ n = omega arith in
    let few : n - first < 32 = omega arith in
    rw (le-leb first n le, lt-ltb (n - first) 32 few) (ap (has_bit word) off ∙ is)

pub bit_put : (word left bit rest first : ℕ) (old mid new : List Range) → PutIn word left first old mid → IsLeftOut left bit rest → ((n : ℕ) → has_byte new n ≡ (has_byte mid n || eqb n (first + bit))) → PutIn word rest first old new
bit_put word left bit rest first old mid new so_far out is = record {
  done = λ n. ⊎_elim (here n) (there n) (cases_Bool (eqb n (first + bit)));
  own = λ i lt set. so_far.own i lt (sym (out.others i lt (λ same. both_ways (has_bit rest i) (ap (has_bit rest) same ∙ out.gone) set)) ∙ set);
}
  where
    here : (n : ℕ) → eqb n (first + bit) ≡ true → has_byte new n ≡ (has_byte old n || (is_in_word word first n && not (is_in_word rest first n)))
    here n same =
        let at : n ≡ first + bit = eqb-true n (first + bit) same in
        let own : is_in_word word first n ≡ true = pin_of_bit word first bit n true out.within at (so_far.own bit out.within out.set) in
        let gone : is_in_word rest first n ≡ false = pin_of_bit rest first bit n false out.within at out.gone in
        is n ∙ or_right (has_byte mid n) (eqb n (first + bit)) same ∙ sym (or_right (has_byte old n) (is_in_word word first n && not (is_in_word rest first n)) (and_from (is_in_word word first n) (not (is_in_word rest first n)) own (ap not gone)))

    there : (n : ℕ) → eqb n (first + bit) ≡ false → has_byte new n ≡ (has_byte old n || (is_in_word word first n && not (is_in_word rest first n)))
    there n other =
        let ne : n ≡ first + bit → ⊥ = λ same. both_ways (eqb n (first + bit)) other (eq-eqb n (first + bit) same) in
        let kept : is_in_word rest first n ≡ is_in_word left first n = same_in_word rest left first n (λ le few. out.others (n - first) few (λ same. ne (omega arith))) in
        is n ∙ ap (λ b. has_byte mid n || b) other ∙ or-false (has_byte mid n) ∙ so_far.done n ∙ ap (λ b. has_byte old n || (is_in_word word first n && not b)) (sym kept)
