-- Lists of bytes that are stored, one behind another.
use Rattle.std.proofs.Common.{◌≡◌, ℕ, ◌+◌, ◌-◌, ◌<◌, ◌≤◌, List, ◌++◌, length, length-take, get_or, take, cond, leb, ltb, refl, sym, ◌∙◌, ap, inl, inr, arith}
use Rattle.std.specs.Prelude.{min, slice_index, slice_range, ◌&&◌}
use Rattle.std.proofs.lemmas.Bool.{cases_lt, le-leb, lt-ltb}
use Rattle.std.proofs.lemmas.List.{get_or-append_right, get_or_append_left, length-append}
use Rattle.std.proofs.Math.Seq.{take-add}
use Rattle.jh_num.specs.Memory.{stored}
use Rattle.jh_num.proofs.MemoryLemmas.{stored_before, stored_behind}

-- the bytes of a list where it is stored
pub stored_in : (byte : ℕ → ℕ) (at : ℕ) (bytes : List ℕ) (q : ℕ) → at ≤ q → q < at + length bytes → stored byte at bytes q ≡ get_or bytes (q - at) 0
stored_in byte at bytes q above below = rw (le-leb at q above, lt-ltb q (at + length bytes) below) refl

-- one list behind another
stored_append : (byte : ℕ → ℕ) (at : ℕ) (xs ys : List ℕ) (q : ℕ) → stored (stored byte at xs) (at + length xs) ys q ≡ stored byte at (xs ++ ys) q
stored_append byte at xs ys q =
    let sum : length (xs ++ ys) ≡ length xs + length ys = length-append xs ys in
    elim (cases_lt q at) [
      | inl before ↦ stored_before (stored byte at xs) (at + length xs) ys q (omega arith) ∙ stored_before byte at xs q before ∙ sym (stored_before byte at (xs ++ ys) q before)
      | inr above ↦ elim (cases_lt q (at + length xs)) [
        | inl low ↦
            let within : q - at < length xs = omega arith in
            stored_before (stored byte at xs) (at + length xs) ys q low ∙ stored_in byte at xs q above low
            ∙ sym (get_or_append_left xs ys 0 (q - at) within) ∙ sym (stored_in byte at (xs ++ ys) q above (omega arith))
        | inr high ↦ elim (cases_lt q (at + length (xs ++ ys))) [
          | inl below ↦
              let e : q - (at + length xs) ≡ (q - at) - length xs = omega arith in
              stored_in (stored byte at xs) (at + length xs) ys q high (omega arith) ∙ ap (slice_index ys) e
              ∙ sym (get_or-append_right xs ys (length xs) (q - at) 0 refl (omega arith)) ∙ sym (stored_in byte at (xs ++ ys) q above below)
          | inr behind ↦
              stored_behind (stored byte at xs) (at + length xs) ys q (omega arith) ∙ stored_behind byte at xs q high ∙ sym (stored_behind byte at (xs ++ ys) q behind)
        ]
      ]
    ]

-- a list that is stored in two steps
pub stored_more : (byte middle : ℕ → ℕ) (at from upto : ℕ) (bytes : List ℕ) (q : ℕ) → from ≤ upto → upto ≤ length bytes → middle q ≡ stored byte at (take from bytes) q
    → stored middle (at + from) (slice_range bytes from upto) q ≡ stored byte at (take upto bytes) q
stored_more byte middle at from upto bytes q le within is =
    let xs = take from bytes in
    let ys = slice_range bytes from upto in
    let shorter : length (take from bytes) ≡ min from (length bytes) = length-take from bytes in
    let len : length (take from bytes) ≡ from = omega arith in
    let sum : from + (upto - from) ≡ upto = omega arith in
    ap (λ (b : ℕ). cond (leb (at + from) q && ltb q (at + from + length ys)) (slice_index ys (q - (at + from))) b) is
    ∙ ap (λ (n : ℕ). stored (stored byte at xs) (at + n) ys q) (sym len)
    ∙ stored_append byte at xs ys q
    ∙ ap (λ (bs : List ℕ). stored byte at bs q) (sym (take-add from (upto - from) bytes))
    ∙ ap (λ (n : ℕ). stored byte at (take n bytes) q) sum
