-- The bit is cleared and leaves the others, and past the width there are none.
use Rattle.std.proofs.Common.{◌<◌, ◌==◌, nat_eq, not, false, ap, refl, sym, ◌∙◌, inl, inr, arith}
use Rattle.std.specs.Int.{w16}
use Rattle.std.proofs.Math.Bool.{and-true}
use Rattle.std.proofs.Math.Nat.{zero-min}
use Rattle.std.proofs.lemmas.Bool.{cases_lt, cases_eq, eq-eqb, ne_eqb, and_left, and_right}
use Rattle.std.proofs.lemmas.Nat.Bits.{bit_at_and, bit_at_above, bit_at_clear_same, bit_at_clear_other}
use Rattle.jh_num.specs.Bits.{has_bit}
use Rattle.jh_check.proofs.MaskLemmas.{high_bit}
use Rattle.jh_check.proofs.mask.without_bit.Goals as goal

pub returns-then-index-lt16 : goal.returns-then-index-lt16
returns-then-index-lt16 c = λ k.
    let mask = c.args.mask in
    let index = c.args.index in
    let within : index < 16 = c.if-index-lt16.true in
    elim (cases_eq k index) [
      | inl same ↦ rw (same, eq-eqb index index refl) (ap (λ b. nat_eq b 1) (bit_at_clear_same w16 mask index within) ∙ sym (and_right (has_bit mask index) false refl))
      | inr other ↦ elim (cases_lt k 16) [
        | inl low ↦ rw (ne_eqb k index other) (ap (λ b. nat_eq b 1) (bit_at_clear_other w16 mask index within k low other) ∙ sym (and-true (has_bit mask k)))
        | inr high ↦ rw (bit_at_and, bit_at_above mask 16 k c.ranges.mask.fits high, zero-min) refl
      ]
    ]

pub returns-else-index-lt16 : goal.returns-else-index-lt16
returns-else-index-lt16 c = λ k.
    elim (cases_eq k c.args.index) [
      | inl same ↦ (let none = high_bit c.args.mask k c.ranges.mask.fits (omega arith) in none ∙ sym (and_left (has_bit c.args.mask k) (not (k == c.args.index)) none))
      | inr other ↦ rw (ne_eqb k c.args.index other) (sym (and-true (has_bit c.args.mask k)))
    ]
