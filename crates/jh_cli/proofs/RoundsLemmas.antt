-- The number of rounds that a word tells.
use Rattle.std.proofs.Common.{◌≡◌, ◌≤◌, ℕ, Bool, true, false, cond, ◌&&◌, eqb, List, Some, None, refl, sym, ap, ◌∙◌, arith}
use Rattle.std.specs.Prelude.{nat_le, decimal}
use Rattle.std.specs.Cmp.Lexicographic.{pointwise}
use Rattle.std.proofs.lemmas.Bool.{false≢true}
use Rattle.std.proofs.lemmas.Bool.Decides.{nat_tests}
use Rattle.std.proofs.lemmas.Slice.Eq.{bytes_eq-Decides}
use Rattle.jh_cli.specs.Soak.{AreRounds, ParsesRounds}

abbrev may_be : Bool → ℕ → Bool
may_be canonical rounds = canonical && (nat_le 1 rounds && nat_le rounds 400)

are_few : (canonical : Bool) (rounds : ℕ) → may_be canonical rounds ≡ true → (canonical ≡ true) × (1 ≤ rounds) × (rounds ≤ 400)
are_few true rounds is = (refl, grind (arith, nat_tests), grind (arith, nat_tests))
are_few false rounds is = absurd (false≢true is)

not_few : (rounds : ℕ) → 1 ≤ rounds → rounds ≤ 400 → may_be true rounds ≡ false → ⊥
not_few rounds least most is = grind (arith, nat_tests)

-- the number that was found is the one that the word tells, where it is written so and there may be so many
pub rounds_told : (word written : List ℕ) (found : ℕ) (canonical : Bool) → canonical ≡ pointwise eqb written word → written ≡ decimal found → ((rounds : ℕ) → AreRounds word rounds → rounds ≡ found)
    → ParsesRounds word (cond (may_be canonical found) (Some found) None)
rounds_told word written found canonical is_same is_written only = go (may_be canonical found) refl where
  go : (b : Bool) → may_be canonical found ≡ b → ParsesRounds word (cond b (Some found) None)
  go true is =
      let few = are_few canonical found is in
      record { least = few.1; most = few.2; written = sym ((bytes_eq-Decides written word).0 (sym is_same ∙ few.0)) ∙ is_written }
  go false is = λ rounds are.
      let same = only rounds are in
      let word_is : written ≡ word = is_written ∙ ap decimal (sym same) ∙ sym are.written in
      let is_true : canonical ≡ true = is_same ∙ (bytes_eq-Decides written word).1 word_is in
      let least = are.least in
      let most = are.most in
      not_few found (omega arith) (omega arith) (ap (λ p. may_be p found) (sym is_true) ∙ is)
