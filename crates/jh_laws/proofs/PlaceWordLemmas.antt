-- Codes of hypercalls, and words of communication pages, as numbers.
use Rattle.std.proofs.Common.{◌≡◌, ◌≢◌, ℕ, ◌+◌, ◌*◌, ◌<◌, true, false, eqb, refl, inl, inr, ⊎_elim, ◌⊎◌, arith}
use Rattle.std.specs.Prelude.{◌↔◌}
use Rattle.std.proofs.lemmas.Bool.{eqb-true, eq-eqb, ne_eqb, or_cases, or_left, or_right}
use Rattle.jh_call.specs.declared.call.Call.TheVariants.{Unknown}
use Rattle.jh_call.specs.Calls.{decoded}
use Rattle.jh_history.specs.Facts.{Facts}
use Rattle.jh_history.specs.Phases.{state_word, reply_word, is_down}
use Rattle.jh_laws.specs.Words.{number_in_page}

-- a code that isn't 1 to 7, nor of the power interface
pub no_code : (code a b : ℕ) → (code ≡ 0) ⊎ (7 < code) → code ≢ 0x84000002 → code ≢ 0xc4000003 → code ≢ 0xc4000004 → decoded code a b ≡ Unknown
no_code code a b out off on affinity =
    let other : (n : ℕ) → 0 < n → n < 8 → eqb code n ≡ false =
    λ n some few. ne_eqb code n (λ is. ⊎_elim (λ none. omega (arith, none, is, some)) (λ past. omega (arith, past, is, few)) out) in
    rw (
      other 1 (omega arith) (omega arith),
      other 2 (omega arith) (omega arith),
      other 3 (omega arith) (omega arith),
      other 4 (omega arith) (omega arith),
      other 5 (omega arith) (omega arith),
      other 6 (omega arith) (omega arith),
      other 7 (omega arith) (omega arith),
      ne_eqb code 0x84000002 off,
      ne_eqb code 0xc4000003 on,
      ne_eqb code 0xc4000004 affinity,
    ) refl

-- four bytes
spelled_four : (a b c d : ℕ) → a + 256 * (b + 256 * (c + 256 * (d + 256 * 0))) ≡ a + 256 * b + 65536 * c + 16777216 * d
spelled_four a b c d = omega arith

pub state_number : (f : Facts) (id : ℕ) → state_word f id ≡ number_in_page f id 8
state_number f id = spelled_four _ _ _ _

pub reply_number : (f : Facts) (id : ℕ) → reply_word f id ≡ number_in_page f id 16
reply_number f id = spelled_four _ _ _ _

pub down_is : (state : ℕ) → (is_down state ≡ true) ↔ ((state ≡ 2) ⊎ (state ≡ 3))
down_is state = (
  λ down. ⊎_elim (λ two. inl (eqb-true state 2 two)) (λ three. inr (eqb-true state 3 three)) (or_cases (eqb state 2) (eqb state 3) down),
  λ is. ⊎_elim (λ two. or_left (eqb state 2) (eqb state 3) (eq-eqb state 2 two)) (λ three. or_right (eqb state 2) (eqb state 3) (eq-eqb state 3 three)) is,
)
