-- What each word tells is read again, before a space or a line feed.
use Rattle.std.proofs.Common.{◌≡◌, ◌≢◌, ℕ, suc, ◌-◌, ◌^◌, ◌<◌, ◌≤◌, ℤ, pos, negsuc, Bool, true, false, List, [], ◌∷◌, ◌++◌, length, Option, Some, None, refl, ap, arith, IsTrue, FitsSigned, w64, ◌⊎◌, inl, inr, drop, get_or, if◌then◌else◌}
use Rattle.std.specs.Option.{IfSome}
use Rattle.std.specs.Char.{digit_value}
use Rattle.std.specs.Fmt.{decimal, signed_decimal, digits}
use Rattle.std.specs.Str.Parse.{AllDigits}
use Rattle.std.proofs.lemmas.Bool.{le-leb, ne_eqb}
use Rattle.std.proofs.lemmas.Fmt.{decimal_is_IsNumeral}
use Rattle.std.proofs.lemmas.Int.{ints}
use Rattle.std.proofs.lemmas.Option.{none-some, same_Some}
use Rattle.std.proofs.Math.Nat.{pow-le-pow_right}
use Rattle.jh_history.specs.declared.entry.Settled.{Settled}
use Rattle.jh_history.specs.declared.entry.Settled.TheVariants as settled
use Rattle.jh_history.specs.declared.entry.Heard.{Heard}
use Rattle.jh_history.specs.declared.entry.Heard.TheVariants as heard
use Rattle.jh_text.specs.Ranges.{is_width}
use Rattle.jh_text.specs.Text.{hexadecimal, got_text, ok_text, decision_text, settled_text, heard_text}
use Rattle.jh_text.specs.Private.Reading.{mapped, begins, max_u64, number_until, hexadecimal_until, front_answer, negative, width_digit, front_width, front_got, front_ok, front_decision, front_settled, front_heard}
use Rattle.jh_text.proofs.Numbers.{number_again}
use Rattle.jh_history.proofs.Public.{width_le}

pub decimal_again : (end most n : ℕ) (rest : List ℕ) → digit_value end ≡ 36 → n < 2 ^ 64 → n ≤ most → number_until 10 end most (decimal n ++ end ∷ rest) ≡ Some (n, rest)
decimal_again end most n rest none small fits = number_again 10 end most n rest (omega arith) (omega arith) none (omega arith) small fits

pub hexadecimal_again : (end most n : ℕ) (rest : List ℕ) → digit_value end ≡ 36 → n < 2 ^ 64 → n ≤ most → hexadecimal_until end most (hexadecimal n ++ end ∷ rest) ≡ Some (n, rest)
unfolding hexadecimal_until
hexadecimal_again end most n rest none small fits = number_again 16 end most n rest (omega arith) (omega arith) none (omega arith) small fits

-- digits begin with no sign and no letter above `f`
unsigned : (ds rest : List ℕ) (n : ℕ) → AllDigits 10 ds → 0 < length ds → number_until 10 10 (2 ^ 63 - 1) (ds ++ 10 ∷ rest) ≡ Some (n, rest) → front_answer (ds ++ 10 ∷ rest) ≡ Some (pos n, rest)
unfolding front_answer
unsigned [] rest n all some read = absurd (omega arith)
unsigned (d ∷ ds) rest n all some read = rw (ne_eqb d 45 (λ e. omega (arith, all.0, ap digit_value e)), read) refl

minus : (n : ℕ) → suc n ≤ 2 ^ 63 → negative (suc n) ≡ Some (negsuc n)
minus n fits = rw (ne_eqb (suc n) 0 (λ e. omega arith), le-leb (suc n) (2 ^ 63) fits) (ap Some (omega (arith, ints)))

pub answer_again : (z : ℤ) (rest : List ℕ) → FitsSigned w64 z → front_answer (signed_decimal z ++ 10 ∷ rest) ≡ Some (z, rest)
unfolding front_answer
answer_again (pos n) rest fits =
    let small : n < 2 ^ 63 = omega (arith, ints) in
    let own = decimal_is_IsNumeral n (omega arith) in
    unsigned (decimal n) rest n own.0.1 own.0.0 (decimal_again 10 (2 ^ 63 - 1) n rest refl (omega arith) (omega arith))
answer_again (negsuc n) rest fits =
    let small : n < 2 ^ 63 = omega (arith, ints) in
    rw (decimal_again 10 max_u64 (suc n) rest refl (omega arith) (omega arith), minus n (omega arith)) refl

-- a number is no word that begins with such a letter
digits_are_not : (ds rest : List ℕ) (c : ℕ) (cs : List ℕ) → AllDigits 10 ds → 10 ≤ digit_value c → 10 ≢ c → begins (c ∷ cs) (ds ++ 10 ∷ rest) ≡ false
digits_are_not [] rest c cs all letter feed = rw (ne_eqb 10 c feed) refl
digits_are_not (d ∷ ds) rest c cs all letter feed = rw (ne_eqb d c (λ e. omega (arith, all.0, ap digit_value e))) refl

pub answer_is_not : (z : ℤ) (rest : List ℕ) (c : ℕ) (cs : List ℕ) → FitsSigned w64 z → 10 ≤ digit_value c → 10 ≢ c → 45 ≢ c → begins (c ∷ cs) (signed_decimal z ++ 10 ∷ rest) ≡ false
answer_is_not (pos n) rest c cs fits letter feed sign =
    let small : n < 2 ^ 63 = omega (arith, ints) in
    digits_are_not (decimal n) rest c cs (decimal_is_IsNumeral n (omega arith)).0.1 letter feed
answer_is_not (negsuc n) rest c cs fits letter feed sign = rw (ne_eqb 45 c sign) refl

width_cases : (width : ℕ) → IsTrue (is_width width) → (width ≡ 1) ⊎ (width ≡ 2) ⊎ (width ≡ 4) ⊎ (width ≡ 8)
width_cases width h = grind arith

pub width_again : (width : ℕ) (rest : List ℕ) → IsTrue (is_width width) → front_width (decimal width ++ 32 ∷ rest) ≡ Some (width, rest)
unfolding front_width digits
width_again width rest h = elim (width_cases width h) as (λ _. front_width (decimal width ++ 32 ∷ rest) ≡ Some (width, rest)) [
  | inl one ↦ rw one refl
  | inr (inl two) ↦ rw two refl
  | inr (inr (inl four)) ↦ rw four refl
  | inr (inr (inr eight)) ↦ rw eight refl
]

-- a byte that tells a width is its one digit
digit_of_width : (c width : ℕ) → width_digit c ≡ Some width → decimal width ≡ c ∷ []
unfolding digits
digit_of_width c width e = by (is_width (c - 48)) refl e
  where
    only : IsTrue (is_width (c - 48)) → decimal (c - 48) ≡ c ∷ []
    only h = elim (width_cases (c - 48) h) as (λ _. decimal (c - 48) ≡ c ∷ []) [
      | inl one ↦ rw one (ap (λ x. x ∷ []) (omega arith))
      | inr (inl two) ↦ rw two (ap (λ x. x ∷ []) (omega arith))
      | inr (inr (inl four)) ↦ rw four (ap (λ x. x ∷ []) (omega arith))
      | inr (inr (inr eight)) ↦ rw eight (ap (λ x. x ∷ []) (omega arith))
    ]

    by : (t : Bool) → is_width (c - 48) ≡ t → (if t then Some (c - 48) else None) ≡ Some width → decimal width ≡ c ∷ []
    by true is e = rw (← same_Some _ _ e) (only is)
    by false is e = absurd (none-some _ e)

-- a text that begins with the digit of a width and a space
pub width_spelled : (width : ℕ) (text : List ℕ) → 2 ≤ length text → get_or text 1 0 ≡ 32 → width_digit (get_or text 0 0) ≡ Some width → text ≡ decimal width ++ 32 ∷ drop 2 text
width_spelled width [] long space digit = absurd (let no : ⊥ = omega arith in no)
width_spelled width (c ∷ []) long space digit = absurd (let no : ⊥ = omega arith in no)
width_spelled width (c ∷ d ∷ rest) long space digit = rw (digit_of_width c width digit, space) refl

-- eight bytes are the most
pub widest : (width : ℕ) → IsTrue (is_width width) → 256 ^ width ≤ 2 ^ 64
widest width h = omega (arith, pow-le-pow_right {n = 256} (omega arith) {i = width} {j = 8} (width_le width h))

pub got_again : (most : ℕ) (got : Option ℕ) (rest : List ℕ) → most < 2 ^ 64 → IfSome got (λ value. value ≤ most) → front_got most (got_text got ++ 10 ∷ rest) ≡ Some (got, rest)
unfolding front_got
got_again most None rest room fits = refl
got_again most (Some value) rest room fits = ap (mapped Some) (hexadecimal_again 10 most value rest refl (omega arith) fits)

pub ok_again : (ok : Bool) (rest : List ℕ) → front_ok (ok_text ok ++ 10 ∷ rest) ≡ Some (ok, rest)
unfolding front_ok
ok_again true rest = refl
ok_again false rest = refl

pub decision_again : (refused : Option ℤ) (rest : List ℕ) → IfSome refused (FitsSigned w64) → front_decision (decision_text refused ++ 10 ∷ rest) ≡ Some (refused, rest)
unfolding front_decision
decision_again None rest fits = refl
decision_again (Some z) rest fits = rw (answer_is_not z rest 103 (111 ∷ 10 ∷ []) fits (omega arith) (omega arith) (omega arith), answer_again z rest fits) refl

pub settled_again : (how : Settled) (rest : List ℕ) → front_settled (settled_text how ++ 10 ∷ rest) ≡ Some (how, rest)
unfolding front_settled
settled_again settled.Agreed rest = refl
settled_again settled.Denied rest = refl
settled_again settled.Timeout rest = refl

pub heard_again : (how : Heard) (rest : List ℕ) → front_heard (heard_text how ++ 10 ∷ rest) ≡ Some (how, rest)
unfolding front_heard
heard_again heard.Received rest = refl
heard_again heard.Down rest = refl
heard_again heard.Other rest = refl
heard_again heard.Timeout rest = refl
