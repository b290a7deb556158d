-- Digits in lower case without leading zeros are those that a number is written with.
use Rattle.std.proofs.Common.{◌≡◌, ◌≢◌, ℕ, zero, suc, ◌+◌, ◌*◌, ◌/◌, ◌%◌, ◌^◌, ◌<◌, ◌≤◌, Bool, true, false, ◌==◌, if◌then◌else◌, List, [], ◌∷◌, ◌++◌, refl, sym, ap, ◌∙◌, arith, append_assoc, append-nil, length, length-append, get_or, inl, inr}
use Rattle.std.specs.Char.{digit_value, is_digit}
use Rattle.std.specs.Fmt.{digits, digits_onto, digit_glyph}
use Rattle.std.specs.List.{list_all}
use Rattle.std.specs.Str.Parse.{digits_value, digits_value_after}
use Rattle.std.proofs.lemmas.Bool.{cases_lt, and_parts, ltb-true, lt-ltb, le-ltb, false≢true, eq-eqb, ne_eqb}
use Rattle.std.proofs.Math.Nat.{mul-add-div_right, mul-add-mod_self_right, div-eq_of_lt, mod-eq_of_lt, le-mul_of_pos_right, pow-zero, pow-suc, mul_comm}
use Rattle.jh_text.specs.Private.Reading.{is_no_capital}
use Rattle.jh_text.proofs.Digits.{none_written, next_written, first_written, fewer_left, some_left}
use Rattle.jh_script.proofs.Public.{value_ge}

-- a word of digits in lower case that doesn't begin with a 0 that isn't all of it
abbrev pub is_canonical : List ℕ → Bool
is_canonical [] = false
is_canonical (c ∷ []) = list_all is_no_capital (c ∷ [])
is_canonical (c ∷ d ∷ digits) = if c == 48 then false else list_all is_no_capital (c ∷ d ∷ digits)

-- ---- the last digit of a number

onto_append : (k base n : ℕ) (written : List ℕ) → 2 ≤ base → digits_onto k base false n written ≡ digits_onto k base false n [] ++ written
onto_append zero base n written low = refl
onto_append (suc k) base n written low = elim (cases_lt n base) as (λ _. digits_onto (suc k) base false n written ≡ digits_onto (suc k) base false n [] ++ written) [
  | inl less ↦ first_written k (suc k) base n written refl less ∙ ap (λ x. x ++ written) (sym (first_written k (suc k) base n [] refl less))
  | inr more ↦
      let last = digit_glyph false (n % base) in
      sym (next_written k (suc k) base n written refl low more)
      ∙ onto_append k base (n / base) (last ∷ written) low
      ∙ sym (append_assoc (digits_onto k base false (n / base) []) (last ∷ []) written)
      ∙ ap (λ x. x ++ written) (sym (onto_append k base (n / base) (last ∷ []) low) ∙ next_written k (suc k) base n [] refl low more)
]

single : (base n : ℕ) → n < base ^ 1 → n < base
single base n fits = let one : base ^ 1 ≡ base = rw (pow-suc base 0, pow-zero base) (omega arith) in omega arith

-- more room than a number has digits changes nothing
onto_same : (j k base n : ℕ) (written : List ℕ) → 2 ≤ base → n < base ^ suc j → n < base ^ suc k → digits_onto (suc j) base false n written ≡ digits_onto (suc k) base false n written
onto_same zero k base n written low fits also =
    first_written 0 1 base n written refl (single base n fits) ∙ sym (first_written k (suc k) base n written refl (single base n fits))
onto_same (suc j) zero base n written low fits also =
    first_written (suc j) (suc (suc j)) base n written refl (single base n also) ∙ sym (first_written 0 1 base n written refl (single base n also))
onto_same (suc j) (suc k) base n written low fits also = elim (cases_lt n base) as (λ _. digits_onto (suc (suc j)) base false n written ≡ digits_onto (suc (suc k)) base false n written) [
  | inl less ↦ first_written (suc j) (suc (suc j)) base n written refl less ∙ sym (first_written (suc k) (suc (suc k)) base n written refl less)
  | inr more ↦
      sym (next_written (suc j) (suc (suc j)) base n written refl low more)
      ∙ onto_same j k base (n / base) (digit_glyph false (n % base) ∷ written) low
      (fewer_left base n (suc j) (suc (suc j)) refl (omega arith) fits) (fewer_left base n (suc k) (suc (suc k)) refl (omega arith) also)
      ∙ next_written (suc k) (suc (suc k)) base n written refl low more
]

below_more : (base n k : ℕ) → 2 ≤ base → n < base ^ k → n < base ^ suc k
below_more base n k low fits = omega (arith, pow-suc base k, le-mul_of_pos_right {m = base} (base ^ k) (omega arith))

pub one_digit : (base n : ℕ) → n < base → digits base false n ≡ digit_glyph false n ∷ []
one_digit base n less = sym (none_written base n) ∙ first_written 63 64 base n [] refl less

pub last_digit : (base n : ℕ) → 2 ≤ base → base ≤ n → n < base ^ 64 → digits base false n ≡ digits base false (n / base) ++ (digit_glyph false (n % base) ∷ [])
last_digit base n low more fits =
    let fewer : n / base < base ^ 63 = fewer_left base n 63 64 refl (omega arith) fits in
    let last = digit_glyph false (n % base) in
    sym (none_written base n)
    ∙ sym (next_written 63 64 base n [] refl low more)
    ∙ onto_same 62 63 base (n / base) (last ∷ []) low fewer (below_more base (n / base) 63 low fewer)
    ∙ onto_append 64 base (n / base) (last ∷ []) low
    ∙ ap (λ x. x ++ (last ∷ [])) (none_written base (n / base))

-- ---- from digits to the number and back

lower_glyph : (c : ℕ) → digit_value c < 16 → is_no_capital c ≡ true → digit_glyph false (digit_value c) ≡ c
lower_glyph c small lower = grind arith

-- digits in lower case behind those of a number that is not 0
digits_after : (base n : ℕ) (ds : List ℕ) → 2 ≤ base → base ≤ 16 → 0 < n → list_all (λ c. is_digit c base) ds ≡ true → list_all is_no_capital ds ≡ true
    → digits_value_after base n ds < base ^ 64 → digits base false (digits_value_after base n ds) ≡ digits base false n ++ ds
digits_after base n [] low high some all lower fits = sym (append-nil (digits base false n))
digits_after base n (c ∷ ds) low high some all lower fits =
    let is : (is_digit c base ≡ true) × (list_all (λ x. is_digit x base) ds ≡ true) = and_parts _ _ all in
    let plain : (is_no_capital c ≡ true) × (list_all is_no_capital ds ≡ true) = and_parts _ _ lower in
    let small : digit_value c < base = ltb-true (digit_value c) base is.0 in
    let m : ℕ = n * base + digit_value c in
    let positive : 0 < base = omega arith in
    let front : m / base ≡ n = mul-add-div_right positive n (digit_value c) ∙ rw (div-eq_of_lt small) (omega arith) in
    let last : digit_glyph false (m % base) ≡ c = ap (digit_glyph false) (mul-add-mod_self_right n base (digit_value c) ∙ mod-eq_of_lt small) ∙ lower_glyph c (omega arith) plain.0 in
    let large : base ≤ m = omega (arith, le-mul_of_pos_right {m = n} base some, mul_comm n base) in
    let room : m < base ^ 64 = omega (arith, value_ge base m ds positive) in
    digits_after base m ds low high (omega arith) is.1 plain.1 fits
    ∙ ap (λ x. x ++ ds) (last_digit base m low large room ∙ (λ i. digits base false (front i) ++ (last i ∷ [])))
    ∙ append_assoc (digits base false n) (c ∷ []) ds

not_zero : (c : ℕ) → (c == 48) ≡ false → digit_glyph false (digit_value c) ≡ c → 0 < digit_value c
not_zero c differs glyph = elim (cases_lt 0 (digit_value c)) as (λ _. 0 < digit_value c) [
  | inl some ↦ some
  | inr none ↦
      let zero : digit_value c ≡ 0 = omega arith in
      let is : c ≡ 48 = sym glyph ∙ ap (digit_glyph false) zero in
      absurd (false≢true (sym differs ∙ eq-eqb c 48 is))
]

pub several_canonical : (zero lower : Bool) → (if zero then false else lower) ≡ true → (zero ≡ false) × (lower ≡ true)
several_canonical true lower plain = absurd (false≢true plain)
several_canonical false lower plain = (refl, plain)

pub digits_of_canonical : (base : ℕ) (ds : List ℕ) → 2 ≤ base → base ≤ 16 → list_all (λ c. is_digit c base) ds ≡ true → is_canonical ds ≡ true
    → digits_value base ds < base ^ 64 → digits base false (digits_value base ds) ≡ ds
digits_of_canonical base [] low high all plain fits = absurd (false≢true plain)
digits_of_canonical base (c ∷ []) low high all plain fits =
    let small : digit_value c < base = ltb-true (digit_value c) base (and_parts _ _ all).0 in
    let value : digits_value base (c ∷ []) ≡ digit_value c = omega arith in
    ap (digits base false) value ∙ one_digit base (digit_value c) small ∙ ap (λ g. g ∷ []) (lower_glyph c (omega arith) (and_parts _ _ plain).0)
digits_of_canonical base (c ∷ d ∷ ds) low high all plain fits =
    let is = and_parts _ _ all in
    let parts : ((c == 48) ≡ false) × (list_all is_no_capital (c ∷ d ∷ ds) ≡ true) = several_canonical _ _ plain in
    let lower = and_parts _ _ parts.1 in
    let small : digit_value c < base = ltb-true (digit_value c) base is.0 in
    let glyph = lower_glyph c (omega arith) lower.0 in
    let some : 0 < digit_value c = not_zero c parts.0 glyph in
    let value : digits_value base (c ∷ d ∷ ds) ≡ digits_value_after base (digit_value c) (d ∷ ds) = ap (λ n. digits_value_after base n (d ∷ ds)) {x = 0 * base + digit_value c} {y = digit_value c} (omega arith) in
    ap (digits base false) value
    ∙ digits_after base (digit_value c) (d ∷ ds) low high some is.1 lower.1 (rw value at fits)
    ∙ ap (λ x. x ++ (d ∷ ds)) (one_digit base (digit_value c) small ∙ ap (λ g. g ∷ []) glyph)

-- ---- the digits of a number are plain

glyph_lower : (d : ℕ) → is_no_capital (digit_glyph false d) ≡ true
glyph_lower d = elim (cases_lt d 10) as (λ _. is_no_capital (digit_glyph false d) ≡ true) [
  | inl less ↦ rw (lt-ltb d 10 less) (grind arith)
  | inr more ↦ rw (le-ltb d 10 more) (grind arith)
]

onto_lower : (k base n : ℕ) (written : List ℕ) → 2 ≤ base → list_all is_no_capital written ≡ true → list_all is_no_capital (digits_onto k base false n written) ≡ true
onto_lower zero base n written low lower = lower
onto_lower (suc k) base n written low lower = elim (cases_lt n base) as (λ _. list_all is_no_capital (digits_onto (suc k) base false n written) ≡ true) [
  | inl less ↦ rw (first_written k (suc k) base n written refl less, glyph_lower n) lower
  | inr more ↦ rw (← next_written k (suc k) base n written refl low more) (onto_lower k base (n / base) (digit_glyph false (n % base) ∷ written) low (rw (glyph_lower (n % base)) lower))
]

glyph_some : (d : ℕ) → 0 < d → digit_glyph false d ≢ 48
glyph_some d some = elim (cases_lt d 10) as (λ _. digit_glyph false d ≢ 48) [
  | inl less ↦ rw (lt-ltb d 10 less) (λ e. omega arith)
  | inr more ↦ rw (le-ltb d 10 more) (λ e. omega arith)
]

quotient_some : (base n : ℕ) → 2 ≤ base → base ≤ n → 0 < n / base
quotient_some base n low more = elim (cases_lt 0 (n / base)) as (λ _. 0 < n / base) [
  | inl some ↦ some
  | inr none ↦ absurd (some_left base n low more (omega arith))
]

all_lower : (base n : ℕ) (ds : List ℕ) → 2 ≤ base → digits base false n ≡ ds → list_all is_no_capital ds ≡ true
all_lower base n ds low e = rw (← e, ← none_written base n) (onto_lower 64 base n [] low refl)

no_digit : (base n : ℕ) → 2 ≤ base → n < base ^ 64 → digits base false n ≢ []
no_digit base n low fits = elim (cases_lt n base) as (λ _. digits base false n ≢ []) [
  | inl less ↦ λ e. let no : ⊥ = omega (arith, ap length (sym (one_digit base n less) ∙ e)) in no
  | inr more ↦ λ e. let no : ⊥ = omega (arith, ap length (sym (last_digit base n low more fits) ∙ e), length-append (digits base false (n / base)) (digit_glyph false (n % base) ∷ [])) in no
]

-- the first digit of a number that is not 0 is not 0
onto_first : (k base n d : ℕ) (written : List ℕ) → 2 ≤ base → 0 < n → n < base ^ k → get_or (digits_onto k base false n written) 0 d ≢ 48
onto_first zero base n d written low some fits = absurd (omega (arith, pow-zero base))
onto_first (suc k) base n d written low some fits = elim (cases_lt n base) as (λ _. get_or (digits_onto (suc k) base false n written) 0 d ≢ 48) [
  | inl less ↦ rw (first_written k (suc k) base n written refl less) (glyph_some n some)
  | inr more ↦ rw (← next_written k (suc k) base n written refl low more)
      (onto_first k base (n / base) d (digit_glyph false (n % base) ∷ written) low (quotient_some base n low more) (fewer_left base n k (suc k) refl (omega arith) fits))
]

-- several digits are those of a number not below the base
several_digits : (base n : ℕ) (c d : ℕ) (ds : List ℕ) → digits base false n ≡ c ∷ d ∷ ds → base ≤ n
several_digits base n c d ds e = elim (cases_lt n base) as (λ _. base ≤ n) [
  | inl less ↦ absurd (let no : ⊥ = omega (arith, ap length (sym (one_digit base n less) ∙ e)) in no)
  | inr more ↦ more
]

canonical_by : (base n : ℕ) (ds : List ℕ) → 2 ≤ base → n < base ^ 64 → digits base false n ≡ ds → is_canonical ds ≡ true
canonical_by base n [] low fits e = absurd (no_digit base n low fits e)
canonical_by base n (c ∷ []) low fits e = all_lower base n (c ∷ []) low e
canonical_by base n (c ∷ d ∷ ds) low fits e =
    let some : 0 < n = omega (arith, several_digits base n c d ds e) in
    let first : c ≢ 48 = λ is. onto_first 64 base n 0 [] low some fits (ap (λ l. get_or l 0 0) (none_written base n ∙ e) ∙ is) in
    rw (ne_eqb c 48 first) (all_lower base n (c ∷ d ∷ ds) low e)

pub canonical_digits : (base n : ℕ) → 2 ≤ base → n < base ^ 64 → is_canonical (digits base false n) ≡ true
canonical_digits base n low fits = canonical_by base n (digits base false n) low fits refl
