-- What the reader makes of digits.
use Rattle.std.proofs.Common.{◌≡◌, ◌≢◌, ◌&&◌, ℕ, ◌+◌, ◌-◌, ◌*◌, ◌^◌, ◌<◌, ◌≤◌, Bool, true, false, not, eqb, nat_le, nat_lt, if◌then◌else◌, ◌==◌, List, [], ◌∷◌, ◌++◌, length, drop, get_or, Option, Some, None, refl, sym, ap, ◌∙◌, subst, arith}
use Rattle.std.specs.Char.{digit_value, is_digit}
use Rattle.std.specs.Fmt.{digits}
use Rattle.std.specs.List.{list_all}
use Rattle.std.specs.Str.Parse.{AllDigits, digits_value, digits_value_after}
use Rattle.std.proofs.lemmas.Bool.{lt-ltb, lt-leb, ltb-true, le-leb, ne_eqb, eq-eqb, eqb-true, and_parts, false≢true}
use Rattle.std.proofs.lemmas.Fmt.{digits_is_IsNumeral}
use Rattle.std.proofs.lemmas.Option.{none-some, same_Some}
use Rattle.std.proofs.Math.Nat.{pow-le-pow_left}
use Rattle.jh_script.specs.Operations.{◌>>=◌}
use Rattle.jh_text.specs.Private.Reading.{is_no_capital, lower_digit, with_digit, with_written_digit, digits_until, begins_canonical, number_until}
use Rattle.jh_text.proofs.WrittenDigits.{is_canonical, digits_of_canonical, canonical_digits, several_canonical}
use Rattle.jh_text.proofs.Splits.{Lacks, Lacks_cons}
use Rattle.jh_script.proofs.Public.{value_ge}

-- a byte that is no digit, such as a space or a line feed, is none of the digits of a number
no_digit : (radix byte d : ℕ) → radix ≤ 16 → digit_value byte ≡ 36 → digit_value d < radix → eqb d byte ≡ false
no_digit radix byte d high none small = ne_eqb d byte (λ e. omega (arith, ap digit_value e))

-- so it is no digit that is read
pub end_is_no_digit : (radix end c d : ℕ) → radix ≤ 16 → digit_value end ≡ 36 → lower_digit radix c ≡ Some d → (c == end) ≡ false
end_is_no_digit radix end c d high none digit = by (is_no_capital c && is_digit c radix) refl digit
  where
    by : (t : Bool) → (is_no_capital c && is_digit c radix) ≡ t → (if t then Some (digit_value c) else None) ≡ Some d → (c == end) ≡ false
    by true is e = no_digit radix end c high none (ltb-true (digit_value c) radix (and_parts _ _ is).1)
    by false is e = absurd (none-some _ e)

digits_lack : (radix byte : ℕ) (ds : List ℕ) → radix ≤ 16 → digit_value byte ≡ 36 → AllDigits radix ds → Lacks byte ds
digits_lack radix byte [] high none all = record { none = refl }
digits_lack radix byte (d ∷ ds) high none all = Lacks_cons byte d ds (no_digit radix byte d high none all.0) (digits_lack radix byte ds high none all.1)

pub Lacks_digits : (radix byte n : ℕ) → 2 ≤ radix → radix ≤ 16 → n < radix ^ 64 → digit_value byte ≡ 36 → Lacks byte (digits radix false n)
Lacks_digits radix byte n low high small none = digits_lack radix byte (digits radix false n) high none (digits_is_IsNumeral radix false low high n small).0.1

-- ---- digit by digit

-- the end stands at the front
pub until_end : (radix end n : ℕ) (text : List ℕ) → 1 ≤ length text → get_or text 0 0 ≡ end → digits_until radix end n text ≡ Some (n, drop 1 text)
unfolding digits_until
until_end radix end n [] some is = absurd (let no : ⊥ = omega arith in no)
until_end radix end n (c ∷ text) some is = rw (eq-eqb c end is) refl

-- a digit stands at the front
pub until_digit : (radix end n m : ℕ) (text : List ℕ) → radix ≤ 16 → digit_value end ≡ 36 → 1 ≤ length text → with_written_digit radix n (get_or text 0 0) ≡ Some m
    → digits_until radix end n text ≡ digits_until radix end m (drop 1 text)
unfolding digits_until
until_digit radix end n m [] high none some more = absurd (let no : ⊥ = omega arith in no)
until_digit radix end n m (c ∷ text) high none some more = by (lower_digit radix c) refl more
  where
    by : (o : Option ℕ) → lower_digit radix c ≡ o → (o >>= with_digit radix n) ≡ Some m
        → (if c == end then Some (n, text) else (o >>= λ d. with_digit radix n d >>= λ k. digits_until radix end k text)) ≡ digits_until radix end m text
    by None e more = absurd (none-some _ more)
    by (Some d) e more = rw (end_is_no_digit radix end c d high none e, more) refl

-- neither the end stands there nor a digit that makes a number
pub until_other : (radix end n : ℕ) (text : List ℕ) → 1 ≤ length text → get_or text 0 0 ≢ end → with_written_digit radix n (get_or text 0 0) ≡ None → digits_until radix end n text ≡ None
unfolding digits_until
until_other radix end n [] some other none = absurd (let no : ⊥ = omega arith in no)
until_other radix end n (c ∷ text) some other none = by (lower_digit radix c) none
  where
    by : (o : Option ℕ) → (o >>= with_digit radix n) ≡ None → (if c == end then Some (n, text) else (o >>= λ d. with_digit radix n d >>= λ k. digits_until radix end k text)) ≡ None
    by None e = rw (ne_eqb c end other) refl
    by (Some d) e = rw (ne_eqb c end other, e) refl

-- nothing is left
pub until_nothing : (radix end n : ℕ) (text : List ℕ) → length text < 1 → digits_until radix end n text ≡ None
unfolding digits_until
until_nothing radix end n [] none = refl
until_nothing radix end n (c ∷ text) none = absurd (let no : ⊥ = omega arith in no)

-- ---- from the digits of a number to the number

-- digits are read one after the other
on_again : (radix end n : ℕ) (ds rest : List ℕ) → 0 < radix → radix ≤ 16 → digit_value end ≡ 36 → AllDigits radix ds → list_all is_no_capital ds ≡ true → digits_value_after radix n ds < 2 ^ 64
    → digits_until radix end n (ds ++ end ∷ rest) ≡ Some (digits_value_after radix n ds, rest)
unfolding digits_until
on_again radix end n [] rest some high none all lower small = rw (eq-eqb end end refl) refl
on_again radix end n (d ∷ ds) rest some high none all lower small =
    let plain : (is_no_capital d ≡ true) × (list_all is_no_capital ds ≡ true) = and_parts _ _ lower in
    let m : ℕ = n * radix + digit_value d in
    let below : m < 2 ^ 64 = omega (arith, value_ge radix m ds some, small) in
    rw (no_digit radix end d high none all.0, plain.0, lt-ltb (digit_value d) radix all.0, lt-ltb m (2 ^ 64) below)
    (on_again radix end m ds rest some high none all.1 plain.1 small)

-- the word before the end is plain where the text begins so
begins_again : (radix end : ℕ) (ds rest : List ℕ) → radix ≤ 16 → digit_value end ≡ 36 → AllDigits radix ds → is_canonical ds ≡ true → begins_canonical end (ds ++ end ∷ rest) ≡ true
begins_again radix end [] rest high none all plain = absurd (false≢true plain)
begins_again radix end (c ∷ []) rest high none all plain = by (eqb c 48)
  where
    by : (t : Bool) → (if t then end == end else not (c == end)) ≡ true
    by true = eq-eqb end end refl
    by false = rw (no_digit radix end c high none all.0) refl
begins_again radix end (c ∷ d ∷ ds) rest high none all plain =
    let nonzero : eqb c 48 ≡ false = (several_canonical (c == 48) (list_all is_no_capital (c ∷ d ∷ ds)) plain).0 in
    rw (nonzero, no_digit radix end c high none all.0) refl

-- the digits of a number are read again
pub number_again : (radix end most n : ℕ) (rest : List ℕ) → 2 ≤ radix → radix ≤ 16 → digit_value end ≡ 36 → n < radix ^ 64 → n < 2 ^ 64 → n ≤ most
    → number_until radix end most (digits radix false n ++ end ∷ rest) ≡ Some (n, rest)
unfolding number_until
number_again radix end most n rest low high none some small fits =
    let own = digits_is_IsNumeral radix false low high n some in
    let plain = canonical_digits radix n low some in
    let value : digits_value_after radix 0 (digits radix false n) ≡ n = own.1 in
    rw (
      begins_again radix end (digits radix false n) rest high none own.0.1 plain,
      on_again radix end 0 (digits radix false n) rest (omega arith) high none own.0.1 (lower_of (digits radix false n) plain) (rw value small),
      value,
      le-leb n most fits,
    ) refl
  where
    lower_of : (ds : List ℕ) → is_canonical ds ≡ true → list_all is_no_capital ds ≡ true
    lower_of [] plain = absurd (false≢true plain)
    lower_of (c ∷ []) plain = plain
    lower_of (c ∷ d ∷ ds) plain = (several_canonical _ _ plain).1

-- a number of one digit
one_digit_until : (end most c : ℕ) (rest : List ℕ) → digit_value end ≡ 36 → 48 ≤ c → c ≤ 57 → number_until 10 end most (c ∷ end ∷ rest) ≡ (if nat_le (c - 48) most then Some (c - 48, rest) else None)
unfolding number_until
one_digit_until end most c rest none low high =
    let value : digit_value c ≡ c - 48 = grind arith in
    let all : AllDigits 10 (c ∷ []) = (omega arith, tt) in
    let lower : is_no_capital c ≡ true = grind arith in
    let after : digits_value_after 10 0 (c ∷ []) ≡ c - 48 = omega arith in
    rw (
      begins_again 10 end (c ∷ []) rest (omega arith) none all (rw lower refl),
      on_again 10 end 0 (c ∷ []) rest (omega arith) (omega arith) none all (rw lower refl) (omega arith),
      after,
    ) refl

-- a digit stands at the front, and the end behind it
pub record OneDigit (end : ℕ) (text : List ℕ) : Type 0 where
  pub long : 2 ≤ length text
  pub low : 48 ≤ get_or text 0 0
  pub high : get_or text 0 0 ≤ 57
  pub last : get_or text 1 0 ≡ end

one_digit_front : (end most : ℕ) (text : List ℕ) → digit_value end ≡ 36 → OneDigit end text → number_until 10 end most text ≡ (if nat_le (get_or text 0 0 - 48) most then Some (get_or text 0 0 - 48, drop 2 text) else None)
one_digit_front end most [] none h = absurd (let no : ⊥ = omega (arith, h.long) in no)
one_digit_front end most (c ∷ []) none h = absurd (let no : ⊥ = omega (arith, h.long) in no)
one_digit_front end most (c ∷ d ∷ rest) none h =
    ap (λ x. number_until 10 end most (c ∷ x ∷ rest)) h.last ∙ one_digit_until end most c rest none h.low h.high

pub one_digit_fits : (end most : ℕ) (text : List ℕ) → digit_value end ≡ 36 → OneDigit end text → get_or text 0 0 - 48 ≤ most → number_until 10 end most text ≡ Some (get_or text 0 0 - 48, drop 2 text)
one_digit_fits end most text none h fits = one_digit_front end most text none h ∙ rw (le-leb (get_or text 0 0 - 48) most fits) refl

pub one_digit_large : (end most : ℕ) (text : List ℕ) → digit_value end ≡ 36 → OneDigit end text → most < get_or text 0 0 - 48 → number_until 10 end most text ≡ None
one_digit_large end most text none h large = one_digit_front end most text none h ∙ rw (lt-leb (get_or text 0 0 - 48) most large) refl

-- ---- from what is read to the text

-- the digits that were read before the end, of a number that they write behind those of n
record Digits (radix end n : ℕ) (text : List ℕ) (value : ℕ) (rest : List ℕ) : Type 0 where
  ds : List ℕ
  whole : text ≡ ds ++ end ∷ rest
  digits : list_all (λ c. is_digit c radix) ds ≡ true
  lower : list_all is_no_capital ds ≡ true
  is : digits_value_after radix n ds ≡ value
  small : value < 2 ^ 64

on_spelled : (radix end n value : ℕ) (text rest : List ℕ) → n < 2 ^ 64 → digits_until radix end n text ≡ Some (value, rest) → Digits radix end n text value rest
unfolding digits_until
on_spelled radix end n value [] rest small e = absurd (none-some _ e)
on_spelled radix end n value (c ∷ text) rest small e = by (λ m below read. on_spelled radix end m value text rest below read) (eqb c end) refl e
  where
    more : ((m : ℕ) → m < 2 ^ 64 → digits_until radix end m text ≡ Some (value, rest) → Digits radix end m text value rest)
        → (lower digit fits : Bool) → is_no_capital c ≡ lower → nat_lt (digit_value c) radix ≡ digit → nat_lt (n * radix + digit_value c) (2 ^ 64) ≡ fits
        → ((if lower && digit then Some (digit_value c) else None) >>= λ d. (if nat_lt (n * radix + d) (2 ^ 64) then Some (n * radix + d) else None) >>= λ m. digits_until radix end m text) ≡ Some (value, rest)
        → Digits radix end n (c ∷ text) value rest
    more next false digit fits l d f e = absurd (none-some _ e)
    more next true false fits l d f e = absurd (none-some _ e)
    more next true true false l d f e = absurd (none-some _ (rw f at e))
    more next true true true l d f e =
        let on = next (n * radix + digit_value c) (ltb-true _ _ f) (rw f at e) in
        record {
          ds = c ∷ on.ds;
          whole = ap (λ t. c ∷ t) on.whole;
          digits = rw d on.digits;
          lower = rw l on.lower;
          is = on.is;
          small = on.small;
        }

    by : ((m : ℕ) → m < 2 ^ 64 → digits_until radix end m text ≡ Some (value, rest) → Digits radix end m text value rest)
        → (t : Bool) → eqb c end ≡ t
        → (if t then Some (n, text) else (lower_digit radix c >>= λ digit. with_digit radix n digit >>= λ m. digits_until radix end m text)) ≡ Some (value, rest)
        → Digits radix end n (c ∷ text) value rest
    by next true h e =
        let same : (n, text) ≡ (value, rest) = same_Some _ _ e in
        record {
          ds = [];
          whole = λ i. eqb-true c end h i ∷ (same i).1;
          digits = refl;
          lower = refl;
          is = ap (λ (x : ℕ × List ℕ). x.0) same;
          small = subst (λ (x : ℕ × List ℕ). x.0 < 2 ^ 64) same small;
        }
    by next false h e = more next (is_no_capital c) (nat_lt (digit_value c) radix) (nat_lt (n * radix + digit_value c) (2 ^ 64)) refl refl refl e

-- a text that begins so has a plain word before the end
canonical_of : (radix end : ℕ) (ds rest : List ℕ) → radix ≤ 16 → digit_value end ≡ 36 → list_all (λ c. is_digit c radix) ds ≡ true → list_all is_no_capital ds ≡ true → begins_canonical end (ds ++ end ∷ rest) ≡ true → is_canonical ds ≡ true
canonical_of radix end [] [] high none digits lower begins = absurd (false≢true (rw (eq-eqb end end refl) at begins))
canonical_of radix end [] (r ∷ rest) high none digits lower begins =
    absurd (false≢true (rw (ne_eqb end 48 (λ e. omega (arith, none, ap digit_value e)), eq-eqb end end refl) at begins))
canonical_of radix end (c ∷ []) rest high none digits lower begins = lower
canonical_of radix end (c ∷ d ∷ ds) rest high none digits lower begins = by (eqb c 48) begins
  where
    by : (t : Bool) → (if t then d == end else not (c == end)) ≡ true → (if t then false else list_all is_no_capital (c ∷ d ∷ ds)) ≡ true
    by true h =
        let all = and_parts _ _ digits in
        let small = ltb-true (digit_value d) radix (and_parts _ _ all.1).0 in
        absurd (false≢true (sym (no_digit radix end d high none small) ∙ h))
    by false h = lower

bounded : (most : ℕ) (read : Option (ℕ × List ℕ)) (n : ℕ) (rest : List ℕ) → (read >>= λ x. if nat_le x.0 most then Some x else None) ≡ Some (n, rest) → read ≡ Some (n, rest)
bounded most None n rest e = absurd (none-some _ e)
bounded most (Some x) n rest e = by (nat_le x.0 most) e
  where
    by : (t : Bool) → (if t then Some x else None) ≡ Some (n, rest) → Some x ≡ Some (n, rest)
    by true h = h
    by false h = absurd (none-some _ h)

-- what is read is the text of the number, the end and what is left
pub number_spelled : (radix end most n : ℕ) (text rest : List ℕ) → 2 ≤ radix → radix ≤ 16 → digit_value end ≡ 36 → number_until radix end most text ≡ Some (n, rest) → text ≡ digits radix false n ++ end ∷ rest
unfolding number_until
number_spelled radix end most n text rest low high none e = by (begins_canonical end text) refl e
  where
    by : (t : Bool) → begins_canonical end text ≡ t → (if t then (digits_until radix end 0 text >>= λ x. if nat_le x.0 most then Some x else None) else None) ≡ Some (n, rest) → text ≡ digits radix false n ++ end ∷ rest
    by false h e = absurd (none-some _ e)
    by true h e =
        let on = on_spelled radix end 0 n text rest (omega arith) (bounded most (digits_until radix end 0 text) n rest e) in
        let plain = canonical_of radix end on.ds rest high none on.digits on.lower (sym (ap (begins_canonical end) on.whole) ∙ h) in
        let room : digits_value radix on.ds < radix ^ 64 = omega (arith, on.is, on.small, pow-le-pow_left low 64) in
        on.whole ∙ ap (λ ds. ds ++ end ∷ rest) (sym (digits_of_canonical radix on.ds low high on.digits plain room) ∙ ap (digits radix false) on.is)
