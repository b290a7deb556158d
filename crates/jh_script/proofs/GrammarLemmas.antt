-- Numbers and lines, from what they write to their text and back.
use Rattle.std.proofs.Common.{◌≡◌, ◌≢◌, ℕ, zero, suc, ◌^◌, ◌<◌, ◌≤◌, inl, inr, Bool, true, false, cond, eqb, ltb, leb, ◌&&◌, List, [], ◌∷◌, length, get_or, drop, Option, Some, None, refl, sym, ap, ◌∙◌, subst, arith, codes, nat_eq, option_and_then}
use Rattle.std.specs.Option.{option_map}
use Rattle.std.specs.Char.{digit_value}
use Rattle.std.specs.Fmt.{decimal}
use Rattle.std.specs.Str.{bytes_eq}
use Rattle.std.specs.Str.Parse.{AllDigits, digits_value}
use Rattle.std.specs.List.{starts_with}
use Rattle.std.proofs.lemmas.Bool.{lt-ltb, ltb-true, le-leb, leb-true, eqb-true, eq-eqb, ne_eqb, false≢true, and_parts}
use Rattle.std.proofs.lemmas.Option.{none-some, same_Some}
use Rattle.std.proofs.lemmas.Slice.Eq.{bytes_eq-Decides}
use Rattle.std.proofs.lemmas.Fmt.{decimal_is_IsNumeral, decimal_digit, decimal-digits_value, first_decimal}
use Rattle.std.proofs.lemmas.Str.Parse.{IsNumeralModel, numerals_by_value, tells_digits}
use Rattle.std.proofs.lemmas.Int.Digits.{digits_value-lt}
use Rattle.std.proofs.Math.Nat.{pow-le-pow_right}
use Rattle.jh_script.specs.declared.op.Op.{Op}
use Rattle.jh_script.specs.declared.op.Op.TheVariants.{Read, Write, Fetch, Await, Irq, Hvc}
use Rattle.jh_script.specs.declared.line.Line.TheVariants.{Blank, Operation, Syntax, Width}
use Rattle.jh_script.specs.Numbers.{are_digits, value_of, decimal_of, hexadecimal_of, number_written}
use Rattle.jh_script.specs.Words.{words, line_gaps}
use Rattle.jh_script.specs.Operations.{is_ascii, none_of, one_of, two_of, three_of, op_of, is_well_formed, IsWellFormed, line_of, line_of_op, line_of_words}
use Rattle.jh_script.specs.Grammar.{IsDecimal, IsNumber, IsNameAlone, IsNameAndOne, IsNameAndTwo, IsNameAndThree, IsSkipped, IsIllFormed, Writes}
use Rattle.jh_script.proofs.OperationLemmas.{well_formed_by_test, test_from_well_formed}

-- ---- numbers

digits_to : (base : ℕ) (ds : List ℕ) → are_digits base ds ≡ true → AllDigits base ds
unfolding are_digits
digits_to base [] h = tt
digits_to base (d ∷ ds) h =
    let parts = and_parts (ltb (digit_value d) base) (are_digits base ds) h in
    (ltb-true (digit_value d) base parts.0, digits_to base ds parts.1)

digits_from : (base : ℕ) (ds : List ℕ) → AllDigits base ds → are_digits base ds ≡ true
unfolding are_digits
digits_from base [] all = refl
digits_from base (d ∷ ds) all = rw (lt-ltb (digit_value d) base all.0) (digits_from base ds all.1)

record HasValue (base : ℕ) (ds : List ℕ) (n : ℕ) : Type 0 where
  all : AllDigits base ds
  value : digits_value base ds ≡ n
  small : n < 2 ^ 64

value_to : (base : ℕ) (ds : List ℕ) (n : ℕ) → value_of base ds ≡ Some n → HasValue base ds n
unfolding value_of
value_to base ds n e = by (are_digits base ds && ltb (digits_value base ds) (2 ^ 64)) refl e
  where
    by : (t : Bool) → (are_digits base ds && ltb (digits_value base ds) (2 ^ 64)) ≡ t → cond t (Some (digits_value base ds)) None ≡ Some n → HasValue base ds n
    by false h e = absurd (none-some _ e)
    by true h e =
        let parts = and_parts (are_digits base ds) (ltb (digits_value base ds) (2 ^ 64)) h in
        let value : digits_value base ds ≡ n = same_Some _ _ e in
        let small : digits_value base ds < 2 ^ 64 = ltb-true (digits_value base ds) (2 ^ 64) parts.1 in
        record { all = digits_to base ds parts.0; value = value; small = omega arith }

value_from : (base : ℕ) (ds : List ℕ) (n : ℕ) → HasValue base ds n → value_of base ds ≡ Some n
unfolding value_of
value_from base ds n h =
    let value = h.value in
    let least = h.small in
    let small : digits_value base ds < 2 ^ 64 = omega arith in
    rw (digits_from base ds h.all, lt-ltb (digits_value base ds) (2 ^ 64) small) (ap Some h.value)

own : IsNumeralModel (AllDigits 10) (digits_value 10)
own = numerals_by_value (AllDigits 10) tells_digits

decimal_text : (word : List ℕ) (n : ℕ) → HasValue 10 word n → 0 < length word → (get_or word 0 0 ≡ 48 → length word ≡ 1) → IsDecimal word n
decimal_text word n h some lead =
    let value = h.value in
    let least = h.small in
    let small : digits_value 10 word < 2 ^ 64 = omega arith in
    record { small = h.small; text = sym (decimal-digits_value own word h.all some lead small) ∙ ap decimal h.value }

decimal_to : (word : List ℕ) (n : ℕ) → decimal_of word ≡ Some n → IsDecimal word n
unfolding decimal_of
decimal_to [] n e = absurd (none-some _ e)
decimal_to (digit ∷ []) n e = decimal_text (digit ∷ []) n (value_to 10 (digit ∷ []) n e) (omega arith) (λ z. refl)
decimal_to (first ∷ second ∷ digits) n e = by (eqb first 48) refl e
  where
    by : (t : Bool) → eqb first 48 ≡ t → cond t None (value_of 10 (first ∷ second ∷ digits)) ≡ Some n → IsDecimal (first ∷ second ∷ digits) n
    by true h e = absurd (none-some _ e)
    by false h e = decimal_text (first ∷ second ∷ digits) n (value_to 10 (first ∷ second ∷ digits) n e) (omega arith) (λ z. absurd (false≢true (sym h ∙ eq-eqb first 48 z)))

of_digits : (word : List ℕ) (n : ℕ) → HasValue 10 word n → 0 < length word → (get_or word 0 0 ≡ 48 → length word ≡ 1) → decimal_of word ≡ Some n
unfolding decimal_of
of_digits [] n h some lead = absurd (omega arith)
of_digits (digit ∷ []) n h some lead = value_from 10 (digit ∷ []) n h
of_digits (first ∷ second ∷ digits) n h some lead =
    let other : first ≢ 48 = λ z. omega (arith, lead z) in
    rw (ne_eqb first 48 other) (value_from 10 (first ∷ second ∷ digits) n h)

leads : (n : ℕ) → n < 2 ^ 64 → get_or (decimal n) 0 0 ≡ 48 → length (decimal n) ≡ 1
leads zero small e = ap length (decimal_digit 0 (omega arith))
leads (suc n) small e =
    let first : 48 < get_or (decimal (suc n)) 0 0 = first_decimal (suc n) (omega arith) small in
    absurd (omega arith)

decimal_value : (n : ℕ) → n < 2 ^ 64 → HasValue 10 (decimal n) n
decimal_value n small =
    let numeral = decimal_is_IsNumeral n small in
    record { all = numeral.0.1; value = numeral.1; small = small }

decimal_from : (word : List ℕ) (n : ℕ) → IsDecimal word n → decimal_of word ≡ Some n
decimal_from word n d =
    ap decimal_of d.text ∙ of_digits (decimal n) n (decimal_value n d.small) (decimal_is_IsNumeral n d.small).0.0 (leads n d.small)

hexadecimal_to : (digits : List ℕ) (n : ℕ) → hexadecimal_of digits ≡ Some n → (0 < length digits) × (length digits ≤ 16) × HasValue 16 digits n
unfolding hexadecimal_of
hexadecimal_to digits n e = by (ltb 0 (length digits) && leb (length digits) 16) refl e
  where
    by : (t : Bool) → (ltb 0 (length digits) && leb (length digits) 16) ≡ t → cond t (value_of 16 digits) None ≡ Some n → (0 < length digits) × (length digits ≤ 16) × HasValue 16 digits n
    by false h e = absurd (none-some _ e)
    by true h e =
        let parts = and_parts (ltb 0 (length digits)) (leb (length digits) 16) h in
        (ltb-true 0 (length digits) parts.0, leb-true (length digits) 16 parts.1, value_to 16 digits n e)

hexadecimal_from : (digits : List ℕ) (n : ℕ) → 0 < length digits → length digits ≤ 16 → HasValue 16 digits n → hexadecimal_of digits ≡ Some n
unfolding hexadecimal_of
hexadecimal_from digits n some few h = rw (lt-ltb 0 (length digits) some, le-leb (length digits) 16 few) (value_from 16 digits n h)

marked : (word : List ℕ) → starts_with nat_eq word (codes "0x") ≡ true → word ≡ 48 ∷ 120 ∷ drop 2 word
marked [] h = absurd (false≢true h)
marked (a ∷ []) h =
    let parts = and_parts (eqb 48 a) false h in
    absurd (false≢true parts.1)
marked (a ∷ b ∷ rest) h =
    let parts = and_parts (eqb 48 a) (eqb 120 b && true) h in
    let second = and_parts (eqb 120 b) true parts.1 in
    ap (λ x. x ∷ b ∷ rest) (sym (eqb-true 48 a parts.0)) ∙ ap (λ x. 48 ∷ x ∷ rest) (sym (eqb-true 120 b second.0))

pub number_to : (word : List ℕ) (n : ℕ) → number_written word ≡ Some n → IsNumber word n
unfolding number_written
number_to word n e = by (starts_with nat_eq word (codes "0x")) refl e
  where
    by : (t : Bool) → starts_with nat_eq word (codes "0x") ≡ t → cond t (hexadecimal_of (drop 2 word)) (decimal_of word) ≡ Some n → IsNumber word n
    by false h e = inl (decimal_to word n e)
    by true h e =
        let parts = hexadecimal_to (drop 2 word) n e in
        let value = parts.2 in
        inr (record { digits = drop 2 word; text = marked word h; some = parts.0; few = parts.1; are = value.all; value = sym value.value })

-- no decimal number begins with `0x`
unmarked : (word : List ℕ) (t : Bool) → AllDigits 10 word → starts_with nat_eq word (codes "0x") ≡ t → t ≡ false
unmarked word false all h = refl
unmarked word true all h =
    let digits = subst (AllDigits 10) (marked word h) all in
    absurd (omega (arith, digits.1.0))

pub number_from : (word : List ℕ) (n : ℕ) → IsNumber word n → number_written word ≡ Some n
unfolding number_written
number_from word n (inl d) =
    let value = decimal_value n d.small in
    let all : AllDigits 10 word = subst (AllDigits 10) (sym d.text) value.all in
    rw (unmarked word (starts_with nat_eq word (codes "0x")) all refl) (decimal_from word n d)
number_from word n (inr h) =
    let digits = h.digits in
    let least : digits_value 16 digits < 16 ^ length digits = digits_value-lt 16 digits h.are in
    let most : 16 ^ length digits ≤ 16 ^ 16 = pow-le-pow_right {n = 16} (omega arith) {i = length digits} {j = 16} h.few in
    let value = h.value in
    let small : n < 2 ^ 64 = omega arith in
    ap number_written h.text ∙ hexadecimal_from digits n h.some h.few (record { all = h.are; value = sym h.value; small = small })

-- ---- the words of an operation

none_to : (name : List ℕ) (behind : List (List ℕ)) (x : Unit {0}) → none_of behind ≡ Some x → IsNameAlone name (name ∷ behind)
unfolding none_of
none_to name [] x e = record { are = refl }
none_to name (a ∷ more) x e = absurd (none-some _ e)

one_to : (name : List ℕ) (behind : List (List ℕ)) (x : ℕ) → one_of behind ≡ Some x → IsNameAndOne name (name ∷ behind) x
unfolding one_of
one_to name [] x e = absurd (none-some _ e)
one_to name (a ∷ []) x e = record { a = a; are = refl; first = number_to a x e }
one_to name (a ∷ b ∷ more) x e = absurd (none-some _ e)

two_to : (name : List ℕ) (behind : List (List ℕ)) (n : ℕ × ℕ) → two_of behind ≡ Some n → IsNameAndTwo name (name ∷ behind) n.0 n.1
unfolding two_of
two_to name [] n e = absurd (none-some _ e)
two_to name (a ∷ []) n e = absurd (none-some _ e)
two_to name (a ∷ b ∷ []) n e = by (number_written a) (number_written b) refl refl e
  where
    by : (s t : Option ℕ) → number_written a ≡ s → number_written b ≡ t → option_and_then (λ x. option_and_then (λ y. Some (x, y)) t) s ≡ Some n → IsNameAndTwo name (name ∷ a ∷ b ∷ []) n.0 n.1
    by None t f g e = absurd (none-some _ e)
    by (Some x) None f g e = absurd (none-some _ e)
    by (Some x) (Some y) f g e =
        let same : (x, y) ≡ n = same_Some _ _ e in
        record { a = a; b = b; are = refl; first = number_to a n.0 (f ∙ ap (λ (m : ℕ × ℕ). Some m.0) same); second = number_to b n.1 (g ∙ ap (λ (m : ℕ × ℕ). Some m.1) same) }
two_to name (a ∷ b ∷ c ∷ more) n e = absurd (none-some _ e)

three_to : (name : List ℕ) (behind : List (List ℕ)) (n : ℕ × ℕ × ℕ) → three_of behind ≡ Some n → IsNameAndThree name (name ∷ behind) n.0 n.1 n.2
unfolding three_of
three_to name [] n e = absurd (none-some _ e)
three_to name (a ∷ []) n e = absurd (none-some _ e)
three_to name (a ∷ b ∷ []) n e = absurd (none-some _ e)
three_to name (a ∷ b ∷ c ∷ []) n e = by (number_written a) (number_written b) (number_written c) refl refl refl e
  where
    by : (r s t : Option ℕ) → number_written a ≡ r → number_written b ≡ s → number_written c ≡ t → option_and_then (λ x. option_and_then (λ y. option_and_then (λ z. Some (x, y, z)) t) s) r ≡ Some n → IsNameAndThree name (name ∷ a ∷ b ∷ c ∷ []) n.0 n.1 n.2
    by None s t f g h e = absurd (none-some _ e)
    by (Some x) None t f g h e = absurd (none-some _ e)
    by (Some x) (Some y) None f g h e = absurd (none-some _ e)
    by (Some x) (Some y) (Some z) f g h e =
        let same : (x, y, z) ≡ n = same_Some _ _ e in
        record {
          a = a;
          b = b;
          c = c;
          are = refl;
          first = number_to a n.0 (f ∙ ap (λ (m : ℕ × ℕ × ℕ). Some m.0) same);
          second = number_to b n.1 (g ∙ ap (λ (m : ℕ × ℕ × ℕ). Some m.1) same);
          third = number_to c n.2 (h ∙ ap (λ (m : ℕ × ℕ × ℕ). Some m.2) same);
        }
three_to name (a ∷ b ∷ c ∷ d ∷ more) n e = absurd (none-some _ e)

-- what was found is what the words hold, by the name that they have
mapped : {A : Type 0} (f : A → Op) (o : Option A) (op : Op) (W : Op → Type 0) → ((n : A) → o ≡ Some n → W (f n)) → option_map f o ≡ Some op → W op
mapped f None op W h e = absurd (none-some _ e)
mapped f (Some n) op W h e = subst W (same_Some _ _ e) (h n refl)

choose : (t : Bool) (x y : Option Op) (op : Op) (W : Type 0) → (t ≡ true → x ≡ Some op → W) → (y ≡ Some op → W) → cond t x y ≡ Some op → W
choose true x y op W here later e = here refl e
choose false x y op W here later e = later e

abbrev WrittenBy : List ℕ → List (List ℕ) → Op → Type 0
WrittenBy name behind op = Writes (name ∷ behind) op

op_to : (name : List ℕ) (behind : List (List ℕ)) (op : Op) → op_of name behind ≡ Some op → Writes (name ∷ behind) op
unfolding op_of
op_to name behind op e =
    choose (bytes_eq name (codes "read")) _ _ op (WrittenBy name behind op)
    (λ is. mapped (λ (n : ℕ × ℕ). Read n.0 n.1) (two_of behind) op (WrittenBy name behind) (λ n f. subst (λ (x : List ℕ). IsNameAndTwo x (name ∷ behind) n.0 n.1) ((bytes_eq-Decides name (codes "read")).0 is) (two_to name behind n f)))
    (choose (bytes_eq name (codes "write")) _ _ op (WrittenBy name behind op)
    (λ is. mapped (λ (n : ℕ × ℕ × ℕ). Write n.0 n.1 n.2) (three_of behind) op (WrittenBy name behind) (λ n f. subst (λ (x : List ℕ). IsNameAndThree x (name ∷ behind) n.0 n.1 n.2) ((bytes_eq-Decides name (codes "write")).0 is) (three_to name behind n f)))
    (choose (bytes_eq name (codes "fetch")) _ _ op (WrittenBy name behind op)
    (λ is. mapped (λ (n : ℕ). Fetch n) (one_of behind) op (WrittenBy name behind) (λ n f. subst (λ (x : List ℕ). IsNameAndOne x (name ∷ behind) n) ((bytes_eq-Decides name (codes "fetch")).0 is) (one_to name behind n f)))
    (choose (bytes_eq name (codes "await")) _ _ op (WrittenBy name behind op)
    (λ is. mapped (λ (n : ℕ × ℕ × ℕ). Await n.0 n.1 n.2) (three_of behind) op (WrittenBy name behind) (λ n f. subst (λ (x : List ℕ). IsNameAndThree x (name ∷ behind) n.0 n.1 n.2) ((bytes_eq-Decides name (codes "await")).0 is) (three_to name behind n f)))
    (choose (bytes_eq name (codes "irq")) _ _ op (WrittenBy name behind op)
    (λ is. mapped (λ (n : Unit {0}). Irq) (none_of behind) op (WrittenBy name behind) (λ n f. subst (λ (x : List ℕ). IsNameAlone x (name ∷ behind)) ((bytes_eq-Decides name (codes "irq")).0 is) (none_to name behind n f)))
    (choose (bytes_eq name (codes "hvc")) _ _ op (WrittenBy name behind op)
    (λ is. mapped (λ (n : ℕ × ℕ × ℕ). Hvc n.0 n.1 n.2) (three_of behind) op (WrittenBy name behind) (λ n f. subst (λ (x : List ℕ). IsNameAndThree x (name ∷ behind) n.0 n.1 n.2) ((bytes_eq-Decides name (codes "hvc")).0 is) (three_to name behind n f)))
    (λ none. absurd (none-some _ none))))))) e

three_from : (a b c : List ℕ) (x y z : ℕ) → IsNumber a x → IsNumber b y → IsNumber c z → three_of (a ∷ b ∷ c ∷ []) ≡ Some (x, y, z)
unfolding three_of
three_from a b c x y z f g h = rw (number_from a x f, number_from b y g, number_from c z h) refl

two_from : (a b : List ℕ) (x y : ℕ) → IsNumber a x → IsNumber b y → two_of (a ∷ b ∷ []) ≡ Some (x, y)
unfolding two_of
two_from a b x y f g = rw (number_from a x f, number_from b y g) refl

-- the words of an operation tell it
op_from : (ws : List (List ℕ)) (op : Op) → Writes ws op → line_of_words ws ≡ line_of_op (Some op)
unfolding line_of_words op_of one_of none_of
op_from ws (Read width at) w = ap line_of_words w.are ∙ ap (λ o. line_of_op (option_map (λ (n : ℕ × ℕ). Read n.0 n.1) o)) (two_from w.a w.b width at w.first w.second)
op_from ws (Write width at value) w = ap line_of_words w.are ∙ ap (λ o. line_of_op (option_map (λ (n : ℕ × ℕ × ℕ). Write n.0 n.1 n.2) o)) (three_from w.a w.b w.c width at value w.first w.second w.third)
op_from ws (Fetch at) w = ap line_of_words w.are ∙ ap (λ o. line_of_op (option_map (λ (n : ℕ). Fetch n) o)) (number_from w.a at w.first)
op_from ws (Await width at value) w = ap line_of_words w.are ∙ ap (λ o. line_of_op (option_map (λ (n : ℕ × ℕ × ℕ). Await n.0 n.1 n.2) o)) (three_from w.a w.b w.c width at value w.first w.second w.third)
op_from ws Irq w = ap line_of_words w.are
op_from ws (Hvc code a b) w = ap line_of_words w.are ∙ ap (λ o. line_of_op (option_map (λ (n : ℕ × ℕ × ℕ). Hvc n.0 n.1 n.2) o)) (three_from w.a w.b w.c code a b w.first w.second w.third)

-- ---- lines

same_op : (o op : Op) → Operation o ≡ Operation op → o ≡ op
same_op o op e = cc

op_told : (o : Option Op) (op : Op) → line_of_op o ≡ Operation op → (o ≡ Some op) × IsWellFormed op
unfolding line_of_op
op_told None op e = cc
op_told (Some o) op e = by (is_well_formed o) refl e
  where
    by : (t : Bool) → is_well_formed o ≡ t → cond t (Operation o) Width ≡ Operation op → (Some o ≡ Some op) × IsWellFormed op
    by false h e = cc
    by true h e = (ap Some (same_op o op e), subst IsWellFormed (same_op o op e) (well_formed_by_test o h))

words_told : (ws : List (List ℕ)) (op : Op) → line_of_words ws ≡ Operation op → Writes ws op × IsWellFormed op
unfolding line_of_words
words_told [] op e = cc
words_told (name ∷ behind) op e = by (starts_with nat_eq name (codes "#")) e
  where
    by : (t : Bool) → cond t Blank (line_of_op (op_of name behind)) ≡ Operation op → Writes (name ∷ behind) op × IsWellFormed op
    by true e = cc
    by false e =
        let told = op_told (op_of name behind) op e in
        (op_to name behind op told.0, told.1)

pub line_to : (text : List ℕ) (op : Op) → line_of text ≡ Operation op → (is_ascii text ≡ true) × Writes (words line_gaps text) op × IsWellFormed op
unfolding line_of
line_to text op e = by (is_ascii text) refl e
  where
    by : (t : Bool) → is_ascii text ≡ t → cond t (line_of_words (words line_gaps text)) Syntax ≡ Operation op → (is_ascii text ≡ true) × Writes (words line_gaps text) op × IsWellFormed op
    by false h e = cc
    by true h e =
        let told = words_told (words line_gaps text) op e in
        (h, told.0, told.1)

well_formed_line : (op : Op) → IsWellFormed op → line_of_op (Some op) ≡ Operation op
unfolding line_of_op
well_formed_line op h = rw (test_from_well_formed op h) refl

pub line_from : (text : List ℕ) (op : Op) → (is_ascii text ≡ true) × Writes (words line_gaps text) op × IsWellFormed op → line_of text ≡ Operation op
unfolding line_of
line_from text op h = rw (h.0) (op_from (words line_gaps text) op h.1 ∙ well_formed_line op h.2)

-- the words of an operation that isn't within its limits
wide_line : (op : Op) → (IsWellFormed op → ⊥) → line_of_op (Some op) ≡ Width
unfolding line_of_op
wide_line op h = by (is_well_formed op) refl
  where
    by : (t : Bool) → is_well_formed op ≡ t → cond t (Operation op) Width ≡ Width
    by true e = absurd (h (well_formed_by_test op e))
    by false e = refl

op_wide : (o : Option Op) → line_of_op o ≡ Width → (op : Op) × (o ≡ Some op) × (IsWellFormed op → ⊥)
unfolding line_of_op
op_wide None e = cc
op_wide (Some o) e = by (is_well_formed o) refl e
  where
    by : (t : Bool) → is_well_formed o ≡ t → cond t (Operation o) Width ≡ Width → (op : Op) × (Some o ≡ Some op) × (IsWellFormed op → ⊥)
    by true h e = cc
    by false h e = (o, refl, λ p. false≢true (sym h ∙ test_from_well_formed o p))

words_wide : (ws : List (List ℕ)) → line_of_words ws ≡ Width → (op : Op) × Writes ws op × (IsWellFormed op → ⊥)
unfolding line_of_words
words_wide [] e = cc
words_wide (name ∷ behind) e = by (starts_with nat_eq name (codes "#")) e
  where
    by : (t : Bool) → cond t Blank (line_of_op (op_of name behind)) ≡ Width → (op : Op) × Writes (name ∷ behind) op × (IsWellFormed op → ⊥)
    by true e = cc
    by false e =
        let wide = op_wide (op_of name behind) e in
        (wide.0, op_to name behind wide.0 wide.1, wide.2)

pub width_to : (text : List ℕ) → line_of text ≡ Width → IsIllFormed text
unfolding line_of
width_to text e = by (is_ascii text) refl e
  where
    by : (t : Bool) → is_ascii text ≡ t → cond t (line_of_words (words line_gaps text)) Syntax ≡ Width → IsIllFormed text
    by false h e = cc
    by true h e =
        let wide = words_wide (words line_gaps text) e in
        record { ascii = h; op = wide.0; written = wide.1; ill = wide.2 }

pub width_from : (text : List ℕ) → IsIllFormed text → line_of text ≡ Width
unfolding line_of
width_from text w = rw (w.ascii) (op_from (words line_gaps text) w.op w.written ∙ wide_line w.op w.ill)

no_blank : (o : Option Op) → line_of_op o ≡ Blank → ⊥
unfolding line_of_op
no_blank None e = cc
no_blank (Some o) e = by (is_well_formed o) e
  where
    by : (t : Bool) → cond t (Operation o) Width ≡ Blank → ⊥
    by true e = cc
    by false e = cc

words_blank : (ws : List (List ℕ)) → line_of_words ws ≡ Blank → IsSkipped ws
unfolding line_of_words
words_blank [] e = tt
words_blank (name ∷ behind) e = by (starts_with nat_eq name (codes "#")) refl e
  where
    by : (t : Bool) → starts_with nat_eq name (codes "#") ≡ t → cond t Blank (line_of_op (op_of name behind)) ≡ Blank → starts_with nat_eq name (codes "#") ≡ true
    by true h e = h
    by false h e = absurd (no_blank (op_of name behind) e)

skipped : (ws : List (List ℕ)) → IsSkipped ws → line_of_words ws ≡ Blank
unfolding line_of_words
skipped [] h = refl
skipped (name ∷ behind) h = ap (λ t. cond t Blank (line_of_op (op_of name behind))) h

pub blank_to : (text : List ℕ) → line_of text ≡ Blank → (is_ascii text ≡ true) × IsSkipped (words line_gaps text)
unfolding line_of
blank_to text e = by (is_ascii text) refl e
  where
    by : (t : Bool) → is_ascii text ≡ t → cond t (line_of_words (words line_gaps text)) Syntax ≡ Blank → (is_ascii text ≡ true) × IsSkipped (words line_gaps text)
    by false h e = cc
    by true h e = (h, words_blank (words line_gaps text) e)

pub blank_from : (text : List ℕ) → (is_ascii text ≡ true) × IsSkipped (words line_gaps text) → line_of text ≡ Blank
unfolding line_of
blank_from text h = rw (h.0) (skipped (words line_gaps text) h.1)
