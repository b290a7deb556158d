-- Marks of the slots of a word, told by the word's bits.
use Rattle.std.proofs.Common.{◌≡◌, ◌≢◌, ℕ, ◌+◌, ◌-◌, ◌*◌, ◌/◌, ◌%◌, ◌^◌, ◌<◌, ◌≤◌, zero, suc, min, max, Bool, true, false, not, ◌==◌, ◌&&◌, ◌||◌, nat_eq, nat_le, nat_lt, cond, List, length, set, slice_index, refl, sym, ap, ◌∙◌, ⊎_elim, arith, w64, bit_and, bit_or}
use Rattle.std.specs.Int.{bit_at, bit_not}
use Rattle.std.specs.Int.Count.{ones, ones_step}
use Rattle.std.proofs.lemmas.Bool.{cases_eq, cases_lt, eq-eqb, ne_eqb, lt-ltb, le-ltb, lt-leb, le-leb, and_left, and_right}
use Rattle.std.proofs.lemmas.Bool.Decides.{nat_tests}
use Rattle.std.proofs.lemmas.Nat.{and_le_l, ones_le_self}
use Rattle.std.proofs.lemmas.Nat.Bits.{bit_at-lt, bit_at_lowest, bit_at-suc, bit_at_and, bit_at_or, bit_at_not, bit_at_ones, bit_at_ones_above, bit_at_mask_inside, bit_at_mask_below, ones_shr, ones_shl}
use Rattle.std.proofs.lemmas.List.{get_or-set_same, get_or-set_other}
use Rattle.std.proofs.Math.Bool.{or-false}
use native.Mathlib.Numerals.{unary_clauses}
use Rattle.jh_num.specs.Bits.{has_bit}
use Rattle.jh_num.proofs.Public.{or_assoc}
use Rattle.jh_shape.specs.Private.Marks.{is_marked}
use Rattle.jh_shape.specs.Pages.{count_below}
use Rattle.jh_shape.proofs.CountLemmas.{count_below_none, count_below_suc, count_below_agree, count_below_either, count_below_le}

-- the bits of two words together, and those that one adds to another
either_bit : (x y : ℕ) → x < 2 → y < 2 → (max x y == 1) ≡ ((x == 1) || (y == 1))
either_bit x y h l = grind (arith, nat_tests)

pub has_either : (a b i : ℕ) → has_bit (bit_or a b) i ≡ (has_bit a i || has_bit b i)
has_either a b i = ap (λ x. x == 1) (bit_at_or a b i) ∙ either_bit (bit_at a i) (bit_at b i) (bit_at-lt a i) (bit_at-lt b i)

first_alone : (x y : ℕ) → x < 2 → y < 2 → (min x (1 - y) == 1) ≡ ((x == 1) && not (y == 1))
first_alone x y h l = grind (arith, nat_tests)

pub has_added : (a b i : ℕ) → b < 2 ^ 64 → i < 64 → has_bit (bit_and a (bit_not w64 b)) i ≡ (has_bit a i && not (has_bit b i))
has_added a b i small low =
    ap (λ x. x == 1) (bit_at_and a (bit_not w64 b) i ∙ ap (λ y. min (bit_at a i) y) (bit_at_not w64 b i small low))
    ∙ first_alone (bit_at a i) (bit_at b i) (bit_at-lt a i) (bit_at-lt b i)

-- the bits from `first` on, below `past`
low_bits : (past i : ℕ) → past ≤ 64 → has_bit (18446744073709551615 / 2 ^ (64 - past)) i ≡ nat_lt i past
low_bits past i h =
    let back : 64 - (64 - past) ≡ past = omega arith in
    let is : 18446744073709551615 / 2 ^ (64 - past) ≡ 2 ^ past - 1 = ones_shr 64 (64 - past) (omega arith) ∙ ap (λ m. 2 ^ m - 1) back in
    ap (λ x. has_bit x i) is
    ∙ ⊎_elim
    (λ (inside : i < past). ap (λ x. x == 1) (bit_at_ones past i inside) ∙ sym (lt-ltb i past inside))
    (λ (outside : past ≤ i). ap (λ x. x == 1) (bit_at_ones_above past i outside) ∙ sym (le-ltb i past outside))
    (cases_lt i past)

high_bits : (first i : ℕ) → first < 64 → i < 64 → has_bit (18446744073709551615 * 2 ^ first % 18446744073709551616) i ≡ nat_le first i
high_bits first i h low =
    let is : 18446744073709551615 * 2 ^ first % 18446744073709551616 ≡ 2 ^ 64 - 2 ^ first = ones_shl 64 first (omega arith) in
    ap (λ x. has_bit x i) is
    ∙ ⊎_elim
    (λ (outside : i < first). ap (λ x. x == 1) (bit_at_mask_below first 64 i outside) ∙ sym (lt-leb first i outside))
    (λ (inside : first ≤ i). ap (λ x. x == 1) (bit_at_mask_inside first 64 i inside low) ∙ sym (le-leb first i inside))
    (cases_lt i first)

both_bits : (x y : ℕ) → x < 2 → y < 2 → (min x y == 1) ≡ ((y == 1) && (x == 1))
both_bits x y h l = grind (arith, nat_tests)

has_both : (a b i : ℕ) → has_bit (bit_and a b) i ≡ (has_bit b i && has_bit a i)
has_both a b i = ap (λ x. x == 1) (bit_at_and a b i) ∙ both_bits (bit_at a i) (bit_at b i) (bit_at-lt a i) (bit_at-lt b i)

pub bits_between : (first past i : ℕ) → first < 64 → past ≤ 64 → i < 64 → has_bit (bit_and (18446744073709551615 / 2 ^ (64 - past)) (18446744073709551615 * 2 ^ first % 18446744073709551616)) i ≡ (nat_le first i && nat_lt i past)
bits_between first past i h l low =
    let a = 18446744073709551615 / 2 ^ (64 - past) in
    let b = 18446744073709551615 * 2 ^ first % 18446744073709551616 in
    has_both a b i
    ∙ ap (λ v. v && has_bit a i) (high_bits first i h low)
    ∙ ap (λ v. nat_le first i && v) (low_bits past i l)

pub span_in_word : (k word from to : ℕ) → k / 64 ≡ word → (nat_le (from - 64 * word) (k % 64) && nat_lt (k % 64) (min (to - 64 * word) 64)) ≡ (nat_le from k && nat_lt k to)
span_in_word k word from to here =
    let whole : 64 * word + k % 64 ≡ k = omega arith in
    grind (arith, nat_tests)

-- a word to which bits are added
pub added : (words : List ℕ) (n bits k : ℕ) → n < length words → is_marked (set words n (bit_or (slice_index words n) bits)) k ≡ (is_marked words k || (nat_eq (k / 64) n && has_bit bits (k % 64)))
added words n bits k within =
    let word = bit_or (slice_index words n) bits in
    ⊎_elim
    (λ (here : k / 64 ≡ n).
    let new_word : slice_index (set words n word) (k / 64) ≡ word = rw here (get_or-set_same words n word 0 within) in
    let old_word : slice_index words (k / 64) ≡ slice_index words n = rw here refl in
    rw (new_word, old_word, eq-eqb (k / 64) n here) (has_either (slice_index words n) bits (k % 64)))
    (λ (there : k / 64 ≢ n).
    let kept : slice_index (set words n word) (k / 64) ≡ slice_index words (k / 64) = get_or-set_other words n (k / 64) word 0 there in
    rw (kept, ne_eqb (k / 64) n there) (sym (or-false (is_marked words k))))
    (cases_eq (k / 64) n)

-- counts in two parts, and by a word's bits
one_more_part : (a b c : ℕ) → (a + b) + c ≡ a + (b + c)
one_more_part a b c = omega arith

pub count_below_plus : (test : ℕ → Bool) (a b : ℕ) → count_below test (a + b) ≡ count_below test a + count_below (λ k. test (a + k)) b
unfolding count_below
count_below_plus test a zero = let e : count_below test a ≡ count_below test a + 0 = omega arith in ap (count_below test) (let z : a + 0 ≡ a = omega arith in z) ∙ e
count_below_plus test a (suc b) =
    let next : a + suc b ≡ suc (a + b) = omega arith in
    ap (count_below test) next
    ∙ ap (λ m. m + cond (test (a + b)) 1 0) (count_below_plus test a b)
    ∙ one_more_part (count_below test a) (count_below (λ k. test (a + k)) b) (cond (test (a + b)) 1 0)

lowest_bit : (r : ℕ) → r < 2 → cond (r == 1) 1 0 ≡ r
lowest_bit r h = grind (arith, nat_tests)

pub bits_counted : (count n : ℕ) → n < 2 ^ count → count_below (λ i. has_bit n i) count ≡ ones n
unfolding count_below
bits_counted zero n small =
    let none : n ≡ 0 = omega arith in
    let few = ones_le_self n in
    omega arith
bits_counted (suc count) n small =
    let double : 2 ^ suc count ≡ 2 * 2 ^ count = simp unary_clauses (omega arith) in
    let half : n / 2 < 2 ^ count = omega arith in
    let all : 1 + count ≡ suc count = omega arith in
    let first : cond (has_bit n 0) 1 0 ≡ n % 2 = ap (λ x. cond (x == 1) 1 0) (bit_at_lowest n) ∙ lowest_bit (n % 2) (omega arith) in
    let none = count_below_none (λ i. has_bit n i) in
    let one = count_below_suc (λ i. has_bit n i) 0 1 (omega arith) in
    let single : count_below (λ i. has_bit n i) 1 ≡ n % 2 = omega arith in
    let rest : count_below (λ k. has_bit n (1 + k)) count ≡ count_below (λ k. has_bit (n / 2) k) count =
    count_below_agree (λ k. has_bit n (1 + k)) (λ k. has_bit (n / 2) k) count (λ k l. ap (λ i. has_bit n i) (let e : 1 + k ≡ suc k = omega arith in e) ∙ ap (λ x. x == 1) (bit_at-suc n k)) in
    ap (count_below (λ i. has_bit n i)) (sym all)
    ∙ count_below_plus (λ i. has_bit n i) 1 count
    ∙ ap (λ m. m + count_below (λ k. has_bit n (1 + k)) count) single
    ∙ ap (λ m. n % 2 + m) (rest ∙ bits_counted count (n / 2) half)
    ∙ sym (ones_step n)

-- how many marks are added
pub added_more : (words new : List ℕ) (n bits : ℕ) → slice_index words n < 2 ^ 64 → bits < 2 ^ 64 → ((k : ℕ) → is_marked new k ≡ (is_marked words k || (nat_eq (k / 64) n && has_bit bits (k % 64)))) → count_below (λ k. is_marked new k) (64 * n + 64) ≡ count_below (λ k. is_marked words k) (64 * n + 64) + ones (bit_and bits (bit_not w64 (slice_index words n)))
added_more words new n bits fits small marks =
    let word = slice_index words n in
    let p : ℕ → Bool = λ k. is_marked words k in
    let q : ℕ → Bool = λ k. is_marked new k in
    let start = 64 * n in
    let more = bit_and bits (bit_not w64 word) in
    let before : count_below q start ≡ count_below p start =
    count_below_agree q p start (λ k l. marks k ∙ ap (λ b. p k || (b && has_bit bits (k % 64))) (ne_eqb (k / 64) n (λ e. absurd (omega arith))) ∙ or-false (p k)) in
    let old : (i : ℕ) → i < 64 → p (start + i) ≡ has_bit word i = λ i l.
    (let w : (start + i) / 64 ≡ n = omega arith in
    let b : (start + i) % 64 ≡ i = omega arith in
    rw (w, b) refl) in
    let either : (i : ℕ) → i < 64 → q (start + i) ≡ (has_bit word i || has_bit bits i) = λ i l.
    (let w : (start + i) / 64 ≡ n = omega arith in
    let b : (start + i) % 64 ≡ i = omega arith in
    marks (start + i)
    ∙ ap (λ v. v || (nat_eq ((start + i) / 64) n && has_bit bits ((start + i) % 64))) (old i l)
    ∙ ap (λ v. has_bit word i || (v && has_bit bits ((start + i) % 64))) (eq-eqb ((start + i) / 64) n w)
    ∙ ap (λ v. has_bit word i || has_bit bits v) b) in
    let were : count_below (λ i. p (start + i)) 64 ≡ count_below (λ i. has_bit word i) 64 = count_below_agree (λ i. p (start + i)) (λ i. has_bit word i) 64 old in
    let come : count_below (λ i. has_bit bits i && not (has_bit word i)) 64 ≡ ones more =
    count_below_agree (λ i. has_bit bits i && not (has_bit word i)) (λ i. has_bit more i) 64 (λ i l. sym (has_added bits word i fits l))
    ∙ bits_counted 64 more (let e = and_le_l bits (bit_not w64 word) in omega arith) in
    let are : count_below (λ i. q (start + i)) 64 ≡ count_below (λ i. has_bit word i) 64 + count_below (λ i. has_bit bits i && not (has_bit word i)) 64 =
    count_below_either (λ i. q (start + i)) (λ i. has_bit word i) (λ i. has_bit bits i) 64 either in
    let first = count_below_plus q start 64 in
    let second = count_below_plus p start 64 in
    omega arith

-- what grows below one end grows below each, where both stand past all that differs
pub grows_alike : (p q : ℕ → Bool) (low one other more : ℕ) → ((k : ℕ) → low ≤ k → q k ≡ p k) → low ≤ one → low ≤ other → count_below q one ≡ count_below p one + more → count_below q other ≡ count_below p other + more
grows_alike p q low one other more same h l grows =
    let split : (test : ℕ → Bool) (end : ℕ) → low ≤ end → count_below test end ≡ count_below test low + count_below (λ k. test (low + k)) (end - low) = λ test end past.
    ap (count_below test) (let e : end ≡ low + (end - low) = omega arith in e) ∙ count_below_plus test low (end - low) in
    let rest : (end : ℕ) → count_below (λ k. q (low + k)) (end - low) ≡ count_below (λ k. p (low + k)) (end - low) = λ end.
    count_below_agree (λ k. q (low + k)) (λ k. p (low + k)) (end - low) (λ k m. same (low + k) (omega arith)) in
    let a = split q one h in
    let b = split p one h in
    let c = split q other l in
    let d = split p other l in
    let e = rest one in
    let f = rest other in
    omega arith

-- no more are added than there are numbers below
pub more_fit : (test : ℕ → Bool) (first middle end more next : ℕ) → middle ≡ first + more → count_below test end ≡ middle + next → more + next ≤ end
more_fit test first middle end more next e f =
    let all = count_below_le test end in
    omega arith

-- past a span, and past the word, nothing is marked
no_more : (b v : Bool) → v ≡ false → (b || v) ≡ b
no_more b v none = ap (λ w. b || w) none ∙ or-false b

pub past_span : (k word from to : ℕ) (old new bit : Bool) → min (64 * word + 64) to ≤ k → (k / 64 ≡ word → bit ≡ (nat_le from k && nat_lt k to)) → new ≡ (old || (nat_eq (k / 64) word && bit)) → new ≡ old
past_span k word from to old new bit h is e =
    e
    ∙ no_more old (nat_eq (k / 64) word && bit)
    (⊎_elim
    (λ (here : k / 64 ≡ word). and_right (nat_eq (k / 64) word) bit (is here ∙ and_right (nat_le from k) (nat_lt k to) (le-ltb k to (omega arith))))
    (λ (there : k / 64 ≢ word). and_left (nat_eq (k / 64) word) bit (ne_eqb (k / 64) word there))
    (cases_eq (k / 64) word))

-- a span, word by word
abbrev pub below_word : ℕ → ℕ → ℕ → ℕ → Bool
below_word from to word k = (nat_le from k && nat_lt k to) && nat_lt k (64 * word)

pub words_none : (from to k : ℕ) (b : Bool) → b ≡ (b || below_word from to (from / 64) k)
words_none from to k b =
    let none : below_word from to (from / 64) k ≡ false = grind (arith, nat_tests) in
    sym (no_more b (below_word from to (from / 64) k) none)

next_word : (from to word k : ℕ) → (below_word from to word k || (nat_eq (k / 64) word && (nat_le from k && nat_lt k to))) ≡ below_word from to (word + 1) k
next_word from to word k = grind (arith, nat_tests)

pub words_more : (from to word k : ℕ) (b old new : Bool) → old ≡ (b || below_word from to word k) → new ≡ (old || (nat_eq (k / 64) word && (nat_le from k && nat_lt k to))) → new ≡ (b || below_word from to (word + 1) k)
words_more from to word k b old new e f =
    let here = nat_eq (k / 64) word && (nat_le from k && nat_lt k to) in
    f ∙ ap (λ v. v || here) e ∙ sym (or_assoc b (below_word from to word k) here) ∙ ap (λ v. b || v) (next_word from to word k)

pub words_end : (from to word k : ℕ) (b new : Bool) → to / 64 + min 1 (to % 64) ≤ word → new ≡ (b || below_word from to word k) → new ≡ (b || (nat_le from k && nat_lt k to))
words_end from to word k b new h e =
    let same : below_word from to word k ≡ (nat_le from k && nat_lt k to) = grind (arith, nat_tests) in
    e ∙ ap (λ v. b || v) same

-- a span but for what another list marks, word by word
pub free_none : (from to k : ℕ) (b free : Bool) → b ≡ (b || (below_word from to (from / 64) k && free))
free_none from to k b free =
    let none : below_word from to (from / 64) k ≡ false = grind (arith, nat_tests) in
    sym (no_more b (below_word from to (from / 64) k && free) (and_left (below_word from to (from / 64) k) free none))

free_here : (b w e s u : Bool) → ((b || (w && u)) || (e && (s && u))) ≡ (b || ((w || (e && s)) && u))
free_here true w e s u = refl
free_here false true e s true = refl
free_here false true true true false = refl
free_here false true true false false = refl
free_here false true false s false = refl
free_here false false true s u = refl
free_here false false false s u = refl

pub free_bit : (k word bits taken : ℕ) (words : List ℕ) (span : Bool) → taken ≡ slice_index words word → taken < 2 ^ 64 → k / 64 ≡ word → has_bit bits (k % 64) ≡ span → has_bit (bit_and bits (bit_not w64 taken)) (k % 64) ≡ (span && not (is_marked words k))
free_bit k word bits taken words span is small here e =
    let same : has_bit taken (k % 64) ≡ is_marked words k = ap (λ x. has_bit x (k % 64)) is ∙ ap (λ i. has_bit (slice_index words i) (k % 64)) (sym here) in
    has_added bits taken (k % 64) small (omega arith)
    ∙ ap (λ v. v && not (has_bit taken (k % 64))) e
    ∙ ap (λ v. span && not v) same

pub free_more : (from to word k : ℕ) (b free old new bit : Bool) → old ≡ (b || (below_word from to word k && free)) → (k / 64 ≡ word → bit ≡ ((nat_le from k && nat_lt k to) && free)) → new ≡ (old || (nat_eq (k / 64) word && bit)) → new ≡ (b || (below_word from to (word + 1) k && free))
free_more from to word k b free old new bit e is f =
    let span = nat_le from k && nat_lt k to in
    let here = nat_eq (k / 64) word in
    let added_here : (here && bit) ≡ (here && (span && free)) =
    ⊎_elim
    (λ (same : k / 64 ≡ word). ap (λ v. here && v) (is same))
    (λ (other : k / 64 ≢ word). and_left here bit (ne_eqb (k / 64) word other) ∙ sym (and_left here (span && free) (ne_eqb (k / 64) word other)))
    (cases_eq (k / 64) word) in
    f
    ∙ ap (λ v. v || (here && bit)) e
    ∙ ap (λ v. (b || (below_word from to word k && free)) || v) added_here
    ∙ free_here b (below_word from to word k) here span free
    ∙ ap (λ v. b || (v && free)) (next_word from to word k)

pub free_end : (from to word k : ℕ) (b free new : Bool) → to / 64 + min 1 (to % 64) ≤ word → new ≡ (b || (below_word from to word k && free)) → new ≡ (b || ((nat_le from k && nat_lt k to) && free))
free_end from to word k b free new h e =
    let same : below_word from to word k ≡ (nat_le from k && nat_lt k to) = grind (arith, nat_tests) in
    e ∙ ap (λ v. b || (v && free)) same
