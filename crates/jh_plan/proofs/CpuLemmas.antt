-- The greatest spare CPUs, from the board's highest CPU down.
use Rattle.std.proofs.Common.{◌≡◌, ◌≢◌, ℕ, zero, suc, ◌+◌, ◌-◌, ◌*◌, ◌/◌, ◌%◌, ◌^◌, ◌<◌, ◌≤◌, Bool, true, false, cond, ◌&&◌, ◌||◌, not, ◌==◌, nat_lt, nat_le, List, length, get_or, set, refl, sym, ap, subst, ◌∙◌, inl, inr, arith}
use Rattle.std.specs.Int.{bit_at}
use Rattle.std.proofs.lemmas.Bool.{ltb-true, leb-true, lt-ltb, le-leb, ne_eqb, eq-eqb, or_right, cases_lt, cases_eq, both_ways, and_parts, and_from, not_from_false, false_from_ne_true}
use Rattle.std.proofs.Math.Bool.{or-false}
use Rattle.std.proofs.lemmas.List.{get_or-set_same, get_or-set_other}
use Rattle.std.proofs.lemmas.Nat.Bits.{and_pow, bit_at-lt}
use Rattle.std.proofs.lemmas.Nat.{pow_pos}
use Rattle.jh_num.specs.Bits.{has_bit}
use Rattle.jh_num.proofs.Public.{same_number, same_test}
use Rattle.jh_shape.specs.Pages.{count_below}
use Rattle.jh_shape.proofs.Public.{count_below_plus}
use Rattle.jh_cellcfg.specs.Cells.{is_cpu_set}
use Rattle.jh_plan.specs.Cpus.{cpus_with, cpus_above, is_greatest}

-- ---- bits of a set

bit_test : (v p : ℕ) → v < 2 → 0 < p → not (v * p == 0) ≡ (v == 1)
bit_test zero p small some = let e : 0 * p ≡ 0 = omega arith in ap (λ (x : ℕ). not (x == 0)) e
bit_test (suc zero) p small some =
    let more : 0 < 1 * p = omega arith in not_from_false (1 * p == 0) (ne_eqb (1 * p) 0 (λ e. omega arith))
bit_test (suc (suc v)) p small some = absurd (omega arith)

-- a CPU is named where its byte has its bit
pub named_bit : (set : List ℕ) (cpu : ℕ) → is_cpu_set set cpu ≡ has_bit (get_or set (cpu / 8) 0) (cpu % 8)
named_bit set cpu =
    let byte = get_or set (cpu / 8) 0 in
    ap (λ (x : ℕ). not (x == 0)) (and_pow byte (cpu % 8)) ∙ bit_test (bit_at byte (cpu % 8)) (2 ^ (cpu % 8)) (bit_at-lt byte (cpu % 8)) (pow_pos (cpu % 8))

set_here : (cpus : List ℕ) (cpu k byte : ℕ) → cpu / 8 < length cpus → has_bit byte (cpu % 8) ≡ true → ((i : ℕ) → i ≢ cpu % 8 → has_bit byte i ≡ has_bit (get_or cpus (cpu / 8) 0) i) → is_cpu_set (set cpus (cpu / 8) byte) k ≡ (is_cpu_set cpus k || k == cpu)
set_here cpus cpu k byte within here others =
    let new = set cpus (cpu / 8) byte in
    elim (cases_eq (k / 8) (cpu / 8)) [
      | inl e ↦
          let at : get_or new (k / 8) 0 ≡ byte = rw e (get_or-set_same cpus (cpu / 8) byte 0 within) in
          let was : get_or cpus (k / 8) 0 ≡ get_or cpus (cpu / 8) 0 = ap (λ (i : ℕ). get_or cpus i 0) e in
          let now : is_cpu_set new k ≡ has_bit byte (k % 8) = named_bit new k ∙ ap (λ (b : ℕ). has_bit b (k % 8)) at in
          elim (cases_eq (k % 8) (cpu % 8)) [
            | inl f ↦
                let same : k ≡ cpu = omega arith in
                now ∙ ap (has_bit byte) f ∙ here ∙ sym (or_right (is_cpu_set cpus k) (k == cpu) (eq-eqb k cpu same))
            | inr ne ↦
                let other : k ≢ cpu = λ same. ne (ap (λ (i : ℕ). i % 8) same) in
                now ∙ others (k % 8) ne ∙ ap (λ (b : ℕ). has_bit b (k % 8)) (sym was) ∙ sym (named_bit cpus k) ∙ sym (or_not cpus k cpu other)
          ]
      | inr ne ↦
          let other : k ≢ cpu = λ same. ne (ap (λ (i : ℕ). i / 8) same) in
          let kept : get_or new (k / 8) 0 ≡ get_or cpus (k / 8) 0 = get_or-set_other cpus (cpu / 8) (k / 8) byte 0 ne in
          named_bit new k ∙ ap (λ (b : ℕ). has_bit b (k % 8)) kept ∙ sym (named_bit cpus k) ∙ sym (or_not cpus k cpu other)
    ]
  where
    or_not : (cpus : List ℕ) (k cpu : ℕ) → k ≢ cpu → (is_cpu_set cpus k || k == cpu) ≡ is_cpu_set cpus k
    or_not cpus k cpu ne = ap (λ (b : Bool). is_cpu_set cpus k || b) (ne_eqb k cpu ne) ∙ or-false (is_cpu_set cpus k)

-- a CPU is put into a set by its bit
pub set_named : (cpus : List ℕ) (cpu k at byte : ℕ) → at ≡ cpu / 8 → at < length cpus → has_bit byte (cpu % 8) ≡ true → ((i : ℕ) → i ≢ cpu % 8 → has_bit byte i ≡ has_bit (get_or cpus at 0) i) → is_cpu_set (set cpus at byte) k ≡ (is_cpu_set cpus k || k == cpu)
set_named cpus cpu k at byte e within here others =
    let At : ℕ → Type 0 = λ n. n < length cpus → ((i : ℕ) → i ≢ cpu % 8 → has_bit byte i ≡ has_bit (get_or cpus n 0) i) → is_cpu_set (set cpus n byte) k ≡ (is_cpu_set cpus k || k == cpu) in
    let named : At at = subst At (sym e) (λ below same. set_here cpus cpu k byte below here same) in
    named within others

-- ---- counting

count_more : (test : ℕ → Bool) (n m : ℕ) → m ≡ suc n → test n ≡ true → count_below test m ≡ count_below test n + 1
unfolding count_below
count_more test n m e passes = ap (count_below test) e ∙ ap (λ (b : Bool). count_below test n + cond b 1 0) passes

pub count_same : (test : ℕ → Bool) (n m : ℕ) → m ≡ suc n → test n ≡ false → count_below test m ≡ count_below test n
unfolding count_below
count_same test n m e fails =
    let none : count_below test n + 0 ≡ count_below test n = omega arith in
    ap (count_below test) e ∙ ap (λ (b : Bool). count_below test n + cond b 1 0) fails ∙ none

pub count_nothing : (test : ℕ → Bool) (n : ℕ) → n ≡ 0 → count_below test n ≡ 0
unfolding count_below
count_nothing test n e = ap (count_below test) e

pub count_grows : (test : ℕ → Bool) (n m : ℕ) → n ≤ m → count_below test n ≤ count_below test m
count_grows test n m le =
    let split : n + (m - n) ≡ m = omega arith in
    let sum = sym (ap (count_below test) split) ∙ count_below_plus test n (m - n) in
    omega (arith, sum)

-- how many are still wanted when the CPUs from there on are done
abbrev pub left_at : (ℕ → Bool) → ℕ → ℕ → ℕ
left_at test count cpu = count - (cpus_with test - count_below test cpu)

-- the CPU was taken
pub left_taken : (test : ℕ → Bool) (count cpu before left : ℕ) → before ≡ suc cpu → before ≤ 16 → left ≡ left_at test count before → test cpu ≡ true → left - 1 ≡ left_at test count cpu
left_taken test count cpu before left e within is passes =
    let step = count_more test cpu before e passes in
    let grows = count_grows test before 16 within in
    omega (arith, step, grows, is)

-- the CPU doesn't pass
pub left_passed : (test : ℕ → Bool) (count cpu before left : ℕ) → before ≡ suc cpu → left ≡ left_at test count before → test cpu ≡ false → left ≡ left_at test count cpu
left_passed test count cpu before left e is fails =
    let step = count_same test cpu before e fails in
    omega (arith, step, is)

-- no more were wanted
pub left_none : (test : ℕ → Bool) (count cpu before left : ℕ) → before ≡ suc cpu → left ≡ left_at test count before → left ≡ 0 → left ≡ left_at test count cpu
left_none test count cpu before left e is none =
    let grows = count_grows test cpu before (omega arith) in
    omega (arith, grows, is, none)

-- ---- the names so far

abbrev pub named_from : (ℕ → Bool) → ℕ → ℕ → ℕ → Bool
named_from test count from k = nat_le from k && is_greatest test count k

above_same : (c k : ℕ) → k ≢ c → nat_le (c + 1) k ≡ nat_le c k
above_same c k ne = same_test (nat_le (c + 1) k) (nat_le c k)
    (λ t. le-leb c k (let l = leb-true (c + 1) k t in omega arith))
    (λ t. le-leb (c + 1) k (let l = leb-true c k t in elim (cases_lt c k) [ inl m ↦ omega arith | inr m ↦ absurd (ne (omega arith)) ]))

below_false : (c : ℕ) → nat_le (c + 1) c ≡ false
below_false c = false_from_ne_true (nat_le (c + 1) c) (λ t. let l = leb-true (c + 1) c t in absurd (omega arith))

one_more : (good old new : ℕ → Bool) (c k : ℕ) → ((k : ℕ) → old k ≡ (nat_le (c + 1) k && good k)) → new c ≡ good c → ((k : ℕ) → k ≢ c → new k ≡ old k) → new k ≡ (nat_le c k && good k)
one_more good old new c k before here others = elim (cases_eq k c) [
  | inl e ↦ subst (λ (x : ℕ). new x ≡ (nat_le c x && good x)) (sym e) (here ∙ sym (ap (λ (b : Bool). b && good c) (le-leb c c (omega arith))))
  | inr ne ↦ others k ne ∙ before k ∙ ap (λ (b : Bool). b && good k) (above_same c k ne)
]

names_taken : (test : ℕ → Bool) (count cpu left : ℕ) (old new : ℕ → Bool) → cpu < 16 → left ≡ left_at test count (cpu + 1) → 0 < left → test cpu ≡ true → ((k : ℕ) → old k ≡ named_from test count (cpu + 1) k) → ((k : ℕ) → new k ≡ (old k || k == cpu)) → (k : ℕ) → new k ≡ named_from test count cpu k
names_taken test count cpu left old new within is some passes before more k =
    let fewer : nat_lt (cpus_above test cpu) count ≡ true = lt-ltb (cpus_above test cpu) count (omega (arith, is, some)) in
    let good : is_greatest test count cpu ≡ true = and_from (nat_lt cpu 16 && test cpu) (nat_lt (cpus_above test cpu) count) (and_from (nat_lt cpu 16) (test cpu) (lt-ltb cpu 16 within) passes) fewer in
    let was : old cpu ≡ false = before cpu ∙ ap (λ (b : Bool). b && is_greatest test count cpu) (below_false cpu) in
    one_more (is_greatest test count) old new cpu k before
    (more cpu ∙ ap (λ (b : Bool). b || cpu == cpu) was ∙ same_number cpu ∙ sym good)
    (λ k ne. more k ∙ ap (λ (b : Bool). old k || b) (ne_eqb k cpu ne) ∙ or-false (old k))

names_passed : (test : ℕ → Bool) (count cpu : ℕ) (old : ℕ → Bool) → is_greatest test count cpu ≡ false → ((k : ℕ) → old k ≡ named_from test count (cpu + 1) k) → (k : ℕ) → old k ≡ named_from test count cpu k
names_passed test count cpu old not_good before k =
    let was : old cpu ≡ false = before cpu ∙ ap (λ (b : Bool). b && is_greatest test count cpu) (below_false cpu) in
    one_more (is_greatest test count) old old cpu k before (was ∙ sym not_good) (λ k ne. refl)

-- a CPU that doesn't pass is none of the greatest
pub not_passing : (test : ℕ → Bool) (count cpu : ℕ) → test cpu ≡ false → is_greatest test count cpu ≡ false
not_passing test count cpu fails =
    false_from_ne_true (is_greatest test count cpu) (λ t.
    let p = and_parts (nat_lt cpu 16 && test cpu) (nat_lt (cpus_above test cpu) count) t in
    absurd (both_ways (test cpu) fails (and_parts (nat_lt cpu 16) (test cpu) p.0).1))

-- nor is any where no more are wanted
not_wanted : (test : ℕ → Bool) (count cpu left : ℕ) → left ≡ left_at test count (cpu + 1) → left ≡ 0 → is_greatest test count cpu ≡ false
not_wanted test count cpu left is none =
    false_from_ne_true (is_greatest test count cpu) (λ t.
    let p = and_parts (nat_lt cpu 16 && test cpu) (nat_lt (cpus_above test cpu) count) t in
    let fewer = ltb-true (cpus_above test cpu) count p.1 in
    absurd (omega (arith, is, none, fewer)))

-- ---- one step down

pub taken_step : (test : ℕ → Bool) (count cpu before left : ℕ) (old new : ℕ → Bool) → before ≡ suc cpu → before ≤ 16 → left ≡ left_at test count before → 0 < left → test cpu ≡ true → ((k : ℕ) → old k ≡ named_from test count before k) → ((k : ℕ) → new k ≡ (old k || k == cpu)) → (k : ℕ) → new k ≡ named_from test count cpu k
taken_step test count cpu before left old new e within is some passes named more =
    let next : before ≡ cpu + 1 = omega (arith, e) in
    names_taken test count cpu left old new (omega (arith, e, within)) (is ∙ ap (left_at test count) next) some passes (λ k. named k ∙ ap (λ (n : ℕ). named_from test count n k) next) more

pub passed_step : (test : ℕ → Bool) (count cpu before : ℕ) (old : ℕ → Bool) → before ≡ suc cpu → is_greatest test count cpu ≡ false → ((k : ℕ) → old k ≡ named_from test count before k) → (k : ℕ) → old k ≡ named_from test count cpu k
passed_step test count cpu before old e not_good named =
    let next : before ≡ cpu + 1 = omega (arith, e) in
    names_passed test count cpu old not_good (λ k. named k ∙ ap (λ (n : ℕ). named_from test count n k) next)

pub none_wanted : (test : ℕ → Bool) (count cpu before left : ℕ) → before ≡ suc cpu → left ≡ left_at test count before → left ≡ 0 → is_greatest test count cpu ≡ false
none_wanted test count cpu before left e is none =
    let next : before ≡ cpu + 1 = omega (arith, e) in
    not_wanted test count cpu left (is ∙ ap (left_at test count) next) none

-- ---- the end

pub few_at : (test : ℕ → Bool) (count cpu left : ℕ) → cpu ≡ 0 → left ≡ left_at test count cpu → 0 < left → cpus_with test < count
few_at test count cpu left e is some = omega (arith, count_nothing test cpu e, is, some)
