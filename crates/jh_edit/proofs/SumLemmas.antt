-- Sums and tests of the slots of a table, and counts over tables, told level by level.
use Rattle.std.proofs.Common.{◌≡◌, ℕ, ◌+◌, ◌-◌, ◌*◌, ◌<◌, Bool, false, ◌||◌, Option, zero, suc, ⊎_elim, ap, ◌∙◌, arith, refl}
use Rattle.std.proofs.lemmas.Bool.{cases_Bool, both_ways}
use Rattle.jh_num.specs.declared.level.TheConstants.{LAST_LEVEL}
use Rattle.jh_num.specs.Below.{any_below, sum_below}
use Rattle.jh_num.proofs.Public.{below_at}
use Rattle.jh_desc.specs.Descriptors.{read_of}
use Rattle.jh_walk.specs.Counts.{Step, StateWeight, by_next, count_from}
use Rattle.jh_shape.specs.Wanted.{Wants, slot_start, if_table, tables_under}

-- no number below n passes
pub any_none : (f : ℕ → Bool) (n : ℕ) → ((i : ℕ) → i < n → f i ≡ false) → any_below f n ≡ false
unfolding any_below
any_none f zero e = refl
any_none f (suc n) e = rw (any_none f n (λ i lt. e i (omega arith)), e n (omega arith)) refl

-- where none passes, each fails
pub any_down : (f : ℕ → Bool) (n : ℕ) → any_below f n ≡ false → (i : ℕ) → i < n → f i ≡ false
any_down f n e i lt =
    ⊎_elim
    (λ yes. absurd (both_ways (any_below f n) e (below_at f n i lt yes)))
    (λ no. no)
    (cases_Bool (f i))

-- each number passes the one where it passes the other
pub any_same : (f g : ℕ → Bool) (n : ℕ) → ((i : ℕ) → i < n → f i ≡ g i) → any_below f n ≡ any_below g n
unfolding any_below
any_same f g zero e = refl
any_same f g (suc n) e =
    let last : f n ≡ g n = e n (omega arith) in
    ap (λ b. b || f n) (any_same f g n (λ i lt. e i (omega arith))) ∙ ap (λ b. any_below g n || b) last

-- no term counts
pub sum_none : (f : ℕ → ℕ) (n : ℕ) → ((i : ℕ) → i < n → f i ≡ 0) → sum_below n f ≡ 0
unfolding sum_below
sum_none f zero e = refl
sum_none f (suc n) e = rw (sum_none f n (λ i lt. e i (omega arith)), e n (omega arith)) refl

-- each term is twice its fellow
pub sum_double : (n : ℕ) (f g : ℕ → ℕ) → ((i : ℕ) → i < n → g i ≡ 2 * f i) → sum_below n g ≡ 2 * sum_below n f
unfolding sum_below
sum_double zero f g e = refl
sum_double (suc n) f g e =
    let rest : sum_below n g ≡ 2 * sum_below n f = sum_double n f g (λ i lt. e i (omega arith)) in
    let last : g n ≡ 2 * f n = e n (omega arith) in omega arith

-- the sum of the sums
pub sum_plus : (n : ℕ) (f g h : ℕ → ℕ) → ((i : ℕ) → i < n → h i ≡ f i + g i) → sum_below n h ≡ sum_below n f + sum_below n g
unfolding sum_below
sum_plus zero f g h e = refl
sum_plus (suc n) f g h e =
    let rest : sum_below n h ≡ sum_below n f + sum_below n g = sum_plus n f g h (λ i lt. e i (omega arith)) in
    let last : h n ≡ f n + g n = e n (omega arith) in omega arith

pub count_more : (step : Step) (w : StateWeight) (word : ℕ → ℕ) (n : ℕ) (s : Option ℕ) (table : ℕ) → count_from step w word (suc n) s table ≡ w s word n table + sum_below 512 (λ i. by_next (count_from step w word n (step s n i)) (read_of (word (table + 8 * i)) (LAST_LEVEL - n)))
unfolding count_from
count_more step w word n s table = refl

pub under_more : (want : Wants) (n start : ℕ) → tables_under want (suc n) start ≡ 1 + sum_below 512 (λ i. if_table (tables_under want n (slot_start (LAST_LEVEL - n) start i)) (want (LAST_LEVEL - n) (slot_start (LAST_LEVEL - n) start i)))
unfolding tables_under
under_more want n start = refl

pub under_none : (want : Wants) (start : ℕ) → 0 ≡ tables_under want zero start
unfolding tables_under
under_none want start = refl

pub under_some : (want : Wants) (n start : ℕ) → 0 < tables_under want (suc n) start
under_some want n start = let e = under_more want n start in omega arith
