-- Tables that are wanted, counted from the first table on, level by level.
use Rattle.std.proofs.Common.{◌≡◌, ℕ, ◌+◌, ◌-◌, ◌*◌, ◌%◌, ◌<◌, zero, suc, Bool, true, false, cond, ⊎_elim, refl, sym, ap, subst, ◌∙◌, arith}
use Rattle.std.proofs.lemmas.Bool.{both_ways, cases_Bool}
use Rattle.jh_num.specs.Below.{sum_below}
use Rattle.jh_num.specs.Levels.{slot_size}
use Rattle.jh_num.proofs.Public.{sum_same}
use Rattle.jh_shape.specs.declared.want.Want.{Want}
use Rattle.jh_shape.specs.declared.want.Want.TheVariants.{Nothing, Table, Leaf}
use Rattle.jh_shape.specs.Claims.{Claims}
use Rattle.jh_shape.specs.Laws.{is_to_table, tables_by}
use Rattle.jh_shape.specs.Pages.{count_below, tables_of}
use Rattle.jh_shape.specs.Shapes.{want_of}
use Rattle.jh_shape.specs.Wanted.{Wants, if_table, slot_start, tables_under}
use Rattle.jh_shape.proofs.LawLemmas.{counted_by_wants, parent_is_table, table_only}

-- sums of two, in two parts, and by rows
sum_each : (n : ℕ) (f g : ℕ → ℕ) → sum_below n (λ i. f i + g i) ≡ sum_below n f + sum_below n g
unfolding sum_below
sum_each zero f g = refl
sum_each (suc n) f g = let rest : sum_below n (λ i. f i + g i) ≡ sum_below n f + sum_below n g = sum_each n f g in omega arith

sum_none : (n : ℕ) (f : ℕ → ℕ) → ((i : ℕ) → i < n → f i ≡ 0) → sum_below n f ≡ 0
unfolding sum_below
sum_none zero f h = refl
sum_none (suc n) f h =
    let rest : sum_below n f ≡ 0 = sum_none n f (λ i l. h i (omega arith)) in
    let last : f n ≡ 0 = h n (omega arith) in omega arith

sum_more : (a b : ℕ) (f : ℕ → ℕ) → sum_below (a + b) f ≡ sum_below a f + sum_below b (λ i. f (a + i))
unfolding sum_below
sum_more a zero f = let e : sum_below a f ≡ sum_below a f + 0 = omega arith in ap (λ n. sum_below n f) (let z : a + 0 ≡ a = omega arith in z) ∙ e
sum_more a (suc b) f =
    let next : a + suc b ≡ suc (a + b) = omega arith in
    let rest : sum_below (a + b) f ≡ sum_below a f + sum_below b (λ i. f (a + i)) = sum_more a b f in
    let all : sum_below (a + b) f + f (a + b) ≡ sum_below a f + (sum_below b (λ i. f (a + i)) + f (a + b)) = omega arith in
    ap (λ n. sum_below n f) next ∙ all

sum_rows : (rows each : ℕ) (f : ℕ → ℕ) → sum_below (rows * each) f ≡ sum_below rows (λ i. sum_below each (λ j. f (i * each + j)))
unfolding sum_below
sum_rows zero each f = ap (λ n. sum_below n f) (let z : 0 * each ≡ 0 = omega arith in z)
sum_rows (suc rows) each f =
    let next : suc rows * each ≡ rows * each + each = omega arith in
    ap (λ n. sum_below n f) next
    ∙ sum_more (rows * each) each f
    ∙ ap (λ s. s + sum_below each (λ j. f (rows * each + j))) (sum_rows rows each f)

count_sum : (test : ℕ → Bool) (n : ℕ) → count_below test n ≡ sum_below n (λ i. cond (test i) 1 0)
unfolding count_below sum_below
count_sum test zero = refl
count_sum test (suc n) = ap (λ m. m + cond (test n) 1 0) (count_sum test n)

-- a slot that is wanted as a table counts once
abbrev flag : Wants → ℕ → ℕ → ℕ
flag want level at = cond (is_to_table (want level at)) 1 0

one_and_more : (w : Want) (t more : ℕ) → t ≡ 1 + more → (is_to_table w ≡ false → more ≡ 0) → if_table t w ≡ cond (is_to_table w) 1 0 + more
one_and_more Nothing t more e h = let z = h refl in omega arith
one_and_more Table t more e h = e
one_and_more (Leaf out rights device) t more e h = let z = h refl in omega arith

none_of_none : (w : Want) (t : ℕ) → t ≡ 0 → if_table t w ≡ 0
none_of_none Nothing t e = refl
none_of_none Table t e = e
none_of_none (Leaf out rights device) t e = refl

-- the wants of a table lie in slots that are wanted as tables
abbrev Coheres : Wants → Type 0
Coheres want = (level start : ℕ) → level < 3 → start % slot_size (level + 1) ≡ 0 → want (level + 1) start ≡ Table → want level (start - start % slot_size level) ≡ Table

flag_none : (want : Wants) (level at level' up : ℕ) → (want level at ≡ Table → want level' up ≡ Table) → is_to_table (want level' up) ≡ false → flag want level at ≡ 0
flag_none want level at level' up h none =
    ⊎_elim
    (λ yes. absurd (both_ways (is_to_table (want level' up)) none (ap is_to_table (h (table_only (want level at) yes)))))
    (λ no. ap (λ b. cond b 1 0) no)
    (cases_Bool (is_to_table (want level at)))

-- one step down
under : (want : Wants) (n start : ℕ) → tables_under want (suc n) start ≡ 1 + sum_below 512 (λ slot. if_table (tables_under want n (slot_start (3 - n) start slot)) (want (3 - n) (slot_start (3 - n) start slot)))
unfolding tables_under
under want n start = refl

no_level : (want : Wants) (start : ℕ) → tables_under want zero start ≡ 0
unfolding tables_under
no_level want start = refl

-- a table of pages is alone
last : (want : Wants) (start : ℕ) → tables_under want 1 start ≡ 1
last want start =
    let none = sum_none 512 (λ slot. if_table (tables_under want 0 (slot_start 3 start slot)) (want 3 (slot_start 3 start slot)))
    (λ i l. none_of_none (want 3 (slot_start 3 start i)) (tables_under want 0 (slot_start 3 start i)) (no_level want (slot_start 3 start i))) in
    under want 0 start ∙ ap (λ s. 1 + s) none

-- the tables that are wanted in a table of level 2
abbrev pages_in : Wants → ℕ → ℕ
pages_in want start = sum_below 512 (λ k. flag want 2 (start + k * 2097152))

plain_sum : (x y : ℕ) → x ≡ y + 0 → x ≡ y
plain_sum x y e = omega arith

from_two : (want : Wants) (start : ℕ) → tables_under want 2 start ≡ 1 + pages_in want start
from_two want start =
    under want 1 start
    ∙ ap (λ s. 1 + s)
    (sum_same 512 (λ slot. if_table (tables_under want 1 (slot_start 2 start slot)) (want 2 (slot_start 2 start slot))) (λ k. flag want 2 (start + k * 2097152))
    (λ k l.
    let at = start + k * 2097152 in
    plain_sum (if_table (tables_under want 1 at) (want 2 at)) (flag want 2 at) (one_and_more (want 2 at) (tables_under want 1 at) 0 (last want at) (λ no. refl))))

-- where no table is wanted, none is in its slots
no_pages : (want : Wants) → Coheres want → (start : ℕ) → start % 1073741824 ≡ 0 → is_to_table (want 1 start) ≡ false → pages_in want start ≡ 0
no_pages want coheres start begins none =
    sum_none 512 (λ k. flag want 2 (start + k * 2097152))
    (λ k l.
    let at = start + k * 2097152 in
    let whole : at % 2097152 ≡ 0 = omega arith in
    let up : at - at % 1073741824 ≡ start = omega arith in
    flag_none want 2 at 1 start (λ t. subst (λ s. want 1 s ≡ Table) up (coheres 1 at (omega arith) whole t)) none)

-- the tables that are wanted in a table of level 1, and in those
abbrev tables_in : Wants → ℕ → ℕ
tables_in want start = sum_below 512 (λ j. flag want 1 (start + j * 1073741824))

abbrev all_pages_in : Wants → ℕ → ℕ
all_pages_in want start = sum_below 512 (λ j. pages_in want (start + j * 1073741824))

from_one : (want : Wants) → Coheres want → (start : ℕ) → start % 549755813888 ≡ 0 → tables_under want 3 start ≡ 1 + (tables_in want start + all_pages_in want start)
from_one want coheres start begins =
    under want 2 start
    ∙ ap (λ s. 1 + s)
    (sum_same 512 (λ slot. if_table (tables_under want 2 (slot_start 1 start slot)) (want 1 (slot_start 1 start slot))) (λ j. flag want 1 (start + j * 1073741824) + pages_in want (start + j * 1073741824))
    (λ j l.
    let at = start + j * 1073741824 in
    let whole : at % 1073741824 ≡ 0 = omega arith in
    one_and_more (want 1 at) (tables_under want 2 at) (pages_in want at) (from_two want at) (no_pages want coheres at whole))
    ∙ sum_each 512 (λ j. flag want 1 (start + j * 1073741824)) (λ j. pages_in want (start + j * 1073741824)))

no_tables : (want : Wants) → Coheres want → (start : ℕ) → start % 549755813888 ≡ 0 → is_to_table (want 0 start) ≡ false → tables_in want start + all_pages_in want start ≡ 0
no_tables want coheres start begins none =
    let each : (j : ℕ) → j < 512 → flag want 1 (start + j * 1073741824) ≡ 0 = λ j l.
    (let at = start + j * 1073741824 in
    let whole : at % 1073741824 ≡ 0 = omega arith in
    let up : at - at % 549755813888 ≡ start = omega arith in
    flag_none want 1 at 0 start (λ t. subst (λ s. want 0 s ≡ Table) up (coheres 0 at (omega arith) whole t)) none) in
    let a = sum_none 512 (λ j. flag want 1 (start + j * 1073741824)) each in
    let b = sum_none 512 (λ j. pages_in want (start + j * 1073741824))
    (λ j l.
    let at = start + j * 1073741824 in
    let whole : at % 1073741824 ≡ 0 = omega arith in
    no_pages want coheres at whole (not_flag (is_to_table (want 1 at)) (each j l))) in
    omega arith
  where
    not_flag : (b : Bool) → ◌≡◌ {A = ℕ} (cond b 1 0) 0 → b ≡ false
    not_flag true e = absurd (omega arith)
    not_flag false e = refl

-- all levels
from_top : (want : Wants) → Coheres want → tables_under want 4 0 ≡ 1 + (sum_below 512 (λ i. flag want 0 (0 + i * 549755813888)) + (sum_below 512 (λ i. tables_in want (0 + i * 549755813888)) + sum_below 512 (λ i. all_pages_in want (0 + i * 549755813888))))
from_top want coheres =
    let more : ℕ → ℕ = λ i. tables_in want (0 + i * 549755813888) + all_pages_in want (0 + i * 549755813888) in
    under want 3 0
    ∙ ap (λ s. 1 + s)
    (sum_same 512 (λ slot. if_table (tables_under want 3 (slot_start 0 0 slot)) (want 0 (slot_start 0 0 slot))) (λ i. flag want 0 (0 + i * 549755813888) + more i)
    (λ i l.
    let at = 0 + i * 549755813888 in
    let whole : at % 549755813888 ≡ 0 = omega arith in
    one_and_more (want 0 at) (tables_under want 3 at) (more i) (from_one want coheres at whole) (no_tables want coheres at whole))
    ∙ sum_each 512 (λ i. flag want 0 (0 + i * 549755813888)) more
    ∙ ap (λ s. sum_below 512 (λ i. flag want 0 (0 + i * 549755813888)) + s) (sum_each 512 (λ i. tables_in want (0 + i * 549755813888)) (λ i. all_pages_in want (0 + i * 549755813888))))

-- the counts of the levels are sums by rows
count_0 : (want : Wants) → count_below (λ n. is_to_table (want 0 (n * 549755813888))) 512 ≡ sum_below 512 (λ i. flag want 0 (0 + i * 549755813888))
count_0 want =
    count_sum (λ n. is_to_table (want 0 (n * 549755813888))) 512
    ∙ sum_same 512 (λ i. flag want 0 (i * 549755813888)) (λ i. flag want 0 (0 + i * 549755813888))
    (λ i l. ap (λ at. flag want 0 at) (let e : i * 549755813888 ≡ 0 + i * 549755813888 = omega arith in e))

count_1 : (want : Wants) → count_below (λ n. is_to_table (want 1 (n * 1073741824))) (512 * 512) ≡ sum_below 512 (λ i. tables_in want (0 + i * 549755813888))
count_1 want =
    let f : ℕ → ℕ = λ n. flag want 1 (n * 1073741824) in
    count_sum (λ n. is_to_table (want 1 (n * 1073741824))) (512 * 512)
    ∙ sum_rows 512 512 f
    ∙ sum_same 512 (λ i. sum_below 512 (λ j. f (i * 512 + j))) (λ i. tables_in want (0 + i * 549755813888))
    (λ i l. sum_same 512 (λ j. f (i * 512 + j)) (λ j. flag want 1 ((0 + i * 549755813888) + j * 1073741824))
    (λ j m. ap (λ at. flag want 1 at) (let e : (i * 512 + j) * 1073741824 ≡ (0 + i * 549755813888) + j * 1073741824 = omega arith in e)))

count_2 : (want : Wants) → count_below (λ n. is_to_table (want 2 (n * 2097152))) ((512 * 512) * 512) ≡ sum_below 512 (λ i. all_pages_in want (0 + i * 549755813888))
count_2 want =
    let f : ℕ → ℕ = λ n. flag want 2 (n * 2097152) in
    let row : ℕ → ℕ = λ m. sum_below 512 (λ k. f (m * 512 + k)) in
    count_sum (λ n. is_to_table (want 2 (n * 2097152))) ((512 * 512) * 512)
    ∙ sum_rows (512 * 512) 512 f
    ∙ sum_rows 512 512 row
    ∙ sum_same 512 (λ i. sum_below 512 (λ j. row (i * 512 + j))) (λ i. all_pages_in want (0 + i * 549755813888))
    (λ i l. sum_same 512 (λ j. row (i * 512 + j)) (λ j. pages_in want ((0 + i * 549755813888) + j * 1073741824))
    (λ j m. sum_same 512 (λ k. f ((i * 512 + j) * 512 + k)) (λ k. flag want 2 (((0 + i * 549755813888) + j * 1073741824) + k * 2097152))
    (λ k n. ap (λ at. flag want 2 at) (let e : ((i * 512 + j) * 512 + k) * 2097152 ≡ ((0 + i * 549755813888) + j * 1073741824) + k * 2097152 = omega arith in e))))

three_alike : (a b c x y z : ℕ) → a ≡ x → b ≡ y → c ≡ z → 1 + (a + (b + c)) ≡ 1 + (x + (y + z))
three_alike a b c x y z e f g = omega arith

top_by : (want : Wants) → Coheres want → tables_by want ≡ tables_under want 4 0
top_by want coheres =
    three_alike _ _ _ _ _ _ (count_0 want) (count_1 want) (count_2 want) ∙ sym (from_top want coheres)

pub counted_from_top : (claims : Claims) → tables_of claims ≡ tables_under (want_of claims) 4 0
counted_from_top claims = counted_by_wants claims ∙ top_by (want_of claims) (parent_is_table claims)
