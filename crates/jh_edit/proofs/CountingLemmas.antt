-- Sums over slots as loops make them, and how large they get.
use Rattle.std.proofs.Common.{◌≡◌, ℕ, ◌+◌, ◌-◌, ◌*◌, ◌%◌, ◌^◌, ◌<◌, ◌≤◌, Bool, false, zero, suc, ap, ◌∙◌, sym, subst, if◌then◌else◌, arith, refl, List, Some, None, slice_get}
use Rattle.std.proofs.lemmas.Option.{get_or_from_slice_get}
use Rattle.jh_num.specs.declared.level.TheConstants.{LAST_LEVEL}
use Rattle.jh_num.specs.Below.{any_below, sum_below}
use Rattle.jh_num.specs.Levels.{slot_size}
use Rattle.jh_num.proofs.Public.{sum_same}
use Rattle.jh_desc.specs.declared.descriptor.Descriptor.{Descriptor}
use Rattle.jh_desc.specs.declared.descriptor.Descriptor.TheVariants.{Invalid, Table, Leaf}
use Rattle.jh_desc.specs.Descriptors.{read_of}
use Rattle.jh_walk.specs.Counts.{by_next, count_from}
use Rattle.jh_walk.specs.Pages.{pages_reached}
use Rattle.jh_shape.specs.declared.want.Want.{Want}
use Rattle.jh_shape.specs.declared.want.Want.TheVariants.{Nothing, Table as WantTable, Leaf as WantLeaf}
use Rattle.jh_shape.specs.Laws.{is_to_table}
use Rattle.jh_shape.specs.SoundClaims.{IsSlot}
use Rattle.jh_shape.specs.Wanted.{Wants, if_table, slot_start, tables_under}
use Rattle.jh_walk.proofs.Public.{count_none}
use Rattle.jh_edit.specs.Trees.{lacking, staying}
use Rattle.jh_edit.specs.Turns.{has_lacking_leaf, has_wrong_leaf, is_wrong_leaf, lacks_leaf, turn_if, turns_at, turns_of}
use Rattle.jh_edit.specs.Private.Slots.{IsTableStart, lacks_at, slot_turns, want_at, wrong_at}
use Rattle.jh_edit.proofs.SumLemmas.{any_same, count_more, sum_plus, under_more, under_none, under_some}
use Rattle.jh_edit.proofs.BoundLemmas.{gone_turns, next_alike, pages_more, pages_none, slot_bounded, turns_bounded}

-- ---- sums that loops make

pub start_sum : (k : ℕ) (f : ℕ → ℕ) → k ≡ k + sum_below 0 f
unfolding sum_below
start_sum k f = omega arith

sum_step : (k i s r : ℕ) (f : ℕ → ℕ) → s ≡ k + sum_below i f → r ≡ f i → s + r ≡ k + sum_below (suc i) f
unfolding sum_below
sum_step k i s r f e h = omega arith

pub more_sum : (k i s r : ℕ) (f : ℕ → ℕ) → s ≡ k + sum_below i f → r ≡ f i → s + r ≡ k + sum_below (i + 1) f
more_sum k i s r f e h =
    let one : i + 1 ≡ suc i = omega arith in
    subst (λ n. s + r ≡ k + sum_below n f) (sym one) (sum_step k i s r f e h)

-- ---- pages

pub pages_zero : (word : ℕ → ℕ) (n table : ℕ) → n ≡ 0 → 0 ≡ pages_reached word n table
pages_zero word n table e = subst (λ m. 0 ≡ pages_reached word m table) (sym e) (sym (pages_none word table))

pub pages_all : (word : ℕ → ℕ) (n table pages : ℕ) → 0 < n → pages ≡ 1 + sum_below 512 (λ i. by_next (pages_reached word (n - 1)) (read_of (word (table + 8 * i)) (LAST_LEVEL + 1 - n))) → pages ≡ pages_reached word n table
pages_all word zero table pages some e = absurd (let wrong : ⊥ = omega arith in wrong)
pages_all word (suc n) table pages some e =
    let one : suc n - 1 ≡ n = omega arith in
    let level : LAST_LEVEL + 1 - suc n ≡ LAST_LEVEL - n = omega arith in
    let same : 1 + sum_below 512 (λ i. by_next (pages_reached word (suc n - 1)) (read_of (word (table + 8 * i)) (LAST_LEVEL + 1 - suc n))) ≡ 1 + sum_below 512 (λ i. by_next (pages_reached word n) (read_of (word (table + 8 * i)) (LAST_LEVEL - n))) =
    ap (λ m. 1 + sum_below 512 (λ i. by_next (pages_reached word m) (read_of (word (table + 8 * i)) (LAST_LEVEL + 1 - suc n)))) one ∙ ap (λ l. 1 + sum_below 512 (λ i. by_next (pages_reached word n) (read_of (word (table + 8 * i)) l))) level in
    e ∙ same ∙ sym (pages_more word n table)

-- ---- how large they get

sum_few : (n b : ℕ) (f : ℕ → ℕ) → ((i : ℕ) → i < n → f i ≤ b) → sum_below n f ≤ n * b
unfolding sum_below
sum_few zero b f h = omega arith
sum_few (suc n) b f h =
    let rest : sum_below n f ≤ n * b = sum_few n b f (λ i lt. h i (omega arith)) in
    let last : f n ≤ b = h n (omega arith) in omega arith

pub next_few : (b : ℕ) (f : ℕ → ℕ) → ((next : ℕ) → f next ≤ b) → (d : Descriptor) → by_next f d ≤ b
next_few b f h Invalid = omega arith
next_few b f h (Leaf out rights device) = omega arith
next_few b f h (Table next) = h next

pages_step : (word : ℕ → ℕ) (n b : ℕ) → ((table : ℕ) → pages_reached word n table ≤ b) → (table : ℕ) → pages_reached word (suc n) table ≤ 1 + 512 * b
pages_step word n b h table =
    let F = λ (i : ℕ). by_next (pages_reached word n) (read_of (word (table + 8 * i)) (LAST_LEVEL - n)) in
    let few : sum_below 512 F ≤ 512 * b = sum_few 512 b F (λ i lt. next_few b (pages_reached word n) h (read_of (word (table + 8 * i)) (LAST_LEVEL - n))) in
    let all = pages_more word n table in omega arith

pages_0 : (word : ℕ → ℕ) (table : ℕ) → pages_reached word zero table ≤ 0
pages_0 word table = let e = pages_none word table in omega arith

pages_1 : (word : ℕ → ℕ) (table : ℕ) → pages_reached word 1 table ≤ 1
pages_1 word = pages_step word 0 0 (pages_0 word)

pages_2 : (word : ℕ → ℕ) (table : ℕ) → pages_reached word 2 table ≤ 513
pages_2 word = pages_step word 1 1 (pages_1 word)

pages_3 : (word : ℕ → ℕ) (table : ℕ) → pages_reached word 3 table ≤ 262657
pages_3 word = pages_step word 2 513 (pages_2 word)

pub pages_few : (word : ℕ → ℕ) (n table : ℕ) → n < 4 → pages_reached word n table ≤ 262657
pages_few word zero table few = let e = pages_0 word table in omega arith
pages_few word (suc zero) table few = let e : pages_reached word 1 table ≤ 1 = pages_1 word table in omega arith
pages_few word (suc (suc zero)) table few = let e : pages_reached word 2 table ≤ 513 = pages_2 word table in omega arith
pages_few word (suc (suc (suc zero))) table few = pages_3 word table
pages_few word (suc (suc (suc (suc n)))) table few = absurd (let wrong : ⊥ = omega arith in wrong)

-- ---- tables

if_few : (b tables : ℕ) → tables ≤ b → (want : Want) → if_table tables want ≤ b
if_few b tables h Nothing = omega arith
if_few b tables h WantTable = h
if_few b tables h (WantLeaf out rights device) = omega arith

under_step : (want : Wants) (n b : ℕ) → ((start : ℕ) → tables_under want n start ≤ b) → (start : ℕ) → tables_under want (suc n) start ≤ 1 + 512 * b
under_step want n b h start =
    let F = λ (i : ℕ). if_table (tables_under want n (slot_start (LAST_LEVEL - n) start i)) (want (LAST_LEVEL - n) (slot_start (LAST_LEVEL - n) start i)) in
    let few : sum_below 512 F ≤ 512 * b = sum_few 512 b F (λ i lt. if_few b (tables_under want n (slot_start (LAST_LEVEL - n) start i)) (h (slot_start (LAST_LEVEL - n) start i)) (want (LAST_LEVEL - n) (slot_start (LAST_LEVEL - n) start i))) in
    let all = under_more want n start in omega arith

under_0 : (want : Wants) (start : ℕ) → tables_under want zero start ≤ 0
under_0 want start = let e = under_none want start in omega arith

under_1 : (want : Wants) (start : ℕ) → tables_under want 1 start ≤ 1
under_1 want = under_step want 0 0 (under_0 want)

under_2 : (want : Wants) (start : ℕ) → tables_under want 2 start ≤ 513
under_2 want = under_step want 1 1 (under_1 want)

under_3 : (want : Wants) (start : ℕ) → tables_under want 3 start ≤ 262657
under_3 want = under_step want 2 513 (under_2 want)

pub under_few : (want : Wants) (n start : ℕ) → n < 4 → tables_under want n start ≤ 262657
under_few want zero start few = let e = under_0 want start in omega arith
under_few want (suc zero) start few = let e : tables_under want 1 start ≤ 1 = under_1 want start in omega arith
under_few want (suc (suc zero)) start few = let e : tables_under want 2 start ≤ 513 = under_2 want start in omega arith
under_few want (suc (suc (suc zero))) start few = under_3 want start
under_few want (suc (suc (suc (suc n)))) start few = absurd (let wrong : ⊥ = omega arith in wrong)

pub under_zero : (want : Wants) (n start : ℕ) → n ≡ 0 → 0 ≡ tables_under want n start
under_zero want n start e = subst (λ m. 0 ≡ tables_under want m start) (sym e) (under_none want start)

pub under_one : (want : Wants) (n start : ℕ) → n ≡ 1 → 1 ≡ tables_under want n start
under_one want n start e =
    let most : tables_under want 1 start ≤ 1 = under_1 want start in
    let some : 0 < tables_under want 1 start = under_some want 0 start in
    subst (λ m. 1 ≡ tables_under want m start) (sym e) (let one : 1 ≡ tables_under want 1 start = omega arith in one)

-- ---- where slots begin

pub record IsFirstSlot (left start : ℕ) : Type 0 where
  pub slot : IsSlot (LAST_LEVEL + 1 - left) start
  pub whole : start % (512 * slot_size (LAST_LEVEL + 1 - left)) ≡ 0

pub first_slot : (left start : ℕ) → 0 < left → left ≤ 4 → IsTableStart left start → IsFirstSlot left start
first_slot zero start some few is = absurd (let wrong : ⊥ = omega arith in wrong)
first_slot (suc zero) start some few is =
    let a = is.begins in let b = is.bound in
    record { slot = record { first = omega arith; last = omega arith; begins = omega arith; bound = omega arith }; whole = omega arith }
first_slot (suc (suc zero)) start some few is =
    let a = is.begins in let b = is.bound in
    record { slot = record { first = omega arith; last = omega arith; begins = omega arith; bound = omega arith }; whole = omega arith }
first_slot (suc (suc (suc zero))) start some few is =
    let a = is.begins in let b = is.bound in
    record { slot = record { first = omega arith; last = omega arith; begins = omega arith; bound = omega arith }; whole = omega arith }
first_slot (suc (suc (suc (suc zero)))) start some few is =
    let a = is.begins in let b = is.bound in
    record { slot = record { first = omega arith; last = omega arith; begins = omega arith; bound = omega arith }; whole = omega arith }
first_slot (suc (suc (suc (suc (suc n))))) start some few is = absurd (let wrong : ⊥ = omega arith in wrong)

-- a slot of a table: it begins a table of the next level, and its start doesn't wrap
pub record IsNextStart (left start slot size : ℕ) : Type 0 where
  pub next : IsTableStart (left - 1) (start + slot * size)
  pub product : slot * size < 2 ^ 48
  pub sum : start + slot * size < 2 ^ 48

next_by : (left start slot size : ℕ) → 0 < left → left ≤ 4 → IsTableStart left start → slot < 512 → size ≡ slot_size (LAST_LEVEL + 1 - left) → IsNextStart left start slot (slot_size (LAST_LEVEL + 1 - left))
next_by zero start slot size some few is lt e = absurd (let wrong : ⊥ = omega arith in wrong)
next_by (suc zero) start slot size some few is lt e =
    let a = is.begins in let b = is.bound in
    record { next = record { begins = omega arith; bound = omega arith }; product = omega arith; sum = omega arith }
next_by (suc (suc zero)) start slot size some few is lt e =
    let a = is.begins in let b = is.bound in
    record { next = record { begins = omega arith; bound = omega arith }; product = omega arith; sum = omega arith }
next_by (suc (suc (suc zero))) start slot size some few is lt e =
    let a = is.begins in let b = is.bound in
    record { next = record { begins = omega arith; bound = omega arith }; product = omega arith; sum = omega arith }
next_by (suc (suc (suc (suc zero)))) start slot size some few is lt e =
    let a = is.begins in let b = is.bound in
    record { next = record { begins = omega arith; bound = omega arith }; product = omega arith; sum = omega arith }
next_by (suc (suc (suc (suc (suc n))))) start slot size some few is lt e = absurd (let wrong : ⊥ = omega arith in wrong)

pub next_start : (left start slot size : ℕ) → 0 < left → left ≤ 4 → IsTableStart left start → slot < 512 → size ≡ slot_size (LAST_LEVEL + 1 - left) → IsNextStart left start slot size
next_start left start slot size some few is lt e = subst (IsNextStart left start slot) (sym e) (next_by left start slot size some few is lt e)

-- ---- what is wanted of the slots

pub want_there : (wants : List Want) (i : ℕ) (want : Want) → slice_get wants i ≡ Some want → want_at wants i ≡ want
want_there wants i want e = get_or_from_slice_get wants i want Nothing e

-- the list has what is wanted of the slots of the table that begins at the address
abbrev pub AreWants : Wants → ℕ → ℕ → List Want → Type 0
AreWants want level start wants = (i : ℕ) → i < 512 → slice_get wants i ≡ Some (want level (start + i * slot_size level))

tables_by : (want : Wants) (n level start tables : ℕ) (wants : List Want) → level ≡ LAST_LEVEL - n → AreWants want level start wants
    → tables ≡ 1 + sum_below 512 (λ i. if_table (tables_under want n (start + i * slot_size level)) (want_at wants i)) → tables ≡ tables_under want (suc n) start
tables_by want n level start tables wants is are e =
    let F = λ (i : ℕ). if_table (tables_under want n (start + i * slot_size level)) (want_at wants i) in
    let G = λ (i : ℕ). if_table (tables_under want n (slot_start level start i)) (want level (slot_start level start i)) in
    let slots : sum_below 512 F ≡ sum_below 512 G = sum_same 512 F G (λ i lt. ap (if_table (tables_under want n (start + i * slot_size level))) (want_there wants i (want level (start + i * slot_size level)) (are i lt))) in
    let here : sum_below 512 G ≡ sum_below 512 (λ i. if_table (tables_under want n (slot_start (LAST_LEVEL - n) start i)) (want (LAST_LEVEL - n) (slot_start (LAST_LEVEL - n) start i))) =
    ap (λ l. sum_below 512 (λ i. if_table (tables_under want n (slot_start l start i)) (want l (slot_start l start i)))) is in
    let all = under_more want n start in omega arith

pub tables_all : (want : Wants) (n level start tables : ℕ) (wants : List Want) → 0 < n → level ≡ LAST_LEVEL + 1 - n → AreWants want level start wants
    → tables ≡ 1 + sum_below 512 (λ i. if_table (tables_under want (n - 1) (start + i * slot_size level)) (want_at wants i)) → tables ≡ tables_under want n start
tables_all want zero level start tables wants some is are e = absurd (let wrong : ⊥ = omega arith in wrong)
tables_all want (suc n) level start tables wants some is are e =
    let one : suc n - 1 ≡ n = omega arith in
    tables_by want n level start tables wants (omega arith) are (subst (λ m. tables ≡ 1 + sum_below 512 (λ i. if_table (tables_under want m (start + i * slot_size level)) (want_at wants i))) one e)

-- ---- turns

pub turns_zero : (want : Wants) (word : ℕ → ℕ) (n table start : ℕ) → n ≡ 0 → 0 ≡ turns_of want word n table start
turns_zero want word n table start e = subst (λ m. 0 ≡ turns_of want word m table start) (sym e) (sym (count_none (staying want) (turns_at want) word (Some start) table))

pub turns_few : (want : Wants) (word : ℕ → ℕ) (n table start : ℕ) → n < 4 → turns_of want word n table start ≤ 1050628
turns_few want word n table start few =
    let a = turns_bounded want word n table start in
    let b = pages_few word n table few in
    let c = under_few want n start few in omega arith

turns_by : (want : Wants) (word : ℕ → ℕ) (n level table start turns : ℕ) (wants : List Want) (wrong lacks : Bool) → level ≡ LAST_LEVEL - n → AreWants want level start wants
    → wrong ≡ any_below (wrong_at wants word level table) 512 → lacks ≡ any_below (lacks_at wants word level table) 512
    → turns ≡ (turn_if wrong + turn_if lacks) + sum_below 512 (λ i. slot_turns want word n (start + i * slot_size level) (want_at wants i) (read_of (word (table + 8 * i)) level))
    → turns ≡ turns_of want word (suc n) table start
turns_by want word n level table start turns wants wrong lacks is are w l e =
    let D = λ (m i : ℕ). read_of (word (table + 8 * i)) m in
    let S = λ (m i : ℕ). slot_start m start i in
    let L = LAST_LEVEL - n in
    let there : (i : ℕ) → i < 512 → want_at wants i ≡ want level (S level i) = λ i lt. want_there wants i (want level (S level i)) (are i lt) in
    let own : turn_if wrong ≡ turn_if (has_wrong_leaf want word n table start) =
    ap turn_if (w ∙ any_same (wrong_at wants word level table) (λ i. is_wrong_leaf (want level (S level i)) (D level i)) 512 (λ i lt. ap (λ x. is_wrong_leaf x (D level i)) (there i lt))
    ∙ ap (λ m. any_below (λ i. is_wrong_leaf (want m (S m i)) (D m i)) 512) is) in
    let more : turn_if lacks ≡ turn_if (has_lacking_leaf want word n table start) =
    ap turn_if (l ∙ any_same (lacks_at wants word level table) (λ i. lacks_leaf (want level (S level i)) (D level i)) 512 (λ i lt. ap (λ x. lacks_leaf x (D level i)) (there i lt))
    ∙ ap (λ m. any_below (λ i. lacks_leaf (want m (S m i)) (D m i)) 512) is) in
    let F = λ (i : ℕ). slot_turns want word n (start + i * slot_size level) (want_at wants i) (D level i) in
    let G = λ (m i : ℕ). slot_turns want word n (S m i) (want m (S m i)) (D m i) in
    let K = λ (i : ℕ). lacking (2 * tables_under want n (S L i)) (want L (S L i)) (D L i) in
    let B = λ (i : ℕ). by_next (count_from (staying want) (turns_at want) word n (staying want (Some start) n i)) (D L i) in
    let slots : sum_below 512 F ≡ sum_below 512 (G level) = sum_same 512 F (G level) (λ i lt. ap (λ x. slot_turns want word n (S level i) x (D level i)) (there i lt)) in
    let here : sum_below 512 (G level) ≡ sum_below 512 (G L) = ap (λ m. sum_below 512 (G m)) is in
    let both : sum_below 512 (G L) ≡ sum_below 512 K + sum_below 512 B = sum_plus 512 K B (G L) (λ i lt. refl) in
    let all = count_more (staying want) (turns_at want) word n (Some start) table in
    omega arith

pub turns_all : (want : Wants) (word : ℕ → ℕ) (n level table start turns : ℕ) (wants : List Want) (wrong lacks : Bool) → 0 < n → level ≡ LAST_LEVEL + 1 - n → AreWants want level start wants
    → wrong ≡ any_below (wrong_at wants word level table) 512 → lacks ≡ any_below (lacks_at wants word level table) 512
    → turns ≡ (turn_if wrong + turn_if lacks) + sum_below 512 (λ i. slot_turns want word (n - 1) (start + i * slot_size level) (want_at wants i) (read_of (word (table + 8 * i)) level))
    → turns ≡ turns_of want word n table start
turns_all want word zero level table start turns wants wrong lacks some is are w l e = absurd (let wrong : ⊥ = omega arith in wrong)
turns_all want word (suc n) level table start turns wants wrong lacks some is are w l e =
    let one : suc n - 1 ≡ n = omega arith in
    turns_by want word n level table start turns wants wrong lacks (omega arith) are w l
    (subst (λ m. turns ≡ (turn_if wrong + turn_if lacks) + sum_below 512 (λ i. slot_turns want word m (start + i * slot_size level) (want_at wants i) (read_of (word (table + 8 * i)) level))) one e)

-- what a slot takes
gone_if : (want : Wants) (word : ℕ → ℕ) (n start next : ℕ) (b : Bool) → b ≡ false → count_from (staying want) (turns_at want) word n (if b then Some start else None) next ≡ pages_reached word n next
gone_if want word n start next b e = ap (λ b. count_from (staying want) (turns_at want) word n (if b then Some start else None) next) e ∙ gone_turns want word n next

pub slot_few : (want : Wants) (word : ℕ → ℕ) (n start : ℕ) (w : Want) (d : Descriptor) → n < 4 → slot_turns want word n start w d ≤ 1050628
slot_few want word n start w d few =
    let f = count_from (staying want) (turns_at want) word n (if is_to_table w then Some start else None) in
    let bounded : lacking (2 * tables_under want n start) w d + by_next f d ≤ 2 * by_next (pages_reached word n) d + 2 * if_table (tables_under want n start) w =
    slot_bounded (tables_under want n start) (pages_reached word n) f w d
    (λ is next. subst (λ x. count_from (staying want) (turns_at want) word n (if is_to_table x then Some start else None) next ≤ 2 * pages_reached word n next + 2 * tables_under want n start) (sym is) (turns_bounded want word n next start))
    (λ other next. let e : f next ≡ pages_reached word n next = gone_if want word n start next (is_to_table w) other in omega arith) in
    let pages : by_next (pages_reached word n) d ≤ 262657 = next_few 262657 (pages_reached word n) (λ next. pages_few word n next few) d in
    let tables : if_table (tables_under want n start) w ≤ 262657 = if_few 262657 (tables_under want n start) (under_few want n start few) w in
    omega arith

-- where no table stands and one is wanted
pub lacking_turns : (want : Wants) (word : ℕ → ℕ) (n start : ℕ) (d : Descriptor) → ((next : ℕ) → d ≡ Table next → ⊥) → slot_turns want word n start WantTable d ≡ 2 * tables_under want n start
lacking_turns want word n start Invalid none = omega arith
lacking_turns want word n start (Leaf out rights device) none = omega arith
lacking_turns want word n start (Table next) none = absurd (none next refl)

-- where no table is wanted
pub other_turns : (want : Wants) (word : ℕ → ℕ) (n start : ℕ) (w : Want) (d : Descriptor) → (w ≡ WantTable → ⊥) → slot_turns want word n start w d ≡ by_next (pages_reached word n) d
other_turns want word n start Nothing d other =
    let e : by_next (count_from (staying want) (turns_at want) word n None) d ≡ by_next (pages_reached word n) d = next_alike (count_from (staying want) (turns_at want) word n None) (pages_reached word n) (gone_turns want word n) d in omega arith
other_turns want word n start WantTable d other = absurd (other refl)
other_turns want word n start (WantLeaf out rights device) d other =
    let e : by_next (count_from (staying want) (turns_at want) word n None) d ≡ by_next (pages_reached word n) d = next_alike (count_from (staying want) (turns_at want) word n None) (pages_reached word n) (gone_turns want word n) d in omega arith
