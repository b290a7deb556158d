-- How many turns an edit takes at most.
use Rattle.std.proofs.Common.{◌≡◌, ℕ, ◌+◌, ◌-◌, ◌*◌, ◌≤◌, Bool, true, false, zero, suc, ap, ◌∙◌, sym, subst, if◌then◌else◌, arith, refl, Some, None}
use Rattle.jh_num.specs.declared.level.TheConstants.{LAST_LEVEL}
use Rattle.jh_num.specs.Below.{any_below, sum_below}
use Rattle.jh_num.proofs.Public.{sum_le, sum_same}
use Rattle.jh_desc.specs.declared.descriptor.Descriptor.{Descriptor}
use Rattle.jh_desc.specs.declared.descriptor.Descriptor.TheVariants.{Invalid, Table, Leaf}
use Rattle.jh_desc.specs.Descriptors.{read_of}
use Rattle.jh_walk.specs.Counts.{by_next, count_from, unmoved}
use Rattle.jh_walk.specs.Pages.{pages_reached}
use Rattle.jh_shape.specs.declared.want.Want.{Want}
use Rattle.jh_shape.specs.declared.want.Want.TheVariants.{Nothing, Table as WantTable, Leaf as WantLeaf}
use Rattle.jh_shape.specs.Laws.{is_to_table}
use Rattle.jh_shape.specs.Wanted.{Wants, slot_start, if_table, tables_under}
use Rattle.jh_walk.proofs.Public.{count_none}
use Rattle.jh_edit.proofs.StandLemmas.{stays_at}
use Rattle.jh_edit.specs.Trees.{lacking, staying}
use Rattle.jh_edit.specs.Turns.{is_wrong_leaf, lacks_leaf, turn_if, turns_at, turns_of}
use Rattle.jh_edit.proofs.SumLemmas.{count_more, sum_double, sum_plus, under_more}

pub pages_more : (word : ℕ → ℕ) (n table : ℕ) → pages_reached word (suc n) table ≡ 1 + sum_below 512 (λ i. by_next (pages_reached word n) (read_of (word (table + 8 * i)) (LAST_LEVEL - n)))
pages_more word n table = count_more unmoved (λ state word n page. 1) word n None table

pub pages_none : (word : ℕ → ℕ) (table : ℕ) → pages_reached word zero table ≡ 0
pages_none word table = count_none unmoved (λ state word n page. 1) word None table

pub next_alike : (f g : ℕ → ℕ) → ((next : ℕ) → f next ≡ g next) → (d : Descriptor) → by_next f d ≡ by_next g d
next_alike f g e Invalid = refl
next_alike f g e (Leaf out rights device) = refl
next_alike f g e (Table next) = e next

-- a table that goes takes a turn for each page that it reaches
pub gone_turns : (want : Wants) (word : ℕ → ℕ) (n table : ℕ) → count_from (staying want) (turns_at want) word n None table ≡ pages_reached word n table
gone_turns want word zero table = count_none (staying want) (turns_at want) word None table ∙ sym (pages_none word table)
gone_turns want word (suc n) table =
    let A = λ (i : ℕ). by_next (count_from (staying want) (turns_at want) word n None) (read_of (word (table + 8 * i)) (LAST_LEVEL - n)) in
    let B = λ (i : ℕ). by_next (pages_reached word n) (read_of (word (table + 8 * i)) (LAST_LEVEL - n)) in
    let same : sum_below 512 A ≡ sum_below 512 B = sum_same 512 A B (λ i lt. next_alike (count_from (staying want) (turns_at want) word n None) (pages_reached word n) (gone_turns want word n) (read_of (word (table + 8 * i)) (LAST_LEVEL - n))) in
    let all = count_more (staying want) (turns_at want) word n None table in
    let pages = pages_more word n table in
    omega arith

flag_few : (b : Bool) → turn_if b ≤ 1
flag_few true = omega arith
flag_few false = omega arith

-- what a slot takes is bounded by what it reaches and what is wanted there
pub slot_bounded : (tables : ℕ) (pages f : ℕ → ℕ) (want : Want) (d : Descriptor) → (want ≡ WantTable → (next : ℕ) → f next ≤ 2 * pages next + 2 * tables)
    → (is_to_table want ≡ false → (next : ℕ) → f next ≤ 2 * pages next) → lacking (2 * tables) want d + by_next f d ≤ 2 * by_next pages d + 2 * if_table tables want
slot_bounded tables pages f Nothing Invalid stays goes = omega arith
slot_bounded tables pages f Nothing (Leaf out rights device) stays goes = omega arith
slot_bounded tables pages f Nothing (Table next) stays goes = let a : f next ≤ 2 * pages next = goes refl next in omega arith
slot_bounded tables pages f WantTable Invalid stays goes = omega arith
slot_bounded tables pages f WantTable (Leaf out rights device) stays goes = omega arith
slot_bounded tables pages f WantTable (Table next) stays goes = let a : f next ≤ 2 * pages next + 2 * tables = stays refl next in omega arith
slot_bounded tables pages f (WantLeaf out rights device) Invalid stays goes = omega arith
slot_bounded tables pages f (WantLeaf out rights device) (Leaf out' rights' device') stays goes = omega arith
slot_bounded tables pages f (WantLeaf out rights device) (Table next) stays goes = let a : f next ≤ 2 * pages next = goes refl next in omega arith

goes_at : (want : Wants) (word : ℕ → ℕ) (n start i next : ℕ) → is_to_table (want (LAST_LEVEL - n) (slot_start (LAST_LEVEL - n) start i)) ≡ false → count_from (staying want) (turns_at want) word n (staying want (Some start) n i) next ≡ pages_reached word n next
goes_at want word n start i next other = ap (λ b. count_from (staying want) (turns_at want) word n (if b then Some (slot_start (LAST_LEVEL - n) start i) else None) next) other ∙ gone_turns want word n next

pub turns_bounded : (want : Wants) (word : ℕ → ℕ) (n table start : ℕ) → turns_of want word n table start ≤ 2 * pages_reached word n table + 2 * tables_under want n start
turns_bounded want word zero table start = let a : turns_of want word zero table start ≡ 0 = count_none (staying want) (turns_at want) word (Some start) table in omega arith
turns_bounded want word (suc n) table start =
    let S = λ (i : ℕ). slot_start (LAST_LEVEL - n) start i in
    let W = λ (i : ℕ). want (LAST_LEVEL - n) (S i) in
    let D = λ (i : ℕ). read_of (word (table + 8 * i)) (LAST_LEVEL - n) in
    let f = λ (i : ℕ). count_from (staying want) (turns_at want) word n (staying want (Some start) n i) in
    let K = λ (i : ℕ). lacking (2 * tables_under want n (S i)) (W i) (D i) in
    let B = λ (i : ℕ). by_next (f i) (D i) in
    let P = λ (i : ℕ). by_next (pages_reached word n) (D i) in
    let U = λ (i : ℕ). if_table (tables_under want n (S i)) (W i) in
    let own : sum_below 512 (λ i. K i + B i) ≡ sum_below 512 K + sum_below 512 B = sum_plus 512 K B (λ i. K i + B i) (λ i lt. refl) in
    let twice : sum_below 512 (λ i. 2 * P i) ≡ 2 * sum_below 512 P = sum_double 512 P (λ i. 2 * P i) (λ i lt. refl) in
    let wanted : sum_below 512 (λ i. 2 * U i) ≡ 2 * sum_below 512 U = sum_double 512 U (λ i. 2 * U i) (λ i lt. refl) in
    let both : sum_below 512 (λ i. 2 * P i + 2 * U i) ≡ sum_below 512 (λ i. 2 * P i) + sum_below 512 (λ i. 2 * U i) = sum_plus 512 (λ i. 2 * P i) (λ i. 2 * U i) (λ i. 2 * P i + 2 * U i) (λ i lt. refl) in
    let slots : sum_below 512 (λ i. K i + B i) ≤ sum_below 512 (λ i. 2 * P i + 2 * U i) = sum_le 512 (λ i. K i + B i) (λ i. 2 * P i + 2 * U i) (λ i lt.
    slot_bounded (tables_under want n (S i)) (pages_reached word n) (f i) (W i) (D i)
    (λ is next. subst (λ s. count_from (staying want) (turns_at want) word n s next ≤ 2 * pages_reached word n next + 2 * tables_under want n (S i)) (sym (stays_at want n start i is)) (turns_bounded want word n next (S i)))
    (λ other next. let e : f i next ≡ pages_reached word n next = goes_at want word n start i next other in omega arith)) in
    let wrong : turn_if (any_below (λ i. is_wrong_leaf (W i) (D i)) 512) ≤ 1 = flag_few (any_below (λ i. is_wrong_leaf (W i) (D i)) 512) in
    let lacks : turn_if (any_below (λ i. lacks_leaf (W i) (D i)) 512) ≤ 1 = flag_few (any_below (λ i. lacks_leaf (W i) (D i)) 512) in
    let all = count_more (staying want) (turns_at want) word n (Some start) table in
    let pages = pages_more word n table in
    let under = under_more want n start in
    omega arith
