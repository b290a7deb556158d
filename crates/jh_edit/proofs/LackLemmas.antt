-- Tables that stand lack of other wants just the tables that those want more.
use Rattle.std.proofs.Common.{◌≡◌, ℕ, ◌+◌, ◌-◌, ◌*◌, Bool, false, if◌then◌else◌, zero, suc, ap, ◌∙◌, sym, subst, arith, refl, Some, None}
use Rattle.jh_num.specs.declared.level.TheConstants.{LAST_LEVEL}
use Rattle.jh_num.specs.declared.rights.Rights.{Rights}
use Rattle.jh_num.specs.Below.{sum_below}
use Rattle.jh_desc.specs.declared.descriptor.Descriptor.{Descriptor}
use Rattle.jh_desc.specs.declared.descriptor.Descriptor.TheVariants.{Invalid, Table, Leaf}
use Rattle.jh_desc.specs.Descriptors.{read_of}
use Rattle.jh_walk.specs.Counts.{by_next, count_from}
use Rattle.jh_shape.specs.declared.want.Want.{Want}
use Rattle.jh_shape.specs.declared.want.Want.TheVariants.{Nothing, Table as WantTable, Leaf as WantLeaf}
use Rattle.jh_shape.specs.Laws.{is_to_table}
use Rattle.jh_shape.specs.Wanted.{Wants, slot_start, if_table, tables_under}
use Rattle.jh_walk.proofs.Public.{count_none}
use Rattle.jh_edit.specs.Trees.{IsAsWanted, Stands, WantsItsTables, lack_at, lack_of, lacking, staying}
use Rattle.jh_edit.proofs.SumLemmas.{count_more, sum_none, sum_plus, under_more}
use Rattle.jh_edit.proofs.StandLemmas.{stand_down, stand_zero, stays_at}

-- what a slot lacks of the wants, by itself and below
abbrev slot_lacks : Wants → (ℕ → ℕ) → ℕ → ℕ → ℕ → ℕ → ℕ
slot_lacks want word n table start i =
    lacking (tables_under want n (slot_start (LAST_LEVEL - n) start i)) (want (LAST_LEVEL - n) (slot_start (LAST_LEVEL - n) start i)) (read_of (word (table + 8 * i)) (LAST_LEVEL - n))
    + by_next (count_from (staying want) (lack_at want) word n (staying want (Some start) n i)) (read_of (word (table + 8 * i)) (LAST_LEVEL - n))

lack_more : (want : Wants) (word : ℕ → ℕ) (n table start : ℕ) → lack_of want word (suc n) table start ≡ sum_below 512 (slot_lacks want word n table start)
lack_more want word n table start =
    let A = λ (i : ℕ). lacking (tables_under want n (slot_start (LAST_LEVEL - n) start i)) (want (LAST_LEVEL - n) (slot_start (LAST_LEVEL - n) start i)) (read_of (word (table + 8 * i)) (LAST_LEVEL - n)) in
    let B = λ (i : ℕ). by_next (count_from (staying want) (lack_at want) word n (staying want (Some start) n i)) (read_of (word (table + 8 * i)) (LAST_LEVEL - n)) in
    count_more (staying want) (lack_at want) word n (Some start) table ∙ sym (sum_plus 512 A B (slot_lacks want word n table start) (λ i lt. refl))

-- where no table stands, a slot lacks all that are wanted there
pub lack_whole : (much : ℕ) (want : Want) → lacking much want Invalid ≡ if_table much want
lack_whole much Nothing = refl
lack_whole much WantTable = refl
lack_whole much (WantLeaf out rights device) = refl

lack_leaf : (much out : ℕ) (rights : Rights) (device : Bool) (want : Want) → lacking much want (Leaf out rights device) ≡ if_table much want
lack_leaf much out rights device Nothing = refl
lack_leaf much out rights device WantTable = refl
lack_leaf much out rights device (WantLeaf out' rights' device') = refl

-- a slot that stands as the one wants lacks what the other wants more
slot_more : (on : ℕ → Type 0) (mine theirs : ℕ) (f : ℕ → ℕ) (want other : Want) (d : Descriptor) → IsAsWanted on want d → (want ≡ WantTable → other ≡ WantTable)
    → ((next : ℕ) → other ≡ WantTable → on next → f next + mine ≡ theirs) → (lacking theirs other d + by_next f d) + if_table mine want ≡ if_table theirs other
slot_more on mine theirs f Nothing other d e has below =
    let a : lacking theirs other d ≡ if_table theirs other = ap (lacking theirs other) e ∙ lack_whole theirs other in
    let b : by_next f d ≡ 0 = ap (by_next f) e in omega arith
slot_more on mine theirs f WantTable other d (next, (e, more)) has below =
    let is : other ≡ WantTable = has refl in
    let a : lacking theirs other d ≡ 0 = rw (e, is) refl in
    let b : by_next f d ≡ f next = ap (by_next f) e in
    let c : if_table theirs other ≡ theirs = ap (if_table theirs) is in
    let g : f next + mine ≡ theirs = below next is more in omega arith
slot_more on mine theirs f (WantLeaf out rights device) other d e has below =
    let a : lacking theirs other d ≡ if_table theirs other = ap (lacking theirs other) e ∙ lack_leaf theirs out rights device other in
    let b : by_next f d ≡ 0 = ap (by_next f) e in omega arith

pub lack_more_wanted : (want other : Wants) (word : ℕ → ℕ) → WantsItsTables want other → (n table start : ℕ) → Stands want word n table start → lack_of other word n table start + tables_under want n start ≡ tables_under other n start
lack_more_wanted want other word has zero table start stands = absurd (stand_zero want word table start stands)
lack_more_wanted want other word has (suc n) table start stands =
    let S = λ (i : ℕ). slot_start (LAST_LEVEL - n) start i in
    let M = λ (i : ℕ). if_table (tables_under want n (S i)) (want (LAST_LEVEL - n) (S i)) in
    let T = λ (i : ℕ). if_table (tables_under other n (S i)) (other (LAST_LEVEL - n) (S i)) in
    let each = stand_down want word n table start stands in
    let slots : sum_below 512 T ≡ sum_below 512 (slot_lacks other word n table start) + sum_below 512 M =
    sum_plus 512 (slot_lacks other word n table start) M T (λ i lt.
    sym (slot_more (λ next. Stands want word n next (S i)) (tables_under want n (S i)) (tables_under other n (S i)) (count_from (staying other) (lack_at other) word n (staying other (Some start) n i))
    (want (LAST_LEVEL - n) (S i)) (other (LAST_LEVEL - n) (S i)) (read_of (word (table + 8 * i)) (LAST_LEVEL - n)) (each i lt) (has (LAST_LEVEL - n) (S i)) (λ next is more.
    ap (λ s. count_from (staying other) (lack_at other) word n s next + tables_under want n (S i)) (stays_at other n start i is) ∙ lack_more_wanted want other word has n next (S i) more))) in
    let lacks = lack_more other word n table start in
    let mine = under_more want n start in
    let theirs = under_more other n start in
    omega arith

-- ---- where the tables that stand are more

next_none : (f : ℕ → ℕ) (d : Descriptor) → ((next : ℕ) → f next ≡ 0) → by_next f d ≡ 0
next_none f Invalid h = refl
next_none f (Leaf out rights device) h = refl
next_none f (Table next) h = h next

-- below a table that goes nothing is lacked
pub gone_lacks : (want : Wants) (word : ℕ → ℕ) (n table : ℕ) → count_from (staying want) (lack_at want) word n None table ≡ 0
gone_lacks want word zero table = count_none (staying want) (lack_at want) word None table
gone_lacks want word (suc n) table =
    let B = λ (i : ℕ). by_next (count_from (staying want) (lack_at want) word n None) (read_of (word (table + 8 * i)) (LAST_LEVEL - n)) in
    let below : sum_below 512 B ≡ 0 = sum_none B 512 (λ i lt. next_none (count_from (staying want) (lack_at want) word n None) (read_of (word (table + 8 * i)) (LAST_LEVEL - n)) (gone_lacks want word n)) in
    let all = count_more (staying want) (lack_at want) word n None table in omega arith

slot_none : (on : ℕ → Type 0) (theirs : ℕ) (f : ℕ → ℕ) (want other : Want) (d : Descriptor) → IsAsWanted on want d → (other ≡ WantTable → want ≡ WantTable)
    → ((next : ℕ) → other ≡ WantTable → on next → f next ≡ 0) → (is_to_table other ≡ false → (next : ℕ) → f next ≡ 0) → lacking theirs other d + by_next f d ≡ 0
slot_none on theirs f want Nothing d e has below gone = let b : by_next f d ≡ 0 = next_none f d (gone refl) in omega arith
slot_none on theirs f want WantTable d e has below gone =
    let t : IsAsWanted on WantTable d = subst (λ w. IsAsWanted on w d) (has refl) e in
    let a : lacking theirs WantTable d ≡ 0 = ap (lacking theirs WantTable) t.1.0 in
    let b : by_next f d ≡ f t.0 = ap (by_next f) t.1.0 in
    let c : f t.0 ≡ 0 = below t.0 refl t.1.1 in omega arith
slot_none on theirs f want (WantLeaf out rights device) d e has below gone = let b : by_next f d ≡ 0 = next_none f d (gone refl) in omega arith

gone_at : (want : Wants) (word : ℕ → ℕ) (n start i next : ℕ) → is_to_table (want (LAST_LEVEL - n) (slot_start (LAST_LEVEL - n) start i)) ≡ false → count_from (staying want) (lack_at want) word n (staying want (Some start) n i) next ≡ 0
gone_at want word n start i next other = ap (λ b. count_from (staying want) (lack_at want) word n (if b then Some (slot_start (LAST_LEVEL - n) start i) else None) next) other ∙ gone_lacks want word n next

pub lack_none : (want other : Wants) (word : ℕ → ℕ) → WantsItsTables other want → (n table start : ℕ) → Stands want word n table start → lack_of other word n table start ≡ 0
lack_none want other word has zero table start stands = absurd (stand_zero want word table start stands)
lack_none want other word has (suc n) table start stands =
    let S = λ (i : ℕ). slot_start (LAST_LEVEL - n) start i in
    let each = stand_down want word n table start stands in
    lack_more other word n table start ∙ sum_none (slot_lacks other word n table start) 512 (λ i lt.
    slot_none (λ next. Stands want word n next (S i)) (tables_under other n (S i)) (count_from (staying other) (lack_at other) word n (staying other (Some start) n i))
    (want (LAST_LEVEL - n) (S i)) (other (LAST_LEVEL - n) (S i)) (read_of (word (table + 8 * i)) (LAST_LEVEL - n)) (each i lt) (has (LAST_LEVEL - n) (S i))
    (λ next is more. ap (λ s. count_from (staying other) (lack_at other) word n s next) (stays_at other n start i is) ∙ lack_none want other word has n next (S i) more)
    (λ goes next. gone_at other word n start i next goes))
