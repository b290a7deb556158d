-- A table that is emptied of wrong leaves, or in which lacking ones are filled, has one turn less.
use Rattle.std.proofs.Common.{◌≡◌, ℕ, ◌+◌, ◌-◌, ◌*◌, ◌<◌, Bool, true, false, not, if◌then◌else◌, suc, ap, ◌∙◌, sym, arith, refl, Some}
use Rattle.jh_num.specs.declared.level.TheConstants.{LAST_LEVEL}
use Rattle.jh_num.specs.declared.rights.Rights.{Rights}
use Rattle.jh_num.specs.Below.{sum_below}
use Rattle.jh_num.proofs.Public.{sum_same}
use Rattle.jh_desc.specs.declared.descriptor.Descriptor.{Descriptor}
use Rattle.jh_desc.specs.declared.descriptor.Descriptor.TheVariants.{Invalid, Table, Leaf}
use Rattle.jh_desc.specs.Descriptors.{read_of}
use Rattle.jh_walk.specs.Counts.{by_next, count_from}
use Rattle.jh_shape.specs.declared.want.Want.{Want}
use Rattle.jh_shape.specs.declared.want.Want.TheVariants.{Nothing, Table as WantTable, Leaf as WantLeaf}
use Rattle.jh_shape.specs.Laws.{is_to_table}
use Rattle.jh_shape.specs.Wanted.{Wants, slot_start, tables_under}
use Rattle.jh_walk.proofs.Public.{next_same}
use Rattle.jh_edit.specs.Trees.{lacking, staying}
use Rattle.jh_edit.specs.Turns.{EmptiesTable, FillsTable, KeepsTurnsBelow, emptied, filled, has_lacking_leaf, has_wrong_leaf, is_wrong_leaf, lacks_leaf, turn_if, turns_at, turns_of}
use Rattle.jh_edit.proofs.SumLemmas.{any_down, any_none, any_same, count_more}
use Rattle.jh_edit.proofs.StandLemmas.{leaf_self}

leaf_right : (want : Want) (o : ℕ) (r : Rights) (v b : Bool) → is_wrong_leaf want (Leaf o r v) ≡ b → is_wrong_leaf want (if b then Invalid else Leaf o r v) ≡ false
leaf_right want o r v true e = refl
leaf_right want o r v false e = e

leaf_lacks : (want : Want) (o : ℕ) (r : Rights) (v b : Bool) → is_wrong_leaf want (Leaf o r v) ≡ b → lacks_leaf want (if b then Invalid else Leaf o r v) ≡ lacks_leaf want (Leaf o r v)
leaf_lacks Nothing o r v b e = refl
leaf_lacks WantTable o r v b e = refl
leaf_lacks (WantLeaf o' r' v') o r v true e = sym e
leaf_lacks (WantLeaf o' r' v') o r v false e = refl

leaf_lacking : (much : ℕ) (want : Want) (o : ℕ) (r : Rights) (v b : Bool) → lacking much want (if b then Invalid else Leaf o r v) ≡ lacking much want (Leaf o r v)
leaf_lacking much Nothing o r v b = refl
leaf_lacking much WantTable o r v true = refl
leaf_lacking much WantTable o r v false = refl
leaf_lacking much (WantLeaf o' r' v') o r v b = refl

leaf_next : (f : ℕ → ℕ) (o : ℕ) (r : Rights) (v b : Bool) → by_next f (if b then Invalid else Leaf o r v) ≡ 0
leaf_next f o r v true = refl
leaf_next f o r v false = refl

emptied_right : (want : Want) (d : Descriptor) → is_wrong_leaf want (emptied want d) ≡ false
emptied_right want Invalid = refl
emptied_right want (Table next) = refl
emptied_right want (Leaf o r v) = leaf_right want o r v (is_wrong_leaf want (Leaf o r v)) refl

emptied_lacks : (want : Want) (d : Descriptor) → lacks_leaf want (emptied want d) ≡ lacks_leaf want d
emptied_lacks want Invalid = refl
emptied_lacks want (Table next) = refl
emptied_lacks want (Leaf o r v) = leaf_lacks want o r v (is_wrong_leaf want (Leaf o r v)) refl

pub emptied_lacking : (much : ℕ) (want : Want) (d : Descriptor) → lacking much want (emptied want d) ≡ lacking much want d
emptied_lacking much want Invalid = refl
emptied_lacking much want (Table next) = refl
emptied_lacking much want (Leaf o r v) = leaf_lacking much want o r v (is_wrong_leaf want (Leaf o r v))

-- a table below counts as it did, so the slot does
pub emptied_next : (f g : ℕ → ℕ) (want : Want) (d : Descriptor) → ((next : ℕ) → d ≡ Table next → f next ≡ g next) → by_next f (emptied want d) ≡ by_next g d
emptied_next f g want Invalid h = refl
emptied_next f g want (Table next) h = h next refl
emptied_next f g want (Leaf o r v) h = leaf_next f o r v (is_wrong_leaf want (Leaf o r v))

pub emptied_falls : (want : Wants) (word word' : ℕ → ℕ) (n table start : ℕ) → EmptiesTable want word word' n table start → KeepsTurnsBelow want word word' n table start → has_wrong_leaf want word n table start ≡ true
    → turns_of want word' (suc n) table start + 1 ≡ turns_of want word (suc n) table start
emptied_falls want word word' n table start empties below some =
    let W = λ (i : ℕ). want (LAST_LEVEL - n) (slot_start (LAST_LEVEL - n) start i) in
    let D = λ (i : ℕ). read_of (word (table + 8 * i)) (LAST_LEVEL - n) in
    let D' = λ (i : ℕ). read_of (word' (table + 8 * i)) (LAST_LEVEL - n) in
    let M = λ (i : ℕ). 2 * tables_under want n (slot_start (LAST_LEVEL - n) start i) in
    let f = λ (w : ℕ → ℕ) (i : ℕ). count_from (staying want) (turns_at want) w n (staying want (Some start) n i) in
    let is : (i : ℕ) → i < 512 → D' i ≡ emptied (W i) (D i) = empties in
    let none : turn_if (has_wrong_leaf want word' n table start) ≡ 0 = ap turn_if (any_none (λ i. is_wrong_leaf (W i) (D' i)) 512 (λ i lt. ap (is_wrong_leaf (W i)) (is i lt) ∙ emptied_right (W i) (D i))) in
    let one : turn_if (has_wrong_leaf want word n table start) ≡ 1 = ap turn_if some in
    let lacks : turn_if (has_lacking_leaf want word' n table start) ≡ turn_if (has_lacking_leaf want word n table start) = ap turn_if (any_same (λ i. lacks_leaf (W i) (D' i)) (λ i. lacks_leaf (W i) (D i)) 512 (λ i lt. ap (lacks_leaf (W i)) (is i lt) ∙ emptied_lacks (W i) (D i))) in
    let tables : sum_below 512 (λ i. lacking (M i) (W i) (D' i)) ≡ sum_below 512 (λ i. lacking (M i) (W i) (D i)) = sum_same 512 (λ i. lacking (M i) (W i) (D' i)) (λ i. lacking (M i) (W i) (D i)) (λ i lt. ap (lacking (M i) (W i)) (is i lt) ∙ emptied_lacking (M i) (W i) (D i)) in
    let deep : sum_below 512 (λ i. by_next (f word' i) (D' i)) ≡ sum_below 512 (λ i. by_next (f word i) (D i)) = sum_same 512 (λ i. by_next (f word' i) (D' i)) (λ i. by_next (f word i) (D i)) (λ i lt. ap (by_next (f word' i)) (is i lt) ∙ emptied_next (f word' i) (f word i) (W i) (D i) (λ next leads. below i next lt leads)) in
    let old = count_more (staying want) (turns_at want) word n (Some start) table in
    let new = count_more (staying want) (turns_at want) word' n (Some start) table in
    omega arith

-- ---- filled

filled_right : (want : Want) (d : Descriptor) → is_wrong_leaf want d ≡ false → is_wrong_leaf want (filled want d) ≡ false
filled_right Nothing d e = e
filled_right WantTable d e = e
filled_right (WantLeaf o r v) d e = ap not (leaf_self o r v)

filled_lacks : (want : Want) (d : Descriptor) → lacks_leaf want (filled want d) ≡ false
filled_lacks Nothing d = refl
filled_lacks WantTable d = refl
filled_lacks (WantLeaf o r v) d = ap not (leaf_self o r v)

pub filled_lacking : (much : ℕ) (want : Want) (d : Descriptor) → lacking much want (filled want d) ≡ lacking much want d
filled_lacking much Nothing d = refl
filled_lacking much WantTable d = refl
filled_lacking much (WantLeaf o r v) d = refl

none_next : (g : ℕ → ℕ) (d : Descriptor) → ((next : ℕ) → d ≡ Table next → ⊥) → 0 ≡ by_next g d
none_next g Invalid none = refl
none_next g (Leaf o r v) none = refl
none_next g (Table next) none = absurd (none next refl)

pub filled_next : (f g : ℕ → ℕ) (want : Want) (d : Descriptor) → (is_to_table want ≡ false → (next : ℕ) → d ≡ Table next → ⊥) → ((next : ℕ) → d ≡ Table next → f next ≡ g next) → by_next f (filled want d) ≡ by_next g d
filled_next f g Nothing d none h = next_same f g d h
filled_next f g WantTable d none h = next_same f g d h
filled_next f g (WantLeaf o r v) d none h = none_next g d (none refl)

pub filled_falls : (want : Wants) (word word' : ℕ → ℕ) (n table start : ℕ) → FillsTable want word word' n table start → KeepsTurnsBelow want word word' n table start
    → has_wrong_leaf want word n table start ≡ false → has_lacking_leaf want word n table start ≡ true
    → ((slot next : ℕ) → slot < 512 → is_to_table (want (LAST_LEVEL - n) (slot_start (LAST_LEVEL - n) start slot)) ≡ false → read_of (word (table + 8 * slot)) (LAST_LEVEL - n) ≡ Table next → ⊥)
    → turns_of want word' (suc n) table start + 1 ≡ turns_of want word (suc n) table start
filled_falls want word word' n table start fills below right some none =
    let W = λ (i : ℕ). want (LAST_LEVEL - n) (slot_start (LAST_LEVEL - n) start i) in
    let D = λ (i : ℕ). read_of (word (table + 8 * i)) (LAST_LEVEL - n) in
    let D' = λ (i : ℕ). read_of (word' (table + 8 * i)) (LAST_LEVEL - n) in
    let M = λ (i : ℕ). 2 * tables_under want n (slot_start (LAST_LEVEL - n) start i) in
    let f = λ (w : ℕ → ℕ) (i : ℕ). count_from (staying want) (turns_at want) w n (staying want (Some start) n i) in
    let is : (i : ℕ) → i < 512 → D' i ≡ filled (W i) (D i) = fills in
    let wrong' : turn_if (has_wrong_leaf want word' n table start) ≡ 0 = ap turn_if (any_none (λ i. is_wrong_leaf (W i) (D' i)) 512 (λ i lt. ap (is_wrong_leaf (W i)) (is i lt) ∙ filled_right (W i) (D i) (any_down (λ j. is_wrong_leaf (W j) (D j)) 512 right i lt))) in
    let wrong : turn_if (has_wrong_leaf want word n table start) ≡ 0 = ap turn_if right in
    let lacks' : turn_if (has_lacking_leaf want word' n table start) ≡ 0 = ap turn_if (any_none (λ i. lacks_leaf (W i) (D' i)) 512 (λ i lt. ap (lacks_leaf (W i)) (is i lt) ∙ filled_lacks (W i) (D i))) in
    let lacks : turn_if (has_lacking_leaf want word n table start) ≡ 1 = ap turn_if some in
    let tables : sum_below 512 (λ i. lacking (M i) (W i) (D' i)) ≡ sum_below 512 (λ i. lacking (M i) (W i) (D i)) = sum_same 512 (λ i. lacking (M i) (W i) (D' i)) (λ i. lacking (M i) (W i) (D i)) (λ i lt. ap (lacking (M i) (W i)) (is i lt) ∙ filled_lacking (M i) (W i) (D i)) in
    let deep : sum_below 512 (λ i. by_next (f word' i) (D' i)) ≡ sum_below 512 (λ i. by_next (f word i) (D i)) = sum_same 512 (λ i. by_next (f word' i) (D' i)) (λ i. by_next (f word i) (D i)) (λ i lt. ap (by_next (f word' i)) (is i lt) ∙ filled_next (f word' i) (f word i) (W i) (D i) (λ other next. none i next lt other) (λ next leads. below i next lt leads)) in
    let old = count_more (staying want) (turns_at want) word n (Some start) table in
    let new = count_more (staying want) (turns_at want) word' n (Some start) table in
    omega arith
