-- A table that is made has no turn left but those of the tables that it lacks.
use Rattle.std.proofs.Common.{◌≡◌, ℕ, ◌+◌, ◌-◌, ◌*◌, false, suc, ap, ◌∙◌, arith, refl, not, Some}
use Rattle.jh_num.specs.declared.level.TheConstants.{LAST_LEVEL}
use Rattle.jh_num.specs.Below.{any_below, sum_below}
use Rattle.jh_desc.specs.declared.descriptor.Descriptor.{Descriptor}
use Rattle.jh_desc.specs.Descriptors.{read_of}
use Rattle.jh_walk.specs.Counts.{by_next, count_from}
use Rattle.jh_shape.specs.declared.want.Want.{Want}
use Rattle.jh_shape.specs.declared.want.Want.TheVariants.{Nothing, Table as WantTable, Leaf as WantLeaf}
use Rattle.jh_shape.specs.Wanted.{Wants, if_table, slot_start, tables_under}
use Rattle.jh_edit.specs.Trees.{lacking, staying}
use Rattle.jh_edit.specs.Turns.{is_wrong_leaf, lacks_leaf, turn_if, turns_at, turns_of}
use Rattle.jh_edit.specs.Plans.{IsMade, IsMadeTable}
use Rattle.jh_edit.proofs.SumLemmas.{any_none, count_more, sum_double, sum_none, under_more}
use Rattle.jh_edit.proofs.StandLemmas.{leaf_self}

no_wrong : (want : Want) (d : Descriptor) → IsMade want d → is_wrong_leaf want d ≡ false
no_wrong Nothing d e = ap (is_wrong_leaf Nothing) e
no_wrong WantTable d e = ap (is_wrong_leaf WantTable) e
no_wrong (WantLeaf o r v) d e = ap (is_wrong_leaf (WantLeaf o r v)) e ∙ ap not (leaf_self o r v)

no_lack : (want : Want) (d : Descriptor) → IsMade want d → lacks_leaf want d ≡ false
no_lack Nothing d e = refl
no_lack WantTable d e = refl
no_lack (WantLeaf o r v) d e = ap (lacks_leaf (WantLeaf o r v)) e ∙ ap not (leaf_self o r v)

pub no_next : (f : ℕ → ℕ) (want : Want) (d : Descriptor) → IsMade want d → by_next f d ≡ 0
no_next f Nothing d e = ap (by_next f) e
no_next f WantTable d e = ap (by_next f) e
no_next f (WantLeaf o r v) d e = ap (by_next f) e

lacks_twice : (tables : ℕ) (want : Want) (d : Descriptor) → IsMade want d → lacking (2 * tables) want d ≡ 2 * if_table tables want
lacks_twice tables Nothing d e = refl
lacks_twice tables WantTable d e = ap (lacking (2 * tables) WantTable) e
lacks_twice tables (WantLeaf o r v) d e = refl

pub made_turns : (want : Wants) (word : ℕ → ℕ) (n table start : ℕ) → IsMadeTable want word n table start → turns_of want word (suc n) table start + 2 ≡ 2 * tables_under want (suc n) start
made_turns want word n table start made =
    let W = λ (i : ℕ). want (LAST_LEVEL - n) (slot_start (LAST_LEVEL - n) start i) in
    let D = λ (i : ℕ). read_of (word (table + 8 * i)) (LAST_LEVEL - n) in
    let f = λ (i : ℕ). count_from (staying want) (turns_at want) word n (staying want (Some start) n i) in
    let T = λ (i : ℕ). tables_under want n (slot_start (LAST_LEVEL - n) start i) in
    let wrong : turn_if (any_below (λ i. is_wrong_leaf (W i) (D i)) 512) ≡ 0 = ap turn_if (any_none (λ i. is_wrong_leaf (W i) (D i)) 512 (λ i lt. no_wrong (W i) (D i) (made i lt))) in
    let lack : turn_if (any_below (λ i. lacks_leaf (W i) (D i)) 512) ≡ 0 = ap turn_if (any_none (λ i. lacks_leaf (W i) (D i)) 512 (λ i lt. no_lack (W i) (D i) (made i lt))) in
    let deep : sum_below 512 (λ i. by_next (f i) (D i)) ≡ 0 = sum_none (λ i. by_next (f i) (D i)) 512 (λ i lt. no_next (f i) (W i) (D i) (made i lt)) in
    let twice : sum_below 512 (λ i. lacking (2 * T i) (W i) (D i)) ≡ 2 * sum_below 512 (λ i. if_table (T i) (W i)) =
    sum_double 512 (λ i. if_table (T i) (W i)) (λ i. lacking (2 * T i) (W i) (D i)) (λ i lt. lacks_twice (T i) (W i) (D i) (made i lt)) in
    let all = count_more (staying want) (turns_at want) word n (Some start) table in
    let under = under_more want n start in
    omega arith
