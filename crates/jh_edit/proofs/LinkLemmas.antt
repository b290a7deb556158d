-- A table to which one more is linked takes two turns less, and one of which a link goes that isn't wanted one less.
use Rattle.std.proofs.Common.{◌≡◌, ◌≢◌, ℕ, ◌+◌, ◌-◌, ◌*◌, ◌<◌, false, suc, ap, ◌∙◌, sym, subst, if◌then◌else◌, arith, refl, Some, None, ⊎_elim}
use Rattle.std.proofs.lemmas.Bool.{cases_eq, false≢true}
use Rattle.jh_num.specs.declared.level.TheConstants.{LAST_LEVEL}
use Rattle.jh_num.specs.Below.{sum_below}
use Rattle.jh_num.proofs.Public.{sum_moves, sum_same}
use Rattle.jh_desc.specs.declared.descriptor.Descriptor.{Descriptor}
use Rattle.jh_desc.specs.declared.descriptor.Descriptor.TheVariants.{Invalid, Table}
use Rattle.jh_desc.specs.Descriptors.{read_of}
use Rattle.jh_walk.specs.Counts.{by_next, count_from}
use Rattle.jh_walk.specs.Pages.{pages_reached}
use Rattle.jh_shape.specs.declared.want.Want.{Want}
use Rattle.jh_shape.specs.declared.want.Want.TheVariants.{Nothing, Table as WantTable, Leaf as WantLeaf}
use Rattle.jh_shape.specs.Laws.{is_to_table}
use Rattle.jh_shape.specs.Wanted.{Wants, slot_start, tables_under}
use Rattle.jh_walk.proofs.Public.{next_same}
use Rattle.jh_edit.proofs.StandLemmas.{stays_at}
use Rattle.jh_edit.specs.Trees.{lacking, staying}
use Rattle.jh_edit.specs.Turns.{KeepsTurnsBelow, LinksTable, PrunesTable, has_lacking_leaf, has_wrong_leaf, is_wrong_leaf, lacks_leaf, turn_if, turns_at, turns_of}
use Rattle.jh_edit.proofs.SumLemmas.{any_same, count_more}
use Rattle.jh_edit.proofs.BoundLemmas.{gone_turns}

-- a fact of all slots, from that of the one and those of the others
pub each : (P : ℕ → Type 0) (k : ℕ) → P k → ((i : ℕ) → i < 512 → i ≢ k → P i) → (i : ℕ) → i < 512 → P i
each P k here others i lt = ⊎_elim (λ is. subst P (sym is) here) (λ apart. others i lt apart) (cases_eq i k)

pub linked_falls : (want : Wants) (word word' : ℕ → ℕ) (n table start slot next : ℕ) → LinksTable want word word' n table start slot next → KeepsTurnsBelow want word word' n table start
    → turns_of want word' n next (slot_start (LAST_LEVEL - n) start slot) + 2 ≡ 2 * tables_under want n (slot_start (LAST_LEVEL - n) start slot)
    → turns_of want word' (suc n) table start + 2 ≡ turns_of want word (suc n) table start
linked_falls want word word' n table start k next links below made =
    let W = λ (i : ℕ). want (LAST_LEVEL - n) (slot_start (LAST_LEVEL - n) start i) in
    let D = λ (i : ℕ). read_of (word (table + 8 * i)) (LAST_LEVEL - n) in
    let D' = λ (i : ℕ). read_of (word' (table + 8 * i)) (LAST_LEVEL - n) in
    let M = λ (i : ℕ). 2 * tables_under want n (slot_start (LAST_LEVEL - n) start i) in
    let f = λ (w : ℕ → ℕ) (i : ℕ). count_from (staying want) (turns_at want) w n (staying want (Some start) n i) in
    let K = λ (i : ℕ). lacking (M i) (W i) (D i) in
    let K' = λ (i : ℕ). lacking (M i) (W i) (D' i) in
    let B = λ (i : ℕ). by_next (f word i) (D i) in
    let B' = λ (i : ℕ). by_next (f word' i) (D' i) in
    let wanted : W k ≡ WantTable = links.wanted in
    let old : D k ≡ Invalid = links.invalid in
    let new : D' k ≡ Table next = links.leads in
    let wrong : turn_if (has_wrong_leaf want word' n table start) ≡ turn_if (has_wrong_leaf want word n table start) =
    ap turn_if (any_same (λ i. is_wrong_leaf (W i) (D' i)) (λ i. is_wrong_leaf (W i) (D i)) 512 (each (λ i. is_wrong_leaf (W i) (D' i) ≡ is_wrong_leaf (W i) (D i)) k (ap (is_wrong_leaf (W k)) new ∙ sym (ap (is_wrong_leaf (W k)) old)) (λ i lt apart. ap (is_wrong_leaf (W i)) (links.others i lt apart)))) in
    let lacks : turn_if (has_lacking_leaf want word' n table start) ≡ turn_if (has_lacking_leaf want word n table start) =
    ap turn_if (any_same (λ i. lacks_leaf (W i) (D' i)) (λ i. lacks_leaf (W i) (D i)) 512 (each (λ i. lacks_leaf (W i) (D' i) ≡ lacks_leaf (W i) (D i)) k (ap (λ w. lacks_leaf w (D' k)) wanted ∙ sym (ap (λ w. lacks_leaf w (D k)) wanted)) (λ i lt apart. ap (lacks_leaf (W i)) (links.others i lt apart)))) in
    let k_old : K k ≡ M k = ap (λ w. lacking (M k) w (D k)) wanted ∙ ap (lacking (M k) WantTable) old in
    let k_new : K' k ≡ 0 = ap (λ w. lacking (M k) w (D' k)) wanted ∙ ap (lacking (M k) WantTable) new in
    let b_old : B k ≡ 0 = ap (by_next (f word k)) old in
    let b_new : B' k ≡ turns_of want word' n next (slot_start (LAST_LEVEL - n) start k) = ap (by_next (f word' k)) new ∙ ap (λ s. count_from (staying want) (turns_at want) word' n s next) (stays_at want n start k wanted) in
    let k_moves : K' k + M k ≡ K k + 0 = omega arith in
    let b_moves : B' k + 0 ≡ B k + turns_of want word' n next (slot_start (LAST_LEVEL - n) start k) = omega arith in
    let tables : sum_below 512 K' + M k ≡ sum_below 512 K + 0 = sum_moves 512 K K' k (M k) 0 links.within k_moves (λ i lt apart. ap (lacking (M i) (W i)) (links.others i lt apart)) in
    let deep : sum_below 512 B' + 0 ≡ sum_below 512 B + turns_of want word' n next (slot_start (LAST_LEVEL - n) start k) =
    sum_moves 512 B B' k 0 (turns_of want word' n next (slot_start (LAST_LEVEL - n) start k)) links.within b_moves (λ i lt apart. ap (by_next (f word' i)) (links.others i lt apart) ∙ next_same (f word' i) (f word i) (D i) (λ next leads. below i next lt leads)) in
    let before = count_more (staying want) (turns_at want) word n (Some start) table in
    let after = count_more (staying want) (turns_at want) word' n (Some start) table in
    omega arith

-- a leaf is lacked where a table stands, and where nothing does
none_lacked : (want : Want) (next : ℕ) → lacks_leaf want Invalid ≡ lacks_leaf want (Table next)
none_lacked Nothing next = refl
none_lacked WantTable next = refl
none_lacked (WantLeaf out rights device) next = refl

pub none_lacking : (much : ℕ) (want : Want) (d : Descriptor) → is_to_table want ≡ false → lacking much want d ≡ 0
none_lacking much Nothing d e = refl
none_lacking much WantTable d e = absurd (false≢true (sym e))
none_lacking much (WantLeaf out rights device) d e = refl

pub pruned_falls : (want : Wants) (word word' : ℕ → ℕ) (n table start slot next : ℕ) → PrunesTable want word word' n table start slot next → KeepsTurnsBelow want word word' n table start
    → pages_reached word n next ≡ 1 → turns_of want word' (suc n) table start + 1 ≡ turns_of want word (suc n) table start
pruned_falls want word word' n table start k next prunes below one =
    let W = λ (i : ℕ). want (LAST_LEVEL - n) (slot_start (LAST_LEVEL - n) start i) in
    let D = λ (i : ℕ). read_of (word (table + 8 * i)) (LAST_LEVEL - n) in
    let D' = λ (i : ℕ). read_of (word' (table + 8 * i)) (LAST_LEVEL - n) in
    let M = λ (i : ℕ). 2 * tables_under want n (slot_start (LAST_LEVEL - n) start i) in
    let f = λ (w : ℕ → ℕ) (i : ℕ). count_from (staying want) (turns_at want) w n (staying want (Some start) n i) in
    let K = λ (i : ℕ). lacking (M i) (W i) (D i) in
    let K' = λ (i : ℕ). lacking (M i) (W i) (D' i) in
    let B = λ (i : ℕ). by_next (f word i) (D i) in
    let B' = λ (i : ℕ). by_next (f word' i) (D' i) in
    let other : is_to_table (W k) ≡ false = prunes.unwanted in
    let old : D k ≡ Table next = prunes.leads in
    let new : D' k ≡ Invalid = prunes.invalid in
    let wrong : turn_if (has_wrong_leaf want word' n table start) ≡ turn_if (has_wrong_leaf want word n table start) =
    ap turn_if (any_same (λ i. is_wrong_leaf (W i) (D' i)) (λ i. is_wrong_leaf (W i) (D i)) 512 (each (λ i. is_wrong_leaf (W i) (D' i) ≡ is_wrong_leaf (W i) (D i)) k (ap (is_wrong_leaf (W k)) new ∙ sym (ap (is_wrong_leaf (W k)) old)) (λ i lt apart. ap (is_wrong_leaf (W i)) (prunes.others i lt apart)))) in
    let lacks : turn_if (has_lacking_leaf want word' n table start) ≡ turn_if (has_lacking_leaf want word n table start) =
    ap turn_if (any_same (λ i. lacks_leaf (W i) (D' i)) (λ i. lacks_leaf (W i) (D i)) 512 (each (λ i. lacks_leaf (W i) (D' i) ≡ lacks_leaf (W i) (D i)) k (ap (lacks_leaf (W k)) new ∙ none_lacked (W k) next ∙ sym (ap (lacks_leaf (W k)) old)) (λ i lt apart. ap (lacks_leaf (W i)) (prunes.others i lt apart)))) in
    let tables : sum_below 512 K' ≡ sum_below 512 K = sum_same 512 K' K (each (λ i. K' i ≡ K i) k (none_lacking (M k) (W k) (D' k) other ∙ sym (none_lacking (M k) (W k) (D k) other)) (λ i lt apart. ap (lacking (M i) (W i)) (prunes.others i lt apart))) in
    let b_old : B k ≡ 1 = ap (by_next (f word k)) old ∙ ap (λ b. count_from (staying want) (turns_at want) word n (if b then Some (slot_start (LAST_LEVEL - n) start k) else None) next) other ∙ gone_turns want word n next ∙ one in
    let b_new : B' k ≡ 0 = ap (by_next (f word' k)) new in
    let b_moves : B' k + 1 ≡ B k + 0 = omega arith in
    let deep : sum_below 512 B' + 1 ≡ sum_below 512 B + 0 = sum_moves 512 B B' k 1 0 prunes.within b_moves (λ i lt apart. ap (by_next (f word' i)) (prunes.others i lt apart) ∙ next_same (f word' i) (f word i) (D i) (λ next leads. below i next lt leads)) in
    let before = count_more (staying want) (turns_at want) word n (Some start) table in
    let after = count_more (staying want) (turns_at want) word' n (Some start) table in
    omega arith
