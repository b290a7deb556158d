-- A slot in which a table is wanted and none stands is one of a tree that lacks tables.
use Rattle.std.proofs.Common.{◌≡◌, ℕ, ◌+◌, ◌-◌, ◌*◌, ◌<◌, ◌≤◌, inl, inr, zero, suc, ap, ◌∙◌, subst, Option, Some, arith}
use Rattle.jh_num.specs.declared.level.TheConstants.{LAST_LEVEL}
use Rattle.jh_num.specs.Below.{sum_below}
use Rattle.jh_num.proofs.Public.{term_le}
use Rattle.jh_desc.specs.Descriptors.{read_of}
use Rattle.jh_walk.specs.Counts.{IsReachedAs, Step, StateWeight, by_next, count_from}
use Rattle.jh_walk.specs.Walks.{levels}
use Rattle.jh_shape.specs.declared.want.Want.TheVariants.{Table as WantTable}
use Rattle.jh_shape.specs.Wanted.{Wants, slot_start, tables_under}
use Rattle.jh_edit.specs.Trees.{lack_at, lack_of, lacking, staying}
use Rattle.jh_edit.specs.Plans.{EmptySlot, IsEmptySlot}
use Rattle.jh_edit.proofs.SumLemmas.{count_more, under_some}

-- what a table that is reached counts, is counted
pub reached_counts : (step : Step) (weight : StateWeight) (word : ℕ → ℕ) (n : ℕ) (s : Option ℕ) (table m : ℕ) (there : Option ℕ) (page : ℕ) → IsReachedAs step word n s table m there page
    → count_from step weight word m there page ≤ count_from step weight word n s table
reached_counts step weight word zero s table m there page on = elim on [ ]
reached_counts step weight word (suc n) s table m there page (inl (e, (is, st))) =
    subst (λ z. count_from step weight word z there page ≤ count_from step weight word (suc n) s table) e
    (subst (λ z. count_from step weight word (suc n) there z ≤ count_from step weight word (suc n) s table) is
    (subst (λ z. count_from step weight word (suc n) z table ≤ count_from step weight word (suc n) s table) st (omega arith)))
reached_counts step weight word (suc n) s table m there page (inr (i, next, (names, on))) =
    let slots = λ (j : ℕ). by_next (count_from step weight word n (step s n j)) (read_of (word (table + 8 * j)) (LAST_LEVEL - n)) in
    let below : count_from step weight word m there page ≤ count_from step weight word n (step s n i) next = reached_counts step weight word n (step s n i) next m there page on in
    let slot : slots i ≡ count_from step weight word n (step s n i) next = ap (by_next (count_from step weight word n (step s n i))) names.descriptor in
    let term : slots i ≤ sum_below 512 slots = term_le 512 slots i names.within in
    let all : count_from step weight word (suc n) s table ≡ weight s word n table + sum_below 512 slots = count_more step weight word n s table in
    omega arith

pub slot_lacks : (want : Wants) (word : ℕ → ℕ) (table : ℕ) (slot : EmptySlot) → IsEmptySlot want word table slot → 0 < lack_of want word levels table 0
slot_lacks want word table slot is =
    let n = suc slot.below in
    let S = λ (i : ℕ). slot_start (LAST_LEVEL - n) slot.start i in
    let K = λ (i : ℕ). lacking (tables_under want n (S i)) (want (LAST_LEVEL - n) (S i)) (read_of (word (slot.parent + 8 * i)) (LAST_LEVEL - n)) in
    let some : 0 < tables_under want n (S slot.slot) = under_some want slot.below (S slot.slot) in
    let here : K slot.slot ≡ tables_under want n (S slot.slot) =
    ap (λ w. lacking (tables_under want n (S slot.slot)) w (read_of (word (slot.parent + 8 * slot.slot)) (LAST_LEVEL - n))) is.wants ∙ ap (lacking (tables_under want n (S slot.slot)) WantTable) is.invalid in
    let term : K slot.slot ≤ sum_below 512 K = term_le 512 K slot.slot is.within in
    let own = count_more (staying want) (lack_at want) word n (Some slot.start) slot.parent in
    let all : count_from (staying want) (lack_at want) word (suc n) (Some slot.start) slot.parent ≤ lack_of want word levels table 0 =
    reached_counts (staying want) (lack_at want) word levels (Some 0) table (suc n) (Some slot.start) slot.parent is.stays in
    omega arith
