-- An edit to a target that has no turn left has no page ahead.
use Rattle.std.proofs.Common.{◌≡◌, ℕ, ◌+◌, ◌-◌, ◌*◌, ◌<◌, ◌≤◌, suc, ap, ◌∙◌, arith, refl, false, Option, Some, None, IfSome}
use Rattle.jh_num.specs.declared.level.TheConstants.{LAST_LEVEL}
use Rattle.jh_num.specs.Below.{sum_below}
use Rattle.jh_num.proofs.Public.{term_le}
use Rattle.jh_desc.specs.Descriptors.{read_of}
use Rattle.jh_walk.specs.Counts.{count_from}
use Rattle.jh_walk.specs.Walks.{levels}
use Rattle.jh_shape.specs.declared.want.Want.TheVariants.{Table as WantTable}
use Rattle.jh_shape.specs.Wanted.{Wants, slot_start, tables_under}
use Rattle.jh_edit.specs.declared.edit.Ahead.{Ahead}
use Rattle.jh_edit.specs.Trees.{lacking, staying}
use Rattle.jh_edit.specs.Turns.{turns_at, turns_of}
use Rattle.jh_edit.specs.Plans.{EditView, EmptySlot, IsAhead, IsEmptySlot, Plans, ahead_count}
use Rattle.jh_edit.proofs.MoveSlotLemmas.{reached_counts}
use Rattle.jh_edit.proofs.SumLemmas.{count_more, under_some}

-- a slot in which a table is wanted and none stands takes two turns at least
slot_takes : (want : Wants) (word : ℕ → ℕ) (table : ℕ) (slot : EmptySlot) → IsEmptySlot want word table slot → 2 ≤ turns_of want word levels table 0
slot_takes want word table slot is =
    let n = suc slot.below in
    let S = λ (i : ℕ). slot_start (LAST_LEVEL - n) slot.start i in
    let K = λ (i : ℕ). lacking (2 * tables_under want n (S i)) (want (LAST_LEVEL - n) (S i)) (read_of (word (slot.parent + 8 * i)) (LAST_LEVEL - n)) in
    let some : 0 < tables_under want n (S slot.slot) = under_some want slot.below (S slot.slot) in
    let here : K slot.slot ≡ 2 * tables_under want n (S slot.slot) =
    ap (λ w. lacking (2 * tables_under want n (S slot.slot)) w (read_of (word (slot.parent + 8 * slot.slot)) (LAST_LEVEL - n))) is.wants ∙ ap (lacking (2 * tables_under want n (S slot.slot)) WantTable) is.invalid in
    let term : K slot.slot ≤ sum_below 512 K = term_le 512 K slot.slot is.within in
    let own = count_more (staying want) (turns_at want) word n (Some slot.start) slot.parent in
    let all : count_from (staying want) (turns_at want) word (suc n) (Some slot.start) slot.parent ≤ turns_of want word levels table 0 =
    reached_counts (staying want) (turns_at want) word levels (Some 0) table (suc n) (Some slot.start) slot.parent is.stays in
    omega arith

-- the turns that are left, and the page ahead
pub record IsEnd (want : Wants) (word : ℕ → ℕ) (table : ℕ) (ahead : Option Ahead) : Type 0 where
  pub none : ahead ≡ None
  pub turns : turns_of want word levels table 0 ≡ 0

ends_by : (want : Wants) (word : ℕ → ℕ) (table left : ℕ) (ahead : Option Ahead) → left + ahead_count ahead ≡ turns_of want word levels table 0 → IfSome ahead (IsAhead want word table) → left ≡ 0 → IsEnd want word table ahead
ends_by want word table left None turns is none = record { none = refl; turns = omega arith }
ends_by want word table left (Some ahead) turns is none =
    let two : 2 ≤ turns_of want word levels table 0 = slot_takes want word table is.slot is.empty in
    let no : ⊥ = omega arith in absurd no

pub edit_ends : (edit : EditView) (want : Wants) (word : ℕ → ℕ) → edit.removing ≡ false → Plans edit want word → edit.left ≡ 0 → IsEnd want word edit.table edit.ahead
edit_ends edit want word aim plans none =
    let plan = plans.target aim in
    ends_by want word edit.table edit.left edit.ahead plan.turns plan.ahead none
