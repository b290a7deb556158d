-- Words that a turn leaves: those that are right below right tables, and those that are as wanted anywhere.
use Rattle.std.proofs.Common.{◌≡◌, ℕ, ◌+◌, ◌-◌, ◌*◌, ◌%◌, ◌<◌, zero, suc, ap, ◌∙◌, sym, subst, Bool, true, false, not, if◌then◌else◌, Option, Some, None, arith, refl}
use Rattle.std.proofs.lemmas.Bool.{false≢true}
use Rattle.jh_num.specs.declared.level.TheConstants.{LAST_LEVEL}
use Rattle.jh_num.specs.Levels.{slot_size}
use Rattle.jh_desc.specs.declared.descriptor.Descriptor.{Descriptor}
use Rattle.jh_desc.specs.declared.descriptor.Descriptor.TheVariants.{Invalid, Table, Leaf}
use Rattle.jh_desc.specs.Descriptors.{read_of}
use Rattle.jh_walk.specs.Walks.{levels}
use Rattle.jh_shape.specs.declared.want.Want.{Want}
use Rattle.jh_shape.specs.declared.want.Want.TheVariants.{Nothing, Table as WantTable, Leaf as WantLeaf}
use Rattle.jh_shape.specs.Laws.{is_to_table}
use Rattle.jh_shape.specs.Wanted.{Wants, slot_start}
use Rattle.jh_edit.specs.declared.edit.Ahead.{Ahead}
use Rattle.jh_edit.specs.Trees.{IsAsWanted, staying}
use Rattle.jh_edit.specs.Turns.{IsKeptRight, IsLeftAlone, KeepsRight, LeavesAlone, is_wrong_leaf, lacks_leaf}
use Rattle.jh_edit.specs.Tables.{WantsTablesBelowTables}
use Rattle.jh_edit.specs.Moves.{IsAtTurn, IsEmptied, IsFilled, IsLinked, IsMoved, IsPruned, Move, StayingTable, TableLink, Prune, Empty, Fill, Make, Link, TakeAway, End}
use Rattle.jh_edit.proofs.LinkLemmas.{each}
use Rattle.jh_edit.proofs.StandLemmas.{leaf_self, stays_at}
use Rattle.jh_edit.proofs.MovePathLemmas.{IsChange, PassesUp, below_same, but_others, change_holds, holds_same, same_tables}
use Rattle.jh_edit.proofs.MoveTurnLemmas.{AreApart, empty_change, fill_change, link_change, link_others, prune_change, unwanted_at}

-- ---- descriptors that are as wanted

-- the test of `IsKeptRight` and `IsLeftAlone`
abbrev pub IsRight : Want → Descriptor → Type 0
IsRight want d = IsAsWanted (λ next. Unit {0}) want d

right_leaf : (want : Want) (d : Descriptor) → IsRight want d → is_wrong_leaf want d ≡ false
right_leaf Nothing d e = ap (is_wrong_leaf Nothing) e
right_leaf WantTable d (next, (leads, h)) = ap (is_wrong_leaf WantTable) leads
right_leaf (WantLeaf o r v) d e = ap (is_wrong_leaf (WantLeaf o r v)) e ∙ ap not (leaf_self o r v)

right_full : (want : Want) (d : Descriptor) → IsRight want d → lacks_leaf want d ≡ false
right_full Nothing d e = refl
right_full WantTable d h = refl
right_full (WantLeaf o r v) d e = ap (lacks_leaf (WantLeaf o r v)) e ∙ ap not (leaf_self o r v)

-- a table is right where one is wanted alone
right_table : (want : Want) (d : Descriptor) (next : ℕ) → d ≡ Table next → IsRight want d → want ≡ WantTable
right_table Nothing d next leads e = let no : Invalid ≡ Table next = sym e ∙ leads in let wrong : ⊥ = cc in absurd wrong
right_table WantTable d next leads h = refl
right_table (WantLeaf o r v) d next leads e = let no : Leaf o r v ≡ Table next = sym e ∙ leads in let wrong : ⊥ = cc in absurd wrong

-- and where one is wanted an invalid word isn't right
right_invalid : (want : Want) (d : Descriptor) → d ≡ Invalid → want ≡ WantTable → IsRight want d → ⊥
right_invalid Nothing d none wanted e = let no : Nothing ≡ WantTable = wanted in let wrong : ⊥ = cc in wrong
right_invalid WantTable d none wanted (next, (leads, h)) = let no : Invalid ≡ Table next = sym none ∙ leads in let wrong : ⊥ = cc in wrong
right_invalid (WantLeaf o r v) d none wanted e = let no : WantLeaf o r v ≡ WantTable = wanted in let wrong : ⊥ = cc in wrong

not_wanted : (want : Want) → is_to_table want ≡ false → want ≡ WantTable → ⊥
not_wanted want other wanted = false≢true (sym other ∙ ap is_to_table wanted)

-- ---- below right tables

right_from : (want : Wants) (word word' : ℕ → ℕ) (n table start : ℕ)
    → ((i : ℕ) → i < 512 → IsKeptRight (λ next. KeepsRight want word word' n next (slot_start (LAST_LEVEL - n) start i)) (want (LAST_LEVEL - n) (slot_start (LAST_LEVEL - n) start i)) (read_of (word (table + 8 * i)) (LAST_LEVEL - n)) (word' (table + 8 * i) ≡ word (table + 8 * i)))
    → KeepsRight want word word' (suc n) table start
unfolding KeepsRight
right_from want word word' n table start slots = slots

right_none : (want : Wants) (word word' : ℕ → ℕ) (table start : ℕ) → KeepsRight want word word' zero table start
unfolding KeepsRight
right_none want word word' table start = tt

-- of a table that stays
abbrev pub RightAt : Wants → (ℕ → ℕ) → (ℕ → ℕ) → ℕ → Option ℕ → ℕ → Type 0
RightAt want word word' n None table = Unit {0}
RightAt want word word' n (Some start) table = KeepsRight want word word' n table start

-- a slot is kept by its word, and by what its table is
kept_slot : (want : Wants) (word word' : ℕ → ℕ) (n table start i : ℕ) → (IsRight (want (LAST_LEVEL - n) (slot_start (LAST_LEVEL - n) start i)) (read_of (word (table + 8 * i)) (LAST_LEVEL - n)) → word' (table + 8 * i) ≡ word (table + 8 * i))
    → ((next : ℕ) → read_of (word (table + 8 * i)) (LAST_LEVEL - n) ≡ Table next → RightAt want word word' n (staying want (Some start) n i) next)
    → IsKeptRight (λ next. KeepsRight want word word' n next (slot_start (LAST_LEVEL - n) start i)) (want (LAST_LEVEL - n) (slot_start (LAST_LEVEL - n) start i)) (read_of (word (table + 8 * i)) (LAST_LEVEL - n)) (word' (table + 8 * i) ≡ word (table + 8 * i))
kept_slot want word word' n table start i same below = record {
  word = same;
  below = λ next wanted leads. subst (λ s. RightAt want word word' n s next) (stays_at want n start i wanted) (below next leads);
}

right_up : (want : Wants) (word word' : ℕ → ℕ) (n : ℕ) (s : Option ℕ) (table : ℕ) → ((i : ℕ) → i < 512 → word' (table + 8 * i) ≡ word (table + 8 * i))
    → ((i next : ℕ) → i < 512 → read_of (word (table + 8 * i)) (LAST_LEVEL - n) ≡ Table next → RightAt want word word' n (staying want s n i) next) → RightAt want word word' (suc n) s table
right_up want word word' n None table same below = tt
right_up want word word' n (Some start) table same below = right_from want word word' n table start (λ i few. kept_slot want word word' n table start i (λ right. same i few) (λ next leads. below i next few leads))

right_nowhere : (want : Wants) (word word' : ℕ → ℕ) (s : Option ℕ) (table : ℕ) → RightAt want word word' zero s table
right_nowhere want word word' None table = tt
right_nowhere want word word' (Some start) table = right_none want word word' table start

right_passes : (want : Wants) (word word' : ℕ → ℕ) → PassesUp (staying want) word word' (RightAt want word word')
right_passes want word word' = record { none = right_nowhere want word word'; up = right_up want word word' }

-- below the page that changes
right_below : (want : Wants) (word word' : ℕ → ℕ) (table m start page : ℕ) → IsChange (staying want) word word' levels (Some 0) table m (Some start) page → (i : ℕ) → i < 512
    → (next : ℕ) → read_of (word (page + 8 * i)) (LAST_LEVEL - m) ≡ Table next → RightAt want word word' m (staying want (Some start) m i) next
right_below want word word' table m start page change i few next leads =
    holds_same (staying want) word word' (RightAt want word word') (right_passes want word word') m (staying want (Some start) m i) next (below_same (staying want) word word' levels (Some 0) table m (Some start) page change i next few leads)

-- so a page keeps its right words where each slot that is right has the same word
right_here : (want : Wants) (word word' : ℕ → ℕ) (table m start page : ℕ) → IsChange (staying want) word word' levels (Some 0) table m (Some start) page
    → ((i : ℕ) → i < 512 → IsRight (want (LAST_LEVEL - m) (slot_start (LAST_LEVEL - m) start i)) (read_of (word (page + 8 * i)) (LAST_LEVEL - m)) → word' (page + 8 * i) ≡ word (page + 8 * i))
    → KeepsRight want word word' (suc m) page start
right_here want word word' table m start page change same = right_from want word word' m page start (λ i few. kept_slot want word word' m page start i (same i few) (right_below want word word' table m start page change i few))

-- ---- each kind, at the page that it changes: a slot that is right has the same word

pruned_right : (want : Wants) (word word' : ℕ → ℕ) (table start : ℕ) (link : TableLink) → IsPruned want word word' table (Some start) link → (i : ℕ) → i < 512
    → IsRight (want (LAST_LEVEL - link.below) (slot_start (LAST_LEVEL - link.below) start i)) (read_of (word (link.parent + 8 * i)) (LAST_LEVEL - link.below)) → word' (link.parent + 8 * i) ≡ word (link.parent + 8 * i)
pruned_right want word word' table start link is =
    let W = λ (i : ℕ). want (LAST_LEVEL - link.below) (slot_start (LAST_LEVEL - link.below) start i) in
    let D = λ (i : ℕ). read_of (word (link.parent + 8 * i)) (LAST_LEVEL - link.below) in
    each (λ i. IsRight (W i) (D i) → word' (link.parent + 8 * i) ≡ word (link.parent + 8 * i)) link.slot
    (λ right. absurd (not_wanted (W link.slot) (unwanted_at want link.below start link.slot is.unwanted) (right_table (W link.slot) (D link.slot) link.page is.cleared.leads right)))
    (λ i few other right. but_others word word' link.parent link.slot is.cleared.others i other)

emptied_right : (want : Wants) (word word' : ℕ → ℕ) (table : ℕ) (t : StayingTable) → IsEmptied want word word' table t → (i : ℕ) → i < 512
    → IsRight (want (LAST_LEVEL - t.below) (slot_start (LAST_LEVEL - t.below) t.start i)) (read_of (word (t.page + 8 * i)) (LAST_LEVEL - t.below)) → word' (t.page + 8 * i) ≡ word (t.page + 8 * i)
emptied_right want word word' table t is i few right =
    is.kept i few (right_leaf (want (LAST_LEVEL - t.below) (slot_start (LAST_LEVEL - t.below) t.start i)) (read_of (word (t.page + 8 * i)) (LAST_LEVEL - t.below)) right)

filled_right : (want : Wants) (word word' : ℕ → ℕ) (table : ℕ) (t : StayingTable) → IsFilled want word word' table t → (i : ℕ) → i < 512
    → IsRight (want (LAST_LEVEL - t.below) (slot_start (LAST_LEVEL - t.below) t.start i)) (read_of (word (t.page + 8 * i)) (LAST_LEVEL - t.below)) → word' (t.page + 8 * i) ≡ word (t.page + 8 * i)
filled_right want word word' table t is i few right =
    is.kept i few (right_full (want (LAST_LEVEL - t.below) (slot_start (LAST_LEVEL - t.below) t.start i)) (read_of (word (t.page + 8 * i)) (LAST_LEVEL - t.below)) right)

linked_right : (want : Wants) (word word' : ℕ → ℕ) (table : ℕ) (ahead : Ahead) (is : IsLinked want word word' table ahead) → (i : ℕ) → i < 512
    → IsRight (want (LAST_LEVEL - suc is.is.slot.below) (slot_start (LAST_LEVEL - suc is.is.slot.below) is.is.slot.start i)) (read_of (word (is.is.slot.parent + 8 * i)) (LAST_LEVEL - suc is.is.slot.below)) → word' (is.is.slot.parent + 8 * i) ≡ word (is.is.slot.parent + 8 * i)
linked_right want word word' table ahead is =
    let slot = is.is.slot in
    let W = λ (i : ℕ). want (LAST_LEVEL - suc slot.below) (slot_start (LAST_LEVEL - suc slot.below) slot.start i) in
    let D = λ (i : ℕ). read_of (word (slot.parent + 8 * i)) (LAST_LEVEL - suc slot.below) in
    each (λ i. IsRight (W i) (D i) → word' (slot.parent + 8 * i) ≡ word (slot.parent + 8 * i)) slot.slot
    (λ right. absurd (right_invalid (W slot.slot) (D slot.slot) is.is.empty.invalid is.is.empty.wants right))
    (λ i few other right. but_others word word' slot.parent slot.slot (link_others want word word' table ahead is) i other)

pruned_keeps : (want : Wants) (word word' : ℕ → ℕ) (table : ℕ) (there : Option ℕ) (link : TableLink) → IsChange (staying want) word word' levels (Some 0) table link.below there link.parent → IsPruned want word word' table there link → RightAt want word word' (suc link.below) there link.parent
pruned_keeps want word word' table None link change is = tt
pruned_keeps want word word' table (Some start) link change is = right_here want word word' table link.below start link.parent change (pruned_right want word word' table start link is)

right_lifted : (want : Wants) (word word' : ℕ → ℕ) (table m : ℕ) (there : Option ℕ) (page : ℕ) → IsChange (staying want) word word' levels (Some 0) table m there page → RightAt want word word' (suc m) there page → KeepsRight want word word' levels table 0
right_lifted want word word' table m there page change here = change_holds (staying want) word word' (RightAt want word word') (right_passes want word word') levels (Some 0) table m there page change here

pub moved_right : (want : Wants) (word word' : ℕ → ℕ) (table : ℕ) (removing : Bool) (ahead : Option Ahead) (move : Move) → AreApart word table → removing ≡ false → IsAtTurn removing ahead move → IsMoved want word word' table move → KeepsRight want word word' levels table 0
moved_right want word word' table removing a (Prune there link) apart aims at is =
    let change = prune_change want word word' table there link apart is in
    right_lifted want word word' table link.below there link.parent change (pruned_keeps want word word' table there link change is)
moved_right want word word' table removing a (Empty t) apart aims at is =
    let change = empty_change want word word' table t apart is in
    right_lifted want word word' table t.below (Some t.start) t.page change (right_here want word word' table t.below t.start t.page change (emptied_right want word word' table t is))
moved_right want word word' table removing a (Fill t) apart aims at is =
    let change = fill_change want word word' table t apart is in
    right_lifted want word word' table t.below (Some t.start) t.page change (right_here want word word' table t.below t.start t.page change (filled_right want word word' table t is))
moved_right want word word' table removing a (Make slot page) apart aims at is =
    holds_same (staying want) word word' (RightAt want word word') (right_passes want word word') levels (Some 0) table (same_tables word word' page levels table is.aligned is.outside apart.aligned is.apart)
moved_right want word word' table removing a (Link linked) apart aims at is =
    let slot = is.is.slot in
    let change = link_change want word word' table linked apart is in
    right_lifted want word word' table (suc slot.below) (Some slot.start) slot.parent change (right_here want word word' table (suc slot.below) slot.start slot.parent change (linked_right want word word' table linked is))
moved_right want word word' table removing a (TakeAway link) apart aims at is = absurd (false≢true (sym aims ∙ at.0))
moved_right want word word' table removing a End apart aims at is = absurd (false≢true (sym aims ∙ at.0))

-- ---- anywhere

-- the table begins at a slot of the level above it, or no level is left at it
abbrev pub BeginsAt : ℕ → ℕ → Type 0
BeginsAt zero start = Unit {0}
BeginsAt (suc m) start = (m < 4) × (start % slot_size (LAST_LEVEL - m) ≡ 0)

-- no slot of the table is wanted as a table
abbrev pub HasNoTables : Wants → ℕ → ℕ → Type 0
HasNoTables want zero start = Unit {0}
HasNoTables want (suc m) start = (i : ℕ) → i < 512 → want (LAST_LEVEL - m) (slot_start (LAST_LEVEL - m) start i) ≡ WantTable → ⊥

-- the state of a table that begins there: it stays and begins there, or it goes and nothing in it is wanted as a table
abbrev pub FitsAt : Wants → ℕ → Option ℕ → ℕ → Type 0
FitsAt want n None start = HasNoTables want n start
FitsAt want n (Some begin) start = begin ≡ start

begins_below : (m start i : ℕ) → BeginsAt (suc m) start → i < 512 → BeginsAt m (slot_start (LAST_LEVEL - m) start i)
begins_below zero start i begins few = tt
begins_below (suc zero) start i begins few = let b = begins.1 in (omega arith, omega arith)
begins_below (suc (suc zero)) start i begins few = let b = begins.1 in (omega arith, omega arith)
begins_below (suc (suc (suc zero))) start i begins few = let b = begins.1 in (omega arith, omega arith)
begins_below (suc (suc (suc (suc m)))) start i begins few = let small = begins.0 in absurd (let no : ⊥ = omega arith in no)

-- where a table is wanted in a slot of the table that a slot leads to, one is wanted in that slot
wanted_above : (want : Wants) → WantsTablesBelowTables want → (k start i j : ℕ) → BeginsAt (suc (suc k)) start → i < 512 → j < 512
    → want (LAST_LEVEL - k) (slot_start (LAST_LEVEL - k) (slot_start (LAST_LEVEL - suc k) start i) j) ≡ WantTable → want (LAST_LEVEL - suc k) (slot_start (LAST_LEVEL - suc k) start i) ≡ WantTable
wanted_above want coherent zero start i j begins few few' wanted =
    let b = begins.1 in
    let S = slot_start 2 start i in
    let x = slot_start 3 S j in
    let same : x - x % slot_size 2 ≡ S = omega arith in
    subst (λ z. want 2 z ≡ WantTable) same (coherent 2 x (omega arith) (omega arith) wanted)
wanted_above want coherent (suc zero) start i j begins few few' wanted =
    let b = begins.1 in
    let S = slot_start 1 start i in
    let x = slot_start 2 S j in
    let same : x - x % slot_size 1 ≡ S = omega arith in
    subst (λ z. want 1 z ≡ WantTable) same (coherent 1 x (omega arith) (omega arith) wanted)
wanted_above want coherent (suc (suc zero)) start i j begins few few' wanted =
    let b = begins.1 in
    let S = slot_start 0 start i in
    let x = slot_start 1 S j in
    let same : x - x % slot_size 0 ≡ S = omega arith in
    subst (λ z. want 0 z ≡ WantTable) same (coherent 0 x (omega arith) (omega arith) wanted)
wanted_above want coherent (suc (suc (suc k))) start i j begins few few' wanted = let small = begins.0 in absurd (let no : ⊥ = omega arith in no)

-- so where none is wanted in a slot, none is in the table that it leads to
none_below : (want : Wants) → WantsTablesBelowTables want → (m start i : ℕ) → BeginsAt (suc m) start → i < 512 → (want (LAST_LEVEL - m) (slot_start (LAST_LEVEL - m) start i) ≡ WantTable → ⊥) → HasNoTables want m (slot_start (LAST_LEVEL - m) start i)
none_below want coherent zero start i begins few none = tt
none_below want coherent (suc k) start i begins few none = λ j few' wanted. none (wanted_above want coherent k start i j begins few few' wanted)

fits_if : (want : Wants) (m : ℕ) (b : Bool) (start : ℕ) → (b ≡ false → HasNoTables want m start) → FitsAt want m (if b then Some start else None) start
fits_if want m true start none = refl
fits_if want m false start none = none refl

fits_below : (want : Wants) → WantsTablesBelowTables want → (m : ℕ) (s : Option ℕ) (start i : ℕ) → BeginsAt (suc m) start → i < 512 → FitsAt want (suc m) s start → FitsAt want m (staying want s m i) (slot_start (LAST_LEVEL - m) start i)
fits_below want coherent m None start i begins few fits = none_below want coherent m start i begins few (fits i few)
fits_below want coherent m (Some begin) start i begins few fits =
    let S = slot_start (LAST_LEVEL - m) start i in
    subst (λ b. FitsAt want m (staying want (Some b) m i) S) (sym fits)
    (fits_if want m (is_to_table (want (LAST_LEVEL - m) S)) S (λ other. none_below want coherent m start i begins few (not_wanted (want (LAST_LEVEL - m) S) other)))

alone_from : (want : Wants) (word word' : ℕ → ℕ) (n table start : ℕ)
    → ((i : ℕ) → i < 512 → IsLeftAlone (λ next. LeavesAlone want word word' n next (slot_start (LAST_LEVEL - n) start i)) (want (LAST_LEVEL - n) (slot_start (LAST_LEVEL - n) start i)) (read_of (word (table + 8 * i)) (LAST_LEVEL - n)) (word' (table + 8 * i) ≡ word (table + 8 * i)))
    → LeavesAlone want word word' (suc n) table start
unfolding LeavesAlone
alone_from want word word' n table start slots = slots

alone_none : (want : Wants) (word word' : ℕ → ℕ) (table start : ℕ) → LeavesAlone want word word' zero table start
unfolding LeavesAlone
alone_none want word word' table start = tt

-- of a table that begins there in that state
abbrev pub AloneAt : Wants → (ℕ → ℕ) → (ℕ → ℕ) → ℕ → Option ℕ → ℕ → Type 0
AloneAt want word word' n s table = (start : ℕ) → BeginsAt n start → FitsAt want n s start → LeavesAlone want word word' n table start

alone_each : (want : Wants) → WantsTablesBelowTables want → (word word' : ℕ → ℕ) (n : ℕ) (s : Option ℕ) (table start : ℕ) → BeginsAt (suc n) start → FitsAt want (suc n) s start
    → ((i : ℕ) → i < 512 → IsRight (want (LAST_LEVEL - n) (slot_start (LAST_LEVEL - n) start i)) (read_of (word (table + 8 * i)) (LAST_LEVEL - n)) → word' (table + 8 * i) ≡ word (table + 8 * i))
    → ((i next : ℕ) → i < 512 → read_of (word (table + 8 * i)) (LAST_LEVEL - n) ≡ Table next → AloneAt want word word' n (staying want s n i) next) → LeavesAlone want word word' (suc n) table start
alone_each want coherent word word' n s table start begins fits same below = alone_from want word word' n table start (λ i few. record {
  word = same i few;
  below = λ next leads. below i next few leads (slot_start (LAST_LEVEL - n) start i) (begins_below n start i begins few) (fits_below want coherent n s start i begins few fits);
})

alone_passes : (want : Wants) → WantsTablesBelowTables want → (word word' : ℕ → ℕ) → PassesUp (staying want) word word' (AloneAt want word word')
alone_passes want coherent word word' = record {
  none = λ s table start begins fits. alone_none want word word' table start;
  up = λ n s table same below start begins fits. alone_each want coherent word word' n s table start begins fits (λ i few right. same i few) below;
}

alone_here : (want : Wants) → WantsTablesBelowTables want → (word word' : ℕ → ℕ) (table m : ℕ) (there : Option ℕ) (page : ℕ) → IsChange (staying want) word word' levels (Some 0) table m there page
    → ((start : ℕ) → FitsAt want (suc m) there start → (i : ℕ) → i < 512 → IsRight (want (LAST_LEVEL - m) (slot_start (LAST_LEVEL - m) start i)) (read_of (word (page + 8 * i)) (LAST_LEVEL - m)) → word' (page + 8 * i) ≡ word (page + 8 * i))
    → AloneAt want word word' (suc m) there page
alone_here want coherent word word' table m there page change same start begins fits =
    alone_each want coherent word word' m there page start begins fits (same start fits)
    (λ i next few leads. holds_same (staying want) word word' (AloneAt want word word') (alone_passes want coherent word word') m (staying want there m i) next (below_same (staying want) word word' levels (Some 0) table m there page change i next few leads))

alone_lifted : (want : Wants) → WantsTablesBelowTables want → (word word' : ℕ → ℕ) (table m : ℕ) (there : Option ℕ) (page : ℕ) → IsChange (staying want) word word' levels (Some 0) table m there page
    → ((start : ℕ) → FitsAt want (suc m) there start → (i : ℕ) → i < 512 → IsRight (want (LAST_LEVEL - m) (slot_start (LAST_LEVEL - m) start i)) (read_of (word (page + 8 * i)) (LAST_LEVEL - m)) → word' (page + 8 * i) ≡ word (page + 8 * i))
    → LeavesAlone want word word' levels table 0
alone_lifted want coherent word word' table m there page change same =
    change_holds (staying want) word word' (AloneAt want word word') (alone_passes want coherent word word') levels (Some 0) table m there page change (alone_here want coherent word word' table m there page change same) 0 (omega arith, omega arith) refl

-- a table that goes has no table that is right
pruned_alone : (want : Wants) (word word' : ℕ → ℕ) (table : ℕ) (there : Option ℕ) (link : TableLink) → IsPruned want word word' table there link → (start : ℕ) → FitsAt want (suc link.below) there start → (i : ℕ) → i < 512
    → IsRight (want (LAST_LEVEL - link.below) (slot_start (LAST_LEVEL - link.below) start i)) (read_of (word (link.parent + 8 * i)) (LAST_LEVEL - link.below)) → word' (link.parent + 8 * i) ≡ word (link.parent + 8 * i)
pruned_alone want word word' table None link is start fits =
    let W = λ (i : ℕ). want (LAST_LEVEL - link.below) (slot_start (LAST_LEVEL - link.below) start i) in
    let D = λ (i : ℕ). read_of (word (link.parent + 8 * i)) (LAST_LEVEL - link.below) in
    each (λ i. IsRight (W i) (D i) → word' (link.parent + 8 * i) ≡ word (link.parent + 8 * i)) link.slot
    (λ right. absurd (fits link.slot is.cleared.within (right_table (W link.slot) (D link.slot) link.page is.cleared.leads right)))
    (λ i few other right. but_others word word' link.parent link.slot is.cleared.others i other)
pruned_alone want word word' table (Some begin) link is start fits =
    subst (λ b. (i : ℕ) → i < 512 → IsRight (want (LAST_LEVEL - link.below) (slot_start (LAST_LEVEL - link.below) b i)) (read_of (word (link.parent + 8 * i)) (LAST_LEVEL - link.below)) → word' (link.parent + 8 * i) ≡ word (link.parent + 8 * i))
    fits (pruned_right want word word' table begin link is)

-- what holds of a page that stays where it begins
at_start : (want : Wants) (word word' : ℕ → ℕ) (m page begin : ℕ)
    → ((i : ℕ) → i < 512 → IsRight (want (LAST_LEVEL - m) (slot_start (LAST_LEVEL - m) begin i)) (read_of (word (page + 8 * i)) (LAST_LEVEL - m)) → word' (page + 8 * i) ≡ word (page + 8 * i))
    → (start : ℕ) → begin ≡ start → (i : ℕ) → i < 512 → IsRight (want (LAST_LEVEL - m) (slot_start (LAST_LEVEL - m) start i)) (read_of (word (page + 8 * i)) (LAST_LEVEL - m)) → word' (page + 8 * i) ≡ word (page + 8 * i)
at_start want word word' m page begin same start is =
    subst (λ b. (i : ℕ) → i < 512 → IsRight (want (LAST_LEVEL - m) (slot_start (LAST_LEVEL - m) b i)) (read_of (word (page + 8 * i)) (LAST_LEVEL - m)) → word' (page + 8 * i) ≡ word (page + 8 * i)) is same

pub moved_alone : (want : Wants) → WantsTablesBelowTables want → (word word' : ℕ → ℕ) (table : ℕ) (removing : Bool) (ahead : Option Ahead) (move : Move) → AreApart word table → removing ≡ false → IsAtTurn removing ahead move → IsMoved want word word' table move
    → LeavesAlone want word word' levels table 0
moved_alone want coherent word word' table removing a (Prune there link) apart aims at is =
    alone_lifted want coherent word word' table link.below there link.parent (prune_change want word word' table there link apart is) (pruned_alone want word word' table there link is)
moved_alone want coherent word word' table removing a (Empty t) apart aims at is =
    alone_lifted want coherent word word' table t.below (Some t.start) t.page (empty_change want word word' table t apart is) (at_start want word word' t.below t.page t.start (emptied_right want word word' table t is))
moved_alone want coherent word word' table removing a (Fill t) apart aims at is =
    alone_lifted want coherent word word' table t.below (Some t.start) t.page (fill_change want word word' table t apart is) (at_start want word word' t.below t.page t.start (filled_right want word word' table t is))
moved_alone want coherent word word' table removing a (Make slot page) apart aims at is =
    holds_same (staying want) word word' (AloneAt want word word') (alone_passes want coherent word word') levels (Some 0) table (same_tables word word' page levels table is.aligned is.outside apart.aligned is.apart) 0 (omega arith, omega arith) refl
moved_alone want coherent word word' table removing a (Link linked) apart aims at is =
    let slot = is.is.slot in
    alone_lifted want coherent word word' table (suc slot.below) (Some slot.start) slot.parent (link_change want word word' table linked apart is)
    (at_start want word word' (suc slot.below) slot.parent slot.start (linked_right want word word' table linked is))
moved_alone want coherent word word' table removing a (TakeAway link) apart aims at is = absurd (false≢true (sym aims ∙ at.0))
moved_alone want coherent word word' table removing a End apart aims at is = absurd (false≢true (sym aims ∙ at.0))
