-- The plan after a turn: what begins below the cursor is done as before, and the page ahead is the one just made.
use Rattle.std.proofs.Common.{◌≡◌, ℕ, ◌+◌, ◌-◌, ◌*◌, ◌<◌, inl, inr, zero, suc, ap, ◌∙◌, sym, subst, Bool, true, false, not, ◌&&◌, nat_eq, Option, Some, None, IfSome, arith, refl}
use Rattle.std.proofs.lemmas.Bool.{false≢true}
use Rattle.jh_num.specs.declared.level.TheConstants.{LAST_LEVEL}
use Rattle.jh_desc.specs.declared.descriptor.Descriptor.{Descriptor}
use Rattle.jh_desc.specs.declared.descriptor.Descriptor.TheVariants.{Invalid, Table, Leaf}
use Rattle.jh_desc.specs.Descriptors.{read_of}
use Rattle.jh_walk.specs.Counts.{unmoved}
use Rattle.jh_walk.specs.Pages.{HaveSameTables, page_weight, pages_reached}
use Rattle.jh_walk.specs.Walks.{levels}
use Rattle.jh_walk.proofs.Public.{on_times}
use Rattle.jh_shape.specs.declared.want.Want.{Want}
use Rattle.jh_shape.specs.declared.want.Want.TheVariants.{Nothing, Table as WantTable, Leaf as WantLeaf}
use Rattle.jh_shape.specs.Laws.{is_to_table}
use Rattle.jh_shape.specs.Wanted.{Wants, slot_start}
use Rattle.jh_edit.specs.declared.edit.Ahead.{Ahead}
use Rattle.jh_edit.specs.Trees.{staying}
use Rattle.jh_edit.specs.Turns.{has_lacking_leaf, has_wrong_leaf, is_wrong_leaf, lacks_leaf, turns_of}
use Rattle.jh_edit.specs.Plans.{EditView, EmptySlot, IsAhead, IsDoneBelow, IsDoneSlot, Plans, PlansRemoval, PlansTarget, ahead_count, word_place}
use Rattle.jh_edit.specs.Tables.{is_over}
use Rattle.jh_edit.specs.Moves.{IsAtTurn, IsEmptied, IsFilled, IsLinked, IsMadeAhead, IsMoved, IsPruned, IsTurn, Move, StayingTable, TableLink, Prune, Empty, Fill, Make, Link, TakeAway, End, ahead_after}
use Rattle.jh_edit.proofs.SumLemmas.{any_none}
use Rattle.jh_edit.proofs.StandLemmas.{leaf_self, stays_at}
use Rattle.jh_edit.proofs.LinkLemmas.{each}
use Rattle.jh_edit.proofs.MovePathLemmas.{PassesUp, apart_counts, below_same, but_others, change_holds, same_tables}
use Rattle.jh_edit.proofs.MoveTurnLemmas.{AreApart, empty_change, fill_change, link_change, link_others, moved_turns, prune_change, taken_one, taken_pages, turns_taken, unwanted_at}
use Rattle.jh_edit.proofs.PlanLemmas.{done_on, same_done, same_reached}

-- ---- slots that are done

pub done_at : (want : Wants) (word : ℕ → ℕ) (cursor n table start : ℕ) → IsDoneBelow want word cursor (suc n) table start → start < cursor → (slot : ℕ) → slot < 512
    → IsDoneSlot (slot_start (LAST_LEVEL - n) start slot < cursor) (λ next. IsDoneBelow want word cursor n next (slot_start (LAST_LEVEL - n) start slot)) (want (LAST_LEVEL - n) (slot_start (LAST_LEVEL - n) start slot)) (read_of (word (table + 8 * slot)) (LAST_LEVEL - n))
unfolding IsDoneBelow
done_at want word cursor n table start done begins slot few = done begins slot few

pub done_from : (want : Wants) (word : ℕ → ℕ) (cursor n table start : ℕ)
    → (start < cursor → (slot : ℕ) → slot < 512 → IsDoneSlot (slot_start (LAST_LEVEL - n) start slot < cursor) (λ next. IsDoneBelow want word cursor n next (slot_start (LAST_LEVEL - n) start slot)) (want (LAST_LEVEL - n) (slot_start (LAST_LEVEL - n) start slot)) (read_of (word (table + 8 * slot)) (LAST_LEVEL - n)))
    → IsDoneBelow want word cursor (suc n) table start
unfolding IsDoneBelow
done_from want word cursor n table start done = done

pub done_none : (want : Wants) (word : ℕ → ℕ) (cursor table start : ℕ) → IsDoneBelow want word cursor zero table start
unfolding IsDoneBelow
done_none want word cursor table start = tt

-- what begins at the cursor or behind it is done
done_behind : (want : Wants) (word : ℕ → ℕ) (cursor n table start : ℕ) → (start < cursor → ⊥) → IsDoneBelow want word cursor n table start
done_behind want word cursor zero table start behind = done_none want word cursor table start
done_behind want word cursor (suc n) table start behind = done_from want word cursor n table start (λ begins. absurd (behind begins))

done_right : (Before : Type 0) (on : ℕ → Type 0) (want : Want) (d : Descriptor) → IsDoneSlot Before on want d → is_wrong_leaf want d ≡ false
done_right Before on Nothing d e = ap (is_wrong_leaf Nothing) e
done_right Before on WantTable d (inl (next, (leads, h))) = ap (is_wrong_leaf WantTable) leads
done_right Before on WantTable d (inr (behind, is)) = ap (is_wrong_leaf WantTable) is
done_right Before on (WantLeaf o r v) d e = ap (is_wrong_leaf (WantLeaf o r v)) e ∙ ap not (leaf_self o r v)

done_full : (Before : Type 0) (on : ℕ → Type 0) (want : Want) (d : Descriptor) → IsDoneSlot Before on want d → lacks_leaf want d ≡ false
done_full Before on Nothing d e = refl
done_full Before on WantTable d h = refl
done_full Before on (WantLeaf o r v) d e = ap (lacks_leaf (WantLeaf o r v)) e ∙ ap not (leaf_self o r v)

done_wanted : (Before : Type 0) (on : ℕ → Type 0) (want : Want) (d : Descriptor) (next : ℕ) → IsDoneSlot Before on want d → d ≡ Table next → is_to_table want ≡ false → ⊥
done_wanted Before on Nothing d next e leads other = let no : Invalid ≡ Table next = sym e ∙ leads in let wrong : ⊥ = cc in wrong
done_wanted Before on WantTable d next h leads other = false≢true (sym other)
done_wanted Before on (WantLeaf o r v) d next e leads other = let no : Leaf o r v ≡ Table next = sym e ∙ leads in let wrong : ⊥ = cc in wrong

-- a table that lacks may lack where its slot begins at the cursor or behind it alone
done_lacking : (Before : Type 0) (on : ℕ → Type 0) (want : Want) (d : Descriptor) → IsDoneSlot Before on want d → want ≡ WantTable → d ≡ Invalid → Before → ⊥
done_lacking Before on Nothing d e wanted none = let no : Nothing ≡ WantTable = wanted in let wrong : ⊥ = cc in absurd wrong
done_lacking Before on WantTable d (inl (next, (leads, h))) wanted none = let no : Invalid ≡ Table next = sym none ∙ leads in let wrong : ⊥ = cc in absurd wrong
done_lacking Before on WantTable d (inr (behind, is)) wanted none = behind
done_lacking Before on (WantLeaf o r v) d e wanted none = let no : WantLeaf o r v ≡ WantTable = wanted in let wrong : ⊥ = cc in absurd wrong

pub done_linked : (Before : Type 0) (on : ℕ → Type 0) (want : Want) (d : Descriptor) (next : ℕ) → want ≡ WantTable → d ≡ Table next → on next → IsDoneSlot Before on want d
done_linked Before on Nothing d next wanted leads h = let no : Nothing ≡ WantTable = wanted in let wrong : ⊥ = cc in absurd wrong
done_linked Before on WantTable d next wanted leads h = inl (next, (leads, h))
done_linked Before on (WantLeaf o r v) d next wanted leads h = let no : WantLeaf o r v ≡ WantTable = wanted in let wrong : ⊥ = cc in absurd wrong

-- ---- what is done stays done

-- of a table that stays: what begins below the cursor was done, so it is after
abbrev pub KeepsDone : Wants → (ℕ → ℕ) → (ℕ → ℕ) → ℕ → ℕ → Option ℕ → ℕ → Type 0
KeepsDone want word word' cursor n None table = Unit {0}
KeepsDone want word word' cursor n (Some start) table = IsDoneBelow want word cursor n table start → IsDoneBelow want word' cursor n table start

done_up : (want : Wants) (word word' : ℕ → ℕ) (cursor n : ℕ) (s : Option ℕ) (table : ℕ) → ((i : ℕ) → i < 512 → word' (table + 8 * i) ≡ word (table + 8 * i))
    → ((i next : ℕ) → i < 512 → read_of (word (table + 8 * i)) (LAST_LEVEL - n) ≡ Table next → KeepsDone want word word' cursor n (staying want s n i) next) → KeepsDone want word word' cursor (suc n) s table
done_up want word word' cursor n None table same below = tt
done_up want word word' cursor n (Some start) table same below = λ done. done_from want word' cursor n table start (λ begins i few.
    let S = slot_start (LAST_LEVEL - n) start i in
    done_on (S < cursor) (λ next. IsDoneBelow want word cursor n next S) (λ next. IsDoneBelow want word' cursor n next S) (want (LAST_LEVEL - n) S) (read_of (word (table + 8 * i)) (LAST_LEVEL - n)) (read_of (word' (table + 8 * i)) (LAST_LEVEL - n))
    (ap (λ w. read_of w (LAST_LEVEL - n)) (same i few))
    (λ next wanted leads h. subst (λ s. KeepsDone want word word' cursor n s next) (stays_at want n start i wanted) (below i next few leads) h)
    (done_at want word cursor n table start done begins i few))

done_nowhere : (want : Wants) (word word' : ℕ → ℕ) (cursor : ℕ) (s : Option ℕ) (table : ℕ) → KeepsDone want word word' cursor zero s table
done_nowhere want word word' cursor None table = tt
done_nowhere want word word' cursor (Some start) table = λ done. done_none want word' cursor table start

done_passes : (want : Wants) (word word' : ℕ → ℕ) (cursor : ℕ) → PassesUp (staying want) word word' (KeepsDone want word word' cursor)
done_passes want word word' cursor = record { none = done_nowhere want word word' cursor; up = done_up want word word' cursor }

pruned_done : (want : Wants) (word word' : ℕ → ℕ) (cursor table : ℕ) (there : Option ℕ) (link : TableLink) → IsPruned want word word' table there link → KeepsDone want word word' cursor (suc link.below) there link.parent
pruned_done want word word' cursor table None link is = tt
pruned_done want word word' cursor table (Some start) link is = λ done. done_from want word' cursor link.below link.parent start (λ begins i few.
    let S = slot_start (LAST_LEVEL - link.below) start link.slot in
    absurd (done_wanted (S < cursor) (λ next. IsDoneBelow want word cursor link.below next S) (want (LAST_LEVEL - link.below) S) (read_of (word (link.parent + 8 * link.slot)) (LAST_LEVEL - link.below)) link.page
    (done_at want word cursor link.below link.parent start done begins link.slot is.cleared.within) is.cleared.leads (unwanted_at want link.below start link.slot is.unwanted)))

emptied_done : (want : Wants) (word word' : ℕ → ℕ) (cursor table : ℕ) (t : StayingTable) → IsEmptied want word word' table t → KeepsDone want word word' cursor (suc t.below) (Some t.start) t.page
emptied_done want word word' cursor table t is = λ done. done_from want word' cursor t.below t.page t.start (λ begins i few.
    let S = λ (j : ℕ). slot_start (LAST_LEVEL - t.below) t.start j in
    let right : has_wrong_leaf want word t.below t.page t.start ≡ false =
    any_none (λ j. is_wrong_leaf (want (LAST_LEVEL - t.below) (S j)) (read_of (word (t.page + 8 * j)) (LAST_LEVEL - t.below))) 512
    (λ j small. done_right (S j < cursor) (λ next. IsDoneBelow want word cursor t.below next (S j)) (want (LAST_LEVEL - t.below) (S j)) (read_of (word (t.page + 8 * j)) (LAST_LEVEL - t.below)) (done_at want word cursor t.below t.page t.start done begins j small)) in
    absurd (false≢true (sym right ∙ is.wrong)))

filled_done : (want : Wants) (word word' : ℕ → ℕ) (cursor table : ℕ) (t : StayingTable) → IsFilled want word word' table t → KeepsDone want word word' cursor (suc t.below) (Some t.start) t.page
filled_done want word word' cursor table t is = λ done. done_from want word' cursor t.below t.page t.start (λ begins i few.
    let S = λ (j : ℕ). slot_start (LAST_LEVEL - t.below) t.start j in
    let full : has_lacking_leaf want word t.below t.page t.start ≡ false =
    any_none (λ j. lacks_leaf (want (LAST_LEVEL - t.below) (S j)) (read_of (word (t.page + 8 * j)) (LAST_LEVEL - t.below))) 512
    (λ j small. done_full (S j < cursor) (λ next. IsDoneBelow want word cursor t.below next (S j)) (want (LAST_LEVEL - t.below) (S j)) (read_of (word (t.page + 8 * j)) (LAST_LEVEL - t.below)) (done_at want word cursor t.below t.page t.start done begins j small)) in
    absurd (false≢true (sym full ∙ is.lacking)))

linked_done : (want : Wants) (word word' : ℕ → ℕ) (cursor table : ℕ) (ahead : Ahead) → AreApart word table → (is : IsLinked want word word' table ahead) → KeepsDone want word word' cursor (suc (suc is.is.slot.below)) (Some is.is.slot.start) is.is.slot.parent
linked_done want word word' cursor table ahead apart is = λ done.
    let slot = is.is.slot in
    let n = suc slot.below in
    let change = link_change want word word' table ahead apart is in
    let S = λ (i : ℕ). slot_start (LAST_LEVEL - n) slot.start i in
    let W = λ (i : ℕ). want (LAST_LEVEL - n) (S i) in
    let D = λ (i : ℕ). read_of (word (slot.parent + 8 * i)) (LAST_LEVEL - n) in
    let D' = λ (i : ℕ). read_of (word' (slot.parent + 8 * i)) (LAST_LEVEL - n) in
    let leads : D' slot.slot ≡ Table ahead.page = subst (λ at. read_of (word' at) (LAST_LEVEL - n) ≡ Table ahead.page) is.is.at is.leads in
    done_from want word' cursor n slot.parent slot.start (λ begins i few.
    each (λ j. IsDoneSlot (S j < cursor) (λ next. IsDoneBelow want word' cursor n next (S j)) (W j) (D' j)) slot.slot
    (done_linked (S slot.slot < cursor) (λ next. IsDoneBelow want word' cursor n next (S slot.slot)) (W slot.slot) (D' slot.slot) ahead.page is.is.empty.wants leads
    (done_behind want word' cursor n ahead.page (S slot.slot)
    (done_lacking (S slot.slot < cursor) (λ next. IsDoneBelow want word cursor n next (S slot.slot)) (W slot.slot) (D slot.slot) (done_at want word cursor n slot.parent slot.start done begins slot.slot is.is.empty.within) is.is.empty.wants is.is.empty.invalid)))
    (λ j small other.
    done_on (S j < cursor) (λ next. IsDoneBelow want word cursor n next (S j)) (λ next. IsDoneBelow want word' cursor n next (S j)) (W j) (D j) (D' j)
    (ap (λ w. read_of w (LAST_LEVEL - n)) (but_others word word' slot.parent slot.slot (link_others want word word' table ahead is) j other))
    (λ next wanted names h. same_done want word word' cursor n next (S j) (below_same (staying want) word word' levels (Some 0) table n (Some slot.start) slot.parent change j next small names) h)
    (done_at want word cursor n slot.parent slot.start done begins j small))
    i few)

made_same : (want : Wants) (word word' : ℕ → ℕ) (table : ℕ) (slot : EmptySlot) (page : ℕ) → AreApart word table → IsMadeAhead want word word' table slot page → HaveSameTables word word' levels table
made_same want word word' table slot page apart is = same_tables word word' page levels table is.aligned is.outside apart.aligned is.apart

pub moved_done : (want : Wants) (word word' : ℕ → ℕ) (cursor table : ℕ) (removing : Bool) (ahead : Option Ahead) (move : Move) → AreApart word table → removing ≡ false → IsAtTurn removing ahead move → IsMoved want word word' table move
    → IsDoneBelow want word cursor levels table 0 → IsDoneBelow want word' cursor levels table 0
moved_done want word word' cursor table removing a (Prune there link) apart aims at is =
    change_holds (staying want) word word' (KeepsDone want word word' cursor) (done_passes want word word' cursor) levels (Some 0) table link.below there link.parent (prune_change want word word' table there link apart is)
    (pruned_done want word word' cursor table there link is)
moved_done want word word' cursor table removing a (Empty t) apart aims at is =
    change_holds (staying want) word word' (KeepsDone want word word' cursor) (done_passes want word word' cursor) levels (Some 0) table t.below (Some t.start) t.page (empty_change want word word' table t apart is)
    (emptied_done want word word' cursor table t is)
moved_done want word word' cursor table removing a (Fill t) apart aims at is =
    change_holds (staying want) word word' (KeepsDone want word word' cursor) (done_passes want word word' cursor) levels (Some 0) table t.below (Some t.start) t.page (fill_change want word word' table t apart is)
    (filled_done want word word' cursor table t is)
moved_done want word word' cursor table removing a (Make slot page) apart aims at is = same_done want word word' cursor levels table 0 (made_same want word word' table slot page apart is)
moved_done want word word' cursor table removing a (Link linked) apart aims at is =
    change_holds (staying want) word word' (KeepsDone want word word' cursor) (done_passes want word word' cursor) levels (Some 0) table (suc is.is.slot.below) (Some is.is.slot.start) is.is.slot.parent (link_change want word word' table linked apart is)
    (linked_done want word word' cursor table linked apart is)
moved_done want word word' cursor table removing a (TakeAway link) apart aims at is = absurd (false≢true (sym aims ∙ at.0))
moved_done want word word' cursor table removing a End apart aims at is = absurd (false≢true (sym aims ∙ at.0))

-- ---- the page ahead

made_ahead : (want : Wants) (word word' : ℕ → ℕ) (table : ℕ) (slot : EmptySlot) (page : ℕ) → AreApart word table → IsMadeAhead want word word' table slot page → IsAhead want word' table (record { at = word_place slot; page = page })
made_ahead want word word' table slot page apart is =
    let same = made_same want word word' table slot page apart is in
    let parent : word' (word_place slot) ≡ word (word_place slot) =
    same.words slot.parent slot.slot (on_times (staying want) word levels (Some 0) table (suc (suc slot.below)) (Some slot.start) slot.parent is.empty.stays) is.empty.within in
    record {
      slot = slot;
      empty = record {
        within = is.empty.within;
        stays = same_reached (staying want) word word' levels (Some 0) table (suc (suc slot.below)) (Some slot.start) slot.parent same is.empty.stays;
        wants = is.empty.wants;
        invalid = ap (λ w. read_of w (LAST_LEVEL - suc slot.below)) parent ∙ is.empty.invalid;
      };
      at = refl;
      aligned = is.aligned;
      apart = apart_counts unmoved (λ state. page_weight page) (λ w w' n other state e. refl) word word' levels None table page is.aligned is.outside apart.aligned is.apart ∙ is.apart;
      made = is.made;
    }

ahead_planned : (want : Wants) (word word' : ℕ → ℕ) (table : ℕ) (move : Move) → AreApart word table → IsMoved want word word' table move → IfSome (ahead_after move) (IsAhead want word' table)
ahead_planned want word word' table (Prune there link) apart is = tt
ahead_planned want word word' table (Empty t) apart is = tt
ahead_planned want word word' table (Fill t) apart is = tt
ahead_planned want word word' table (Make slot page) apart is = made_ahead want word word' table slot page apart is
ahead_planned want word word' table (Link ahead) apart is = tt
ahead_planned want word word' table (TakeAway link) apart is = tt
ahead_planned want word word' table End apart is = tt

-- ---- the plan

target_plan : (old new : EditView) (want : Wants) (word word' : ℕ → ℕ) (move : Move) → AreApart word old.table → IsTurn old new want word word' move → old.removing ≡ false → PlansTarget old want word → PlansTarget new want word'
target_plan old new want word word' move apart is aims plan =
    let taken : turns_of want word' levels old.table 0 + turns_taken move ≡ turns_of want word levels old.table 0 = moved_turns want word word' old.table old.removing old.ahead move apart aims is.at is.moved in
    let one : ahead_count old.ahead + 1 ≡ ahead_count (ahead_after move) + turns_taken move = taken_one old.removing old.ahead move aims is.at in
    let ahead : ahead_count new.ahead ≡ ahead_count (ahead_after move) = ap ahead_count is.ahead in
    let table : turns_of want word' levels new.table 0 ≡ turns_of want word' levels old.table 0 = ap (λ t. turns_of want word' levels t 0) is.table in
    let left : new.left + 1 ≡ old.left = is.left in
    let turns : old.left + ahead_count old.ahead ≡ turns_of want word levels old.table 0 = plan.turns in
    record {
      turns = omega arith;
      ahead = subst (λ a. IfSome a (IsAhead want word' new.table)) (sym is.ahead) (subst (λ t. IfSome (ahead_after move) (IsAhead want word' t)) (sym is.table) (ahead_planned want word word' old.table move apart is.moved));
      cursor = subst (λ t. IsDoneBelow want word' new.cursor levels t 0) (sym is.table) (moved_done want word word' new.cursor old.table old.removing old.ahead move apart aims is.at is.moved (is.cursor aims));
    }

removal_plan : (old new : EditView) (want : Wants) (word word' : ℕ → ℕ) (move : Move) → AreApart word old.table → IsTurn old new want word word' move → old.removing ≡ true → is_over new ≡ false → PlansRemoval old word → PlansRemoval new word'
removal_plan old new want word word' (Prune there link) apart is aims over plan = absurd (false≢true (sym is.at.0 ∙ aims))
removal_plan old new want word word' (Empty t) apart is aims over plan = absurd (false≢true (sym is.at.0 ∙ aims))
removal_plan old new want word word' (Fill t) apart is aims over plan = absurd (false≢true (sym is.at.0 ∙ aims))
removal_plan old new want word word' (Make slot page) apart is aims over plan = absurd (false≢true (sym is.at.0 ∙ aims))
removal_plan old new want word word' (Link ahead) apart is aims over plan = absurd (false≢true (sym is.at.0 ∙ aims))
removal_plan old new want word word' (TakeAway link) apart is aims over plan =
    let taken : pages_reached word' levels old.table + 1 ≡ pages_reached word levels old.table = taken_pages word word' old.table link apart is.moved in
    let table : pages_reached word' levels new.table ≡ pages_reached word' levels old.table = ap (λ t. pages_reached word' levels t) is.table in
    let left : new.left + 1 ≡ old.left = is.left in
    let turns : old.left ≡ pages_reached word levels old.table = plan.turns in
    record { turns = omega arith; ahead = is.ahead }
removal_plan old new want word word' End apart is aims over plan =
    let last : pages_reached word levels old.table ≡ 1 = is.moved.last in
    let left : new.left + 1 ≡ old.left = is.left in
    let turns : old.left ≡ pages_reached word levels old.table = plan.turns in
    let none : new.left ≡ 0 = omega arith in
    let ends : is_over new ≡ true = ap (λ r. r && nat_eq new.left 0) (is.removing ∙ aims) ∙ ap (λ l. nat_eq l 0) none in
    absurd (false≢true (sym over ∙ ends))

-- a turn keeps the plan, but for the last one of a removal
pub turn_plan : (old new : EditView) (want : Wants) (word word' : ℕ → ℕ) (move : Move) → AreApart word old.table → IsTurn old new want word word' move → Plans old want word → is_over new ≡ false → Plans new want word'
turn_plan old new want word word' move apart is plans over = record {
  target = λ aims. target_plan old new want word word' move apart is (sym is.removing ∙ aims) (plans.target (sym is.removing ∙ aims));
  removal = λ aims. removal_plan old new want word word' move apart is (sym is.removing ∙ aims) over (plans.removal (sym is.removing ∙ aims));
}
