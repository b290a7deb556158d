-- What each kind of turn takes off the turns and the pages that are left.
use Rattle.std.proofs.Common.{◌≡◌, ◌≢◌, ℕ, ◌+◌, ◌-◌, ◌*◌, ◌%◌, ◌<◌, ◌≤◌, suc, ap, ◌∙◌, sym, subst, Bool, true, false, if◌then◌else◌, Option, Some, None, arith, refl}
use Rattle.std.proofs.lemmas.Bool.{false≢true}
use Rattle.jh_num.specs.declared.level.TheConstants.{LAST_LEVEL}
use Rattle.jh_desc.specs.declared.descriptor.Descriptor.TheVariants.{Invalid, Table}
use Rattle.jh_desc.specs.Descriptors.{read_of}
use Rattle.jh_walk.specs.Counts.{Step, count_from, unmoved}
use Rattle.jh_walk.specs.Pages.{AreAligned, pages_reached, times}
use Rattle.jh_walk.specs.Walks.{levels}
use Rattle.jh_walk.proofs.Public.{counts_same, on_times}
use Rattle.jh_shape.specs.Laws.{is_to_table}
use Rattle.jh_shape.specs.Wanted.{Wants, slot_start}
use Rattle.jh_edit.specs.declared.edit.Ahead.{Ahead}
use Rattle.jh_edit.specs.Trees.{staying}
use Rattle.jh_edit.specs.Turns.{KeepsTurnsBelow, LinksTable, turns_at, turns_of}
use Rattle.jh_edit.specs.Plans.{IsAhead, IsMade, IsMadeTable, IsTakenOut, ahead_count, begin_of}
use Rattle.jh_edit.specs.Moves.{IsAtTurn, IsCleared, IsEmptied, IsFilled, IsLinked, IsMoved, IsPruned, IsSameBut, IsTakenAway, Move, StayingTable, TableLink, Prune, Empty, Fill, Make, Link, TakeAway, End, ahead_after}
use Rattle.jh_edit.proofs.BoundLemmas.{gone_turns}
use Rattle.jh_edit.proofs.FallLemmas.{emptied_falls, filled_falls}
use Rattle.jh_edit.proofs.LinkLemmas.{linked_falls, pruned_falls}
use Rattle.jh_edit.proofs.MadeLemmas.{made_turns}
use Rattle.jh_edit.proofs.MovePathLemmas.{IsChange, apart_counts, below_same, but_others, but_outside, change_counts, same_words}
use Rattle.jh_edit.proofs.PlanLemmas.{same_turns_at, same_weights}
use Rattle.jh_edit.proofs.RemovalLemmas.{one_page_less}

-- ---- the change of each kind

-- each page that is reached is reached once, and begins at a page
pub record AreApart (word : ℕ → ℕ) (table : ℕ) : Type 0 where
  pub once : (page : ℕ) → times word levels table page ≤ 1
  pub aligned : AreAligned word levels table

pub prune_change : (want : Wants) (word word' : ℕ → ℕ) (table : ℕ) (there : Option ℕ) (link : TableLink) → AreApart word table → IsPruned want word word' table there link → IsChange (staying want) word word' levels (Some 0) table link.below there link.parent
prune_change want word word' table there link apart is = record {
  reached = is.reached;
  once = apart.once link.parent;
  aligned = apart.aligned;
  outside = but_outside word word' link.parent link.slot is.cleared.within is.cleared.others;
}

pub empty_change : (want : Wants) (word word' : ℕ → ℕ) (table : ℕ) (t : StayingTable) → AreApart word table → IsEmptied want word word' table t → IsChange (staying want) word word' levels (Some 0) table t.below (Some t.start) t.page
empty_change want word word' table t apart is = record { reached = is.stays; once = apart.once t.page; aligned = apart.aligned; outside = is.outside }

pub fill_change : (want : Wants) (word word' : ℕ → ℕ) (table : ℕ) (t : StayingTable) → AreApart word table → IsFilled want word word' table t → IsChange (staying want) word word' levels (Some 0) table t.below (Some t.start) t.page
fill_change want word word' table t apart is = record { reached = is.stays; once = apart.once t.page; aligned = apart.aligned; outside = is.outside }

-- all words beside that of the slot are the same
pub link_others : (want : Wants) (word word' : ℕ → ℕ) (table : ℕ) (ahead : Ahead) (is : IsLinked want word word' table ahead) → IsSameBut word word' (is.is.slot.parent + 8 * is.is.slot.slot)
link_others want word word' table ahead is = subst (λ at. IsSameBut word word' at) is.is.at is.others

pub link_change : (want : Wants) (word word' : ℕ → ℕ) (table : ℕ) (ahead : Ahead) → AreApart word table → (is : IsLinked want word word' table ahead) → IsChange (staying want) word word' levels (Some 0) table (suc is.is.slot.below) (Some is.is.slot.start) is.is.slot.parent
link_change want word word' table ahead apart is = record {
  reached = is.is.empty.stays;
  once = apart.once is.is.slot.parent;
  aligned = apart.aligned;
  outside = but_outside word word' is.is.slot.parent is.is.slot.slot is.is.empty.within (link_others want word word' table ahead is);
}

pub take_change : (word word' : ℕ → ℕ) (table : ℕ) (link : TableLink) → AreApart word table → IsTakenAway word word' table link → IsChange unmoved word word' levels None table link.below None link.parent
take_change word word' table link apart is = record {
  reached = is.reached;
  once = apart.once link.parent;
  aligned = apart.aligned;
  outside = but_outside word word' link.parent link.slot is.cleared.within is.cleared.others;
}

-- ---- a link that is cleared

-- the slot's word reads invalid after
pub cleared_invalid : (word word' : ℕ → ℕ) (link : TableLink) → IsCleared word word' link → read_of (word' (link.parent + 8 * link.slot)) (LAST_LEVEL - link.below) ≡ Invalid
cleared_invalid word word' link is = ap (λ w. read_of w (LAST_LEVEL - link.below)) is.zero

pub taken_out : (step : Step) (word word' : ℕ → ℕ) (n : ℕ) (s : Option ℕ) (table : ℕ) (there : Option ℕ) (link : TableLink) → IsChange step word word' n s table link.below there link.parent → IsCleared word word' link → IsTakenOut word word' link.below link.parent link.slot link.page
taken_out step word word' n s table there link change is = record {
  within = is.within;
  named = is.leads;
  last = is.last;
  invalid = cleared_invalid word word' link is;
  others = λ i few apart. but_others word word' link.parent link.slot is.others i apart;
  below = λ i other few apart leads. below_same step word word' n s table link.below there link.parent change i other few leads;
}

cleared_pages : (step : Step) (word word' : ℕ → ℕ) (n : ℕ) (s : Option ℕ) (table : ℕ) (there : Option ℕ) (link : TableLink) → IsChange step word word' n s table link.below there link.parent → IsCleared word word' link
    → pages_reached word' (suc link.below) link.parent + 1 ≡ pages_reached word (suc link.below) link.parent
cleared_pages step word word' n s table there link change is = one_page_less counts_same word word' link.below link.parent link.slot link.page (taken_out step word word' n s table there link change is)

-- ---- turns

keeps_turns : (want : Wants) (word word' : ℕ → ℕ) (table m start page : ℕ) → IsChange (staying want) word word' levels (Some 0) table m (Some start) page → KeepsTurnsBelow want word word' m page start
keeps_turns want word word' table m start page change slot next few leads =
    let same = below_same (staying want) word word' levels (Some 0) table m (Some start) page change slot next few leads in
    counts_same (staying want) (turns_at want) word word' m (staying want (Some start) m slot) next same (same_weights want word word' m next same)

change_turns : (want : Wants) (word word' : ℕ → ℕ) (table m : ℕ) (there : Option ℕ) (page a : ℕ) → IsChange (staying want) word word' levels (Some 0) table m there page
    → count_from (staying want) (turns_at want) word' (suc m) there page + a ≡ count_from (staying want) (turns_at want) word (suc m) there page → turns_of want word' levels table 0 + a ≡ turns_of want word levels table 0
change_turns want word word' table m there page a change moved =
    let here : count_from (staying want) (turns_at want) word' (suc m) there page + a ≡ count_from (staying want) (turns_at want) word (suc m) there page + 0 = omega arith in
    let all : turns_of want word' levels table 0 + a ≡ turns_of want word levels table 0 + 0 = change_counts (staying want) (turns_at want) (same_turns_at want) word word' levels (Some 0) table m there page a 0 change here in
    omega arith

-- a slot that a table which stays hands no state down from isn't wanted as a table
if_none : (b : Bool) (x : ℕ) → (if b then Some x else None) ≡ None → b ≡ false
if_none true x e = absurd (let no : ⊥ = cc in no)
if_none false x e = refl

pub unwanted_at : (want : Wants) (n start slot : ℕ) → staying want (Some start) n slot ≡ None → is_to_table (want (LAST_LEVEL - n) (slot_start (LAST_LEVEL - n) start slot)) ≡ false
unwanted_at want n start slot e = if_none (is_to_table (want (LAST_LEVEL - n) (slot_start (LAST_LEVEL - n) start slot))) (slot_start (LAST_LEVEL - n) start slot) e

pruned_here : (want : Wants) (word word' : ℕ → ℕ) (table : ℕ) (there : Option ℕ) (link : TableLink) → IsChange (staying want) word word' levels (Some 0) table link.below there link.parent → IsPruned want word word' table there link
    → count_from (staying want) (turns_at want) word' (suc link.below) there link.parent + 1 ≡ count_from (staying want) (turns_at want) word (suc link.below) there link.parent
pruned_here want word word' table None link change is =
    let less : pages_reached word' (suc link.below) link.parent + 1 ≡ pages_reached word (suc link.below) link.parent = cleared_pages (staying want) word word' levels (Some 0) table None link change is.cleared in
    let old = gone_turns want word (suc link.below) link.parent in
    let new = gone_turns want word' (suc link.below) link.parent in
    omega arith
pruned_here want word word' table (Some start) link change is =
    pruned_falls want word word' link.below link.parent start link.slot link.page
    (record {
      within = is.cleared.within;
      unwanted = unwanted_at want link.below start link.slot is.unwanted;
      leads = is.cleared.leads;
      invalid = cleared_invalid word word' link is.cleared;
      others = λ i few apart. ap (λ w. read_of w (LAST_LEVEL - link.below)) (but_others word word' link.parent link.slot is.cleared.others i apart);
    })
    (keeps_turns want word word' table link.below start link.parent change) is.cleared.last

-- the page ahead isn't the table that it is linked to
pub ahead_apart : (want : Wants) (word : ℕ → ℕ) (table : ℕ) (ahead : Ahead) (is : IsAhead want word table ahead) → ahead.page ≢ is.slot.parent
ahead_apart want word table ahead is e =
    let some : 0 < times word levels table is.slot.parent = on_times (staying want) word levels (Some 0) table (suc (suc is.slot.below)) (Some is.slot.start) is.slot.parent is.empty.stays in
    let none : times word levels table ahead.page ≡ 0 = is.apart in
    let here : 0 < times word levels table ahead.page = subst (λ z. 0 < times word levels table z) (sym e) some in
    omega arith

-- so it is made after, too
pub linked_made : (want : Wants) (word word' : ℕ → ℕ) (table : ℕ) (ahead : Ahead) → AreApart word table → (is : IsLinked want word word' table ahead) → IsMadeTable want word' is.is.slot.below ahead.page (begin_of is.is.slot)
linked_made want word word' table ahead apart is i few =
    let slot = is.is.slot in
    let change = link_change want word word' table ahead apart is in
    let begins : slot.parent % 4096 ≡ 0 = apart.aligned slot.parent (on_times (staying want) word levels (Some 0) table (suc (suc slot.below)) (Some slot.start) slot.parent is.is.empty.stays) in
    subst (λ w. IsMade (want (LAST_LEVEL - slot.below) (slot_start (LAST_LEVEL - slot.below) (begin_of slot) i)) (read_of w (LAST_LEVEL - slot.below)))
    (sym (same_words word word' slot.parent begins change.outside ahead.page i is.is.aligned (ahead_apart want word table ahead is.is) few)) (is.is.made i few)

-- the table's slot is linked, and no other slot changes
pub link_links : (want : Wants) (word word' : ℕ → ℕ) (table : ℕ) (ahead : Ahead) (is : IsLinked want word word' table ahead) → LinksTable want word word' (suc is.is.slot.below) is.is.slot.parent is.is.slot.start is.is.slot.slot ahead.page
link_links want word word' table ahead is =
    let slot = is.is.slot in
    record {
      within = is.is.empty.within;
      wanted = is.is.empty.wants;
      invalid = is.is.empty.invalid;
      leads = subst (λ at. read_of (word' at) (LAST_LEVEL - suc slot.below) ≡ Table ahead.page) is.is.at is.leads;
      others = λ i few apart. ap (λ w. read_of w (LAST_LEVEL - suc slot.below)) (but_others word word' slot.parent slot.slot (link_others want word word' table ahead is) i apart);
    }

-- how many turns the turn takes off those of the tables
abbrev pub turns_taken : Move → ℕ
turns_taken (Prune there link) = 1
turns_taken (Empty t) = 1
turns_taken (Fill t) = 1
turns_taken (Make slot page) = 0
turns_taken (Link ahead) = 2
turns_taken (TakeAway link) = 0
turns_taken End = 0

pub moved_turns : (want : Wants) (word word' : ℕ → ℕ) (table : ℕ) (removing : Bool) (ahead : Option Ahead) (move : Move) → AreApart word table → removing ≡ false → IsAtTurn removing ahead move → IsMoved want word word' table move
    → turns_of want word' levels table 0 + turns_taken move ≡ turns_of want word levels table 0
moved_turns want word word' table removing a (Prune there link) apart aims at is =
    let change = prune_change want word word' table there link apart is in
    change_turns want word word' table link.below there link.parent 1 change (pruned_here want word word' table there link change is)
moved_turns want word word' table removing a (Empty t) apart aims at is =
    let change = empty_change want word word' table t apart is in
    change_turns want word word' table t.below (Some t.start) t.page 1 change (emptied_falls want word word' t.below t.page t.start is.empties (keeps_turns want word word' table t.below t.start t.page change) is.wrong)
moved_turns want word word' table removing a (Fill t) apart aims at is =
    let change = fill_change want word word' table t apart is in
    change_turns want word word' table t.below (Some t.start) t.page 1 change
    (filled_falls want word word' t.below t.page t.start is.fills (keeps_turns want word word' table t.below t.start t.page change) is.right is.lacking is.tables)
moved_turns want word word' table removing a (Make slot page) apart aims at is =
    let same : turns_of want word' levels table 0 ≡ turns_of want word levels table 0 = apart_counts (staying want) (turns_at want) (same_turns_at want) word word' levels (Some 0) table page is.aligned is.outside apart.aligned is.apart in
    omega arith
moved_turns want word word' table removing a (Link ahead) apart aims at is =
    let slot = is.is.slot in
    let change = link_change want word word' table ahead apart is in
    change_turns want word word' table (suc slot.below) (Some slot.start) slot.parent 2 change
    (linked_falls want word word' (suc slot.below) slot.parent slot.start slot.slot ahead.page (link_links want word word' table ahead is)
    (keeps_turns want word word' table (suc slot.below) slot.start slot.parent change) (made_turns want word' slot.below ahead.page (begin_of slot) (linked_made want word word' table ahead apart is)))
moved_turns want word word' table removing a (TakeAway link) apart aims at is = absurd (false≢true (sym aims ∙ at.0))
moved_turns want word word' table removing a End apart aims at is = absurd (false≢true (sym aims ∙ at.0))

-- what is taken off the turns, beside the page ahead, is one
pub taken_one : (removing : Bool) (ahead : Option Ahead) (move : Move) → removing ≡ false → IsAtTurn removing ahead move → ahead_count ahead + 1 ≡ ahead_count (ahead_after move) + turns_taken move
taken_one removing ahead (Prune there link) aims at = ap (λ a. ahead_count a + 1) at.1
taken_one removing ahead (Empty t) aims at = ap (λ a. ahead_count a + 1) at.1
taken_one removing ahead (Fill t) aims at = ap (λ a. ahead_count a + 1) at.1
taken_one removing ahead (Make slot page) aims at = ap (λ a. ahead_count a + 1) at.1
taken_one removing ahead (Link linked) aims at = ap (λ a. ahead_count a + 1) at.1
taken_one removing ahead (TakeAway link) aims at = absurd (false≢true (sym aims ∙ at.0))
taken_one removing ahead End aims at = absurd (false≢true (sym aims ∙ at.0))

-- ---- pages of a removal

pub taken_pages : (word word' : ℕ → ℕ) (table : ℕ) (link : TableLink) → AreApart word table → IsTakenAway word word' table link → pages_reached word' levels table + 1 ≡ pages_reached word levels table
taken_pages word word' table link apart is =
    let change = take_change word word' table link apart is in
    let less : pages_reached word' (suc link.below) link.parent + 1 ≡ pages_reached word (suc link.below) link.parent = cleared_pages unmoved word word' levels None table None link change is.cleared in
    let here : pages_reached word' (suc link.below) link.parent + 1 ≡ pages_reached word (suc link.below) link.parent + 0 = omega arith in
    let all : pages_reached word' levels table + 1 ≡ pages_reached word levels table + 0 = change_counts unmoved (λ state word n page. 1) (λ word word' n page state e. refl) word word' levels None table link.below None link.parent 1 0 change here in
    omega arith
