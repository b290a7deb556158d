-- What one turn of an edit does to the words of tables, by its kind.
use Rattle.std.specs.Prelude.{◌≡◌, ℕ, ◌+◌, ◌-◌, ◌*◌, ◌%◌, ◌<◌, ◌≤◌, ◌⊎◌, Bool, true, false, nat_eq, Option, Some, None, suc, if◌then◌else◌}
use Rattle.jh_num.specs.declared.level.TheConstants.{LAST_LEVEL}
use Rattle.jh_desc.specs.declared.descriptor.Descriptor.TheVariants.{Table}
use Rattle.jh_desc.specs.Descriptors.{read_of}
use Rattle.jh_pool.specs.Pages.{IsPageOf, PoolView, is_free, used_of}
use Rattle.jh_walk.specs.Counts.{IsReachedAs}
use Rattle.jh_walk.specs.Pages.{IsReached, pages_reached, times}
use Rattle.jh_walk.specs.Walks.{levels}
use Rattle.jh_shape.specs.Wanted.{Wants, slot_start}
use Rattle.jh_edit.specs.declared.edit.Ahead.{Ahead}
use Rattle.jh_edit.specs.Trees.{staying}
use Rattle.jh_edit.specs.Turns.{has_lacking_leaf, has_wrong_leaf, is_wrong_leaf, lacks_leaf, EmptiesTable, FillsTable, HasNoTableTooMany}
use Rattle.jh_edit.specs.Plans.{EditView, EmptySlot, IsAhead, IsDoneBelow, IsEmptySlot, IsMadeTable, begin_of, word_place}

-- ---- words that stay

-- each word beside the one at the place is the same
abbrev pub IsSameBut : (ℕ → ℕ) → (ℕ → ℕ) → ℕ → Type 0
IsSameBut word word' at = (q : ℕ) → (q + 8 ≤ at) ⊎ (at + 8 ≤ q) → word' q ≡ word q

-- each word outside the page is the same
abbrev pub IsSameOutside : (ℕ → ℕ) → (ℕ → ℕ) → ℕ → Type 0
IsSameOutside word word' page = (q : ℕ) → (q + 8 ≤ page) ⊎ (page + 4096 ≤ q) → word' q ≡ word q

-- ---- places

-- a link to a table page: the table that has it, the number of its slot, the levels below that table, and the page
pub record TableLink : Type 0 where
  pub parent : ℕ
  pub slot : ℕ
  pub below : ℕ
  pub page : ℕ

-- a table that stays: its page, where it begins, and the levels below it
pub record StayingTable : Type 0 where
  pub page : ℕ
  pub start : ℕ
  pub below : ℕ

-- the table is reached from the first one, and stays
abbrev pub IsStaying : Wants → (ℕ → ℕ) → ℕ → StayingTable → Type 0
IsStaying want word table t = IsReachedAs (staying want) word levels (Some 0) table (suc t.below) (Some t.start) t.page

-- the link's word names its page, which names no table; the word is 0 after, and all others are the same
pub record IsCleared (word word' : ℕ → ℕ) (link : TableLink) : Type 0 where
  pub within : link.slot < 512
  pub leads : read_of (word (link.parent + 8 * link.slot)) (LAST_LEVEL - link.below) ≡ Table link.page
  pub last : pages_reached word link.below link.page ≡ 1
  pub zero : word' (link.parent + 8 * link.slot) ≡ 0
  pub others : IsSameBut word word' (link.parent + 8 * link.slot)

-- ---- one turn

-- a link is cleared that isn't wanted: its table is reached as one that begins there, or as one that goes, and no table of
-- the slot stays
pub record IsPruned (want : Wants) (word word' : ℕ → ℕ) (table : ℕ) (there : Option ℕ) (link : TableLink) : Type 0 where
  pub reached : IsReachedAs (staying want) word levels (Some 0) table (suc link.below) there link.parent
  pub unwanted : staying want there link.below link.slot ≡ None
  pub cleared : IsCleared word word' link

-- a table that stays and has wrong leaves is emptied of them: words of all other slots, and all outside its page, are the
-- same
pub record IsEmptied (want : Wants) (word word' : ℕ → ℕ) (table : ℕ) (t : StayingTable) : Type 0 where
  pub stays : IsStaying want word table t
  pub wrong : has_wrong_leaf want word t.below t.page t.start ≡ true
  pub empties : EmptiesTable want word word' t.below t.page t.start
  pub kept : (slot : ℕ) → slot < 512 → is_wrong_leaf (want (LAST_LEVEL - t.below) (slot_start (LAST_LEVEL - t.below) t.start slot)) (read_of (word (t.page + 8 * slot)) (LAST_LEVEL - t.below)) ≡ false
      → word' (t.page + 8 * slot) ≡ word (t.page + 8 * slot)
  pub outside : IsSameOutside word word' t.page

-- a table that stays and lacks leaves, and has no wrong leaf and no table too many, is filled with them: words of all other
-- slots, and all outside its page, are the same
pub record IsFilled (want : Wants) (word word' : ℕ → ℕ) (table : ℕ) (t : StayingTable) : Type 0 where
  pub stays : IsStaying want word table t
  pub right : has_wrong_leaf want word t.below t.page t.start ≡ false
  pub tables : HasNoTableTooMany want word t.below t.page t.start
  pub lacking : has_lacking_leaf want word t.below t.page t.start ≡ true
  pub fills : FillsTable want word word' t.below t.page t.start
  pub kept : (slot : ℕ) → slot < 512 → lacks_leaf (want (LAST_LEVEL - t.below) (slot_start (LAST_LEVEL - t.below) t.start slot)) (read_of (word (t.page + 8 * slot)) (LAST_LEVEL - t.below)) ≡ false
      → word' (t.page + 8 * slot) ≡ word (t.page + 8 * slot)
  pub outside : IsSameOutside word word' t.page

-- a page that isn't reached is made for an empty slot: all words outside it are the same
pub record IsMadeAhead (want : Wants) (word word' : ℕ → ℕ) (table : ℕ) (slot : EmptySlot) (page : ℕ) : Type 0 where
  pub empty : IsEmptySlot want word table slot
  pub aligned : page % 4096 ≡ 0
  pub apart : times word levels table page ≡ 0
  pub made : IsMadeTable want word' slot.below page (begin_of slot)
  pub outside : IsSameOutside word word' page

-- the page ahead is linked: the word of its slot names it, and all others are the same
pub record IsLinked (want : Wants) (word word' : ℕ → ℕ) (table : ℕ) (ahead : Ahead) : Type 0 where
  pub is : IsAhead want word table ahead
  pub leads : read_of (word' ahead.at) (LAST_LEVEL - suc is.slot.below) ≡ Table ahead.page
  pub others : IsSameBut word word' ahead.at

-- of a removal: a link is cleared of a table that is reached
pub record IsTakenAway (word word' : ℕ → ℕ) (table : ℕ) (link : TableLink) : Type 0 where
  pub reached : IsReached word levels table (suc link.below) link.parent
  pub cleared : IsCleared word word' link

-- of a removal: the first table alone is left, and no word changes
pub record IsEnded (word word' : ℕ → ℕ) (table : ℕ) : Type 0 where
  pub last : pages_reached word levels table ≡ 1
  pub same : (q : ℕ) → word' q ≡ word q

-- the kinds of turns, with the places that they are about
pub data Move : Type 0 where
  Prune : Option ℕ → TableLink → Move
  Empty : StayingTable → Move
  Fill : StayingTable → Move
  Make : EmptySlot → ℕ → Move
  Link : Ahead → Move
  TakeAway : TableLink → Move
  End : Move

-- what the turn does to the words of the tables from the first one on
abbrev pub IsMoved : Wants → (ℕ → ℕ) → (ℕ → ℕ) → ℕ → Move → Type 0
IsMoved want word word' table (Prune there link) = IsPruned want word word' table there link
IsMoved want word word' table (Empty t) = IsEmptied want word word' table t
IsMoved want word word' table (Fill t) = IsFilled want word word' table t
IsMoved want word word' table (Make slot page) = IsMadeAhead want word word' table slot page
IsMoved want word word' table (Link ahead) = IsLinked want word word' table ahead
IsMoved want word word' table (TakeAway link) = IsTakenAway word word' table link
IsMoved want word word' table End = IsEnded word word' table

-- which turn an edit is at: a removal takes tables away; else a page that is ahead is linked, and where none is the tables
-- are mended
abbrev pub IsAtTurn : Bool → Option Ahead → Move → Type 0
IsAtTurn removing ahead (Prune there link) = (removing ≡ false) × (ahead ≡ None)
IsAtTurn removing ahead (Empty t) = (removing ≡ false) × (ahead ≡ None)
IsAtTurn removing ahead (Fill t) = (removing ≡ false) × (ahead ≡ None)
IsAtTurn removing ahead (Make slot page) = (removing ≡ false) × (ahead ≡ None)
IsAtTurn removing ahead (Link linked) = (removing ≡ false) × (ahead ≡ Some linked)
IsAtTurn removing ahead (TakeAway link) = (removing ≡ true) × (ahead ≡ None)
IsAtTurn removing ahead End = (removing ≡ true) × (ahead ≡ None)

-- the page that is ahead after the turn
abbrev pub ahead_after : Move → Option Ahead
ahead_after (Prune there link) = None
ahead_after (Empty t) = None
ahead_after (Fill t) = None
ahead_after (Make slot page) = Some (record { at = word_place slot; page = page })
ahead_after (Link ahead) = None
ahead_after (TakeAway link) = None
ahead_after End = None

-- one turn of an edit: one turn less is left, the words and the page ahead are by its kind, and what begins below the new
-- cursor was done before it
pub record IsTurn (old new : EditView) (want : Wants) (word word' : ℕ → ℕ) (move : Move) : Type 0 where
  pub left : new.left + 1 ≡ old.left
  pub table : new.table ≡ old.table
  pub removing : new.removing ≡ old.removing
  pub at : IsAtTurn old.removing old.ahead move
  pub ahead : new.ahead ≡ ahead_after move
  pub cursor : old.removing ≡ false → IsDoneBelow want word new.cursor levels old.table 0
  pub moved : IsMoved want word word' old.table move

-- ---- bytes

-- the page that the turn writes; the last turn of a removal writes none, and the first table stands for it
abbrev pub written_page : ℕ → Move → ℕ
written_page table (Prune there link) = link.parent
written_page table (Empty t) = t.page
written_page table (Fill t) = t.page
written_page table (Make slot page) = page
written_page table (Link ahead) = ahead.at - ahead.at % 4096
written_page table (TakeAway link) = link.parent
written_page table End = table

-- ---- translations

-- translations of the tables are flushed: where a valid word goes, or a page is given back
abbrev pub is_flushed : Move → Bool
is_flushed (Prune there link) = true
is_flushed (Empty t) = true
is_flushed (Fill t) = false
is_flushed (Make slot page) = false
is_flushed (Link ahead) = false
is_flushed (TakeAway link) = true
is_flushed End = true

-- ---- pages

-- how many tables stand that lacked
abbrev pub tables_linked : Move → ℕ
tables_linked (Prune there link) = 0
tables_linked (Empty t) = 0
tables_linked (Fill t) = 0
tables_linked (Make slot page) = 0
tables_linked (Link ahead) = 1
tables_linked (TakeAway link) = 0
tables_linked End = 0

-- the turn gives the page back
abbrev pub is_given : ℕ → Move → ℕ → Bool
is_given table (Prune there link) page = nat_eq link.page page
is_given table (Empty t) page = false
is_given table (Fill t) page = false
is_given table (Make slot made) page = false
is_given table (Link ahead) page = false
is_given table (TakeAway link) page = nat_eq link.page page
is_given table End page = nat_eq table page

-- the turn takes the page
abbrev pub is_taken : Move → ℕ → Bool
is_taken (Prune there link) page = false
is_taken (Empty t) page = false
is_taken (Fill t) page = false
is_taken (Make slot made) page = nat_eq made page
is_taken (Link ahead) page = false
is_taken (TakeAway link) page = false
is_taken End page = false

-- how many pages the turn gives back, and how many it takes
abbrev pub given_count : Move → ℕ
given_count (Prune there link) = 1
given_count (Empty t) = 0
given_count (Fill t) = 0
given_count (Make slot page) = 0
given_count (Link ahead) = 0
given_count (TakeAway link) = 1
given_count End = 1

abbrev pub taken_count : Move → ℕ
taken_count (Prune there link) = 0
taken_count (Empty t) = 0
taken_count (Fill t) = 0
taken_count (Make slot page) = 1
taken_count (Link ahead) = 0
taken_count (TakeAway link) = 0
taken_count End = 0

-- the pool after the turn: the page that it gives back is free, the one that it takes is the pool's, was free and isn't now, and
-- all others are as they were
pub record IsPoolAfter (table : ℕ) (move : Move) (old new : PoolView) : Type 0 where
  pub base : new.base ≡ old.base
  pub size : new.size ≡ old.size
  pub from : (page : ℕ) → is_taken move page ≡ true → IsPageOf old page
  pub was_free : (page : ℕ) → is_taken move page ≡ true → is_free old page ≡ true
  pub free : (page : ℕ) → is_free new page ≡ (if is_given table move page then true else if is_taken move page then false else is_free old page)
  pub used : used_of new + given_count move ≡ used_of old + taken_count move
