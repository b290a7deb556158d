-- What contracts see of an edit, and its plan: the turns that are left, the page that it has taken ahead, and how far its
-- search has come.
use Rattle.std.specs.Prelude.{◌≡◌, ◌≢◌, ℕ, ◌+◌, ◌-◌, ◌*◌, ◌%◌, ◌<◌, ◌⊎◌, Bool, true, false, Option, Some, None, IfSome, zero, suc}
use Rattle.jh_num.specs.declared.level.TheConstants.{LAST_LEVEL}
use Rattle.jh_desc.specs.declared.descriptor.Descriptor.{Descriptor}
use Rattle.jh_desc.specs.declared.descriptor.Descriptor.TheVariants.{Invalid, Table, Leaf}
use Rattle.jh_desc.specs.Descriptors.{read_of}
use Rattle.jh_walk.specs.Counts.{IsReachedAs}
use Rattle.jh_walk.specs.Pages.{HaveSameTables, pages_reached, times}
use Rattle.jh_walk.specs.Walks.{levels}
use Rattle.jh_shape.specs.declared.want.Want.{Want}
use Rattle.jh_shape.specs.declared.want.Want.TheVariants.{Nothing, Table as WantTable, Leaf as WantLeaf}
use Rattle.jh_shape.specs.Wanted.{Wants, slot_start}
use Rattle.jh_edit.specs.declared.edit.Ahead.{Ahead}
use Rattle.jh_edit.specs.Trees.{staying}
use Rattle.jh_edit.specs.Turns.{turns_of}

-- an edit: the first table, the turns that are left, whether all tables are to go, the page that is taken ahead, and the
-- address below which the tables stand
pub record EditView : Type 0 where
  pub table : ℕ
  pub left : ℕ
  pub removing : Bool
  pub ahead : Option Ahead
  pub cursor : ℕ

-- how many pages are taken ahead
abbrev pub ahead_count : Option Ahead → ℕ
ahead_count None = 0
ahead_count (Some ahead) = 1

-- ---- a page that is made

-- the descriptor of a page that is made: the leaf that is wanted, and else an invalid one
abbrev pub IsMade : Want → Descriptor → Type 0
IsMade Nothing d = d ≡ Invalid
IsMade WantTable d = d ≡ Invalid
IsMade (WantLeaf out rights device) d = d ≡ Leaf out rights device

-- each descriptor of the table is made, which begins at the address and has so many levels below it
abbrev pub IsMadeTable : Wants → (ℕ → ℕ) → ℕ → ℕ → ℕ → Type 0
IsMadeTable want word n table start =
    (slot : ℕ) → slot < 512 → IsMade (want (LAST_LEVEL - n) (slot_start (LAST_LEVEL - n) start slot)) (read_of (word (table + 8 * slot)) (LAST_LEVEL - n))

-- the slot of a table that stays, in which a table is wanted and none stands: the table, where it begins, the number of the
-- slot, and the levels below the wanted table
pub record EmptySlot : Type 0 where
  pub parent : ℕ
  pub start : ℕ
  pub slot : ℕ
  pub below : ℕ

-- the address of the slot's word, and where the wanted table begins
abbrev pub word_place : EmptySlot → ℕ
word_place s = s.parent + 8 * s.slot

abbrev pub begin_of : EmptySlot → ℕ
begin_of s = slot_start (LAST_LEVEL - suc s.below) s.start s.slot

-- a table is wanted in the slot, the table that has the slot is reached as one that stays, and the slot's word reads invalid
pub record IsEmptySlot (want : Wants) (word : ℕ → ℕ) (table : ℕ) (s : EmptySlot) : Type 0 where
  pub within : s.slot < 512
  pub stays : IsReachedAs (staying want) word levels (Some 0) table (suc (suc s.below)) (Some s.start) s.parent
  pub wants : want (LAST_LEVEL - suc s.below) (begin_of s) ≡ WantTable
  pub invalid : read_of (word (word_place s)) (LAST_LEVEL - suc s.below) ≡ Invalid

-- the page that is taken ahead is made for such a slot, to whose word it will be linked, and no table leads to it yet
pub record IsAhead (want : Wants) (word : ℕ → ℕ) (table : ℕ) (ahead : Ahead) : Type 0 where
  pub slot : EmptySlot
  pub empty : IsEmptySlot want word table slot
  pub at : ahead.at ≡ word_place slot
  pub aligned : ahead.page % 4096 ≡ 0
  pub apart : times word levels table ahead.page ≡ 0
  pub made : IsMadeTable want word slot.below ahead.page (begin_of slot)

-- ---- how far the search has come

-- what is asked of a slot of a table that begins below the cursor: what is wanted stands, and below a table the same goes on;
-- but a table may still lack where the slot begins at the cursor or behind it
abbrev pub IsDoneSlot : Type 0 → (ℕ → Type 0) → Want → Descriptor → Type 0
IsDoneSlot Before on Nothing d = d ≡ Invalid
IsDoneSlot Before on (WantLeaf out rights device) d = d ≡ Leaf out rights device
IsDoneSlot Before on WantTable d = ((next : ℕ) × ((d ≡ Table next) × on next)) ⊎ ((Before → ⊥) × (d ≡ Invalid))

-- from a table on that stays, what begins below the cursor is done
unfoldable pub IsDoneBelow : Wants → (ℕ → ℕ) → ℕ → ℕ → ℕ → ℕ → Type 0
IsDoneBelow want word cursor zero table start = Unit {0}
IsDoneBelow want word cursor (suc n) table start =
    start < cursor → (slot : ℕ) → slot < 512
    → IsDoneSlot (slot_start (LAST_LEVEL - n) start slot < cursor) (λ next. IsDoneBelow want word cursor n next (slot_start (LAST_LEVEL - n) start slot)) (want (LAST_LEVEL - n) (slot_start (LAST_LEVEL - n) start slot)) (read_of (word (table + 8 * slot)) (LAST_LEVEL - n))

-- ---- the plan

-- each word of the page is the same after
abbrev pub HasSameWords : (ℕ → ℕ) → (ℕ → ℕ) → ℕ → Type 0
HasSameWords word word' page = (slot : ℕ) → slot < 512 → word' (page + 8 * slot) ≡ word (page + 8 * slot)

-- the plan of an edit to what is wanted: the turns that are left are those of the tables, less one where a page is ahead; the
-- page ahead is made for a slot; and what begins below the cursor is done
pub record PlansTarget (edit : EditView) (want : Wants) (word : ℕ → ℕ) : Type 0 where
  pub turns : edit.left + ahead_count edit.ahead ≡ turns_of want word levels edit.table 0
  pub ahead : IfSome edit.ahead (IsAhead want word edit.table)
  pub cursor : IsDoneBelow want word edit.cursor levels edit.table 0

-- the plan of a removal: a turn for each page that is reached, and no page ahead
pub record PlansRemoval (edit : EditView) (word : ℕ → ℕ) : Type 0 where
  pub turns : edit.left ≡ pages_reached word levels edit.table
  pub ahead : edit.ahead ≡ None

-- the edit plans just what the tables still want; a removal doesn't look at what is wanted
pub record Plans (edit : EditView) (want : Wants) (word : ℕ → ℕ) : Type 0 where
  pub target : edit.removing ≡ false → PlansTarget edit want word
  pub removal : edit.removing ≡ true → PlansRemoval edit word

-- ---- a removal

-- the table that a slot of another names is taken out: it names none itself, the slot's word reads invalid after, and the
-- other words of that table and of all tables below it are the same
pub record IsTakenOut (word word' : ℕ → ℕ) (n table slot next : ℕ) : Type 0 where
  pub within : slot < 512
  pub named : read_of (word (table + 8 * slot)) (LAST_LEVEL - n) ≡ Table next
  pub last : pages_reached word n next ≡ 1
  pub invalid : read_of (word' (table + 8 * slot)) (LAST_LEVEL - n) ≡ Invalid
  pub others : (i : ℕ) → i < 512 → i ≢ slot → word' (table + 8 * i) ≡ word (table + 8 * i)
  pub below : (i other : ℕ) → i < 512 → i ≢ slot → read_of (word (table + 8 * i)) (LAST_LEVEL - n) ≡ Table other → HaveSameTables word word' n other
