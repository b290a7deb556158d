-- The turns that an edit of one tree of tables takes, its plan, and what each of its turns leaves of the tables.
use Rattle.std.specs.Prelude.{◌≡◌, ◌≢◌, ℕ, ◌+◌, ◌-◌, ◌*◌, ◌<◌, ◌⊎◌, Bool, true, false, not, ◌&&◌, nat_eq, Some, None, zero, suc, if◌then◌else◌}
use Rattle.jh_num.specs.declared.level.TheConstants.{LAST_LEVEL}
use Rattle.jh_num.specs.declared.rights.Rights.{Rights}
use Rattle.jh_num.specs.Below.{any_below, sum_below}
use Rattle.jh_desc.specs.declared.descriptor.Descriptor.{Descriptor}
use Rattle.jh_desc.specs.declared.descriptor.Descriptor.TheVariants.{Invalid, Table, Leaf}
use Rattle.jh_desc.specs.Descriptors.{read_of}
use Rattle.jh_walk.specs.Counts.{StateWeight, count_from}
use Rattle.jh_shape.specs.declared.want.Want.{Want}
use Rattle.jh_shape.specs.declared.want.Want.TheVariants.{Nothing, Table as WantTable, Leaf as WantLeaf}
use Rattle.jh_shape.specs.Laws.{is_to_table}
use Rattle.jh_shape.specs.Wanted.{Wants, slot_start, tables_under}
use Rattle.jh_edit.specs.Trees.{IsAsWanted, staying, lacking}

-- ---- leaves

-- both hold, or neither
abbrev pub is_same_flag : Bool → Bool → Bool
is_same_flag true other = other
is_same_flag false other = not other

-- each right is the same
abbrev pub are_same_rights : Rights → Rights → Bool
are_same_rights rights other =
    is_same_flag rights.read other.read && (is_same_flag rights.write other.write && is_same_flag rights.execute other.execute)

-- the descriptor is just the leaf that is wanted: its place, its rights and its kind of memory
abbrev pub is_wanted_leaf : Want → Descriptor → Bool
is_wanted_leaf Nothing d = false
is_wanted_leaf WantTable d = false
is_wanted_leaf (WantLeaf out rights device) Invalid = false
is_wanted_leaf (WantLeaf out rights device) (Table next) = false
is_wanted_leaf (WantLeaf out rights device) (Leaf out' rights' device') =
    nat_eq out' out && (are_same_rights rights' rights && is_same_flag device' device)

-- the descriptor is a leaf that isn't wanted so
abbrev pub is_wrong_leaf : Want → Descriptor → Bool
is_wrong_leaf want Invalid = false
is_wrong_leaf want (Table next) = false
is_wrong_leaf want (Leaf out rights device) = not (is_wanted_leaf want (Leaf out rights device))

-- a leaf is wanted, and the descriptor isn't just that one
abbrev pub lacks_leaf : Want → Descriptor → Bool
lacks_leaf Nothing d = false
lacks_leaf WantTable d = false
lacks_leaf (WantLeaf out rights device) d = not (is_wanted_leaf (WantLeaf out rights device) d)

-- ---- turns

-- one turn where the test holds, else none
abbrev pub turn_if : Bool → ℕ
turn_if test = if test then 1 else 0

-- a slot of the table has a leaf that isn't wanted so
abbrev pub has_wrong_leaf : Wants → (ℕ → ℕ) → ℕ → ℕ → ℕ → Bool
has_wrong_leaf want word n table start =
    any_below (λ slot. is_wrong_leaf (want (LAST_LEVEL - n) (slot_start (LAST_LEVEL - n) start slot)) (read_of (word (table + 8 * slot)) (LAST_LEVEL - n))) 512

-- a slot of the table lacks the leaf that is wanted there
abbrev pub has_lacking_leaf : Wants → (ℕ → ℕ) → ℕ → ℕ → ℕ → Bool
has_lacking_leaf want word n table start =
    any_below (λ slot. lacks_leaf (want (LAST_LEVEL - n) (slot_start (LAST_LEVEL - n) start slot)) (read_of (word (table + 8 * slot)) (LAST_LEVEL - n))) 512

-- the turns of one table: where it goes, the one that gives it back; where it stays, one that empties it of wrong leaves, one
-- that fills in those that it lacks, and for each table that it or one of those lacks, one that makes it and one that links it
abbrev pub turns_at : Wants → StateWeight
turns_at want None word n table = 1
turns_at want (Some start) word n table =
    turn_if (has_wrong_leaf want word n table start)
    + (turn_if (has_lacking_leaf want word n table start)
    + sum_below 512 (λ slot. lacking (2 * tables_under want n (slot_start (LAST_LEVEL - n) start slot)) (want (LAST_LEVEL - n) (slot_start (LAST_LEVEL - n) start slot)) (read_of (word (table + 8 * slot)) (LAST_LEVEL - n))))

-- the turns from a table on that stays and begins at the address, with so many levels left at it
abbrev pub turns_of : Wants → (ℕ → ℕ) → ℕ → ℕ → ℕ → ℕ
turns_of want word n table start = count_from (staying want) (turns_at want) word n (Some start) table

-- ---- a turn of one table

-- the descriptor of a slot after its table is emptied: invalid where it was a leaf that isn't wanted so
abbrev pub emptied : Want → Descriptor → Descriptor
emptied want d = if is_wrong_leaf want d then Invalid else d

-- and after its table is filled: the leaf that is wanted, if one is
abbrev pub filled : Want → Descriptor → Descriptor
filled Nothing d = d
filled WantTable d = d
filled (WantLeaf out rights device) d = Leaf out rights device

-- each slot of the table that begins at the address is emptied of a leaf that isn't wanted so
abbrev pub EmptiesTable : Wants → (ℕ → ℕ) → (ℕ → ℕ) → ℕ → ℕ → ℕ → Type 0
EmptiesTable want word word' n table start =
    (slot : ℕ) → slot < 512 → read_of (word' (table + 8 * slot)) (LAST_LEVEL - n) ≡ emptied (want (LAST_LEVEL - n) (slot_start (LAST_LEVEL - n) start slot)) (read_of (word (table + 8 * slot)) (LAST_LEVEL - n))

-- each slot of the table has the leaf that is wanted there
abbrev pub FillsTable : Wants → (ℕ → ℕ) → (ℕ → ℕ) → ℕ → ℕ → ℕ → Type 0
FillsTable want word word' n table start =
    (slot : ℕ) → slot < 512 → read_of (word' (table + 8 * slot)) (LAST_LEVEL - n) ≡ filled (want (LAST_LEVEL - n) (slot_start (LAST_LEVEL - n) start slot)) (read_of (word (table + 8 * slot)) (LAST_LEVEL - n))

-- the turns of each table that the table's slots lead to are the same after
abbrev pub KeepsTurnsBelow : Wants → (ℕ → ℕ) → (ℕ → ℕ) → ℕ → ℕ → ℕ → Type 0
KeepsTurnsBelow want word word' n table start =
    (slot next : ℕ) → slot < 512 → read_of (word (table + 8 * slot)) (LAST_LEVEL - n) ≡ Table next
    → count_from (staying want) (turns_at want) word' n (staying want (Some start) n slot) next ≡ count_from (staying want) (turns_at want) word n (staying want (Some start) n slot) next

-- no slot of the table has a table where none is wanted
abbrev pub HasNoTableTooMany : Wants → (ℕ → ℕ) → ℕ → ℕ → ℕ → Type 0
HasNoTableTooMany want word n table start =
    (slot next : ℕ) → slot < 512 → is_to_table (want (LAST_LEVEL - n) (slot_start (LAST_LEVEL - n) start slot)) ≡ false → read_of (word (table + 8 * slot)) (LAST_LEVEL - n) ≡ Table next → ⊥

-- a table is wanted in the slot of the table; its word read invalid, and names the next one after; all other slots are as they
-- were
pub record LinksTable (want : Wants) (word word' : ℕ → ℕ) (n table start slot next : ℕ) : Type 0 where
  pub within : slot < 512
  pub wanted : want (LAST_LEVEL - n) (slot_start (LAST_LEVEL - n) start slot) ≡ WantTable
  pub invalid : read_of (word (table + 8 * slot)) (LAST_LEVEL - n) ≡ Invalid
  pub leads : read_of (word' (table + 8 * slot)) (LAST_LEVEL - n) ≡ Table next
  pub others : (i : ℕ) → i < 512 → i ≢ slot → read_of (word' (table + 8 * i)) (LAST_LEVEL - n) ≡ read_of (word (table + 8 * i)) (LAST_LEVEL - n)

-- no table is wanted in the slot of the table; its word named the next one, and reads invalid after; all other slots are as they
-- were
pub record PrunesTable (want : Wants) (word word' : ℕ → ℕ) (n table start slot next : ℕ) : Type 0 where
  pub within : slot < 512
  pub unwanted : is_to_table (want (LAST_LEVEL - n) (slot_start (LAST_LEVEL - n) start slot)) ≡ false
  pub leads : read_of (word (table + 8 * slot)) (LAST_LEVEL - n) ≡ Table next
  pub invalid : read_of (word' (table + 8 * slot)) (LAST_LEVEL - n) ≡ Invalid
  pub others : (i : ℕ) → i < 512 → i ≢ slot → read_of (word' (table + 8 * i)) (LAST_LEVEL - n) ≡ read_of (word (table + 8 * i)) (LAST_LEVEL - n)

-- ---- what a turn leaves

-- what is asked of a slot of a table that stays: where its descriptor is as wanted its word is the same after, and below a
-- table that is wanted and stands the same goes on
pub record IsKeptRight (on : ℕ → Type 0) (want : Want) (d : Descriptor) (same : Type 0) : Type 0 where
  pub word : IsAsWanted (λ next. Unit {0}) want d → same
  pub below : (next : ℕ) → want ≡ WantTable → d ≡ Table next → on next

-- from a table on that stays, each slot that is right, below right tables all the way, has the same word after
unfoldable pub KeepsRight : Wants → (ℕ → ℕ) → (ℕ → ℕ) → ℕ → ℕ → ℕ → Type 0
KeepsRight want word word' zero table start = Unit {0}
KeepsRight want word word' (suc n) table start =
    (slot : ℕ) → slot < 512
    → IsKeptRight (λ next. KeepsRight want word word' n next (slot_start (LAST_LEVEL - n) start slot)) (want (LAST_LEVEL - n) (slot_start (LAST_LEVEL - n) start slot)) (read_of (word (table + 8 * slot)) (LAST_LEVEL - n)) (word' (table + 8 * slot) ≡ word (table + 8 * slot))

-- what is asked of a slot: where its descriptor is as wanted its word is the same after, and below each table the same goes
-- on
pub record IsLeftAlone (on : ℕ → Type 0) (want : Want) (d : Descriptor) (same : Type 0) : Type 0 where
  pub word : IsAsWanted (λ next. Unit {0}) want d → same
  pub below : (next : ℕ) → d ≡ Table next → on next

-- from a table on, each word that reads as what is wanted of its slot is the same after, also below tables that go
unfoldable pub LeavesAlone : Wants → (ℕ → ℕ) → (ℕ → ℕ) → ℕ → ℕ → ℕ → Type 0
LeavesAlone want word word' zero table start = Unit {0}
LeavesAlone want word word' (suc n) table start =
    (slot : ℕ) → slot < 512
    → IsLeftAlone (λ next. LeavesAlone want word word' n next (slot_start (LAST_LEVEL - n) start slot)) (want (LAST_LEVEL - n) (slot_start (LAST_LEVEL - n) start slot)) (read_of (word (table + 8 * slot)) (LAST_LEVEL - n)) (word' (table + 8 * slot) ≡ word (table + 8 * slot))

-- what is asked of a slot by its descriptor, its word and its word after: of an invalid one nothing; a valid one has the same
-- word, and below a table the same goes on, or it reads invalid after
abbrev pub BreaksFirst : (ℕ → Type 0) → ℕ → ℕ → ℕ → Descriptor → Type 0
BreaksFirst on level word word' Invalid = Unit {0}
BreaksFirst on level word word' (Leaf out rights device) = (word' ≡ word) ⊎ (read_of word' level ≡ Invalid)
BreaksFirst on level word word' (Table next) = ((word' ≡ word) × on next) ⊎ (read_of word' level ≡ Invalid)

-- break before make: from a table on, as far as the tables are still there, each valid word is the same or reads invalid after
unfoldable pub Breaks : (ℕ → ℕ) → (ℕ → ℕ) → ℕ → ℕ → Type 0
Breaks word word' zero table = Unit {0}
Breaks word word' (suc n) table =
    (slot : ℕ) → slot < 512 → BreaksFirst (Breaks word word' n) (LAST_LEVEL - n) (word (table + 8 * slot)) (word' (table + 8 * slot)) (read_of (word (table + 8 * slot)) (LAST_LEVEL - n))
