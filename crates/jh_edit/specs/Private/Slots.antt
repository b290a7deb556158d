-- Slots of a table as the code goes over them.
use Rattle.std.specs.Prelude.{◌≡◌, ℕ, ◌+◌, ◌*◌, ◌%◌, ◌^◌, ◌<◌, ◌≤◌, Bool, List, Some, None, slice_index_or, if◌then◌else◌}
use Rattle.jh_num.specs.declared.address.TheConstants.{ADDRESS_END}
use Rattle.jh_num.specs.declared.level.TheConstants.{LAST_LEVEL}
use Rattle.jh_desc.specs.declared.descriptor.Descriptor.{Descriptor}
use Rattle.jh_desc.specs.declared.descriptor.Descriptor.TheVariants.{Invalid, Table, Leaf}
use Rattle.jh_desc.specs.Descriptors.{read_of}
use Rattle.jh_walk.specs.Counts.{by_next, count_from}
use Rattle.jh_shape.specs.declared.want.Want.{Want}
use Rattle.jh_shape.specs.declared.want.Want.TheVariants.{Nothing}
use Rattle.jh_shape.specs.Laws.{is_to_table}
use Rattle.jh_shape.specs.Wanted.{Wants, tables_under}
use Rattle.jh_edit.specs.Trees.{lacking, staying}
use Rattle.jh_edit.specs.Turns.{is_wrong_leaf, lacks_leaf, turns_at}

-- a place where a table can stand
pub record IsTablePlace (table : ℕ) : Type 0 where
  pub aligned : table % 4096 ≡ 0
  pub below : table < ADDRESS_END

-- a table that a descriptor of the level names stands above the last level, at a place where one can stand
abbrev pub LeadsToTable : ℕ → Descriptor → Type 0
LeadsToTable level Invalid = Unit {0}
LeadsToTable level (Leaf out rights device) = Unit {0}
LeadsToTable level (Table next) = (level < LAST_LEVEL) × IsTablePlace next

-- an address where a table with so many levels left can begin
pub record IsTableStart (left start : ℕ) : Type 0 where
  pub begins : start % 2 ^ (12 + 9 * left) ≡ 0
  pub bound : start + 2 ^ (12 + 9 * left) ≤ ADDRESS_END

-- what is wanted of the slot of that number
abbrev pub want_at : List Want → ℕ → Want
want_at wants slot = slice_index_or wants slot Nothing

-- the slot has a leaf that isn't wanted so
abbrev pub wrong_at : List Want → (ℕ → ℕ) → ℕ → ℕ → ℕ → Bool
wrong_at wants word level table slot = is_wrong_leaf (want_at wants slot) (read_of (word (table + 8 * slot)) level)

-- the slot lacks the leaf that is wanted there
abbrev pub lacks_at : List Want → (ℕ → ℕ) → ℕ → ℕ → ℕ → Bool
lacks_at wants word level table slot = lacks_leaf (want_at wants slot) (read_of (word (table + 8 * slot)) level)

-- the turns of a slot of a table that stays, but for those of the leaves of the table: the slot begins at the address, that
-- is wanted and that stands there
abbrev pub slot_turns : Wants → (ℕ → ℕ) → ℕ → ℕ → Want → Descriptor → ℕ
slot_turns wants word n start want d =
    lacking (2 * tables_under wants n start) want d
    + by_next (count_from (staying wants) (turns_at wants) word n (if is_to_table want then Some start else None)) d
