-- The tables that wants make, from a table on.
use Rattle.std.specs.Prelude.{ℕ, ◌+◌, ◌-◌, ◌*◌, zero, suc}
use Rattle.jh_num.specs.declared.level.TheConstants.{LAST_LEVEL}
use Rattle.jh_num.specs.Levels.{slot_size}
use Rattle.jh_num.specs.Below.{sum_below}
use Rattle.jh_shape.specs.declared.want.Want.{Want}
use Rattle.jh_shape.specs.declared.want.Want.TheVariants.{Nothing, Table, Leaf}

-- what is wanted of a slot, by its level and the address where it begins
abbrev pub Wants : Type 0
Wants = ℕ → ℕ → Want

-- where the slot of that number begins, in the table of the level that begins at that address
abbrev pub slot_start : ℕ → ℕ → ℕ → ℕ
slot_start level start slot = start + slot * slot_size level

-- so many tables where the slot is wanted as a table, else none
abbrev pub if_table : ℕ → Want → ℕ
if_table tables Nothing = 0
if_table tables Table = tables
if_table tables (Leaf out rights device) = 0

-- the tables that are wanted from a table on that begins at the address, itself among them, with so many levels left at it
unfoldable pub tables_under : Wants → ℕ → ℕ → ℕ
tables_under want zero start = 0
tables_under want (suc n) start =
    1 + sum_below 512 (λ slot. if_table (tables_under want n (slot_start (LAST_LEVEL - n) start slot)) (want (LAST_LEVEL - n) (slot_start (LAST_LEVEL - n) start slot)))
