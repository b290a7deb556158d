-- Tables that stand as they are wanted, what wants alone give an address, and what a tree of tables lacks.
use Rattle.std.specs.Prelude.{◌≡◌, ℕ, ◌+◌, ◌-◌, ◌*◌, ◌%◌, ◌<◌, Option, Some, None, zero, suc, if◌then◌else◌}
use Rattle.jh_num.specs.declared.level.TheConstants.{LAST_LEVEL}
use Rattle.jh_num.specs.Below.{sum_below}
use Rattle.jh_desc.specs.declared.descriptor.Descriptor.{Descriptor}
use Rattle.jh_desc.specs.declared.descriptor.Descriptor.TheVariants.{Invalid, Table, Leaf}
use Rattle.jh_desc.specs.declared.descriptor.Hit.{Hit}
use Rattle.jh_desc.specs.Descriptors.{read_of}
use Rattle.jh_desc.specs.Levels.{index_of}
use Rattle.jh_walk.specs.Walks.{hit_of}
use Rattle.jh_walk.specs.Counts.{StateWeight, Step, count_from}
use Rattle.jh_shape.specs.declared.want.Want.{Want}
use Rattle.jh_shape.specs.declared.want.Want.TheVariants.{Nothing, Table as WantTable, Leaf as WantLeaf}
use Rattle.jh_shape.specs.Laws.{is_to_table}
use Rattle.jh_shape.specs.Wanted.{Wants, slot_start, tables_under}

-- ---- tables that stand

-- the descriptor is what is wanted: invalid where nothing is, a table from which that goes on where a table is, and just
-- the leaf where one is
abbrev pub IsAsWanted : (ℕ → Type 0) → Want → Descriptor → Type 0
IsAsWanted on Nothing d = d ≡ Invalid
IsAsWanted on WantTable d = (next : ℕ) × ((d ≡ Table next) × on next)
IsAsWanted on (WantLeaf out rights device) d = d ≡ Leaf out rights device

-- from a table on that begins at the address, with so many levels left at it, each descriptor is what is wanted
unfoldable pub Stands : Wants → (ℕ → ℕ) → ℕ → ℕ → ℕ → Type 0
Stands want word zero table start = ⊥
Stands want word (suc n) table start =
    (slot : ℕ) → slot < 512
    → IsAsWanted (λ next. Stands want word n next (slot_start (LAST_LEVEL - n) start slot)) (want (LAST_LEVEL - n) (slot_start (LAST_LEVEL - n) start slot)) (read_of (word (table + 8 * slot)) (LAST_LEVEL - n))

-- ---- what is wanted of an address

-- what a want gives an address, where `on` is what the wants of the next level give it
abbrev pub walked_on : Option Hit → ℕ → ℕ → Want → Option Hit
walked_on on level at Nothing = None
walked_on on level at WantTable = on
walked_on on level at (WantLeaf out rights device) = Some (hit_of level at out rights device)

-- what the wants give an address, from a table on that begins at `start`, with so many levels left at it
unfoldable pub walked : Wants → ℕ → ℕ → ℕ → Option Hit
walked want zero start at = None
walked want (suc n) start at =
    walked_on (walked want n (slot_start (LAST_LEVEL - n) start (index_of (LAST_LEVEL - n) at)) at) (LAST_LEVEL - n) at
    (want (LAST_LEVEL - n) (slot_start (LAST_LEVEL - n) start (index_of (LAST_LEVEL - n) at)))

-- no page is wanted as a table
abbrev pub WantsPagesAtTheEnd : Wants → Type 0
WantsPagesAtTheEnd want = (start : ℕ) → start % 4096 ≡ 0 → want LAST_LEVEL start ≡ WantTable → ⊥

-- wherever the one wants a table, the other does
abbrev pub WantsItsTables : Wants → Wants → Type 0
WantsItsTables want other = (level start : ℕ) → want level start ≡ WantTable → other level start ≡ WantTable

-- ---- what is lacking

-- where a table begins that a slot of a table leads to, if it stays: the slot's own table stays, and a table is wanted in
-- the slot; None of one that goes
abbrev pub staying : Wants → Step
staying want None n slot = None
staying want (Some start) n slot =
    if is_to_table (want (LAST_LEVEL - n) (slot_start (LAST_LEVEL - n) start slot)) then Some (slot_start (LAST_LEVEL - n) start slot) else None

-- so much where a table is wanted and none stands, else nothing
abbrev pub lacking : ℕ → Want → Descriptor → ℕ
lacking much Nothing d = 0
lacking much (WantLeaf out rights device) d = 0
lacking much WantTable Invalid = much
lacking much WantTable (Leaf out rights device) = much
lacking much WantTable (Table next) = 0

-- the tables that the slots of a table lack, where it stays
abbrev pub lack_at : Wants → StateWeight
lack_at want None word n table = 0
lack_at want (Some start) word n table =
    sum_below 512 (λ slot. lacking (tables_under want n (slot_start (LAST_LEVEL - n) start slot)) (want (LAST_LEVEL - n) (slot_start (LAST_LEVEL - n) start slot)) (read_of (word (table + 8 * slot)) (LAST_LEVEL - n)))

-- the tables that are wanted and don't stand, from a table on that stays and begins at the address, with so many levels left
-- at it
abbrev pub lack_of : Wants → (ℕ → ℕ) → ℕ → ℕ → ℕ → ℕ
lack_of want word n table start = count_from (staying want) (lack_at want) word n (Some start) table
