-- Sums over the tables that valid descriptors reach from a first table, with a state that each slot hands down.
use Rattle.std.specs.Prelude.{◌≡◌, ℕ, ◌+◌, ◌-◌, ◌*◌, ◌<◌, ◌⊎◌, Option, zero, suc}
use Rattle.jh_desc.specs.declared.descriptor.Descriptor.{Descriptor}
use Rattle.jh_desc.specs.declared.descriptor.Descriptor.TheVariants.{Invalid, Table, Leaf}
use Rattle.jh_desc.specs.Descriptors.{read_of}
use Rattle.jh_num.specs.declared.level.TheConstants.{LAST_LEVEL}
use Rattle.jh_num.specs.Below.{sum_below}

-- what the next table gives, where the descriptor names one
abbrev pub by_next : (ℕ → ℕ) → Descriptor → ℕ
by_next f Invalid = 0
by_next f (Leaf out rights device) = 0
by_next f (Table next) = f next

-- the state at the table that a slot leads to, by the state at the slot's own table, the levels below that one and the
-- number of the slot
abbrev pub Step : Type 0
Step = Option ℕ → ℕ → ℕ → Option ℕ

-- what a table weighs, by the state there, the words, the levels below it and its address
abbrev pub StateWeight : Type 0
StateWeight = Option ℕ → (ℕ → ℕ) → ℕ → ℕ → ℕ

-- the sum of the weights of the table, with so many levels left and in that state, and of all tables that it reaches,
-- each as often as it is reached and in the state in which it is
unfoldable pub count_from : Step → StateWeight → (ℕ → ℕ) → ℕ → Option ℕ → ℕ → ℕ
count_from step weight word zero state table = 0
count_from step weight word (suc n) state table =
    weight state word n table + sum_below 512 (λ slot. by_next (count_from step weight word n (step state n slot)) (read_of (word (table + 8 * slot)) (LAST_LEVEL - n)))

-- a slot of the table of the level has the descriptor of that table of the next level
pub record NamesTable (word : ℕ → ℕ) (level table slot next : ℕ) : Type 0 where
  pub within : slot < 512
  pub descriptor : read_of (word (table + 8 * slot)) level ≡ Table next

-- from a table with so many levels left and in a state the page is reached, with `left` levels left at it and in the
-- state `there`: it is that table, or it is reached from one that a slot of the table names
abbrev pub IsReachedAs : Step → (ℕ → ℕ) → ℕ → Option ℕ → ℕ → ℕ → Option ℕ → ℕ → Type 0
IsReachedAs step word zero state table left there page = ⊥
IsReachedAs step word (suc n) state table left there page =
    ((suc n ≡ left) × ((table ≡ page) × (state ≡ there)))
    ⊎ ((slot next : ℕ) × (NamesTable word (LAST_LEVEL - n) table slot next × IsReachedAs step word n (step state n slot) next left there page))

-- the state is the same everywhere
abbrev pub unmoved : Step
unmoved state n slot = state
