-- The leaves of tables, as descriptors say them, in order of address.
use Rattle.std.specs.Prelude.{◌≡◌, ℕ, ◌+◌, ◌-◌, ◌*◌, ◌<◌, ◌≤◌, List, [], ◌∷◌, ◌++◌, Option, Some, None, zero, suc}
use Rattle.jh_num.specs.declared.level.TheConstants.{LAST_LEVEL}
use Rattle.jh_num.specs.Levels.{slot_size}
use Rattle.jh_desc.specs.declared.descriptor.Descriptor.{Descriptor}
use Rattle.jh_desc.specs.declared.descriptor.Descriptor.TheVariants.{Invalid, Table, Leaf}
use Rattle.jh_desc.specs.declared.descriptor.Hit.{Hit}
use Rattle.jh_desc.specs.Descriptors.{read_of}
use Rattle.jh_walk.specs.Walks.{hit_of, levels}
use Rattle.jh_shape.specs.Wanted.{slot_start}
use Rattle.jh_edit.specs.declared.leaves.LeafAt.{LeafAt}
use Rattle.jh_edit.specs.declared.stage.Tree.{Tree}

-- the leaves that the descriptor of a slot leads to, which begins at the address; `on` tells those of a table of the next
-- level
abbrev pub leaves_on : (ℕ → List LeafAt) → ℕ → ℕ → Descriptor → List LeafAt
leaves_on on level start Invalid = []
leaves_on on level start (Leaf out rights device) = record { level = level; at = start; out = out; rights = rights; device = device } ∷ []
leaves_on on level start (Table next) = on next

-- those of the first so many slots
abbrev pub leaves_before : (ℕ → List LeafAt) → ℕ → List LeafAt
leaves_before leaves zero = []
leaves_before leaves (suc n) = leaves_before leaves n ++ leaves n

-- those of a table that begins at the address, with so many levels left at it
unfoldable pub leaves_of : (ℕ → ℕ) → ℕ → ℕ → ℕ → List LeafAt
leaves_of word zero table start = []
leaves_of word (suc n) table start =
    leaves_before (λ slot. leaves_on (λ next. leaves_of word n next (slot_start (LAST_LEVEL - n) start slot)) (LAST_LEVEL - n) (slot_start (LAST_LEVEL - n) start slot) (read_of (word (table + 8 * slot)) (LAST_LEVEL - n))) 512

-- those of a cell's tables, where it has some
abbrev pub leaves_in : (ℕ → ℕ) → Option Tree → List LeafAt
leaves_in word None = []
leaves_in word (Some tree) = leaves_of word levels tree.table 0

-- ---- what a leaf gives

-- the address lies in the leaf's slot, and this is what a walk finds there by the leaf
pub record GivesHit (leaf : LeafAt) (at : ℕ) (hit : Hit) : Type 0 where
  pub first : leaf.at ≤ at
  pub last : at < leaf.at + slot_size leaf.level
  pub is : hit ≡ hit_of leaf.level at leaf.out leaf.rights leaf.device

-- the one leaf's slot ends before the other's begins
abbrev pub Precedes : LeafAt → LeafAt → Type 0
Precedes leaf other = leaf.at + slot_size leaf.level ≤ other.at
