-- The order of findings: by rule, then the cells, then what is theirs.
use Rattle.std.specs.Prelude.{◌≡◌, ◌^◌, ◌<◌, ◌≤◌, ℕ, List, length, Some, slice_get, ◌⊎◌}
use Rattle.jh_cellcfg.specs.declared.config.CellConfig.{CellConfig}
use Rattle.jh_check.specs.declared.finding.Finding.{Finding}

-- the one number is below the other, or both are equal and the rest decides
abbrev pub Then : ℕ → ℕ → Type 0 → Type 0
Then m n rest = (m < n) ⊎ ((m ≡ n) × rest)

-- the one finding precedes the other: by its rule, then the one cell, the other, the one item, the other
abbrev pub Precedes : Finding → Finding → Type 0
Precedes one other =
    Then one.number other.number (Then one.cell other.cell (Then one.other_cell other.other_cell (Then one.item other.item (one.other_item < other.other_item))))

-- there are at most 16 cells, and the regions of each and its devices can be told apart by a number of 32 bits
pub record IsCountable (all : List CellConfig) : Type 0 where
  pub cells : length all ≤ 16
  pub regions : (a : ℕ) (cell : CellConfig) → slice_get all a ≡ Some cell → length cell.memory_regions ≤ 2 ^ 32
  pub devices : (a : ℕ) (cell : CellConfig) → slice_get all a ≡ Some cell → length cell.pci_devices ≤ 2 ^ 32
