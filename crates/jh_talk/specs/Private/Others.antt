-- The cell's device that talks with one of root.
use Rattle.std.specs.Prelude.{◌≡◌, ◌≢◌, ℕ, Bool, false, ◌&&◌, ◌==◌, slice_get}
use Rattle.std.specs.Option.{option_map_or}
use Rattle.jh_cellcfg.specs.declared.config.CellConfig.{CellConfig}
use Rattle.jh_cellcfg.specs.declared.config.PciDevice.{PciDevice}
use Rattle.jh_talk.specs.declared.pair.Pair.{Pair}
use Rattle.jh_talk.specs.Pairs.{can_talk, IsPair}

-- the device of that number can talk, and has this bdf
abbrev pub talks_as : ℕ → ℕ → PciDevice → Bool
talks_as bdf number device = can_talk number device && (bdf == device.bdf)

-- the cell's device of that number can talk, and has this bdf
abbrev pub is_other : CellConfig → ℕ → ℕ → Bool
is_other cell bdf number = option_map_or (talks_as bdf number) (slice_get cell.pci_devices number) false

-- no device of the cell can talk and has this bdf
abbrev pub HasNoOther : CellConfig → ℕ → Type 0
HasNoOther cell bdf = (number : ℕ) → is_other cell bdf number ≡ false

-- root's device of that number is in no pair
abbrev pub IsNotPaired : CellConfig → CellConfig → ℕ → Type 0
IsNotPaired root cell number = (pair : Pair) → IsPair root cell pair → pair.number ≢ number

-- the pair is of root's device of that number
pub record IsPairOf (root cell : CellConfig) (number : ℕ) (pair : Pair) : Type 0 where
  pub is : IsPair root cell pair
  pub number_is : pair.number ≡ number
