-- Which two devices talk: the first of root that is linked with one of the cell, where both have vectors enough.
use Rattle.std.specs.Prelude.{◌≡◌, ◌≤◌, ◌&&◌, ℕ, Bool, true, nat_le}
use Rattle.jh_cellcfg.specs.declared.config.CellConfig.{CellConfig}
use Rattle.jh_cellcfg.specs.declared.config.PciDevice.{PciDevice}
use Rattle.jh_check.specs.Clean.{IsDevice}
use Rattle.jh_history.specs.Devices.{is_endpoint}
use Rattle.jh_talk.specs.declared.pair.Pair.{Pair}

-- the device of that number can talk: it is an ivshmem device with the vectors 0 and 1
abbrev pub can_talk : ℕ → PciDevice → Bool
can_talk number device = is_endpoint number device && nat_le 2 device.num_msix_vectors

-- root's device and the cell's are linked, and both can talk
pub record IsPair (root cell : CellConfig) (pair : Pair) : Type 0 where
  pub own : IsDevice root pair.number pair.device
  pub own_talks : can_talk pair.number pair.device ≡ true
  pub other : IsDevice cell pair.other_number pair.other
  pub other_talks : can_talk pair.other_number pair.other ≡ true
  pub linked : pair.device.bdf ≡ pair.other.bdf

-- they are a pair, and no device of root with a lower number is in one
pub record IsFirstPair (root cell : CellConfig) (pair : Pair) : Type 0 where
  pub is : IsPair root cell pair
  pub first : (lower : Pair) → IsPair root cell lower → pair.number ≤ lower.number

-- there is no pair
abbrev pub HasNoPair : CellConfig → CellConfig → Type 0
HasNoPair root cell = (pair : Pair) → IsPair root cell pair → ⊥
