-- The bdfs at which devices stand.
use Rattle.std.specs.Prelude.{◌≡◌, ℕ, ◌+◌, ◌<◌, List, slice_index_or, Contains}
use Rattle.jh_cellcfg.specs.declared.config.PciDevice.{PciDevice}
use Rattle.jh_cellcfg.specs.declared.config.CellConfig.{CellConfig}

-- the bdf of each device of the cells is marked
abbrev pub HasBdfs : List CellConfig → List ℕ → Type 0
HasBdfs cells marks =
    (cell : CellConfig) (device : PciDevice) → Contains cells cell → Contains cell.pci_devices device → 0 < slice_index_or marks device.bdf 0

-- the bdf of each of the first devices is marked by the cell of that number
abbrev pub AreMarkedBy : ℕ → List PciDevice → ℕ → List ℕ → Type 0
AreMarkedBy cell devices n marks =
    (k : ℕ) (d : PciDevice) → k < n → slice_index_or marks (slice_index_or devices k d).bdf 0 ≡ cell + 1
