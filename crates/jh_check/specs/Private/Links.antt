-- The regions of two cells that are known to be sections of linked devices at the same offset.
use Rattle.std.specs.Prelude.{◌≡◌, ℕ, true, List, Option, None, Some, slice_index_or}
use Rattle.jh_cellcfg.specs.declared.config.CellConfig.{CellConfig}
use Rattle.jh_check.specs.Devices.{are_same_section}
use Rattle.jh_check.specs.Regions.{Spot}

-- what is noted of a region of the one cell is the number of one of the other's that is the same section
abbrev pub ArePartners : CellConfig → CellConfig → List (Option ℕ) → Type 0
ArePartners one other partners =
    (item s : ℕ) → slice_index_or partners item None ≡ Some s → are_same_section one item other s ≡ true

-- what is noted of the region of the one cell is the number of one of the other's that is the same section
abbrev pub IsPartner : Spot → CellConfig → Option ℕ → Type 0
IsPartner one other partner = (s : ℕ) → partner ≡ Some s → are_same_section one.config one.item other s ≡ true
