-- Addresses that follow one another, and whether regions have some of them.
use Rattle.std.specs.Prelude.{ℕ, Bool, List}
use Rattle.std.specs.List.{list_any}
use Rattle.jh_cellcfg.specs.declared.region.Region.{Region}
use Rattle.jh_cellcfg.specs.Regions.{virt_meet}

-- so many addresses from the first one on
abbrev pub addresses_from : ℕ → ℕ → Region
addresses_from first count = record { phys_start = 0; virt_start = first; size = count; flags = 0 }

-- one of these regions has one of so many addresses from the first one on
abbrev pub is_met : List Region → ℕ → ℕ → Bool
is_met regions first count = list_any (virt_meet (addresses_from first count)) regions
