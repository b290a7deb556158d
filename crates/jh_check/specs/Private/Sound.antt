-- Cells of which no region breaks a rule about one region.
use Rattle.std.specs.Prelude.{◌≡◌, ℕ, ◌<◌, Bool, true, false, ◌&&◌, ◌||◌, List, [], length, slice_index_or}
use Rattle.jh_cellcfg.specs.declared.region.Region.{Region}
use Rattle.jh_cellcfg.specs.declared.config.CellConfig.{CellConfig}
use Rattle.jh_cellcfg.specs.Regions.{has_size}
use Rattle.jh_check.specs.declared.rule.Rule.{Rule}
use Rattle.jh_check.specs.declared.rule.Rule.TheVariants.{Hypervisor, OutOfRange, RootNotIdentity, CommInRoot, CommShape, ExecuteWithoutRead, PhysAlign}
use Rattle.jh_check.specs.Regions.{breaks_alone}
use Rattle.jh_check.specs.Findings.{in_cell}

-- the region breaks a rule that is for root's regions alone, or the one that is for other cells' alone
abbrev pub breaks_in_cell : Region → ℕ → List Region → Region → Bool
breaks_in_cell memory cell earlier region =
    breaks_alone RootNotIdentity memory cell earlier region
    || (breaks_alone CommInRoot memory cell earlier region || breaks_alone CommShape memory cell earlier region)

-- the region, its size aside, breaks one of the rules about one region
abbrev pub breaks_one : Region → ℕ → List Region → Region → Bool
breaks_one memory cell earlier region =
    breaks_alone Hypervisor memory cell earlier region
    || (breaks_alone OutOfRange memory cell earlier region
    || (breaks_alone ExecuteWithoutRead memory cell earlier region
    || (breaks_alone PhysAlign memory cell earlier region || breaks_in_cell memory cell earlier region)))

-- the region has a size, and breaks one of the rules about one region
abbrev pub breaks_any : Region → ℕ → List Region → Region → Bool
breaks_any memory cell earlier region = has_size region && breaks_one memory cell earlier region

-- no region of the cell of that number breaks a rule about one region
abbrev pub AreSound : Region → ℕ → List Region → Type 0
AreSound memory cell regions = (rule : Rule) → in_cell rule memory cell regions ≡ []

-- each cell that is said to be sound has no region that breaks a rule about one region
abbrev pub AreSoundEach : Region → List CellConfig → List Bool → Type 0
AreSoundEach memory all sound =
    (a : ℕ) (c : CellConfig) → a < length all → slice_index_or sound a false ≡ true → AreSound memory a (slice_index_or all a c).memory_regions
