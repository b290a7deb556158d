-- How the greatest free place is found: in one region, and over the regions so far.
use Rattle.std.specs.Prelude.{◌≡◌, ◌≤◌, ◌<◌, ◌+◌, ℕ, true, nat_lt, if◌then◌else◌, List, Option, Some, None}
use Rattle.jh_num.specs.declared.address.TheConstants.{ADDRESS_END}
use Rattle.jh_cellcfg.specs.declared.region.Region.{Region}
use Rattle.jh_cellcfg.specs.declared.config.CellConfig.{CellConfig}
use Rattle.jh_cellcfg.specs.Regions.{phys_end}
use Rattle.jh_plan.specs.Places.{is_aligned, IsFreeIn}

-- the region, where it has a size, ends within the places
abbrev pub EndsWithin : Region → Type 0
EndsWithin region = 0 < region.size → phys_end region ≤ ADDRESS_END

-- the place is the last from which on the bytes end there or before
pub record IsLast (end size place : ℕ) : Type 0 where
  pub aligned : is_aligned size place ≡ true
  pub ends : place + size ≤ end
  pub last : (other : ℕ) → is_aligned size other ≡ true → other + size ≤ end → other ≤ place

-- the place is at most the best one, which is there
abbrev pub IsAtMost : Option ℕ → ℕ → Type 0
IsAtMost None place = ⊥
IsAtMost (Some best) place = place ≤ best

-- the best place is at least each that is free in the region
abbrev pub IsHighestIn : Region → List CellConfig → ℕ → Option ℕ → Type 0
IsHighestIn room cells size best = (place : ℕ) → IsFreeIn room cells size place → IsAtMost best place

-- the greater of two places, where there is one
abbrev pub greater : Option ℕ → Option ℕ → Option ℕ
greater None other = other
greater (Some one) None = Some one
greater (Some one) (Some other) = Some (if nat_lt one other then other else one)
