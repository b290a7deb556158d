-- Which region has an address, and what an index of regions keeps.
use Rattle.std.specs.Prelude.{◌≡◌, ℕ, ◌<◌, List, Option, Some, slice_get, All, Contains, IfSome, IsTrue}
use Rattle.std.specs.List.Sorted.{IsNonDecreasingBy}
use Rattle.std.specs.Option.{option_map_or}
use Rattle.jh_cellcfg.specs.declared.region.Region.{Region}
use Rattle.jh_cellcfg.specs.Regions.{has_address}

-- no region but the one found can have the address
pub record IsRegionAt (regions : List Region) (at : ℕ) (found : Option Region) : Type 0 where
  pub own : IfSome found (Contains regions)
  pub only : (r : Region) → Contains regions r → IsTrue (has_address r at) → found ≡ Some r

-- the size of the region of the number, 0 where there is none
abbrev pub size_at : List Region → ℕ → ℕ
size_at regions k = option_map_or (λ (r : Region). r.size) (slice_get regions k) 0

-- the first address of the region of the number, 0 where there is none
abbrev pub start_at : List Region → ℕ → ℕ
start_at regions k = option_map_or (λ (r : Region). r.virt_start) (slice_get regions k) 0

-- the numbers are those of the regions that aren't empty
pub record AreNumbers (regions : List Region) (numbers : List ℕ) : Type 0 where
  pub some : All (λ k. 0 < size_at regions k) numbers
  pub whole : (k : ℕ) → 0 < size_at regions k → Contains numbers k

-- the numbers are those of the regions that aren't empty, in the order of their first addresses
pub record IsOrder (regions : List Region) (order : List ℕ) : Type 0 where
  pub numbers : AreNumbers regions order
  pub sorted : IsNonDecreasingBy (start_at regions) order
