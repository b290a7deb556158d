-- An access and all that may answer it.
use Rattle.std.specs.Prelude.{◌≡◌, ℕ, ◌+◌, ◌<◌, ◌≤◌, Bool, true, false, List, AllPairs, Some, slice_get, IsTrue}
use Rattle.jh_num.specs.declared.range.Range.{Range}
use Rattle.jh_cellcfg.specs.declared.region.Region.{Region}
use Rattle.jh_cellcfg.specs.Regions.{has_address, is_comm, place_in, SharesNoAddress}
use Rattle.jh_mmio.specs.declared.hitting.Window.{Window}
use Rattle.jh_mmio.specs.declared.hitting.Hitting.{Hitting}
use Rattle.jh_mmio.specs.Dispatch.{hitting, lets_through, takes_all}

-- an access of `width` bytes at an address, among a cell's regions, the places that are closed to it, the ECAM window and
-- the windows of its devices
pub record Lookup : Type 0 where
  pub regions : List Region
  pub closed : ℕ → Bool
  pub ecam : Range
  pub windows : List Window
  pub at : ℕ
  pub width : ℕ
  pub write : Bool

-- what answers it
abbrev pub hitting_of_lookup : Lookup → Hitting
hitting_of_lookup l = hitting l.regions l.closed l.ecam l.windows l.at l.width l.write

-- no two of the regions share an address, and the access has a byte
pub record IsAmongApart (l : Lookup) : Type 0 where
  pub apart : AllPairs SharesNoAddress l.regions
  pub some : 0 < l.width

-- the region of that number has the first byte of the access
pub record HasFirstByte (l : Lookup) (number : ℕ) (region : Region) : Type 0 where
  pub listed : slice_get l.regions number ≡ Some region
  pub first : IsTrue (has_address region l.at)

-- the region of that number is a subpage region that has the whole access, none of its bytes at a closed place
pub record TakesAccess (l : Lookup) (number : ℕ) (region : Region) : Type 0 where
  pub listed : slice_get l.regions number ≡ Some region
  pub whole : takes_all l.closed l.at l.width region ≡ true

-- the region lets the access through
abbrev pub lets_lookup_through : Lookup → Region → Bool
lets_lookup_through l region = lets_through l.at l.width l.write region

-- the region of that number takes the access so, and lets it through
pub record IsLetThrough (l : Lookup) (number : ℕ) : Type 0 where
  pub region : Region
  pub takes : TakesAccess l number region
  pub lets : lets_lookup_through l region ≡ true

-- the region of that number isn't a communication region, and a byte of the access is at a closed place there
pub record IsPartlyClosed (l : Lookup) (number : ℕ) (region : Region) : Type 0 where
  pub listed : slice_get l.regions number ≡ Some region
  pub memory : is_comm region ≡ false
  pub byte : ℕ
  pub starts : l.at ≤ byte
  pub ends : byte < l.at + l.width
  pub closed : l.closed (place_in region byte) ≡ true
