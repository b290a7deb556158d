-- What a cell's map says: for each of the cell's regions the longest runs of addresses that the cell is granted.
use Rattle.std.specs.Prelude.{◌≡◌, ℕ, ◌+◌, ◌<◌, ◌≤◌, Bool, true, false, ◌&&◌, ◌||◌, not, if◌then◌else◌, List, All, AllPairs, Contains}
use Rattle.jh_cellcfg.specs.declared.region.Region.{Region}
use Rattle.jh_cellcfg.specs.Regions.{has_address, is_comm, is_page_mapped, place_in, byte_in, rights_of}
use Rattle.jh_map.specs.declared.run.Run.{Run}

-- the region grants the address, where such places are closed to the cell: it has the address, and what it gives it
-- isn't closed, as no byte of a communication page is
abbrev pub is_granted : (ℕ → Bool) → Region → ℕ → Bool
is_granted closed region at = has_address region at && (is_comm region || not (closed (place_in region at)))

-- where the region's address leads: to a byte of the communication page, or to a physical place
abbrev pub leads_to : Region → ℕ → ℕ
leads_to region at = if is_comm region then byte_in region at else place_in region at

-- the address is one of the run's
pub record IsIn (run : Run) (at : ℕ) : Type 0 where
  pub first : run.start ≤ at
  pub last : at < run.end

-- the run is one of the region's: it isn't empty, the region grants each of its addresses, and neither the one before
-- it nor the one behind it; and it says of them what the region does
pub record IsRunOf (closed : ℕ → Bool) (region : Region) (run : Run) : Type 0 where
  pub some : run.start < run.end
  pub each : (at : ℕ) → IsIn run at → is_granted closed region at ≡ true
  pub before : (at : ℕ) → at + 1 ≡ run.start → is_granted closed region at ≡ false
  pub behind : is_granted closed region run.end ≡ false
  pub place : run.place ≡ leads_to region run.start
  pub comm : run.comm ≡ is_comm region
  pub rights : run.rights ≡ rights_of region
  pub page : run.page ≡ is_page_mapped region

-- the run is a run of one of the regions
pub record IsRunIn (closed : ℕ → Bool) (regions : List Region) (run : Run) : Type 0 where
  pub region : Region
  pub among : Contains regions region
  pub of : IsRunOf closed region run

-- the address is in one of the runs, which is one of the region's
pub record IsInRun (closed : ℕ → Bool) (runs : List Run) (region : Region) (at : ℕ) : Type 0 where
  pub run : Run
  pub among : Contains runs run
  pub of : IsRunOf closed region run
  pub has : IsIn run at

-- the one run ends before the other begins
abbrev pub EndsBefore : Run → Run → Type 0
EndsBefore one other = one.end ≤ other.start

-- the map of a cell with these regions, to which such places are closed: the runs of its regions, and all of them, in
-- the order of their addresses
pub record IsMap (closed : ℕ → Bool) (regions : List Region) (runs : List Run) : Type 0 where
  pub own : All (IsRunIn closed regions) runs
  pub whole : (region : Region) (at : ℕ) → Contains regions region → is_granted closed region at ≡ true → IsInRun closed runs region at
  pub order : AllPairs EndsBefore runs

-- a cell's map, with the cell's regions and the places that are closed to it
pub record CellMap : Type 0 where
  pub closed : ℕ → Bool
  pub regions : List Region
  pub runs : List Run
  pub is : IsMap closed regions runs
