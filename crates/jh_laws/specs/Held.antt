-- What a live cell is granted, and what it holds for itself.
use Rattle.std.specs.Prelude.{◌≡◌, ◌<◌, ◌+◌, ◌⊎◌, ℕ, true, List, Contains, Some, slice_get}
use Rattle.jh_cellcfg.specs.declared.config.CellConfig.{CellConfig}
use Rattle.jh_cellcfg.specs.declared.live.Live.{Live}
use Rattle.jh_cellcfg.specs.declared.region.Region.{Region}
use Rattle.jh_cellcfg.specs.Regions.{has_place, is_unshared, is_loadable}
use Rattle.jh_check.specs.Clean.{IsSameSection}
use Rattle.jh_shape.specs.Laws.{IsTaken}
use Rattle.jh_script.specs.declared.image.Image.{Image}
use Rattle.jh_history.specs.declared.place.Place.{Place}
use Rattle.jh_history.specs.declared.place.Place.TheVariants.{Physical, Page}
use Rattle.jh_history.specs.declared.access.Access.{Access}
use Rattle.jh_shape.specs.Lives.{configs_of}
use Rattle.jh_laws.specs.Moments.{AdmittedJournal, AdmittedMoment, facts_of, facts_before}
use Rattle.jh_laws.specs.Grants.{IsGiven}

-- the cell is root, or one of those that live besides it
abbrev pub IsRootOrLive : Image → List Live → CellConfig → Type 0
IsRootOrLive image cells cell = (cell ≡ image.system.root) ⊎ Contains (configs_of cells) cell

-- the place is left to the cell: what another live cell takes is closed to root, and to no other cell
abbrev pub IsLeft : Image → List Live → CellConfig → Place → Type 0
IsLeft image cells cell (Physical p) = cell.id ≡ image.system.root.id → IsTaken cells p → ⊥
IsLeft image cells cell (Page id offset) = Unit {0}

-- the live cell with the id is granted the place at the address: by one of its own regions, and it is left to it
pub record IsGrantedTo (image : Image) (cells : List Live) (id : ℕ) (access : Access) (at : ℕ) (place : Place) : Type 0 where
  pub cell : CellConfig
  pub live : IsRootOrLive image cells cell
  pub named : cell.id ≡ id
  pub given : IsGiven cell access at place
  pub left : IsLeft image cells cell place

-- the live cell with the id is granted the place at the address, after the journal
abbrev pub IsGrantedAfter : AdmittedJournal → ℕ → Access → ℕ → Place → Type 0
IsGrantedAfter j id access at place = IsGrantedTo j.image (facts_of j).cells id access at place

-- each of so many bytes from the address on is granted some place
abbrev pub AreGrantedTo : Image → List Live → ℕ → Access → ℕ → ℕ → Type 0
AreGrantedTo image cells id access at width = (k : ℕ) → k < width → (place : Place) × IsGrantedTo image cells id access (at + k) place

-- ---- what a cell holds for itself

-- the cell holds the place for itself: by a region of it that is no communication region, and is neither shared with
-- root nor left to root while the cell is loadable
pub record IsHeld (cells : List Live) (live : Live) (number : ℕ) (region : Region) (place : ℕ) : Type 0 where
  pub lives : Contains cells live
  pub item : slice_get live.config.memory_regions number ≡ Some region
  pub alone : is_unshared region ≡ true
  pub has : has_place region place ≡ true
  pub withheld : live.loadable ≡ true → is_loadable region ≡ true → ⊥

-- just before the entry the cell holds the place for itself, by its region of that number
abbrev pub IsHeldBefore : AdmittedMoment → Live → ℕ → ℕ → Type 0
IsHeldBefore m live number place = (region : Region) × IsHeld (facts_before m).cells live number region place

-- the region of the cell, and that of the other one, are the same section of two linked devices
abbrev pub AreLinkedSections : CellConfig → ℕ → CellConfig → ℕ → Type 0
AreLinkedSections cell number other other_number = IsSameSection cell number other other_number ⊎ IsSameSection other other_number cell number

-- the id is the cell's own, or that of a live cell besides root with a device linked to one of its devices, of which
-- the region is a section
abbrev pub IsOwnOrLinked : List Live → CellConfig → ℕ → ℕ → Type 0
IsOwnOrLinked cells cell number id =
    (id ≡ cell.id) ⊎ ((other : CellConfig) × Contains (configs_of cells) other × (other.id ≡ id) × (n : ℕ) × AreLinkedSections cell number other n)
