-- What the sections and the addresses of a talk are kept clear of.
use Rattle.std.specs.Prelude.{◌≡◌, ◌≤◌, ◌<◌, ◌+◌, ℕ, Bool, true, false, List}
use Rattle.std.specs.List.{list_any}
use Rattle.jh_cellcfg.specs.declared.region.Region.{Region}
use Rattle.jh_cellcfg.specs.declared.config.CellConfig.{CellConfig}
use Rattle.jh_cellcfg.specs.declared.config.PciDevice.{PciDevice}
use Rattle.jh_cellcfg.specs.Regions.{has_place}
use Rattle.jh_check.specs.Clean.{IsSection}
use Rattle.jh_shape.specs.Shapes.{takes}
use Rattle.jh_history.specs.declared.access.Access.{Access}
use Rattle.jh_history.specs.declared.access.Reach.TheVariants.{Nothing}
use Rattle.jh_history.specs.Access.{place_of, reach_by}
use Rattle.jh_talk.specs.declared.side.Side.{Side}
use Rattle.jh_talk.specs.declared.window.TheConstants.{WINDOW_SIZE}

-- no region of the cell, be the cell loadable or not, takes a place of a section of root's device from root
abbrev pub SectionsStayRoots : CellConfig → CellConfig → PciDevice → Type 0
SectionsStayRoots root cell device =
    (loadable : Bool) (k place : ℕ) (section : Region) → IsSection root device k section → has_place section place ≡ true →
    list_any (λ (region : Region). takes loadable region place) cell.memory_regions ≡ false

-- an access that begins at one of so many addresses from the first one on reaches no memory of the regions
abbrev pub HasNoMemory : List Region → ℕ → ℕ → Type 0
HasNoMemory regions first count =
    (id : ℕ) (access : Access) (at width : ℕ) → first ≤ at → at < first + count → 0 < width →
    reach_by (place_of id regions access) at width ≡ Nothing

-- where a side's device answers, at its function and at its windows, the cell of these regions has no memory
pub record IsClearOfMemory (regions : List Region) (side : Side) : Type 0 where
  pub function : HasNoMemory regions side.function 4096
  pub windows : HasNoMemory regions side.window WINDOW_SIZE
