-- The cell with an id: its index among those that live, and its regions.
use Rattle.std.specs.Prelude.{◌≡◌, ℕ, ◌<◌, List, [], Option, Some, None, length, find, slice_get}
use Rattle.std.specs.Option.{option_map_or}
use Rattle.jh_cellcfg.specs.declared.config.CellConfig.{CellConfig}
use Rattle.jh_cellcfg.specs.declared.region.Region.{Region}
use Rattle.jh_cellcfg.specs.declared.live.Live.{Live}
use Rattle.jh_cellcfg.specs.Lives.{has_id}
use Rattle.jh_history.specs.Lives.{live_in}

-- the regions of the cell with the id, none where it doesn't live
abbrev pub live_regions : List Live → ℕ → List Region
live_regions lives id = option_map_or (λ (c : CellConfig). c.memory_regions) (live_in lives id) []

-- the first of the cells with the id is the one at the index
pub record IsFirstAt (lives : List Live) (id k : ℕ) : Type 0 where
  pub within : k < length lives
  pub found : find (has_id id) lives ≡ slice_get lives k

-- the index is that of the first cell with the id, or there is none where no cell has it
abbrev pub IsIndexOf : List Live → ℕ → Option ℕ → Type 0
IsIndexOf lives id None = find (has_id id) lives ≡ None
IsIndexOf lives id (Some k) = IsFirstAt lives id k
