-- What is true of every board's live cells.
use Rattle.std.specs.Prelude.{◌≡◌, ℕ, ◌<◌, ◌≤◌, All, length}
use Rattle.jh_cellcfg.specs.Regions.{AreInRange}
use Rattle.jh_num.specs.Bytes.{has_byte}
use Rattle.jh_shape.specs.Pages.{pages_of}
use Rattle.jh_shape.specs.Lives.{configs_of}
use Rattle.jh_closed.specs.Closed.{is_closed_by, all_regions, count_regions}
use Rattle.jh_board.specs.declared.cells.LiveCells.TheInside.{Inside}

-- what is kept beside the live cells is theirs: their regions, each in range, and how many they are; what they close to
-- root, in no more ranges than they have regions, with room for one range more; and how many pages all cells take
pub record FitsItsCells (s : Inside) : Type 0 where
  pub regions : s.regions.items ≡ all_regions s.cells.lives
  pub within : All AreInRange s.regions.items
  pub closed : (place : ℕ) → has_byte s.closed.ranges place ≡ is_closed_by s.cells.lives place
  pub few : length s.closed.ranges ≤ s.region_count
  pub region_count : s.region_count ≡ count_regions s.regions.items
  pub room : s.region_count < s.closed.room
  pub used : s.used ≡ pages_of s.cells.system.root.memory_regions (configs_of s.cells.lives)
