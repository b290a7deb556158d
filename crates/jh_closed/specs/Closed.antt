-- What live cells close to root, their regions and how many these are.
use Rattle.std.specs.Prelude.{◌≡◌, ℕ, ◌≤◌, Bool, List, length, map, sum_by}
use Rattle.std.specs.List.{list_any}
use Rattle.jh_num.specs.declared.range.Range.{Range}
use Rattle.jh_num.specs.Bytes.{has_byte}
use Rattle.jh_cellcfg.specs.declared.config.CellConfig.{CellConfig}
use Rattle.jh_cellcfg.specs.declared.region.Region.{Region}
use Rattle.jh_cellcfg.specs.declared.live.Live.{Live}
use Rattle.jh_cellcfg.specs.Regions.{AreInRange}
use Rattle.jh_shape.specs.Shapes.{takes, is_closed, holder_of_live}
use Rattle.jh_shape.specs.Lives.{configs_of}

-- a cell with these regions, loadable or not, takes the place from root
abbrev pub is_taken : Bool → List Region → ℕ → Bool
is_taken loadable regions place = list_any (λ (r : Region). takes loadable r place) regions

-- one of the cells that live besides root takes the place from root
abbrev pub is_closed_by : List Live → ℕ → Bool
is_closed_by lives place = is_closed (map holder_of_live lives) place

-- the regions of each cell
abbrev pub all_regions : List Live → List (List Region)
all_regions lives = map (λ (c : CellConfig). c.memory_regions) (configs_of lives)

-- how many regions cells with these have together
abbrev pub count_regions : List (List Region) → ℕ
count_regions cells = sum_by (λ (regions : List Region). length regions) cells

-- the ranges have the places that a cell with these regions, loadable or not, takes from root, where the regions are in
-- range, and aren't more than they
pub record AreTaken (loadable : Bool) (regions : List Region) (ranges : List Range) : Type 0 where
  pub places : AreInRange regions → (place : ℕ) → has_byte ranges place ≡ is_taken loadable regions place
  pub few : length ranges ≤ length regions
