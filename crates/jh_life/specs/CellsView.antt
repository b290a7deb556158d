-- What contracts see of the live cells.
use Rattle.std.specs.Prelude.{ℕ, List}
use Rattle.jh_cellcfg.specs.declared.config.SystemConfig.{SystemConfig}
use Rattle.jh_cellcfg.specs.declared.live.Live.{Live}

-- the system, whose root lives always; the cells besides it, in order of creation; and how many can be added
-- without memory
pub record CellsView : Type 0 where
  pub system : SystemConfig
  pub lives : List Live
  pub spare : ℕ
