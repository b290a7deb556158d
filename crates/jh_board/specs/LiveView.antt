-- What contracts see of the cells that live besides root.
use Rattle.std.specs.Prelude.{ℕ, List}
use Rattle.jh_cellcfg.specs.declared.config.SystemConfig.{SystemConfig}
use Rattle.jh_cellcfg.specs.declared.live.Live.{Live}

-- the system; the cells, in order of creation; and for how many more cells, and regions of such, there is room
pub record LiveView : Type 0 where
  pub system : SystemConfig
  pub lives : List Live
  pub spare_cells : ℕ
  pub spare_regions : ℕ
