-- Where both put what they need.
use Rattle.std.specs.Prelude.{length}
use Rattle.jh_cellcfg.specs.declared.config.CellConfig.{CellConfig}
use Rattle.jh_cellcfg.specs.declared.config.SystemConfig.{SystemConfig}
use Rattle.jh_cellcfg.specs.Spelling.{spelling}
use Rattle.jh_talk.specs.declared.spots.Spots.{Spots}
use Rattle.jh_talk.specs.Functions.{obstacles}
use Rattle.jh_talk.specs.Windows.{IsLeastWindow}
use Rattle.jh_talk.specs.Places.{IsLeastPlace}

-- the windows and the place are the least that there are
pub record AreSpots (system : SystemConfig) (cell : CellConfig) (spots : Spots) : Type 0 where
  pub window : IsLeastWindow (obstacles system system.root) spots.window
  pub other_window : IsLeastWindow (obstacles system cell) spots.other_window
  pub place : IsLeastPlace system.root (length (spelling cell)) spots.place
