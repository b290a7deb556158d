-- The cells of a setup by their numbers.
use Rattle.std.specs.Prelude.{List, ◌∷◌}
use Rattle.jh_cellcfg.specs.declared.config.CellConfig.{CellConfig}
use Rattle.jh_check.specs.declared.setup.Setup.{Setup}

-- all cells of a setup: root, which has the number 0, and then the others
abbrev pub cells_of : Setup → List CellConfig
cells_of setup = setup.root.now ∷ setup.cells.now
