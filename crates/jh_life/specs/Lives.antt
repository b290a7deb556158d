-- The cells that live: which they are, and their numbers.
use Rattle.std.specs.Prelude.{ℕ, Bool, ◌==◌, List, Option, position}
use Rattle.jh_cellcfg.specs.declared.config.CellConfig.{CellConfig}
use Rattle.jh_shape.specs.Lives.{all_cells}
use Rattle.jh_life.specs.CellsView.{CellsView}

-- root and then the other live cells: a cell's number is its index here
abbrev pub numbered_cells : CellsView → List CellConfig
numbered_cells seen = all_cells seen.system.root seen.lives

-- the cell of the configuration has the id
abbrev pub has_config_id : ℕ → CellConfig → Bool
has_config_id id config = config.id == id

-- the number of the cell with the id
abbrev pub number_with_id : CellsView → ℕ → Option ℕ
number_with_id seen id = position (has_config_id id) (numbered_cells seen)
