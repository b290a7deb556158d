-- The live cells' configurations and marks.
use Rattle.std.specs.Prelude.{ℕ, Bool, false, List, [], ◌∷◌, map, slice_index_or, if◌then◌else◌}
use Rattle.jh_cellcfg.specs.declared.config.CellConfig.{CellConfig}
use Rattle.jh_cellcfg.specs.declared.live.Live.{Live}
use Rattle.jh_cellcfg.specs.Lives.{has_id}

-- the configurations of these live cells
abbrev pub configs_of : List Live → List CellConfig
configs_of lives = map (λ (live : Live). live.config) lives

-- the configurations of all cells: root first, and then those that live besides it, by creation
abbrev pub all_cells : CellConfig → List Live → List CellConfig
all_cells root lives = root ∷ configs_of lives

-- the configurations, each with its mark
abbrev pub with_marks : List CellConfig → List Bool → List Live
with_marks [] marks = []
with_marks (config ∷ configs) [] = []
with_marks (config ∷ configs) (mark ∷ marks) = record { config = config; loadable = mark } ∷ with_marks configs marks

-- the cell, with this mark where it is the one with the id
abbrev pub marked : ℕ → Bool → Live → Live
marked id loadable live = if has_id id live then record live { loadable = loadable } else live

-- the live cell of the configuration as it is just created: not loadable
abbrev pub new_live : CellConfig → Live
new_live config = record { config = config; loadable = false }

-- which of these live cells are loadable
abbrev pub marks_of : List Live → List Bool
marks_of lives = map (λ (live : Live). live.loadable) lives

-- the cell at that index of these is loadable
abbrev pub is_loadable_at : List Live → ℕ → Bool
is_loadable_at lives index = slice_index_or (marks_of lives) index false
