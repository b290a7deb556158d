-- What is said of a cell that lives besides root: its id, and whether it has an id.
use Rattle.std.specs.Prelude.{ℕ, Bool, ◌==◌}
use Rattle.jh_cellcfg.specs.declared.live.Live.{Live}

-- the id of the live cell
abbrev pub id_of : Live → ℕ
id_of live = live.config.id

-- the live cell has the id
abbrev pub has_id : ℕ → Live → Bool
has_id id live = id_of live == id
