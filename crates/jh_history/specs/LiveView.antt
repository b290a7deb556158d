-- An image with the cells that live besides its root, and which of these are locked, by some bytes.
use Rattle.std.specs.Prelude.{ℕ, Bool, ◌==◌, ◌&&◌, not, List}
use Rattle.jh_comm.specs.Page.{state_in}
use Rattle.jh_comm.specs.declared.words.TheConstants.{STATE_RUNNING_LOCKED}
use Rattle.jh_cellcfg.specs.declared.config.CellConfig.{CellConfig}
use Rattle.jh_cellcfg.specs.declared.live.Live.{Live}
use Rattle.jh_script.specs.declared.image.Image.{Image}
use Rattle.jh_history.specs.declared.place.Place.{Place}
use Rattle.jh_history.specs.declared.place.Place.TheVariants.{Page}

-- an image, and the cells that live besides its root
pub record GrantsView : Type 0 where
  pub image : Image
  pub lives : List Live

-- the state in the cell's page, by these bytes
abbrev pub state_word_by : (Place → ℕ) → ℕ → ℕ
state_word_by byte id = state_in (λ k. byte (Page id k))

-- a cell of this configuration is locked, by these bytes: its state is RUNNING_LOCKED
abbrev pub is_locked_by : (Place → ℕ) → CellConfig → Bool
is_locked_by byte config = state_word_by byte config.id == STATE_RUNNING_LOCKED

-- a cell of this configuration, which is another than the one with the id, is locked, by these bytes
abbrev pub is_other_locked_by : (Place → ℕ) → ℕ → CellConfig → Bool
is_other_locked_by byte id config = not (config.id == id) && is_locked_by byte config
