-- What the maps of all live cells say after a schedule.
use Rattle.std.specs.Prelude.{◌≡◌, ℕ, true, false, List, [], ◌∷◌, ◌++◌, Option, Some, None}
use Rattle.jh_cellcfg.specs.declared.config.CellConfig.{CellConfig}
use Rattle.jh_cellcfg.specs.declared.live.Live.{Live}
use Rattle.jh_map.specs.declared.run.Run.{Run}
use Rattle.jh_script.specs.declared.image.Image.{Image}
use Rattle.jh_history.specs.declared.form.Form.{Form}
use Rattle.jh_history.specs.declared.form.Form.TheVariants.{Two}
use Rattle.jh_history.specs.declared.entry.Entry.{Entry}
use Rattle.jh_history.specs.Due.{IsLegal}
use Rattle.jh_history.specs.History.{facts}
use Rattle.jh_history.specs.Items.{items}
use Rattle.jh_text.specs.Maps.{map_text}
use Rattle.jh_shape.specs.Lives.{all_cells}
use Rattle.jh_board.specs.Maps.{IsMapIn}
use Rattle.jh_run.specs.Plays.{IsFullAtItem}

-- the text is the maps of these cells, one behind another, where the cells of the first list live besides root
abbrev pub AreMaps : Image → List Live → List CellConfig → List ℕ → Type 0
AreMaps image lives [] text = text ≡ []
AreMaps image lives (cell ∷ cells) text =
    (runs : List Run) × (rest : List ℕ) × IsMapIn image lives cell.id runs × (text ≡ map_text cell runs ++ rest) × AreMaps image lives cells rest

-- the text of the maps of all cells that live after the entries: of root, and then of the others by creation
abbrev pub IsMapsText : Image → Form → List Entry → List ℕ → Type 0
IsMapsText image form entries = AreMaps image (facts image form entries).cells (all_cells image.system.root (facts image form entries).cells)

-- what is told after the items of the schedule alone: the maps, or nothing where the limit stopped an item
abbrev pub IsMapsAnswer : Image → ℕ → List ℕ → Option (List ℕ) → Type 0
IsMapsAnswer image limit schedule None = ((items image Two limit schedule []).full ≡ true) × IsFullAtItem image limit schedule (items image Two limit schedule []).entries
IsMapsAnswer image limit schedule (Some text) =
    ((items image Two limit schedule []).full ≡ false) × IsLegal image Two (items image Two limit schedule []).entries × IsMapsText image Two (items image Two limit schedule []).entries text
