-- The text of the pins that cells hold, and of their clashes.
use Rattle.std.specs.Prelude.{◌≡◌, ℕ, List, [], ◌∷◌, ◌++◌, length, codes}
use Rattle.std.specs.List.{flat_map}
use Rattle.std.specs.Fmt.{decimal}
use Rattle.jh_cellcfg.specs.declared.config.CellConfig.{CellConfig}
use Rattle.jh_text.specs.Maps.{cell_words}
use Rattle.jh_text.specs.Text.{hexadecimal, words_line}
use Rattle.jh_pins.specs.declared.pin.PinRun.{PinRun}
use Rattle.jh_pins.specs.declared.pin.Clash.{Clash}
use Rattle.jh_pins.specs.TableView.{TableView}
use Rattle.jh_pins.specs.Holders.{is_held_by}
use Rattle.jh_pins.specs.Runs.{AreRuns}
use Rattle.jh_pins.specs.Clashes.{AreClashes}

-- the words of a run: its chip's address, and the numbers of its first pin and of its last
abbrev pub run_words : PinRun → List (List ℕ)
run_words run = codes "chip" ∷ hexadecimal run.chip ∷ codes "pins" ∷ (decimal run.first ++ codes "-" ++ decimal run.last) ∷ []

-- the words of a clash: the ids of its cells, and its run
abbrev pub clash_words : Clash → List (List ℕ)
clash_words clash = codes "clash" ∷ decimal clash.first ∷ decimal clash.second ∷ run_words clash.run

-- the line of a run
abbrev pub run_line : PinRun → List ℕ
run_line run = words_line (run_words run)

-- the line of a clash
abbrev pub clash_line : Clash → List ℕ
clash_line clash = words_line (clash_words clash)

-- the text of what a cell holds: a line for the cell, and one for each run of its pins
abbrev pub held_text : CellConfig → List PinRun → List ℕ
held_text cell runs = words_line (cell_words cell) ++ flat_map run_line runs

-- the text of the clashes: a line for each, and one with their number
abbrev pub clashes_text : List Clash → List ℕ
clashes_text clashes = flat_map clash_line clashes ++ words_line (codes "clashes" ∷ decimal (length clashes) ∷ [])

-- the text is what these cells hold by the table, one behind another
abbrev pub AreHeld : TableView → List CellConfig → List ℕ → Type 0
AreHeld table [] text = text ≡ []
AreHeld table (cell ∷ cells) text =
    (runs : List PinRun) × (rest : List ℕ) × AreRuns (is_held_by table cell.id) runs × (text ≡ held_text cell runs ++ rest) × AreHeld table cells rest

-- the text of what these cells hold by the table, and behind it of the table's clashes
pub record ArePinsOf (table : TableView) (cells : List CellConfig) (text : List ℕ) : Type 0 where
  pub held : List ℕ
  pub clashes : List Clash
  pub own : AreHeld table cells held
  pub common : AreClashes table.cells clashes
  pub whole : text ≡ held ++ clashes_text clashes
