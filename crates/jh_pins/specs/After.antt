-- The table of the cells that live, and how the items of a schedule end.
use Rattle.std.specs.Prelude.{◌≡◌, ℕ, true, false, List, [], ◌∷◌, ◌++◌, length, Option, Some, None}
use Rattle.jh_script.specs.declared.image.Image.{Image}
use Rattle.jh_history.specs.declared.form.Form.{Form}
use Rattle.jh_history.specs.declared.entry.Entry.{Entry}
use Rattle.jh_history.specs.Due.{IsLegal}
use Rattle.jh_history.specs.History.{facts}
use Rattle.jh_history.specs.Items.{items}
use Rattle.jh_shape.specs.Lives.{configs_of, all_cells}
use Rattle.jh_laws.specs.Items.{IsCutShort}
use Rattle.jh_laws.specs.Moments.{AdmittedMoment}
use Rattle.jh_pins.specs.TableView.{TableView}
use Rattle.jh_pins.specs.Holders.{table_of}
use Rattle.jh_pins.specs.Texts.{ArePinsOf}

-- the table of root and of the cells that live besides it after the entries
abbrev pub live_table : Image → Form → List Entry → TableView
live_table image form entries = table_of image.system.root (configs_of (facts image form entries).cells)

-- the table of the cells that live just before the entry
abbrev pub table_before : AdmittedMoment → TableView
table_before m = live_table m.image m.form m.before

-- the table of the cells that live just behind the entry
abbrev pub table_behind : AdmittedMoment → TableView
table_behind m = live_table m.image m.form (m.before ++ m.entry ∷ [])

-- the text of what all cells hold that live after the entries, root and then the others by creation, and of the clashes
abbrev pub IsPinsText : Image → Form → List Entry → List ℕ → Type 0
IsPinsText image form entries = ArePinsOf (live_table image form entries) (all_cells image.system.root (facts image form entries).cells)

-- the journal has `limit` entries, which the first items of the schedule make, and the next item has an entry due
abbrev pub IsStoppedAtLimit : Image → Form → ℕ → List ℕ → List Entry → Type 0
IsStoppedAtLimit image form limit schedule entries = (length entries ≡ limit) × IsCutShort image form limit schedule [] entries

-- what is told after the items of the schedule alone: the pins, or nothing where the limit stopped an item
abbrev pub IsPinsAnswer : Image → Form → ℕ → List ℕ → Option (List ℕ) → Type 0
IsPinsAnswer image form limit schedule None = ((items image form limit schedule []).full ≡ true) × IsStoppedAtLimit image form limit schedule (items image form limit schedule []).entries
IsPinsAnswer image form limit schedule (Some text) =
    ((items image form limit schedule []).full ≡ false) × IsLegal image form (items image form limit schedule []).entries × IsPinsText image form (items image form limit schedule []).entries text
