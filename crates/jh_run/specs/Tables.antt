-- What the tables of all live cells say after a schedule.
use Rattle.std.specs.Prelude.{◌≡◌, ℕ, Bool, true, false, ◌==◌, List, [], ◌∷◌, ◌++◌, Option, Some, None, codes, if◌then◌else◌}
use Rattle.std.specs.List.{flat_map}
use Rattle.std.specs.Fmt.{decimal}
use Rattle.jh_num.specs.declared.level.TheConstants.{LAST_LEVEL}
use Rattle.jh_cellcfg.specs.declared.live.Live.{Live}
use Rattle.jh_shape.specs.Lives.{configs_of}
use Rattle.jh_shape.specs.Pages.{pages_of}
use Rattle.jh_script.specs.declared.image.Image.{Image}
use Rattle.jh_history.specs.declared.form.Form.TheVariants.{Two}
use Rattle.jh_history.specs.Admitted.{pool_pages}
use Rattle.jh_history.specs.Due.{IsLegal}
use Rattle.jh_history.specs.History.{facts}
use Rattle.jh_history.specs.Items.{items}
use Rattle.jh_text.specs.Maps.{rights_text}
use Rattle.jh_text.specs.Text.{hexadecimal, words_line}
use Rattle.jh_board.specs.declared.leaves.TableLeaf.{TableLeaf}
use Rattle.jh_board.specs.Leaves.{leaves_of_all}
use Rattle.jh_run.specs.Plays.{IsFullAtItem}

-- `page` for a leaf of the last level, `block` for one above it
abbrev pub leaf_kind : ℕ → List ℕ
leaf_kind level = if level == LAST_LEVEL then codes "page" else codes "block"

-- the word for the kind of memory that a leaf leads to
abbrev pub memory_kind : Bool → List ℕ
memory_kind true = codes "device"
memory_kind false = codes "normal"

-- the words of a leaf: its cell's id, its level, its first address, its kind, where it leads, its rights, the kind of memory
abbrev pub leaf_words : TableLeaf → List (List ℕ)
leaf_words leaf =
    decimal leaf.cell ∷ decimal leaf.leaf.level ∷ hexadecimal leaf.leaf.at ∷ leaf_kind leaf.leaf.level ∷ hexadecimal leaf.leaf.out ∷ rights_text leaf.leaf.rights ∷ memory_kind leaf.leaf.device ∷ []

-- the line of a leaf
abbrev pub leaf_line : TableLeaf → List ℕ
leaf_line leaf = words_line (leaf_words leaf)

-- the last line: how many pages are used, of how many
abbrev pub used_line : ℕ → ℕ → List ℕ
used_line used size = words_line (codes "pages" ∷ decimal used ∷ codes "of" ∷ decimal size ∷ [])

-- the text of the tables of root and of the cells that live besides it
abbrev pub tables_text : Image → List Live → List ℕ
tables_text image lives =
    flat_map leaf_line (leaves_of_all image lives) ++ used_line (pages_of image.system.root.memory_regions (configs_of lives)) (pool_pages image.system)

-- what is told after the items of the schedule alone: the tables, or nothing where the limit stopped an item
abbrev pub IsTablesAnswer : Image → ℕ → List ℕ → Option (List ℕ) → Type 0
IsTablesAnswer image limit schedule None = ((items image Two limit schedule []).full ≡ true) × IsFullAtItem image limit schedule (items image Two limit schedule []).entries
IsTablesAnswer image limit schedule (Some text) =
    ((items image Two limit schedule []).full ≡ false) × IsLegal image Two (items image Two limit schedule []).entries
    × (text ≡ tables_text image (facts image Two (items image Two limit schedule []).entries).cells)
