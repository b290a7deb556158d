-- The text of the maps of cells.
use Rattle.std.specs.Prelude.{ℕ, Bool, true, false, List, [], ◌∷◌, ◌++◌, codes}
use Rattle.std.specs.List.{flat_map}
use Rattle.std.specs.Fmt.{decimal}
use Rattle.jh_num.specs.declared.rights.Rights.{Rights}
use Rattle.jh_cellcfg.specs.declared.config.CellConfig.{CellConfig}
use Rattle.jh_cellcfg.specs.Cells.{name_of}
use Rattle.jh_map.specs.declared.run.Run.{Run}
use Rattle.jh_text.specs.Text.{hexadecimal, words_line}

-- `phys` where a run leads to physical places, `comm` where it leads to the communication page
abbrev pub place_text : Bool → List ℕ
place_text true = codes "comm"
place_text false = codes "phys"

-- the letter of a right where one has it, else `-`
abbrev pub letter_or_dash : Bool → List ℕ → List ℕ
letter_or_dash true letter = letter
letter_or_dash false letter = codes "-"

-- the letters of the three rights: `r` to read, `w` to write, `x` to execute
abbrev pub rights_text : Rights → List ℕ
rights_text rights = letter_or_dash rights.read (codes "r") ++ letter_or_dash rights.write (codes "w") ++ letter_or_dash rights.execute (codes "x")

-- `page` where the region is of whole pages, `sub` where it is a subpage region
abbrev pub kind_text : Bool → List ℕ
kind_text true = codes "page"
kind_text false = codes "sub"

-- the words of a run: its addresses, up to one past the last; where the first leads; its rights, and the kind of its region
abbrev pub run_words : Run → List (List ℕ)
run_words run = (hexadecimal run.start ++ codes "-" ++ hexadecimal run.end) ∷ place_text run.comm ∷ hexadecimal run.place ∷ rights_text run.rights ∷ kind_text run.page ∷ []

-- the words for a cell: its id and its name
abbrev pub cell_words : CellConfig → List (List ℕ)
cell_words cell = codes "cell" ∷ decimal cell.id ∷ name_of cell ∷ []

-- the line of a run
abbrev pub run_line : Run → List ℕ
run_line run = words_line (run_words run)

-- the text of a cell's map: a line for the cell, and one for each run
abbrev pub map_text : CellConfig → List Run → List ℕ
map_text cell runs = words_line (cell_words cell) ++ flat_map run_line runs
