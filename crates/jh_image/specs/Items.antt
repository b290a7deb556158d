-- What the items of a board's lists tell: objects with the members of a preload or of a program, and no others.
use Rattle.std.specs.Prelude.{ℕ, Bool, ◌&&◌, nat_lt, nat_le, List, [], ◌∷◌, length, codes, Option, Some, None, option_and_then, if◌then◌else◌}
use Rattle.std.specs.List.{list_all}
use Rattle.serde_json.specs.Data.{Data}
use Rattle.serde_json.specs.Find.{as_str}
use Rattle.jh_cellcfg.specs.Limits.{is_printable}
use Rattle.jh_spec.specs.Json.{◌>>=◌, told_at, has_only, number_told, number_below}
use Rattle.jh_image.specs.declared.board.PreloadFile.{PreloadFile}
use Rattle.jh_image.specs.declared.board.ProgramFile.{ProgramFile}

-- the names of a preload's members
abbrev pub preload_names : List (List ℕ)
preload_names = codes "file" ∷ codes "at" ∷ []

-- the preload that an object's members tell, whatever other names it has
abbrev pub preload_members : Data → Option PreloadFile
preload_members d = do
  file ← told_at as_str (codes "file") d
  at ← told_at number_told (codes "at") d
  Some (record { file = file; at = at })

-- the preload that an object tells, where it has no other names than a preload's
unfoldable pub preload_told : Data → Option PreloadFile
preload_told d = if has_only preload_names d then preload_members d else None

-- the text is a cell's name: 1 to 31 characters from the space to the tilde
abbrev pub is_cell_name : List ℕ → Bool
is_cell_name text = nat_lt 0 (length text) && (nat_le (length text) 31 && list_all is_printable text)

-- the cell's name that a text tells, if it is one
abbrev pub cell_name_told : Data → Option (List ℕ)
cell_name_told d = option_and_then (λ text. if is_cell_name text then Some text else None) (as_str d)

-- the names of a program's members
abbrev pub program_names : List (List ℕ)
program_names = codes "cell" ∷ codes "cpu" ∷ codes "file" ∷ []

-- the program's file that an object's members tell, whatever other names it has
abbrev pub program_members : Data → Option ProgramFile
program_members d = do
  cell ← told_at cell_name_told (codes "cell") d
  cpu ← told_at (number_below 16) (codes "cpu") d
  file ← told_at as_str (codes "file") d
  Some (record { cell = cell; cpu = cpu; file = file })

-- the program's file that an object tells, where it has no other names than a program's
unfoldable pub program_told : Data → Option ProgramFile
program_told d = if has_only program_names d then program_members d else None
