-- What the text of a board tells: the names of its files, and what each is for.
use Rattle.std.specs.Prelude.{ℕ, Bool, true, ◌&&◌, not, ◌==◌, nat_eq, List, [], ◌∷◌, map, codes, Option, Some, None, Result, Ok, Err, is_some, option_and_then, if◌then◌else◌}
use Rattle.std.specs.List.{list_any}
use Rattle.std.specs.Cmp.Lexicographic.{pointwise}
use Rattle.serde_json.specs.Data.{Data}
use Rattle.serde_json.specs.Find.{as_str, as_object}
use Rattle.jh_spec.specs.Faults.{◌>>=◌, member_told, all_listed, IsJsonAnswer}
use Rattle.jh_spec.specs.Json.{told_at, list_at}
use Rattle.jh_image.specs.declared.board.Listing.{Listing}
use Rattle.jh_image.specs.declared.board.PreloadFile.{PreloadFile}
use Rattle.jh_image.specs.declared.board.ProgramFile.{ProgramFile}
use Rattle.jh_image.specs.Items.{preload_told, program_told}
use Rattle.jh_spec.specs.declared.fault.JsonFault.{JsonFault}
use Rattle.jh_spec.specs.declared.fault.JsonFault.TheVariants.{Json}

-- ---- the board's members

-- a CPU of a cell: the cell's name, and the CPU's number
pub record NamedCpu : Type 0 where
  pub cell : List ℕ
  pub cpu : ℕ

-- the CPU of the cell that the program's file is for
abbrev pub named_cpu_of : ProgramFile → NamedCpu
named_cpu_of file = record { cell = file.cell; cpu = file.cpu }

-- the two are the same CPU of the same cell
abbrev pub is_same_cpu : NamedCpu → NamedCpu → Bool
is_same_cpu one other = pointwise nat_eq one.cell other.cell && (one.cpu == other.cpu)

-- no CPU of a cell stands twice
unfoldable pub are_distinct : List NamedCpu → Bool
are_distinct [] = true
are_distinct (cpu ∷ cpus) = not (list_any (is_same_cpu cpu) cpus) && are_distinct cpus

-- the files of programs, where no two are of one CPU of one cell
abbrev pub where_distinct : List ProgramFile → Option (List ProgramFile)
where_distinct files = if are_distinct (map named_cpu_of files) then Some files else None

-- the system's file, which must be there
abbrev pub system_told : Data → Option (List ℕ)
system_told d = told_at as_str (codes "system") d

-- the files of at most 64 preloads; none where the member is missing
unfoldable pub preloads_told : Data → Option (List PreloadFile)
preloads_told d = list_at preload_told 64 (codes "preloads") d

-- the files of at most 256 programs, each for a CPU of its own; none where the member is missing
unfoldable pub programs_told : Data → Option (List ProgramFile)
programs_told d = option_and_then where_distinct (list_at program_told 256 (codes "programs") d)

-- the names of a board's members
abbrev pub board_names : List (List ℕ)
board_names = codes "system" ∷ codes "preloads" ∷ codes "programs" ∷ []

-- ---- the board

-- the listing that an object's members tell, where it has no other names than a board's; else the first fault
unfoldable pub listing_told : Data → Result Listing JsonFault
listing_told d = do
  system ← member_told (codes "system") (system_told d)
  preloads ← member_told (codes "preloads") (preloads_told d)
  programs ← member_told (codes "programs") (programs_told d)
  _ ← all_listed board_names d
  Ok (record { system = system; preloads = preloads; programs = programs })

-- what a value tells, which must be an object
abbrev pub board_told : Data → Result Listing JsonFault
board_told d = if is_some (as_object d) then listing_told d else Err Json

-- what is answered to these bytes: what their value tells, or that they are no object's text
abbrev pub IsListingAnswer : List ℕ → Result Listing JsonFault → Type 0
IsListingAnswer bytes result = IsJsonAnswer board_told bytes result
