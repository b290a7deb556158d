-- What the files that a board names hand out.
use Rattle.std.specs.Prelude.{◌≡◌, ℕ, ◌+◌, ◌<◌, ◌≤◌, List, length, Ok}
use Rattle.jh_outside.specs.Reads.{KnownFile, HandsOut}
use Rattle.jh_cellcfg.specs.declared.config.SystemConfig.{SystemConfig}
use Rattle.jh_syscfg.specs.Layout.{IsSystem, IsSystemWithinLimits, system_spelling}
use Rattle.jh_script.specs.declared.image.Preload.{Preload}
use Rattle.jh_script.specs.declared.image.Program.{Program}
use Rattle.jh_script.specs.Programs.{program_of}
use Rattle.jh_image.specs.declared.board.Listing.{Listing}
use Rattle.jh_image.specs.declared.board.PreloadFile.{PreloadFile}
use Rattle.jh_image.specs.declared.board.ProgramFile.{ProgramFile}
use Rattle.jh_image.specs.Boards.{IsListingAnswer}

-- what files tell of each name
abbrev pub Contents : Type 0
Contents = List ℕ → KnownFile

-- the most bytes of a board and of each file that it names: 1 MiB
abbrev pub max_file_size : ℕ
max_file_size = 1048576

-- the bytes that the file of this name hands out where one more is asked for than a file may have
abbrev pub Hands : Contents → List ℕ → List ℕ → Type 0
Hands contents name bytes = HandsOut (contents name) (max_file_size + 1) bytes

-- the file hands out these bytes, and no more than a file may have
pub record HasBytes (contents : Contents) (name bytes : List ℕ) : Type 0 where
  pub handed : Hands contents name bytes
  pub few : length bytes ≤ max_file_size

-- the file has more bytes than a file may have
pub record IsOversize (contents : Contents) (name : List ℕ) : Type 0 where
  pub bytes : List ℕ
  pub handed : Hands contents name bytes
  pub many : max_file_size < length bytes

-- the board's file tells this listing
pub record Lists (contents : Contents) (board : List ℕ) (listing : Listing) : Type 0 where
  pub bytes : List ℕ
  pub has : HasBytes contents board bytes
  pub told : IsListingAnswer bytes (Ok listing)

-- the bytes spell this system
pub record IsSystemSpelling (bytes : List ℕ) (system : SystemConfig) : Type 0 where
  pub typed : IsSystem system
  pub limits : IsSystemWithinLimits system
  pub spelled : bytes ≡ system_spelling system

-- the file spells this system
pub record SpellsSystem (contents : Contents) (name : List ℕ) (system : SystemConfig) : Type 0 where
  pub bytes : List ℕ
  pub has : HasBytes contents name bytes
  pub is : IsSystemSpelling bytes system

-- the preload is the file's bytes, at the place that the board gives them
pub record IsPreloadOf (contents : Contents) (file : PreloadFile) (preload : Preload) : Type 0 where
  pub has : HasBytes contents file.file preload.bytes
  pub at : preload.at ≡ file.at

-- the program is what the file's text tells, for the CPU of the cell that the board names
pub record IsProgramOf (contents : Contents) (file : ProgramFile) (program : Program) : Type 0 where
  pub bytes : List ℕ
  pub has : HasBytes contents file.file bytes
  pub told : program_of bytes ≡ Ok program.ops
  pub cell : program.cell ≡ file.cell
  pub cpu : program.cpu ≡ file.cpu
