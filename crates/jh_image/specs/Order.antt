-- The order in which a board's files are read, each once, and how far a call comes in it.
use Rattle.std.specs.Prelude.{ℕ, List, [], ◌∷◌, ◌++◌, length, map, take}
use Rattle.jh_outside.specs.declared.files.Files.{Ghosts}
use Rattle.jh_outside.specs.Ask.{Ask, handed, faulted}
use Rattle.jh_outside.specs.Trail.{AsksAll, AsksUpTo}
use Rattle.jh_image.specs.declared.board.Listing.{Listing}
use Rattle.jh_image.specs.declared.board.PreloadFile.{PreloadFile}
use Rattle.jh_image.specs.declared.board.ProgramFile.{ProgramFile}
use Rattle.jh_image.specs.declared.fault.ImageCause.{ImageCause}
use Rattle.jh_image.specs.declared.fault.ImageCause.TheVariants.{ReadFault}
use Rattle.jh_image.specs.Files.{Contents, Lists}
use Rattle.jh_image.specs.Images.{SoFar, Stage, nothing, with_listing, with_system, IsNextFile}
use Rattle.jh_image.specs.Causes.{IsCauseOf}

-- the name of the preload's file
abbrev pub preload_name : PreloadFile → List ℕ
preload_name file = file.file

-- the name of the program's file
abbrev pub program_name : ProgramFile → List ℕ
program_name file = file.file

-- the names of a board's files in their order: the board, its system, each preload and each program
abbrev pub board_files : List ℕ → Listing → List (List ℕ)
board_files board listing = board ∷ listing.system ∷ (map preload_name listing.preloads ++ map program_name listing.programs)

-- the names of the preloads' and of the programs' files that are read so far, in their order
abbrev pub loaded_files : SoFar → List (List ℕ)
loaded_files so_far =
    map preload_name (take (length so_far.preloads) so_far.listing.preloads) ++ map program_name (take (length so_far.programs) so_far.listing.programs)

-- the names of the files that are read where the reading has come to the stage, in their order
abbrev pub files_read : List ℕ → Stage → List (List ℕ)
files_read board nothing = []
files_read board (with_listing listing) = board ∷ []
files_read board (with_system so_far) = board ∷ so_far.listing.system ∷ loaded_files so_far

-- the read of the file at which this cause is found
abbrev pub last_ask : ImageCause → List ℕ → Ask
last_ask ReadFault name = faulted name
last_ask _ name = handed name

-- `files` says what each read does to the files, and which name they keep
module _ {S : Type 0} (files : Ghosts S) (contents : Contents) (board : List ℕ) where
  -- the files of the board were read
  pub record AsksBoard (s t : S) : Type 0 where
    pub listing : Listing
    pub lists : Lists contents board listing
    pub all : AsksAll files (board_files board listing) s t

  -- the reading of the board stops, names this file, and has this cause; the files behind which it stops were read, then
  -- the one that is next, and no other. That one is named, but for a small pool and a preload at fault, where it is the
  -- system's and the preload's
  pub record AsksBoardUntil (file : List ℕ) (cause : ImageCause) (s t : S) : Type 0 where
    pub stops : IsCauseOf contents board file cause
    pub name : List ℕ
    pub next : IsNextFile board stops.stage name
    pub asked : AsksUpTo files (files_read board stops.stage) (last_ask cause name) s t
