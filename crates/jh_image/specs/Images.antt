-- The order in which a board's files are read: the board, its system, each preload, each program. What is read so far,
-- which file is next, and what its read adds.
use Rattle.std.specs.Prelude.{◌≡◌, ℕ, List, [], ◌∷◌, ◌++◌, length, Some, slice_get}
use Rattle.jh_cellcfg.specs.declared.config.SystemConfig.{SystemConfig}
use Rattle.jh_script.specs.declared.image.Preload.{Preload}
use Rattle.jh_script.specs.declared.image.Program.{Program}
use Rattle.jh_script.specs.declared.image.Image.{Image}
use Rattle.jh_history.specs.Admitted.{IsAdmittedSystem}
use Rattle.jh_image.specs.declared.board.Listing.{Listing}
use Rattle.jh_image.specs.declared.board.PreloadFile.{PreloadFile}
use Rattle.jh_image.specs.declared.board.ProgramFile.{ProgramFile}
use Rattle.jh_image.specs.Preloads.{IsFaultless}
use Rattle.jh_image.specs.Files.{Contents, Lists, SpellsSystem, IsPreloadOf, IsProgramOf}

-- what is read so far, once the board and its system are: the listing, the system, and preloads and programs
pub record SoFar : Type 0 where
  pub listing : Listing
  pub system : SystemConfig
  pub preloads : List Preload
  pub programs : List Program

-- how far the reading has come: nothing is read; the board is; or its system is, and maybe files behind it
pub data Stage : Type 0 where
  nothing : Stage
  with_listing : Listing → Stage
  with_system : SoFar → Stage

-- what is read so far: this listing, this system, these preloads and these programs
abbrev pub so_far_of : Listing → SystemConfig → List Preload → List Program → SoFar
so_far_of listing system preloads programs = record { listing = listing; system = system; preloads = preloads; programs = programs }

-- what is read so far, with one preload more
abbrev pub with_preload : SoFar → Preload → SoFar
with_preload so_far preload = record so_far { preloads = so_far.preloads ++ preload ∷ [] }

-- what is read so far, with one program more
abbrev pub with_program : SoFar → Program → SoFar
with_program so_far program = record so_far { programs = so_far.programs ++ program ∷ [] }

-- ---- the next file

-- the preload of this file is next
abbrev pub IsNextPreload : SoFar → PreloadFile → Type 0
IsNextPreload so_far file = slice_get so_far.listing.preloads (length so_far.preloads) ≡ Some file

-- no preload is left to be read
abbrev pub HasAllPreloads : SoFar → Type 0
HasAllPreloads so_far = length so_far.preloads ≡ length so_far.listing.preloads

-- no file is left to be read
pub record IsComplete (so_far : SoFar) : Type 0 where
  pub preloads : HasAllPreloads so_far
  pub programs : length so_far.programs ≡ length so_far.listing.programs

-- the program of this file is next: no preload is left to be read
pub record IsNextProgram (so_far : SoFar) (file : ProgramFile) : Type 0 where
  pub preloads : HasAllPreloads so_far
  pub next : slice_get so_far.listing.programs (length so_far.programs) ≡ Some file

-- the file of this name is next
pub data IsNextFile (board : List ℕ) : Stage → List ℕ → Type 0 where
  the_board : IsNextFile board nothing board
  the_system : (listing : Listing) → IsNextFile board (with_listing listing) listing.system
  a_preload : (so_far : SoFar) (file : PreloadFile) → IsNextPreload so_far file → IsNextFile board (with_system so_far) file.file
  a_program : (so_far : SoFar) (file : ProgramFile) → IsNextProgram so_far file → IsNextFile board (with_system so_far) file.file

-- ---- reading

-- the next file is read and not refused, and takes the reading from the one stage to the other
pub data ReadsNext (contents : Contents) (board : List ℕ) : Stage → Stage → Type 0 where
  reads_board : (listing : Listing) → Lists contents board listing → ReadsNext contents board nothing (with_listing listing)
  reads_system : (listing : Listing) (system : SystemConfig) → SpellsSystem contents listing.system system → IsAdmittedSystem system
      → ReadsNext contents board (with_listing listing) (with_system (so_far_of listing system [] []))
  reads_preload : (so_far : SoFar) (file : PreloadFile) (preload : Preload) → IsNextPreload so_far file → IsPreloadOf contents file preload
      → IsFaultless so_far.system.platform.hypervisor_memory so_far.preloads preload → ReadsNext contents board (with_system so_far) (with_system (with_preload so_far preload))
  reads_program : (so_far : SoFar) (file : ProgramFile) (program : Program) → IsNextProgram so_far file → IsProgramOf contents file program
      → ReadsNext contents board (with_system so_far) (with_system (with_program so_far program))

-- the reading comes to the stage, file by file
pub data ReadsTo (contents : Contents) (board : List ℕ) : Stage → Type 0 where
  nothing_read : ReadsTo contents board nothing
  one_more_read : (before now : Stage) → ReadsTo contents board before → ReadsNext contents board before now → ReadsTo contents board now

-- the board's files make this image
pub record IsImage (contents : Contents) (board : List ℕ) (image : Image) : Type 0 where
  pub listing : Listing
  pub read : ReadsTo contents board (with_system (so_far_of listing image.system image.preloads image.programs))
  pub complete : IsComplete (so_far_of listing image.system image.preloads image.programs)
