-- Why a board makes no image: the first cause in the order of reading, and the file that it names.
use Rattle.std.specs.Prelude.{◌≡◌, ◌≢◌, ⊤, ℕ, ◌<◌, List, [], length, Some, Result, Ok, Err}
use Rattle.jh_cellcfg.specs.declared.config.SystemConfig.{SystemConfig}
use Rattle.jh_cellcfg.specs.declared.fault.ConfigFault.{ConfigFault}
use Rattle.jh_syscfg.specs.SystemFaults.{system_fault}
use Rattle.jh_check.specs.Lists.{capped}
use Rattle.jh_check.specs.Findings.{findings}
use Rattle.jh_script.specs.declared.image.Preload.{Preload}
use Rattle.jh_script.specs.declared.image.Image.{Image}
use Rattle.jh_script.specs.declared.fault.ProgramFault.{ProgramFault}
use Rattle.jh_script.specs.Programs.{program_of}
use Rattle.jh_history.specs.Admitted.{root_pages, pool_pages}
use Rattle.jh_outside.specs.Count.{Rose}
use Rattle.jh_image.specs.declared.board.Listing.{Listing}
use Rattle.jh_spec.specs.declared.fault.JsonFault.TheVariants as boards
use Rattle.jh_image.specs.declared.board.PreloadFile.{PreloadFile}
use Rattle.jh_image.specs.declared.board.ProgramFile.{ProgramFile}
use Rattle.jh_image.specs.declared.fault.ImageCause.{ImageCause}
use Rattle.jh_image.specs.declared.fault.ImageCause.TheVariants.{ReadFault, Oversize, Json, Member, System, Findings, PoolSmall, Preload as BadPreload, Program as BadProgram}
use Rattle.jh_image.specs.declared.fault.ImageFault.{ImageFault}
use Rattle.jh_image.specs.declared.fault.ImageFault.TheVariants.{Refused, NoMemory}
use Rattle.jh_image.specs.Boards.{IsListingAnswer}
use Rattle.jh_image.specs.Preloads.{IsFaultless}
use Rattle.jh_image.specs.Files.{Contents, HasBytes, IsOversize, SpellsSystem, IsPreloadOf}
use Rattle.jh_image.specs.Images.{SoFar, Stage, nothing, with_listing, with_system, IsNextPreload, IsNextProgram, IsNextFile, ReadsTo, IsImage}

-- ---- what is wrong with a file

-- the file can't be read, of which only the files know more; or it is too large
pub data IsFileFault (contents : Contents) (file : List ℕ) : ImageCause → Type 0 where
  cannot_be_read : IsFileFault contents file ReadFault
  is_too_large : IsOversize contents file → IsFileFault contents file Oversize

-- the board's bytes are no JSON object's; or its member of this name is at fault
pub data IsBoardFault (contents : Contents) (board : List ℕ) : ImageCause → Type 0 where
  is_no_object : (bytes : List ℕ) → HasBytes contents board bytes → IsListingAnswer bytes (Err boards.Json) → IsBoardFault contents board Json
  has_bad_member : (bytes name : List ℕ) → HasBytes contents board bytes → IsListingAnswer bytes (Err (boards.Member name)) → IsBoardFault contents board (Member name)

-- the file's bytes spell no system; or the check finds something in that system alone, of which the first thousand are told
pub data IsSystemFault (contents : Contents) (file : List ℕ) : ImageCause → Type 0 where
  is_no_system : (bytes : List ℕ) (fault : ConfigFault) → HasBytes contents file bytes → system_fault bytes ≡ Some fault → IsSystemFault contents file (System fault)
  has_findings : (system : SystemConfig) → SpellsSystem contents file system → findings system [] ≢ [] → IsSystemFault contents file (Findings (capped (findings system [])))

-- the file spells this system, and the check finds nothing in it alone, but its pool has fewer pages than root takes
pub record IsPoolFault (contents : Contents) (file : List ℕ) (system : SystemConfig) : Type 0 where
  pub spells : SpellsSystem contents file system
  pub clean : findings system [] ≡ []
  pub small : pool_pages system < root_pages system

-- the preload that is next is read, and has a fault: of its place, or beside those before it
pub record IsPreloadFault (contents : Contents) (so_far : SoFar) : Type 0 where
  pub file : PreloadFile
  pub next : IsNextPreload so_far file
  pub preload : Preload
  pub read : IsPreloadOf contents file preload
  pub faulty : ¬ IsFaultless so_far.system.platform.hypervisor_memory so_far.preloads preload

-- the program that is next is read, and its text has this fault
pub record IsProgramFault (contents : Contents) (so_far : SoFar) (file : ProgramFile) (fault : ProgramFault) : Type 0 where
  pub next : IsNextProgram so_far file
  pub bytes : List ℕ
  pub has : HasBytes contents file.file bytes
  pub told : program_of bytes ≡ Err fault

-- ---- the first cause

-- why the reading stops at the stage: the file that is named, and the cause. A small pool and a preload at fault, which
-- is told by its number from 0, are the board's faults.
pub data HasCause (contents : Contents) (board : List ℕ) : Stage → List ℕ → ImageCause → Type 0 where
  by_file : (stage : Stage) (file : List ℕ) (cause : ImageCause) → IsNextFile board stage file → IsFileFault contents file cause → HasCause contents board stage file cause
  by_board : (cause : ImageCause) → IsBoardFault contents board cause → HasCause contents board nothing board cause
  by_system : (listing : Listing) (cause : ImageCause) → IsSystemFault contents listing.system cause → HasCause contents board (with_listing listing) listing.system cause
  by_pool : (listing : Listing) (system : SystemConfig) → IsPoolFault contents listing.system system
      → HasCause contents board (with_listing listing) board (PoolSmall (root_pages system) (pool_pages system))
  by_preload : (so_far : SoFar) → IsPreloadFault contents so_far → HasCause contents board (with_system so_far) board (BadPreload (length so_far.preloads))
  by_program : (so_far : SoFar) (file : ProgramFile) (fault : ProgramFault) → IsProgramFault contents so_far file fault
      → HasCause contents board (with_system so_far) file.file (BadProgram fault)

-- the reading of the board stops, names this file, and has this cause
pub record IsCauseOf (contents : Contents) (board file : List ℕ) (cause : ImageCause) : Type 0 where
  pub stage : Stage
  pub read : ReadsTo contents board stage
  pub stops : HasCause contents board stage file cause

-- P holds of the file and the cause, but for want of memory
abbrev pub OnRefused : (List ℕ → ImageCause → Type 0) → ImageFault → Type 0
OnRefused P (Refused file cause) = P file cause
OnRefused P NoMemory = ⊤

-- what is answered: the image that the files make, or the first cause why there is none
abbrev pub IsImageAnswer : Contents → List ℕ → Result Image ImageFault → Type 0
IsImageAnswer contents board (Ok image) = IsImage contents board image
IsImageAnswer contents board (Err fault) = OnRefused (IsCauseOf contents board) fault

-- the cause is that a file can't be read only where the count of faults rose, and the file is that of the last read
-- that failed
abbrev pub IsCountedAt : ℕ → ℕ → List ℕ → List ℕ → ImageCause → Type 0
IsCountedAt old new failed file ReadFault = Rose old new × (failed ≡ file)
IsCountedAt old new failed file _ = ⊤

-- what is answered is that a file can't be read only where the count of faults rose, and the file is that of the last
-- read that failed
abbrev pub IsCounted : ℕ → ℕ → List ℕ → ImageFault → Type 0
IsCounted old new failed fault = OnRefused (IsCountedAt old new failed) fault
