-- Why one step of the reading gives nothing: the file that it names, and the cause.
use Rattle.std.specs.Prelude.{◌≡◌, ◌≢◌, ℕ, ◌<◌, List, [], length, Err}
use Rattle.jh_cellcfg.specs.declared.config.SystemConfig.{SystemConfig}
use Rattle.jh_check.specs.Lists.{capped}
use Rattle.jh_check.specs.Findings.{findings}
use Rattle.jh_script.specs.declared.image.Preload.{Preload}
use Rattle.jh_script.specs.declared.fault.ProgramFault.{ProgramFault}
use Rattle.jh_script.specs.Programs.{program_of}
use Rattle.jh_history.specs.Admitted.{root_pages, pool_pages}
use Rattle.jh_spec.specs.declared.fault.JsonFault.{JsonFault}
use Rattle.jh_spec.specs.declared.fault.JsonFault.TheVariants as boards
use Rattle.jh_image.specs.declared.fault.ImageCause.{ImageCause}
use Rattle.jh_image.specs.declared.fault.ImageCause.TheVariants.{ReadFault, Oversize, Json, Member, Findings, PoolSmall, Preload as BadPreload, Program as BadProgram}
use Rattle.jh_image.specs.declared.board.PreloadFile.{PreloadFile}
use Rattle.jh_image.specs.Preloads.{IsFaultless}
use Rattle.jh_image.specs.Files.{Contents, HasBytes, IsOversize, IsPreloadOf}

-- the file of this name can't be read, or is too large
abbrev pub IsFileRefusal : Contents → List ℕ → List ℕ → ImageCause → Type 0
IsFileRefusal contents name file ReadFault = file ≡ name
IsFileRefusal contents name file Oversize = (file ≡ name) × IsOversize contents name
IsFileRefusal contents name file _ = ⊥

-- the file and the cause are these
abbrev pub IsRefusal : List ℕ → ImageCause → List ℕ → ImageCause → Type 0
IsRefusal name wanted file cause = (file ≡ name) × (cause ≡ wanted)

-- the file is the board of this name, and the cause is that of its fault
abbrev pub IsBoardRefusal : List ℕ → JsonFault → List ℕ → ImageCause → Type 0
IsBoardRefusal name boards.Json file cause = IsRefusal name Json file cause
IsBoardRefusal name (boards.Member member) file cause = IsRefusal name (Member member) file cause
IsBoardRefusal name boards.NoMemory file cause = ⊥

-- the pool has fewer pages than root takes, which is the board's fault
abbrev pub IsPoolSmall : List ℕ → SystemConfig → List ℕ → ImageCause → Type 0
IsPoolSmall board system file (PoolSmall need have) = (file ≡ board) × (need ≡ root_pages system) × (have ≡ pool_pages system) × (have < need)
IsPoolSmall board system file _ = ⊥

-- the system isn't admitted: the check finds something in it alone, or the pool has fewer pages than root takes
abbrev pub IsUnadmitted : List ℕ → List ℕ → SystemConfig → List ℕ → ImageCause → Type 0
IsUnadmitted board name system file (Findings found) = (file ≡ name) × (found ≡ capped (findings system [])) × (findings system [] ≢ [])
IsUnadmitted board name system file (PoolSmall need have) = (findings system [] ≡ []) × IsPoolSmall board system file (PoolSmall need have)
IsUnadmitted board name system file _ = ⊥

-- the preload's file was read, and the preload has a fault, which is the board's: it has this number, that of the preloads
-- before it
pub record IsFaultyPreload (contents : Contents) (board : List ℕ) (system : SystemConfig) (earlier : List Preload) (entry : PreloadFile) (file : List ℕ) (number : ℕ) : Type 0 where
  pub file_is : file ≡ board
  pub number_is : number ≡ length earlier
  pub preload : Preload
  pub read : IsPreloadOf contents entry preload
  pub faulty : ¬ IsFaultless system.platform.hypervisor_memory earlier preload

-- why a preload's file gives no preload behind the earlier ones: it can't be read, is too large, or the preload has a fault
abbrev pub IsPreloadCause : Contents → List ℕ → SystemConfig → List Preload → PreloadFile → List ℕ → ImageCause → Type 0
IsPreloadCause contents board system earlier entry file ReadFault = IsFileRefusal contents entry.file file ReadFault
IsPreloadCause contents board system earlier entry file Oversize = IsFileRefusal contents entry.file file Oversize
IsPreloadCause contents board system earlier entry file (BadPreload number) = IsFaultyPreload contents board system earlier entry file number
IsPreloadCause contents board system earlier entry file _ = ⊥

-- the text of a program's file has this fault
pub record IsNoProgram (contents : Contents) (name file : List ℕ) (fault : ProgramFault) : Type 0 where
  pub file_is : file ≡ name
  pub bytes : List ℕ
  pub has : HasBytes contents name bytes
  pub told : program_of bytes ≡ Err fault

-- why a program's file gives no program: it can't be read, is too large, or its text has a fault
abbrev pub IsProgramCause : Contents → List ℕ → List ℕ → ImageCause → Type 0
IsProgramCause contents name file ReadFault = IsFileRefusal contents name file ReadFault
IsProgramCause contents name file Oversize = IsFileRefusal contents name file Oversize
IsProgramCause contents name file (BadProgram fault) = IsNoProgram contents name file fault
IsProgramCause contents name file _ = ⊥
