-- What `check` ends with.
use Rattle.std.specs.Prelude.{◌≡◌, ◌<◌, ℕ, ◌⊎◌, if◌then◌else◌, List, [], ◌∷◌, ◌++◌, length, ⊤, Some, codes, decimal}
use Rattle.std.specs.List.{flat_map}
use Rattle.jh_cellcfg.specs.declared.config.CellConfig.{CellConfig}
use Rattle.jh_cellcfg.specs.declared.config.SystemConfig.{SystemConfig}
use Rattle.jh_cellcfg.specs.declared.fault.ConfigFault.{ConfigFault}
use Rattle.jh_cellcfg.specs.Faults.{first_fault}
use Rattle.jh_cellcfg.specs.Limits.{IsWithinLimits}
use Rattle.jh_cellcfg.specs.Spelling.{spelling}
use Rattle.jh_cellcfg.specs.Texts.{config_fault_text}
use Rattle.jh_cellcfg.specs.Typed.{IsCell}
use Rattle.jh_syscfg.specs.SystemFaults.{system_fault}
use Rattle.jh_check.specs.declared.finding.Finding.{Finding}
use Rattle.jh_check.specs.Findings.{findings}
use Rattle.jh_check.specs.Lists.{capped, is_any}
use Rattle.jh_check.specs.Texts.{finding_text}
use Rattle.jh_image.specs.Files.{Contents, IsSystemSpelling}
use Rattle.jh_cli.specs.Reading.{Reply, FileKind, Spells, EndsAtFile, Reads, RefusesOversize}
use Rattle.jh_cli.specs.declared.status.Status.{Status}
use Rattle.jh_cli.specs.declared.status.Status.TheVariants.{Good, Found}
use Rattle.jh_cli.specs.Limits.{asked_of_a_file}

-- the bytes of a file are those of this cell
pub record IsCellFile (bytes : List ℕ) (cell : CellConfig) : Type 0 where
  pub within : length bytes < asked_of_a_file
  pub typed : IsCell cell
  pub limits : IsWithinLimits cell
  pub spelled : bytes ≡ spelling cell

-- the bytes of a file are no cell's, for the fault that these words tell
pub record IsNoCell (bytes words : List ℕ) : Type 0 where
  pub within : length bytes < asked_of_a_file
  pub fault : ConfigFault
  pub first : first_fault bytes ≡ Some fault
  pub told : words ≡ config_fault_text fault

-- a cell's file of these bytes is refused by these words: it is too large, or no cell's
abbrev pub CellRefusal : List ℕ → List ℕ → Type 0
CellRefusal bytes words = RefusesOversize bytes words ⊎ IsNoCell bytes words

-- the bytes of a file are those of this system
pub record IsSystemFile (bytes : List ℕ) (system : SystemConfig) : Type 0 where
  pub within : length bytes < asked_of_a_file
  pub is : IsSystemSpelling bytes system

-- the bytes of a file are no system's, for the fault that these words tell
pub record IsNoSystem (bytes words : List ℕ) : Type 0 where
  pub within : length bytes < asked_of_a_file
  pub fault : ConfigFault
  pub first : system_fault bytes ≡ Some fault
  pub told : words ≡ config_fault_text fault

-- a system's file of these bytes is refused by these words: it is too large, or no system's
abbrev pub SystemRefusal : List ℕ → List ℕ → Type 0
SystemRefusal bytes words = RefusesOversize bytes words ⊎ IsNoSystem bytes words

-- a system's file
abbrev pub system_file : FileKind SystemConfig
system_file = record { most = asked_of_a_file; Refusal = SystemRefusal; Form = IsSystemFile }

-- the files of these names spell these cells, one each
abbrev pub SpellCells : Contents → List (List ℕ) → List CellConfig → Type 0
SpellCells contents [] [] = ⊤
SpellCells contents (name ∷ names) (cell ∷ cells) = Spells contents name IsCellFile cell × SpellCells contents names cells
SpellCells contents _ _ = ⊥

-- one of the files stops the call, and those before it spell cells
pub record EndsAmong (contents : Contents) (names : List (List ℕ)) (reply : Reply) : Type 0 where
  pub before : List (List ℕ)
  pub name : List ℕ
  pub rest : List (List ℕ)
  pub split : names ≡ before ++ name ∷ rest
  pub cells : List CellConfig
  pub spelled : SpellCells contents before cells
  pub stops : EndsAtFile contents name CellRefusal reply

-- a line for each finding, and one with their number
abbrev pub findings_text : List Finding → List ℕ
findings_text found = flat_map (λ f. finding_text f ++ 10 ∷ []) found ++ (codes "findings " ++ (decimal (length found) ++ 10 ∷ []))

-- the status of a check: found where something is, else good
abbrev pub checked_status : List Finding → Status
checked_status found = if is_any found then Found else Good

-- what a check of the system and the cells tells
abbrev pub checked : SystemConfig → List CellConfig → Reply
checked system cells = record { status = checked_status (capped (findings system cells)); text = findings_text (capped (findings system cells)) }

-- the files of the cells are read, and all is checked
abbrev pub ChecksCells : Contents → List (List ℕ) → SystemConfig → Reply → Type 0
ChecksCells contents names system reply =
    EndsAmong contents names reply ⊎ ((cells : List CellConfig) × SpellCells contents names cells × (reply ≡ checked system cells))

-- what a check of these files ends with: they are read in the order of the words, and the first that stops
-- the call ends it
abbrev pub Checks : Contents → List ℕ → List (List ℕ) → Reply → Type 0
Checks contents system names = Reads contents system system_file (ChecksCells contents names)
