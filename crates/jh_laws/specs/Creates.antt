-- What a create is refused for, by what root may read at its address.
use Rattle.std.specs.Prelude.{◌≡◌, ◌≢◌, ◌<◌, ◌≤◌, ◌+◌, ◌⊎◌, ◌++◌, ◌∷◌, [], ℕ, ℤ, negsuc, true, false, List, length, slice_index, take, Contains, Option, Some, None}
use Rattle.jh_cellcfg.specs.declared.config.CellConfig.{CellConfig}
use Rattle.jh_cellcfg.specs.declared.fault.ConfigFault.{ConfigFault}
use Rattle.jh_cellcfg.specs.declared.fault.ConfigFault.TheVariants.{Count}
use Rattle.jh_cellcfg.specs.declared.fault.Part.TheVariants.{Total}
use Rattle.jh_cellcfg.specs.Cells.{name_of, is_cpu_set}
use Rattle.jh_cellcfg.specs.Faults.{header_fault, size_by_header}
use Rattle.jh_check.specs.declared.verdict.NewCell.TheVariants.{Clean, Invalid, Busy}
use Rattle.jh_check.specs.Verdicts.{verdict_of}
use Rattle.jh_shape.specs.Pages.{pages_of}
use Rattle.jh_call.specs.declared.call.Call.TheVariants.{Create}
use Rattle.jh_history.specs.declared.access.Access.TheVariants.{Read as ToRead}
use Rattle.jh_history.specs.declared.place.Place.{Place}
use Rattle.jh_history.specs.declared.entry.Act.TheVariants.{Decide}
use Rattle.jh_history.specs.Admitted.{pool_pages}
use Rattle.jh_history.specs.Lives.{is_on_board}
use Rattle.jh_laws.specs.Held.{IsRootOrLive, IsGrantedTo}
use Rattle.jh_laws.specs.Moments.{AdmittedMoment, facts_before, state_before, cells_before, call_before}
use Rattle.jh_laws.specs.Words.{number_in_page}

-- ---- what root reads

-- root is granted the place at the address, for reading, just before the entry
abbrev pub RootMayRead : AdmittedMoment → ℕ → Place → Type 0
RootMayRead m at place = IsGrantedTo m.image (facts_before m).cells m.image.system.root.id ToRead at place

-- root may read each of so many bytes from the address on as there are in the list, and they are these
abbrev pub RootReads : AdmittedMoment → ℕ → List ℕ → Type 0
RootReads m at bytes = (k : ℕ) → k < length bytes → (place : Place) × RootMayRead m (at + k) place × (slice_index bytes k ≡ (facts_before m).byte place)

-- root may not read one of so many bytes from the address on
abbrev pub RootReadsNot : AdmittedMoment → ℕ → ℕ → Type 0
RootReadsNot m at count = (k : ℕ) × (k < count) × ((place : Place) → RootMayRead m (at + k) place → ⊥)

-- root reads the header at the address: it has 132 bytes
pub record ReadsHeader (m : AdmittedMoment) (at : ℕ) (header : List ℕ) : Type 0 where
  pub reads : RootReads m at header
  pub long : length header ≡ 132

-- root reads a whole configuration at the address: its first 132 bytes, the header, have no fault, and it is as long as
-- the header says
pub record ReadsWhole (m : AdmittedMoment) (at : ℕ) (bytes : List ℕ) : Type 0 where
  pub reads : RootReads m at bytes
  pub some : 132 ≤ length bytes
  pub good : header_fault (take 132 bytes) ≡ None
  pub long : size_by_header (take 132 bytes) ≡ length bytes

-- ---- the Decide

-- the entry decides the create at the address: it is refused with this number, or goes on
pub record DecidesCreate (m : AdmittedMoment) (at : ℕ) (refused : Option ℤ) : Type 0 where
  pub begun : call_before m ≡ Some (Create at)
  pub act : m.entry.act ≡ Decide refused

-- the live cell is locked: the state in bytes 8 to 11 of its page is 1
abbrev pub IsLockedCell : AdmittedMoment → CellConfig → Type 0
IsLockedCell m config = Contains (cells_before m) config × (number_in_page (facts_before m) config.id 8 ≡ 1)

-- the entry decides the create, and no cell is locked
pub record DecidesFreely (m : AdmittedMoment) (at : ℕ) (refused : Option ℤ) : Type 0 where
  pub decides : DecidesCreate m at refused
  pub free : (config : CellConfig) → IsLockedCell m config → ⊥

-- the fault is that the whole would have more bytes than a configuration may have
abbrev pub IsTooLong : ConfigFault → Type 0
IsTooLong (Count Total found) = Unit {0}
IsTooLong fault = ⊥

-- ---- causes

-- root or a live cell has the configuration's id or its name
abbrev pub HasNamesake : AdmittedMoment → CellConfig → Type 0
HasNamesake m config = (other : CellConfig) × IsRootOrLive m.image (facts_before m).cells other × ((other.id ≡ config.id) ⊎ (name_of other ≡ name_of config))

-- the configuration names a CPU that the caller can't give: one that the board lacks, its own, or one that isn't root's
abbrev pub NamesForeignCpu : AdmittedMoment → CellConfig → Type 0
NamesForeignCpu m config =
    (cpu : ℕ) × (is_cpu_set config.cpu_set cpu ≡ true)
    × ((is_on_board m.image cpu ≡ false) ⊎ (cpu ≡ m.entry.cpu) ⊎ ((state_before m cpu).owner ≢ m.image.system.root.id))

-- the pages that all cells would need with the new one
abbrev pub pages_with : AdmittedMoment → CellConfig → ℕ
pages_with m config = pages_of m.image.system.root.memory_regions (cells_before m ++ config ∷ [])

-- neither a namesake nor a foreign CPU stands against the configuration
pub record IsFree (m : AdmittedMoment) (config : CellConfig) : Type 0 where
  pub alone : HasNamesake m config → ⊥
  pub own : NamesForeignCpu m config → ⊥

-- the configuration is refused by the first of its causes: -17 for a namesake, -16 for a foreign CPU, -22 or -16 by the
-- check's findings, -12 for want of pages; without a cause it isn't refused
pub record IsVerdictOn (m : AdmittedMoment) (config : CellConfig) (refused : Option ℤ) : Type 0 where
  pub known : HasNamesake m config → refused ≡ Some (negsuc 16)
  pub foreign : (HasNamesake m config → ⊥) → NamesForeignCpu m config → refused ≡ Some (negsuc 15)
  pub invalid : IsFree m config → verdict_of m.image.system (cells_before m) config ≡ Invalid → refused ≡ Some (negsuc 21)
  pub busy : IsFree m config → verdict_of m.image.system (cells_before m) config ≡ Busy → refused ≡ Some (negsuc 15)
  pub pages : IsFree m config → verdict_of m.image.system (cells_before m) config ≡ Clean → pool_pages m.image.system < pages_with m config → refused ≡ Some (negsuc 11)
  pub goes : IsFree m config → verdict_of m.image.system (cells_before m) config ≡ Clean → pages_with m config ≤ pool_pages m.image.system → refused ≡ None
