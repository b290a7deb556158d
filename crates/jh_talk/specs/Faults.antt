-- Why a system and a cell can't talk, each cause in its own words, and which one is told.
use Rattle.std.specs.Prelude.{◌≡◌, ◌≢◌, ◌<◌, ℕ, true, false, ◌⊎◌, [], ◌∷◌, length}
use Rattle.jh_cellcfg.specs.declared.config.CellConfig.{CellConfig}
use Rattle.jh_cellcfg.specs.declared.config.SystemConfig.{SystemConfig}
use Rattle.jh_cellcfg.specs.Spelling.{spelling}
use Rattle.jh_check.specs.Findings.{findings}
use Rattle.jh_check.specs.Refusals.{is_known}
use Rattle.jh_shape.specs.Pages.{pages_of}
use Rattle.jh_history.specs.Admitted.{pool_pages}
use Rattle.jh_talk.specs.declared.fault.TalkFault.{TalkFault}
use Rattle.jh_talk.specs.declared.fault.TalkFault.TheVariants.{Cell, Cpu, Pool, Device, Section, Ecam, Window, Place, NoMemory}
use Rattle.jh_talk.specs.declared.pair.Pair.{Pair}
use Rattle.jh_talk.specs.Cpus.{NamesForeignCpu, NamesAllCpus}
use Rattle.jh_talk.specs.Pairs.{IsFirstPair, HasNoPair}
use Rattle.jh_talk.specs.Sections.{has_sections}
use Rattle.jh_talk.specs.Functions.{has_function, obstacles}
use Rattle.jh_talk.specs.Windows.{HasNoWindow}
use Rattle.jh_talk.specs.Places.{HasNoPlace}

-- the number that tells the fault; want of memory has none
abbrev pub fault_number : TalkFault → ℕ
fault_number Cell = 1
fault_number Cpu = 2
fault_number Pool = 3
fault_number Device = 4
fault_number Section = 5
fault_number Ecam = 6
fault_number Window = 7
fault_number Place = 8
fault_number NoMemory = 0

-- the pair doesn't find the sections that it asks for
pub record LacksSections (system : SystemConfig) (cell : CellConfig) : Type 0 where
  pub pair : Pair
  pub first : IsFirstPair system.root cell pair
  pub lacking : has_sections system.root cell pair ≡ false

-- the pair's configuration space isn't in the ECAM window, or a region is in the way
pub record LacksFunction (system : SystemConfig) (cell : CellConfig) : Type 0 where
  pub pair : Pair
  pub first : IsFirstPair system.root cell pair
  pub lacking : has_function system cell pair.device ≡ false

-- the cause holds: the check finds something, or the cell has root's name or id; it names a CPU that root lacks, or all
-- of root's; the pages of both are more than there are; there is no pair; it lacks sections, or its function; root or
-- the cell has no room for windows; the configuration has no place
abbrev pub SpeaksAgainst : SystemConfig → CellConfig → TalkFault → Type 0
SpeaksAgainst system cell Cell = (findings system (cell ∷ []) ≢ []) ⊎ (is_known (system.root ∷ []) cell ≡ true)
SpeaksAgainst system cell Cpu = NamesForeignCpu system.root cell ⊎ NamesAllCpus system.root cell
SpeaksAgainst system cell Pool = pool_pages system < pages_of system.root.memory_regions (cell ∷ [])
SpeaksAgainst system cell Device = HasNoPair system.root cell
SpeaksAgainst system cell Section = LacksSections system cell
SpeaksAgainst system cell Ecam = LacksFunction system cell
SpeaksAgainst system cell Window = HasNoWindow (obstacles system system.root) ⊎ HasNoWindow (obstacles system cell)
SpeaksAgainst system cell Place = HasNoPlace system.root (length (spelling cell))
SpeaksAgainst system cell NoMemory = ⊥

-- no cause holds whose number is below this one
abbrev pub IsFaultlessBelow : SystemConfig → CellConfig → ℕ → Type 0
IsFaultlessBelow system cell number =
    (fault : TalkFault) → fault_number fault < number → SpeaksAgainst system cell fault → ⊥

-- the cause holds, and none before it
pub record IsFirstFault (system : SystemConfig) (cell : CellConfig) (fault : TalkFault) : Type 0 where
  pub holds : SpeaksAgainst system cell fault
  pub first : IsFaultlessBelow system cell (fault_number fault)

-- the fault tells the first cause that holds; want of memory tells nothing
abbrev pub IsFault : SystemConfig → CellConfig → TalkFault → Type 0
IsFault system cell NoMemory = Unit {0}
IsFault system cell fault = IsFirstFault system cell fault
