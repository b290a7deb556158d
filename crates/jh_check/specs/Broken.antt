-- What breaks a rule, in the rule's own words, and the finding that tells it: by the numbers of what breaks it.
use Rattle.std.specs.Prelude.{◌≡◌, ◌≢◌, ℕ, ◌%◌, ◌<◌, true, false, List, ◌∷◌, Some, slice_get, ◌⊎◌}
use Rattle.jh_num.specs.declared.address.TheConstants.{ADDRESS_END, PAGE_SIZE}
use Rattle.jh_cellcfg.specs.declared.region.Region.{Region}
use Rattle.jh_cellcfg.specs.declared.config.PciDevice.{PciDevice}
use Rattle.jh_cellcfg.specs.declared.config.CellConfig.{CellConfig}
use Rattle.jh_cellcfg.specs.declared.config.SystemConfig.{SystemConfig}
use Rattle.jh_cellcfg.specs.Regions.{has_flags, has_address, has_place, virt_end, phys_end, is_page_mapped, is_comm, is_unshared}
use Rattle.jh_check.specs.declared.finding.Finding.{Finding}
use Rattle.jh_check.specs.declared.rule.Rule.{Rule}
use Rattle.jh_check.specs.declared.rule.Rule.TheVariants.{VirtOverlap, PhysOverlap, Hypervisor, OutOfRange, RootNotIdentity, CommInRoot, CommShape, ExecuteWithoutRead, SubpageTaken, CellsOverlap, Shmem, NoCpu, PhysAlign}
use Rattle.jh_check.specs.Regions.{Spot, both_shared, most_memory}
use Rattle.jh_check.specs.Findings.{finding_of}
use Rattle.jh_check.specs.Laws.{IsItem}
use Rattle.jh_check.specs.Clean.{IsDevice, IsShmem, AreLinked, IsGoodDevice, AgreesWith, IsSameSection, IsSoundBitmap}

-- an address is in both regions
abbrev pub MeetAtAddress : Region → Region → Type 0
MeetAtAddress x y = (at : ℕ) × (has_address x at ≡ true) × (has_address y at ≡ true)

-- a place is in both regions
abbrev pub MeetAtPlace : Region → Region → Type 0
MeetAtPlace x y = (place : ℕ) × (has_place x place ≡ true) × (has_place y place ≡ true)

-- the spot's cell, of these, and its region there are those that have its numbers
pub record IsSpotOf (all : List CellConfig) (at : Spot) : Type 0 where
  pub cell : slice_get all at.cell ≡ Some at.config
  pub region : IsItem at.config at.item at.region

-- two regions of one cell, the earlier first
abbrev pub AreOfOne : Spot → Spot → Type 0
AreOfOne one other = (one.cell ≡ other.cell) × (one.item < other.item)

-- neither of the two regions is a communication region, so that both have places
abbrev pub HavePlaces : Region → Region → Type 0
HavePlaces x y = (is_comm x ≡ false) × (is_comm y ≡ false)

-- the two regions break a rule about two regions
abbrev pub BreakTogether : Rule → Spot → Spot → Type 0
BreakTogether VirtOverlap one other = AreOfOne one other × MeetAtAddress one.region other.region
BreakTogether PhysOverlap one other = AreOfOne one other × HavePlaces one.region other.region × MeetAtPlace one.region other.region
BreakTogether SubpageTaken one other =
    ((0 < one.cell) × (other.cell ≡ 0)) × ((is_unshared one.region ≡ true) × (is_page_mapped one.region ≡ false) × (is_page_mapped other.region ≡ true))
    × MeetAtPlace one.region other.region
BreakTogether CellsOverlap one other =
    ((0 < one.cell) × (one.cell < other.cell)) × HavePlaces one.region other.region × MeetAtPlace one.region other.region × (both_shared one.region other.region ≡ false)
    × (IsSameSection one.config one.item other.config other.item → ⊥)
BreakTogether _ one other = ⊥

-- an earlier region of the cell that isn't empty is a communication region
abbrev pub HasEarlierComm : Spot → Type 0
HasEarlierComm at = (s : ℕ) × (y : Region) × (s < at.item) × IsItem at.config s y × (0 < y.size) × (is_comm y ≡ true)

-- the region, where it isn't empty, breaks a rule about one region
abbrev pub BreaksAlone : Rule → Region → Spot → Type 0
BreaksAlone Hypervisor memory at = (is_comm at.region ≡ false) × MeetAtPlace at.region memory
BreaksAlone OutOfRange memory at =
    (ADDRESS_END < virt_end at.region) ⊎ ((is_comm at.region ≡ false) × (ADDRESS_END < phys_end at.region))
BreaksAlone RootNotIdentity memory at = (at.cell ≡ 0) × (at.region.phys_start ≢ at.region.virt_start)
BreaksAlone CommInRoot memory at = (at.cell ≡ 0) × (is_comm at.region ≡ true)
BreaksAlone CommShape memory at =
    (0 < at.cell) × (is_comm at.region ≡ true) × ((at.region.size ≢ PAGE_SIZE) ⊎ ((at.region.virt_start % PAGE_SIZE ≢ 0) ⊎ HasEarlierComm at))
BreaksAlone ExecuteWithoutRead memory at = (has_flags 0x4 at.region ≡ true) × (has_flags 0x1 at.region ≡ false)
BreaksAlone PhysAlign memory at =
    (is_page_mapped at.region ≡ true) × (is_comm at.region ≡ false) × (at.region.phys_start % PAGE_SIZE ≢ 0)
BreaksAlone _ memory at = ⊥

-- the hypervisor's memory breaks a rule
abbrev pub BreaksMemory : Rule → Region → Type 0
BreaksMemory OutOfRange memory = (memory.size ≡ 0) ⊎ ((most_memory < memory.size) ⊎ (ADDRESS_END < phys_end memory))
BreaksMemory PhysAlign memory = (0 < memory.size) × ((memory.phys_start % PAGE_SIZE ≢ 0) ⊎ (memory.size % PAGE_SIZE ≢ 0))
BreaksMemory _ memory = ⊥

-- what is asked of an ivshmem device beside others: no earlier one of its cell has its bdf, and it
-- agrees with each that it is linked with in a cell before its own
pub record IsConsistentAmong (all : List CellConfig) (a : ℕ) (cell : CellConfig) (n : ℕ) (device : PciDevice) : Type 0 where
  pub single : (m : ℕ) (other : PciDevice) → m < n → IsDevice cell m other → AreLinked other device → ⊥
  pub links : (b : ℕ) (other_cell : CellConfig) → b < a → slice_get all b ≡ Some other_cell → (m : ℕ) (other : PciDevice)
      → IsDevice other_cell m other → AreLinked device other → AgreesWith cell device other_cell other

-- ---- findings

-- the finding tells of two regions that break the rule together
pub record IsPairFinding (rule : Rule) (all : List CellConfig) (finding : Finding) : Type 0 where
  pub one : Spot
  pub other : Spot
  pub is_one : IsSpotOf all one
  pub is_other : IsSpotOf all other
  pub breaks : BreakTogether rule one other
  pub told : finding ≡ finding_of rule one.cell one.item other.cell other.item

-- the finding tells of one region that isn't empty and breaks the rule
pub record IsRegionFinding (rule : Rule) (memory : Region) (all : List CellConfig) (finding : Finding) : Type 0 where
  pub at : Spot
  pub is_at : IsSpotOf all at
  pub some : 0 < at.region.size
  pub breaks : BreaksAlone rule memory at
  pub told : finding ≡ finding_of rule at.cell at.item 0 0

-- the finding tells of the hypervisor's memory, which breaks the rule
pub record IsMemoryFinding (rule : Rule) (memory : Region) (finding : Finding) : Type 0 where
  pub breaks : BreaksMemory rule memory
  pub told : finding ≡ finding_of rule 16 0 0 0

-- the finding tells of an ivshmem device that breaks what is asked of it in its own cell or beside others
pub record IsDeviceFinding (all : List CellConfig) (finding : Finding) : Type 0 where
  pub a : ℕ
  pub cell : CellConfig
  pub n : ℕ
  pub device : PciDevice
  pub is_cell : slice_get all a ≡ Some cell
  pub is_device : IsDevice cell n device
  pub kind : IsShmem device
  pub breaks : (IsGoodDevice cell device → IsConsistentAmong all a cell n device → ⊥)
  pub told : finding ≡ finding_of Shmem a n 0 0

-- the finding tells of a cell whose CPU set has no byte other than 0, or has one behind the second
pub record IsCpuFinding (all : List CellConfig) (finding : Finding) : Type 0 where
  pub a : ℕ
  pub cell : CellConfig
  pub is_cell : slice_get all a ≡ Some cell
  pub breaks : IsSoundBitmap cell.cpu_set → ⊥
  pub told : finding ≡ finding_of NoCpu a 0 0 0

-- the finding tells what breaks the rule
abbrev pub IsFindingOf : Rule → Region → List CellConfig → Finding → Type 0
IsFindingOf VirtOverlap memory all finding = IsPairFinding VirtOverlap all finding
IsFindingOf PhysOverlap memory all finding = IsPairFinding PhysOverlap all finding
IsFindingOf Hypervisor memory all finding = IsRegionFinding Hypervisor memory all finding
IsFindingOf OutOfRange memory all finding = IsRegionFinding OutOfRange memory all finding ⊎ IsMemoryFinding OutOfRange memory finding
IsFindingOf RootNotIdentity memory all finding = IsRegionFinding RootNotIdentity memory all finding
IsFindingOf CommInRoot memory all finding = IsRegionFinding CommInRoot memory all finding
IsFindingOf CommShape memory all finding = IsRegionFinding CommShape memory all finding
IsFindingOf ExecuteWithoutRead memory all finding = IsRegionFinding ExecuteWithoutRead memory all finding
IsFindingOf SubpageTaken memory all finding = IsPairFinding SubpageTaken all finding
IsFindingOf CellsOverlap memory all finding = IsPairFinding CellsOverlap all finding
IsFindingOf Shmem memory all finding = IsDeviceFinding all finding
IsFindingOf NoCpu memory all finding = IsCpuFinding all finding
IsFindingOf PhysAlign memory all finding = IsRegionFinding PhysAlign memory all finding ⊎ IsMemoryFinding PhysAlign memory finding

-- a rule is broken, and the finding tells it
pub record IsBroken (system : SystemConfig) (cells : List CellConfig) (finding : Finding) : Type 0 where
  pub rule : Rule
  pub by : IsFindingOf rule system.platform.hypervisor_memory (system.root ∷ cells) finding
