-- What a finding tells by the tests of its rule: two regions, a region, the hypervisor's memory, a device or a CPU
-- set that break it.
use Rattle.std.specs.Prelude.{◌≡◌, ℕ, true, List, ◌∷◌, take, Some, slice_get, ◌⊎◌}
use Rattle.jh_cellcfg.specs.declared.region.Region.{Region}
use Rattle.jh_cellcfg.specs.declared.config.PciDevice.{PciDevice}
use Rattle.jh_cellcfg.specs.declared.config.CellConfig.{CellConfig}
use Rattle.jh_cellcfg.specs.declared.config.SystemConfig.{SystemConfig}
use Rattle.jh_check.specs.declared.finding.Finding.{Finding}
use Rattle.jh_check.specs.declared.rule.Rule.{Rule}
use Rattle.jh_check.specs.declared.rule.Rule.TheVariants.{VirtOverlap, PhysOverlap, Hypervisor, OutOfRange, RootNotIdentity, CommInRoot, CommShape, ExecuteWithoutRead, SubpageTaken, CellsOverlap, Shmem, NoCpu, PhysAlign}
use Rattle.jh_check.specs.Regions.{pair_breaks, region_breaks, hypervisor_breaks}
use Rattle.jh_check.specs.Devices.{device_breaks, cpus_break}
use Rattle.jh_check.specs.Findings.{spot, finding_of}

-- two regions, each with its number in its cell, and the cells by theirs
pub record OfPair (rule : Rule) (all : List CellConfig) (finding : Finding) : Type 0 where
  pub a : ℕ
  pub b : ℕ
  pub one : CellConfig
  pub other : CellConfig
  pub r : ℕ
  pub s : ℕ
  pub x : Region
  pub y : Region
  pub is_one : slice_get all a ≡ Some one
  pub is_other : slice_get all b ≡ Some other
  pub is_x : slice_get one.memory_regions r ≡ Some x
  pub is_y : slice_get other.memory_regions s ≡ Some y
  pub breaks : pair_breaks rule (spot a one r x) (spot b other s y) ≡ true
  pub told : finding ≡ finding_of rule a r b s

-- one region of a cell
pub record OfRegion (rule : Rule) (memory : Region) (all : List CellConfig) (finding : Finding) : Type 0 where
  pub a : ℕ
  pub one : CellConfig
  pub r : ℕ
  pub x : Region
  pub is_one : slice_get all a ≡ Some one
  pub is_x : slice_get one.memory_regions r ≡ Some x
  pub breaks : region_breaks rule memory a (take r one.memory_regions) x ≡ true
  pub told : finding ≡ finding_of rule a r 0 0

-- the hypervisor's memory
pub record OfMemory (rule : Rule) (memory : Region) (finding : Finding) : Type 0 where
  pub breaks : hypervisor_breaks rule memory ≡ true
  pub told : finding ≡ finding_of rule 16 0 0 0

-- a device of a cell
pub record OfDevice (all : List CellConfig) (finding : Finding) : Type 0 where
  pub a : ℕ
  pub one : CellConfig
  pub n : ℕ
  pub device : PciDevice
  pub is_one : slice_get all a ≡ Some one
  pub is_device : slice_get one.pci_devices n ≡ Some device
  pub breaks : device_breaks (take a all) one (take n one.pci_devices) device ≡ true
  pub told : finding ≡ finding_of Shmem a n 0 0

-- the CPU set of a cell
pub record OfCpus (all : List CellConfig) (finding : Finding) : Type 0 where
  pub a : ℕ
  pub one : CellConfig
  pub is_one : slice_get all a ≡ Some one
  pub breaks : cpus_break one.cpu_set ≡ true
  pub told : finding ≡ finding_of NoCpu a 0 0 0

-- what it tells, by its rule
abbrev pub OfRule : Rule → Region → List CellConfig → Finding → Type 0
OfRule VirtOverlap h all f = OfPair VirtOverlap all f
OfRule PhysOverlap h all f = OfPair PhysOverlap all f
OfRule Hypervisor h all f = OfRegion Hypervisor h all f
OfRule OutOfRange h all f = OfRegion OutOfRange h all f ⊎ OfMemory OutOfRange h f
OfRule RootNotIdentity h all f = OfRegion RootNotIdentity h all f
OfRule CommInRoot h all f = OfRegion CommInRoot h all f
OfRule CommShape h all f = OfRegion CommShape h all f
OfRule ExecuteWithoutRead h all f = OfRegion ExecuteWithoutRead h all f
OfRule SubpageTaken h all f = OfPair SubpageTaken all f
OfRule CellsOverlap h all f = OfPair CellsOverlap all f
OfRule Shmem h all f = OfDevice all f
OfRule NoCpu h all f = OfCpus all f
OfRule PhysAlign h all f = OfRegion PhysAlign h all f ⊎ OfMemory PhysAlign h f

-- a rule is broken, and the finding tells it
pub record IsTested (system : SystemConfig) (cells : List CellConfig) (finding : Finding) : Type 0 where
  pub rule : Rule
  pub by : OfRule rule system.platform.hypervisor_memory (system.root ∷ cells) finding
