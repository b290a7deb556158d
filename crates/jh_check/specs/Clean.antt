-- What a system and cells are in which nothing is found, rule by rule: over single addresses, places, regions,
-- devices and CPU sets. Root has the number 0, and the others follow in order. Only regions that aren't empty
-- count: an empty one has no address and no place.
use Rattle.std.specs.Prelude.{◌≡◌, ◌≢◌, ℕ, ◌+◌, ◌*◌, ◌%◌, ◌^◌, ◌<◌, ◌≤◌, true, false, List, length, Some, slice_get, slice_index, All, AllPairs}
use Rattle.jh_num.specs.declared.address.TheConstants.{ADDRESS_END, PAGE_SIZE}
use Rattle.jh_cellcfg.specs.declared.region.Region.{Region}
use Rattle.jh_cellcfg.specs.declared.config.PciDevice.{PciDevice}
use Rattle.jh_cellcfg.specs.declared.config.CellConfig.{CellConfig}
use Rattle.jh_cellcfg.specs.declared.config.SystemConfig.{SystemConfig}
use Rattle.jh_cellcfg.specs.Cells.{is_cpu_set}
use Rattle.jh_cellcfg.specs.Regions.{IsWithin, has_flags, has_address, has_place, virt_end, phys_end, place_in, is_page_mapped, is_comm, is_unshared, is_loadable, SharesNoAddress, IsInRange}
use Rattle.jh_check.specs.Regions.{both_shared}
use Rattle.jh_check.specs.Devices.{bars_of}
use Rattle.jh_check.specs.Laws.{IsItem, EachCell, EachTwoCells, EachOtherCell, EachTwoOthers, EachItem, EachTwoItems, MeetAtPlaceOnlyIf, SharesNoPlace, AddressesAreSingle, HypervisorIsAlone}

-- ---- regions

-- at most one region of a cell has a place, communication regions aside, which have none
abbrev pub PlacesAreSingle : SystemConfig → List CellConfig → Type 0
PlacesAreSingle system cells =
    EachCell system cells (λ cell. EachTwoItems cell cell (λ r s x y. is_comm x ≡ false → is_comm y ≡ false → MeetAtPlaceOnlyIf x y (r ≡ s)))

-- P holds of each region of each cell, root too, that isn't empty
abbrev pub EachRegion : SystemConfig → List CellConfig → (Region → Type 0) → Type 0
EachRegion system cells P = EachCell system cells (λ cell. EachItem cell (λ r x. 0 < x.size → P x))

-- the region may be read where it may be executed
abbrev pub IsReadIfExecuted : Region → Type 0
IsReadIfExecuted region = has_flags 0x4 region ≡ true → has_flags 0x1 region ≡ true

-- the places of a page-mapped region that is no communication region begin at a multiple of 4,096
abbrev pub IsAligned : Region → Type 0
IsAligned region = is_page_mapped region ≡ true → is_comm region ≡ false → region.phys_start % PAGE_SIZE ≡ 0

-- the hypervisor's memory isn't empty, has at most 64 MiB, and is whole pages within the places
pub record IsSoundMemory (memory : Region) : Type 0 where
  pub some : 0 < memory.size
  pub few : memory.size ≤ 64 * 2 ^ 20
  pub within : phys_end memory ≤ ADDRESS_END
  pub aligned : memory.phys_start % PAGE_SIZE ≡ 0
  pub whole : memory.size % PAGE_SIZE ≡ 0

-- each region of root that isn't empty is mapped to itself
abbrev pub RootIsIdentity : SystemConfig → Type 0
RootIsIdentity system = EachItem system.root (λ r x. 0 < x.size → x.phys_start ≡ x.virt_start)

-- no region of root that isn't empty is a communication region
abbrev pub RootHasNoComm : SystemConfig → Type 0
RootHasNoComm system = EachItem system.root (λ r x. 0 < x.size → is_comm x ≡ false)

-- the cell's communication region is one aligned page, and no other region of the cell is one
pub record IsCommPage (cell : CellConfig) (r : ℕ) (region : Region) : Type 0 where
  pub size : region.size ≡ PAGE_SIZE
  pub aligned : region.virt_start % PAGE_SIZE ≡ 0
  pub only : EachItem cell (λ s y. 0 < y.size → is_comm y ≡ true → s ≡ r)

-- the communication region of each cell besides root is one aligned page, and the cell's only one
abbrev pub CommsArePages : SystemConfig → List CellConfig → Type 0
CommsArePages system cells =
    EachOtherCell system cells (λ cell. EachItem cell (λ r x. 0 < x.size → is_comm x ≡ true → IsCommPage cell r x))

-- a subpage region that a cell besides root holds unshared has no place of a page-mapped region of root
abbrev pub RootKeepsItsPages : SystemConfig → List CellConfig → Type 0
RootKeepsItsPages system cells =
    EachOtherCell system cells (λ cell. EachTwoItems cell system.root (λ r s x y.
    is_unshared x ≡ true → is_page_mapped x ≡ false → is_page_mapped y ≡ true → SharesNoPlace x y))

-- ---- devices

-- the device has that number in its cell
abbrev pub IsDevice : CellConfig → ℕ → PciDevice → Type 0
IsDevice cell n device = slice_get cell.pci_devices n ≡ Some device

-- P holds of each device of the cell
abbrev pub EachDevice : CellConfig → (PciDevice → Type 0) → Type 0
EachDevice cell P = (n : ℕ) (device : PciDevice) → IsDevice cell n device → P device

-- P holds of each device of the one cell with each of the other, and of their numbers
abbrev pub EachTwoDevices : CellConfig → CellConfig → (ℕ → ℕ → PciDevice → PciDevice → Type 0) → Type 0
EachTwoDevices one other P = (m n : ℕ) (d e : PciDevice) → IsDevice one m d → IsDevice other n e → P m n d e

-- the device is an ivshmem device: its kind is 3
abbrev pub IsShmem : PciDevice → Type 0
IsShmem device = device.kind ≡ 3

-- the two devices are ivshmem devices with one `bdf`, and so are linked where they are of different cells
pub record AreLinked (one other : PciDevice) : Type 0 where
  pub one_kind : IsShmem one
  pub other_kind : IsShmem other
  pub bdf : one.bdf ≡ other.bdf

-- the region is the device's section of that number: 0 is the state table, 1 the read/write section, and 2 + p
-- the output of the peer p
pub record IsSection (cell : CellConfig) (device : PciDevice) (k : ℕ) (region : Region) : Type 0 where
  pub number : k < 2 + device.shmem_peers
  pub item : IsItem cell (device.shmem_regions_start + k) region

-- the region may be a state table: it has 4,096 to 65,536 bytes, which may be read and not written
pub record IsStateTable (region : Region) : Type 0 where
  pub some : 4096 ≤ region.size
  pub few : region.size ≤ 65536
  pub read : has_flags 0x1 region ≡ true
  pub no_write : has_flags 0x2 region ≡ false

-- the region may be a section: it is no communication region and not loadable, and it is page-mapped
pub record IsSectionRegion (region : Region) : Type 0 where
  pub no_comm : is_comm region ≡ false
  pub no_loadable : is_loadable region ≡ false
  pub pages : is_page_mapped region ≡ true

-- what is asked of an ivshmem device in its own cell
pub record IsGoodDevice (cell : CellConfig) (device : PciDevice) : Type 0 where
  -- the device has 2 to 16 peers, and a number below them
  pub peers : 2 ≤ device.shmem_peers
  pub few : device.shmem_peers ≤ 16
  pub own : device.shmem_dev_id < device.shmem_peers
  -- the device has at most 16 vectors, and the BARs that go with them: a page of registers, and half a kilobyte for
  -- vectors
  pub vectors : device.num_msix_vectors ≤ 16
  pub bars : device.bar_mask ≡ bars_of device
  -- all sections of the device are regions of the cell
  pub exist : device.shmem_regions_start + (2 + device.shmem_peers) ≤ length cell.memory_regions
  pub table : (x : Region) → IsSection cell device 0 x → IsStateTable x
  pub sections : (k : ℕ) (x : Region) → IsSection cell device k x → IsSectionRegion x
  -- the outputs of others can't be written, and all outputs have one size
  pub read_only : (p : ℕ) (x : Region) → p ≢ device.shmem_dev_id → IsSection cell device (2 + p) x → has_flags 0x2 x ≡ false
  pub alike : (p q : ℕ) (x y : Region) → IsSection cell device (2 + p) x → IsSection cell device (2 + q) y → x.size ≡ y.size
  -- each section that isn't empty begins where the last one before it that isn't empty ended
  pub row : (j k : ℕ) (x y : Region) → j < k → IsSection cell device j x → IsSection cell device k y → 0 < x.size → 0 < y.size
      → ((i : ℕ) (z : Region) → j < i → i < k → IsSection cell device i z → z.size ≡ 0) → y.virt_start ≡ virt_end x

-- each ivshmem device of each cell is as is asked of it in its own cell
abbrev pub DevicesAreGood : SystemConfig → List CellConfig → Type 0
DevicesAreGood system cells = EachCell system cells (λ cell. EachDevice cell (λ device. IsShmem device → IsGoodDevice cell device))

-- no two ivshmem devices of one cell have one bdf
abbrev pub DevicesAreSingle : SystemConfig → List CellConfig → Type 0
DevicesAreSingle system cells =
    EachCell system cells (λ cell. EachTwoDevices cell cell (λ m n d e. AreLinked d e → m ≡ n))

-- two linked devices have as many peers, each another number among them, and the same memory: each section of
-- the one is a section of the other, of the same size, and at the same place unless it is empty
pub record AgreesWith (cell : CellConfig) (device : PciDevice) (other_cell : CellConfig) (other : PciDevice) : Type 0 where
  pub peers : device.shmem_peers ≡ other.shmem_peers
  pub numbers : device.shmem_dev_id ≢ other.shmem_dev_id
  pub memory : (k : ℕ) (x : Region) → IsSection cell device k x → (y : Region) × IsSection other_cell other k y × (x.size ≡ y.size) × (0 < x.size → x.phys_start ≡ y.phys_start)

-- each two linked devices of different cells have as many peers, different numbers and the same memory
abbrev pub LinksAgree : SystemConfig → List CellConfig → Type 0
LinksAgree system cells =
    EachTwoCells system cells (λ a b. b < a) (λ one other. EachTwoDevices one other (λ m n d e. AreLinked d e → AgreesWith one d other e))

-- ---- cells together

-- the regions of those numbers are the same section of two linked devices
pub record IsSameSection (one : CellConfig) (r : ℕ) (other : CellConfig) (s : ℕ) : Type 0 where
  pub device_number : ℕ
  pub other_number : ℕ
  pub device : PciDevice
  pub other_device : PciDevice
  pub section : ℕ
  pub is_device : IsDevice one device_number device
  pub is_other : IsDevice other other_number other_device
  pub linked : AreLinked device other_device
  pub within : section < 2 + device.shmem_peers
  pub other_within : section < 2 + other_device.shmem_peers
  pub item : r ≡ device.shmem_regions_start + section
  pub other_item : s ≡ other_device.shmem_regions_start + section

-- two cells besides root have a place together only where both share it with root, or where it is in the same
-- section of linked devices of theirs
abbrev pub CellsShareAsTheySay : SystemConfig → List CellConfig → Type 0
CellsShareAsTheySay system cells =
    EachTwoOthers system cells (λ one other. EachTwoItems one other (λ r s x y.
    is_comm x ≡ false → is_comm y ≡ false → MeetAtPlaceOnlyIf x y (both_shared x y ≡ false → IsSameSection one r other s)))

-- ---- CPUs

-- a byte of the CPU set isn't 0, and all behind the second are: those would name the CPUs from 16 on
pub record IsSoundBitmap (set : List ℕ) : Type 0 where
  pub some : (i : ℕ) × (slice_index set i ≢ 0)
  pub few : (i : ℕ) → 2 ≤ i → slice_index set i ≡ 0

-- each cell's CPU set has a byte that isn't 0, and none behind the second, where the CPUs from 16 on would be named
abbrev pub CpusAreFew : SystemConfig → List CellConfig → Type 0
CpusAreFew system cells = EachCell system cells (λ cell. IsSoundBitmap cell.cpu_set)

-- ---- all rules

-- the system and the cells break none of the rules
pub record IsClean (system : SystemConfig) (cells : List CellConfig) : Type 0 where
  pub addresses : AddressesAreSingle system cells
  pub places : PlacesAreSingle system cells
  pub hypervisor : HypervisorIsAlone system cells
  pub memory : IsSoundMemory system.platform.hypervisor_memory
  pub within : EachRegion system cells IsInRange
  pub identity : RootIsIdentity system
  pub no_comm : RootHasNoComm system
  pub comms : CommsArePages system cells
  pub readable : EachRegion system cells IsReadIfExecuted
  pub pages : RootKeepsItsPages system cells
  pub together : CellsShareAsTheySay system cells
  pub devices : DevicesAreGood system cells
  pub single : DevicesAreSingle system cells
  pub links : LinksAgree system cells
  pub cpus : CpusAreFew system cells
  pub aligned : EachRegion system cells IsAligned

-- ---- what it gives

-- a region of root that isn't empty ends within the addresses and the places, lies outside the hypervisor's
-- memory, is mapped to the same place as its address, is no communication region, isn't executable without being
-- readable, and has whole pages of places where it has whole pages of addresses
pub record IsSoundRegion (hypervisor region : Region) : Type 0 where
  pub within : IsWithin region
  pub clear : SharesNoPlace hypervisor region
  pub identity : region.phys_start ≡ region.virt_start
  pub no_comm : is_comm region ≡ false
  pub readable : IsReadIfExecuted region
  pub aligned : IsAligned region

-- root is sound: the hypervisor's memory and each region of root that isn't empty are, and no two regions of root have
-- an address or a place together
pub record IsSoundRoot (system : SystemConfig) : Type 0 where
  pub memory : IsSoundMemory system.platform.hypervisor_memory
  pub regions : All (λ (r : Region). 0 < r.size → IsSoundRegion system.platform.hypervisor_memory r) system.root.memory_regions
  pub addresses : AllPairs SharesNoAddress system.root.memory_regions
  pub places : AllPairs SharesNoPlace system.root.memory_regions

-- of each page of the region the holder has all places or none
abbrev pub HasWholePages : Region → Region → Type 0
HasWholePages holder region =
    (at : ℕ) → at % PAGE_SIZE ≡ 0 → has_address region at ≡ true → (j k : ℕ) → j < PAGE_SIZE → k < PAGE_SIZE
    → has_place holder (place_in region at + j) ≡ has_place holder (place_in region at + k)

-- of each page of root's page-mapped regions a region that another cell holds unshared has all places or none
abbrev pub PagesAreWhole : SystemConfig → List CellConfig → Type 0
PagesAreWhole system cells =
    EachOtherCell system cells (λ cell. EachTwoItems cell system.root (λ r s x y.
    is_unshared x ≡ true → is_page_mapped y ≡ true → HasWholePages x y))

-- the CPU set names a CPU, and none above 15
pub record IsSoundCpuSet (set : List ℕ) : Type 0 where
  pub some : (cpu : ℕ) × (is_cpu_set set cpu ≡ true)
  pub few : (cpu : ℕ) → is_cpu_set set cpu ≡ true → cpu < 16

-- an ivshmem device can be an endpoint: its number is one of 16, it has at most 16 vectors, and the word of its
-- state lies in its state table, which ends within the places
pub record MayJoin (cell : CellConfig) (device : PciDevice) : Type 0 where
  pub number : device.shmem_dev_id < 16
  pub vectors : device.num_msix_vectors ≤ 16
  pub table : (x : Region) × IsItem cell device.shmem_regions_start x × (x.phys_start + 4 * device.shmem_dev_id + 4 ≤ phys_end x) × (phys_end x ≤ ADDRESS_END)

-- each ivshmem device of each cell can be an endpoint
abbrev pub EndpointsMayJoin : SystemConfig → List CellConfig → Type 0
EndpointsMayJoin system cells = EachCell system cells (λ cell. EachDevice cell (λ device. IsShmem device → MayJoin cell device))

-- two linked devices of different cells have different numbers
abbrev pub LinksHaveNumbers : SystemConfig → List CellConfig → Type 0
LinksHaveNumbers system cells =
    EachTwoCells system cells (λ a b. a ≢ b) (λ one other. EachTwoDevices one other (λ m n d e. AreLinked d e → d.shmem_dev_id ≢ e.shmem_dev_id))
