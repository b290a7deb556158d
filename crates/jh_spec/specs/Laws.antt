-- What a SPEC tells, in the words of who writes one: which member each field is, and which member is at fault.
use Rattle.std.specs.Prelude.{◌≡◌, ◌⊎◌, ℕ, ◌^◌, ◌<◌, Bool, true, false, List, [], ◌∷◌, length, codes, replicate, Option, Some, None, is_none, is_err, option_map}
use Rattle.std.specs.List.{find}
use Rattle.std.specs.Option.{option_map_or, option_or}
use Rattle.serde_json.specs.Data.{Data}
use Rattle.serde_json.specs.Find.{get}
use Rattle.jh_cellcfg.specs.declared.config.CellConfig.{CellConfig}
use Rattle.jh_cellcfg.specs.declared.config.Platform.{Platform}
use Rattle.jh_cellcfg.specs.declared.config.SystemConfig.{SystemConfig}
use Rattle.jh_cellcfg.specs.declared.config.Irqchip.{Irqchip}
use Rattle.jh_cellcfg.specs.declared.config.PciDevice.{PciDevice}
use Rattle.jh_cellcfg.specs.declared.config.Console.{Console}
use Rattle.jh_cellcfg.specs.declared.region.Region.{Region}
use Rattle.jh_cellcfg.specs.Spelling.{console_bytes}
use Rattle.jh_spec.specs.declared.spec.Kind.{Kind}
use Rattle.jh_spec.specs.declared.spec.Kind.TheVariants.{Cell, System}
use Rattle.jh_spec.specs.Json.{number_told, list_told, first_unlisted}
use Rattle.jh_spec.specs.Fields.{u8_at, u16_at, u32_at, u64_at, u32_told, u64_told}
use Rattle.jh_spec.specs.Cpus.{cpus_told}
use Rattle.jh_spec.specs.Cells.{cell_name, cpu_set_size, cpu_set_in, regions_in, irqchips_in, devices_in, console_at, region_at, cell_names, system_names, cell_told}
use Rattle.jh_spec.specs.Specs.{names_with_kind}

-- ---- which member a field is

-- the field of so many bits is the number that the member of this name tells, or 0 where there is no such member
abbrev pub IsNumberOf : ℕ → List ℕ → Data → ℕ → Type 0
IsNumberOf bits name d n =
    ((get name d ≡ None) × (n ≡ 0)) ⊎ ((value : Data) × (get name d ≡ Some value) × (number_told value ≡ Some n) × (n < 2 ^ bits))

-- the field is the list of so many numbers of 32 bits that the member of this name tells, or zeros where there is none
abbrev pub AreWordsOf : ℕ → List ℕ → Data → List ℕ → Type 0
AreWordsOf count name d words =
    ((get name d ≡ None) × (words ≡ replicate count 0))
    ⊎ ((value : Data) × (get name d ≡ Some value) × (list_told u32_told value ≡ Some words) × (length words ≡ count))

-- the fields of the memory region are those that the object's members tell
pub record IsRegionOf (d : Data) (region : Region) : Type 0 where
  pub phys_start : IsNumberOf 64 (codes "phys") d region.phys_start
  pub virt_start : IsNumberOf 64 (codes "virt") d region.virt_start
  pub size : IsNumberOf 64 (codes "size") d region.size
  pub flags : IsNumberOf 64 (codes "flags") d region.flags

-- the fields of the interrupt controller are those that the object's members tell
pub record IsIrqchipOf (d : Data) (irqchip : Irqchip) : Type 0 where
  pub address : IsNumberOf 64 (codes "address") d irqchip.address
  pub id : IsNumberOf 32 (codes "id") d irqchip.id
  pub pin_base : IsNumberOf 32 (codes "pin_base") d irqchip.pin_base
  pub pin_bitmap : AreWordsOf 4 (codes "bitmap") d irqchip.pin_bitmap

-- the fields of the PCI device are those that the object's members tell
pub record IsDeviceOf (d : Data) (device : PciDevice) : Type 0 where
  pub kind : IsNumberOf 8 (codes "kind") d device.kind
  pub iommu : IsNumberOf 8 (codes "iommu") d device.iommu
  pub domain : IsNumberOf 16 (codes "domain") d device.domain
  pub bdf : IsNumberOf 16 (codes "bdf") d device.bdf
  pub bar_mask : AreWordsOf 6 (codes "bar_mask") d device.bar_mask
  pub caps_start : IsNumberOf 16 (codes "caps_start") d device.caps_start
  pub num_caps : IsNumberOf 16 (codes "num_caps") d device.num_caps
  pub num_msi_vectors : IsNumberOf 8 (codes "num_msi_vectors") d device.num_msi_vectors
  pub msi_bits : IsNumberOf 8 (codes "msi_bits") d device.msi_bits
  pub num_msix_vectors : IsNumberOf 16 (codes "num_msix_vectors") d device.num_msix_vectors
  pub msix_region_size : IsNumberOf 16 (codes "msix_region_size") d device.msix_region_size
  pub msix_address : IsNumberOf 64 (codes "msix_address") d device.msix_address
  pub shmem_regions_start : IsNumberOf 32 (codes "shmem_regions_start") d device.shmem_regions_start
  pub shmem_dev_id : IsNumberOf 8 (codes "shmem_dev_id") d device.shmem_dev_id
  pub shmem_peers : IsNumberOf 8 (codes "shmem_peers") d device.shmem_peers
  pub shmem_protocol : IsNumberOf 16 (codes "shmem_protocol") d device.shmem_protocol

-- the fields of the console are those that the object's members tell
pub record IsConsoleOf (d : Data) (console : Console) : Type 0 where
  pub address : IsNumberOf 64 (codes "address") d console.address
  pub size : IsNumberOf 32 (codes "size") d console.size
  pub kind : IsNumberOf 16 (codes "kind") d console.kind
  pub flags : IsNumberOf 16 (codes "flags") d console.flags
  pub divider : IsNumberOf 32 (codes "divider") d console.divider
  pub gate_nr : IsNumberOf 32 (codes "gate_nr") d console.gate_nr
  pub clock_reg : IsNumberOf 64 (codes "clock_reg") d console.clock_reg

-- the fields of the cell are those that the object's members tell; its lists are told item by item, and what a SPEC
-- doesn't tell is empty
pub record IsCellOf (d : Data) (cell : CellConfig) : Type 0 where
  pub name : cell_name d ≡ Some cell.name
  pub id : IsNumberOf 32 (codes "id") d cell.id
  pub flags : IsNumberOf 32 (codes "flags") d cell.flags
  pub cpu_set : (bytes : ℕ) × (cpu_set_size d ≡ Some bytes) × (cpu_set_in bytes d ≡ Some cell.cpu_set)
  pub memory_regions : regions_in d ≡ Some cell.memory_regions
  pub irqchips : irqchips_in d ≡ Some cell.irqchips
  pub pci_devices : devices_in d ≡ Some cell.pci_devices
  pub vpci_irq_base : IsNumberOf 32 (codes "vpci_irq_base") d cell.vpci_irq_base
  pub cpu_reset_address : IsNumberOf 64 (codes "cpu_reset_address") d cell.cpu_reset_address
  pub msg_reply_timeout : IsNumberOf 64 (codes "msg_reply_timeout") d cell.msg_reply_timeout
  pub console : (console : Console) × (console_at (codes "console") d ≡ Some console) × (cell.console ≡ console_bytes console)
  pub cache_regions : cell.cache_regions ≡ []
  pub pio_regions : cell.pio_regions ≡ []
  pub pci_caps : cell.pci_caps ≡ []
  pub stream_ids : cell.stream_ids ≡ []

-- the fields of the platform are those that the object's members tell; the head of root is zeros
pub record IsPlatformOf (d : Data) (platform : Platform) : Type 0 where
  pub flags : IsNumberOf 32 (codes "flags") d platform.flags
  pub hypervisor_memory : region_at (codes "hypervisor") d ≡ Some platform.hypervisor_memory
  pub debug_console : console_at (codes "debug_console") d ≡ Some platform.debug_console
  pub pci_mmconfig_base : IsNumberOf 64 (codes "mmconfig_base") d platform.pci_mmconfig_base
  pub pci_mmconfig_end_bus : IsNumberOf 8 (codes "end_bus") d platform.pci_mmconfig_end_bus
  pub pci_is_virtual : IsNumberOf 8 (codes "is_virtual") d platform.pci_is_virtual
  pub pci_domain : IsNumberOf 16 (codes "domain") d platform.pci_domain
  pub root_head : platform.root_head ≡ replicate 8 0

-- the platform of the system is what the object's members tell, and root what its member `root` tells
pub record IsSystemOf (d : Data) (system : SystemConfig) : Type 0 where
  pub platform : IsPlatformOf d system.platform
  pub root : (root : Data) × (get (codes "root") d ≡ Some root) × IsCellOf root system.root

-- ---- the CPU bitmap

-- a value that is a list of CPUs, and the bitmap of so many bytes that it tells
pub record BitmapOfCpus : Type 0 where
  pub value : Data
  pub bytes : ℕ
  pub cpus : List ℕ
  pub bitmap : List ℕ
  pub listed : list_told u64_told value ≡ Some cpus
  pub told : cpus_told bytes value ≡ Some bitmap

-- ---- which member is at fault

-- a member's name, and whether it is at fault: whether nothing is told by the member of this name
abbrev pub member_at : {X : Type 0} → (List ℕ → Data → Option X) → List ℕ → Data → List ℕ × Bool
member_at tells name d = (name, is_none (tells name d))

-- a cell's members in the order of `cell_names`, each with whether it is at fault; where the size of the CPU bitmap
-- is, the CPUs aren't
abbrev pub cell_members : Data → List (List ℕ × Bool)
cell_members d =
    (codes "name", is_none (cell_name d))
    ∷ member_at u32_at (codes "id") d
    ∷ member_at u32_at (codes "flags") d
    ∷ (codes "cpu_set_size", is_none (cpu_set_size d))
    ∷ (codes "cpus", option_map_or (λ bytes. is_none (cpu_set_in bytes d)) (cpu_set_size d) false)
    ∷ (codes "regions", is_none (regions_in d))
    ∷ (codes "irqchips", is_none (irqchips_in d))
    ∷ (codes "devices", is_none (devices_in d))
    ∷ member_at u32_at (codes "vpci_irq_base") d
    ∷ member_at u64_at (codes "cpu_reset_address") d
    ∷ member_at u64_at (codes "msg_reply_timeout") d
    ∷ member_at console_at (codes "console") d
    ∷ []

-- root is at fault where it is missing, and where anything in it is
abbrev pub root_member : Data → List ℕ × Bool
root_member d = (codes "root", option_map_or (λ root. is_err (cell_told cell_names root)) (get (codes "root") d) true)

-- a system's members in the order of `system_names`, each with whether it is at fault
abbrev pub system_members : Data → List (List ℕ × Bool)
system_members d =
    member_at u32_at (codes "flags") d
    ∷ member_at region_at (codes "hypervisor") d
    ∷ member_at console_at (codes "debug_console") d
    ∷ member_at u64_at (codes "mmconfig_base") d
    ∷ member_at u8_at (codes "end_bus") d
    ∷ member_at u8_at (codes "is_virtual") d
    ∷ member_at u16_at (codes "domain") d
    ∷ root_member d
    ∷ []

-- the name of the first of the members that is at fault
abbrev pub first_at_fault : List (List ℕ × Bool) → Option (List ℕ)
first_at_fault members = option_map (λ (member : List ℕ × Bool). member.0) (find (λ (member : List ℕ × Bool). member.1) members)

-- the member of an object of this kind that is at fault: the first of those that are listed, else the first name that
-- isn't listed, in the order of an object's names, which is that of their bytes; without a kind the member `kind`; none
-- where no member is at fault
abbrev pub blame : Option Kind → Data → Option (List ℕ)
blame None d = Some (codes "kind")
blame (Some Cell) d = option_or (first_at_fault (cell_members d)) (first_unlisted names_with_kind d)
blame (Some System) d = option_or (first_at_fault (system_members d)) (first_unlisted (codes "kind" ∷ system_names) d)
