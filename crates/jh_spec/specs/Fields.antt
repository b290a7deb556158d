-- What a JSON value tells of a configuration: numbers that fit their field, lists of them, and records.
use Rattle.std.specs.Prelude.{ℕ, ◌^◌, ◌==◌, List, [], ◌∷◌, length, codes, Option, Some, None, option_and_then, if◌then◌else◌, replicate}
use Rattle.serde_json.specs.Data.{Data}
use Rattle.serde_json.specs.Find.{get}
use Rattle.jh_cellcfg.specs.declared.region.Region.{Region}
use Rattle.jh_cellcfg.specs.declared.config.Irqchip.{Irqchip}
use Rattle.jh_cellcfg.specs.declared.config.PciDevice.{PciDevice}
use Rattle.jh_cellcfg.specs.declared.config.Console.{Console}
use Rattle.jh_spec.specs.Json.{◌>>=◌, told_or, has_only, number_below, list_told}

-- ---- numbers that fit their field

-- a whole number of 8 bits
abbrev pub u8_told : Data → Option ℕ
u8_told = number_below (2 ^ 8)

-- a whole number of 16 bits
abbrev pub u16_told : Data → Option ℕ
u16_told = number_below (2 ^ 16)

-- a whole number of 32 bits
abbrev pub u32_told : Data → Option ℕ
u32_told = number_below (2 ^ 32)

-- a whole number of 64 bits
abbrev pub u64_told : Data → Option ℕ
u64_told = number_below (2 ^ 64)

-- the number of 8 bits that the member of this name tells, 0 where it is missing
abbrev pub u8_at : List ℕ → Data → Option ℕ
u8_at name d = told_or u8_told 0 (get name d)

-- the number of 16 bits that the member of this name tells, 0 where it is missing
abbrev pub u16_at : List ℕ → Data → Option ℕ
u16_at name d = told_or u16_told 0 (get name d)

-- the number of 32 bits that the member of this name tells, 0 where it is missing
abbrev pub u32_at : List ℕ → Data → Option ℕ
u32_at name d = told_or u32_told 0 (get name d)

-- the number of 64 bits that the member of this name tells, 0 where it is missing
abbrev pub u64_at : List ℕ → Data → Option ℕ
u64_at name d = told_or u64_told 0 (get name d)

-- ---- lists

-- a list of exactly so many numbers of 32 bits
abbrev pub words_told : ℕ → Data → Option (List ℕ)
words_told count d = option_and_then (λ words. if length words == count then Some words else None) (list_told u32_told d)

-- the list of so many numbers of 32 bits that the member of this name tells, zeros where it is missing
abbrev pub words_at : ℕ → List ℕ → Data → Option (List ℕ)
words_at count name d = told_or (words_told count) (replicate count 0) (get name d)

-- ---- records: objects with these names alone, each of a member that tells its field

-- the names of a memory region's members
abbrev pub region_names : List (List ℕ)
region_names = codes "phys" ∷ codes "virt" ∷ codes "size" ∷ codes "flags" ∷ []

-- the memory region that an object's members tell, whatever other names it has
abbrev pub region_members : Data → Option Region
region_members d = do
  phys ← u64_at (codes "phys") d
  virt ← u64_at (codes "virt") d
  size ← u64_at (codes "size") d
  flags ← u64_at (codes "flags") d
  Some (record { phys_start = phys; virt_start = virt; size = size; flags = flags })

-- the memory region that an object tells, where it has these names alone
abbrev pub region_told : Data → Option Region
region_told d = if has_only region_names d then region_members d else None

-- the names of an interrupt controller's members
abbrev pub irqchip_names : List (List ℕ)
irqchip_names = codes "address" ∷ codes "id" ∷ codes "pin_base" ∷ codes "bitmap" ∷ []

-- the interrupt controller that an object's members tell, whatever other names it has
abbrev pub irqchip_members : Data → Option Irqchip
irqchip_members d = do
  address ← u64_at (codes "address") d
  id ← u32_at (codes "id") d
  pin_base ← u32_at (codes "pin_base") d
  bitmap ← words_at 4 (codes "bitmap") d
  Some (record { address = address; id = id; pin_base = pin_base; pin_bitmap = bitmap })

-- the interrupt controller that an object tells, where it has these names alone
abbrev pub irqchip_told : Data → Option Irqchip
irqchip_told d = if has_only irqchip_names d then irqchip_members d else None

-- the names of a PCI device's members
abbrev pub device_names : List (List ℕ)
device_names =
    codes "kind" ∷ codes "iommu" ∷ codes "domain" ∷ codes "bdf" ∷ codes "bar_mask" ∷ codes "caps_start"
    ∷ codes "num_caps" ∷ codes "num_msi_vectors" ∷ codes "msi_bits" ∷ codes "num_msix_vectors"
    ∷ codes "msix_region_size" ∷ codes "msix_address" ∷ codes "shmem_regions_start" ∷ codes "shmem_dev_id"
    ∷ codes "shmem_peers" ∷ codes "shmem_protocol" ∷ []

-- the PCI device that an object's members tell, whatever other names it has
abbrev pub device_members : Data → Option PciDevice
device_members d = do
  kind ← u8_at (codes "kind") d
  iommu ← u8_at (codes "iommu") d
  domain ← u16_at (codes "domain") d
  bdf ← u16_at (codes "bdf") d
  bar_mask ← words_at 6 (codes "bar_mask") d
  caps_start ← u16_at (codes "caps_start") d
  num_caps ← u16_at (codes "num_caps") d
  num_msi_vectors ← u8_at (codes "num_msi_vectors") d
  msi_bits ← u8_at (codes "msi_bits") d
  num_msix_vectors ← u16_at (codes "num_msix_vectors") d
  msix_region_size ← u16_at (codes "msix_region_size") d
  msix_address ← u64_at (codes "msix_address") d
  shmem_regions_start ← u32_at (codes "shmem_regions_start") d
  shmem_dev_id ← u8_at (codes "shmem_dev_id") d
  shmem_peers ← u8_at (codes "shmem_peers") d
  shmem_protocol ← u16_at (codes "shmem_protocol") d
  Some (record {
    kind = kind;
    iommu = iommu;
    domain = domain;
    bdf = bdf;
    bar_mask = bar_mask;
    caps_start = caps_start;
    num_caps = num_caps;
    num_msi_vectors = num_msi_vectors;
    msi_bits = msi_bits;
    num_msix_vectors = num_msix_vectors;
    msix_region_size = msix_region_size;
    msix_address = msix_address;
    shmem_regions_start = shmem_regions_start;
    shmem_dev_id = shmem_dev_id;
    shmem_peers = shmem_peers;
    shmem_protocol = shmem_protocol;
  })

-- the PCI device that an object tells, where it has these names alone
abbrev pub device_told : Data → Option PciDevice
device_told d = if has_only device_names d then device_members d else None

-- the names of a console's members
abbrev pub console_names : List (List ℕ)
console_names = codes "address" ∷ codes "size" ∷ codes "kind" ∷ codes "flags" ∷ codes "divider" ∷ codes "gate_nr" ∷ codes "clock_reg" ∷ []

-- the console that an object's members tell, whatever other names it has
abbrev pub console_members : Data → Option Console
console_members d = do
  address ← u64_at (codes "address") d
  size ← u32_at (codes "size") d
  kind ← u16_at (codes "kind") d
  flags ← u16_at (codes "flags") d
  divider ← u32_at (codes "divider") d
  gate_nr ← u32_at (codes "gate_nr") d
  clock_reg ← u64_at (codes "clock_reg") d
  Some (record {
    address = address;
    size = size;
    kind = kind;
    flags = flags;
    divider = divider;
    gate_nr = gate_nr;
    clock_reg = clock_reg;
  })

-- the console that an object tells, where it has these names alone
abbrev pub console_told : Data → Option Console
console_told d = if has_only console_names d then console_members d else None
