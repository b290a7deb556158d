-- The configurations that a JSON object's members tell, and the member that is at fault where they tell none.
use Rattle.std.specs.Prelude.{ℕ, ◌-◌, ◌&&◌, not, nat_lt, nat_le, List, [], ◌∷◌, ◌++◌, length, codes, Option, Some, None, Result, Ok, Err, option_and_then, if◌then◌else◌, replicate}
use Rattle.std.specs.List.{list_any}
use Rattle.serde_json.specs.Data.{Data}
use Rattle.serde_json.specs.Find.{get, as_str}
use Rattle.jh_cellcfg.specs.declared.config.CellConfig.{CellConfig}
use Rattle.jh_cellcfg.specs.declared.config.Platform.{Platform}
use Rattle.jh_cellcfg.specs.declared.config.SystemConfig.{SystemConfig}
use Rattle.jh_cellcfg.specs.declared.config.Irqchip.{Irqchip}
use Rattle.jh_cellcfg.specs.declared.config.PciDevice.{PciDevice}
use Rattle.jh_cellcfg.specs.declared.config.Console.{Console}
use Rattle.jh_cellcfg.specs.declared.region.Region.{Region}
use Rattle.jh_cellcfg.specs.Empty.{no_console}
use Rattle.jh_cellcfg.specs.Limits.{is_name, is_zero}
use Rattle.jh_cellcfg.specs.Spelling.{console_bytes}
use Rattle.jh_spec.specs.declared.fault.JsonFault.{JsonFault}
use Rattle.jh_spec.specs.declared.fault.JsonFault.TheVariants.{Member}
use Rattle.jh_spec.specs.declared.cell.Identity.{Identity}
use Rattle.jh_spec.specs.declared.cell.Lists.{Lists}
use Rattle.jh_spec.specs.declared.cell.Settings.{Settings}
use Rattle.jh_spec.specs.Faults.{◌>>=◌, member_told, all_listed}
use Rattle.jh_spec.specs.Json.{told_at, told_or, list_at}
use Rattle.jh_spec.specs.Fields.{u8_at, u16_at, u32_at, u64_at, u32_told, region_told, irqchip_told, device_told, console_told}
use Rattle.jh_spec.specs.Cpus.{bitmap, cpus_told}

-- ---- a cell's members

-- the name that a text tells: the text, which has no zero byte, with zero bytes behind it, 32 in all
abbrev pub padded_name : List ℕ → Option (List ℕ)
padded_name text =
    let whole = text ++ replicate (32 - length text) 0 in
    if nat_le (length text) 32 && not (list_any is_zero text) && is_name whole then Some whole else None

-- the name that the cell's member of that name tells
abbrev pub cell_name : Data → Option (List ℕ)
cell_name d = option_and_then padded_name (told_at as_str (codes "name") d)

-- how many bytes a value says that the CPU bitmap has: 1 to 64
abbrev pub size_told : Data → Option ℕ
size_told d = option_and_then (λ bytes. if nat_lt 0 bytes && nat_le bytes 64 then Some bytes else None) (u32_told d)

-- how many bytes the CPU bitmap has: 8 where the member is missing
abbrev pub cpu_set_size : Data → Option ℕ
cpu_set_size d = told_or size_told 8 (get (codes "cpu_set_size") d)

-- the CPU bitmap of so many bytes that the member tells, which names no CPU where it is missing
abbrev pub cpu_set_in : ℕ → Data → Option (List ℕ)
cpu_set_in bytes d = told_or (cpus_told bytes) (bitmap bytes []) (get (codes "cpus") d)

-- the memory regions that the cell's member tells, at most 1,024
abbrev pub regions_in : Data → Option (List Region)
regions_in d = list_at region_told 1024 (codes "regions") d

-- the interrupt controllers that the cell's member tells, at most 64
abbrev pub irqchips_in : Data → Option (List Irqchip)
irqchips_in d = list_at irqchip_told 64 (codes "irqchips") d

-- the PCI devices that the cell's member tells, at most 256
abbrev pub devices_in : Data → Option (List PciDevice)
devices_in d = list_at device_told 256 (codes "devices") d

-- the memory region whose fields are all 0
abbrev pub no_region : Region
no_region = record { phys_start = 0; virt_start = 0; size = 0; flags = 0 }

-- the interrupt controller whose fields are all 0
abbrev pub no_irqchip : Irqchip
no_irqchip = record { address = 0; id = 0; pin_base = 0; pin_bitmap = replicate 4 0 }

-- the PCI device whose fields are all 0
abbrev pub no_device : PciDevice
no_device = record {
  kind = 0;
  iommu = 0;
  domain = 0;
  bdf = 0;
  bar_mask = replicate 6 0;
  caps_start = 0;
  num_caps = 0;
  num_msi_vectors = 0;
  msi_bits = 0;
  num_msix_vectors = 0;
  msix_region_size = 0;
  msix_address = 0;
  shmem_regions_start = 0;
  shmem_dev_id = 0;
  shmem_peers = 0;
  shmem_protocol = 0;
}

-- the console that the member of this name tells, all 0 where it is missing
abbrev pub console_at : List ℕ → Data → Option Console
console_at name d = told_or console_told no_console (get name d)

-- the names of a cell's members, in their order
abbrev pub cell_names : List (List ℕ)
cell_names =
    codes "name" ∷ codes "id" ∷ codes "flags" ∷ codes "cpu_set_size" ∷ codes "cpus" ∷ codes "regions" ∷ codes "irqchips" ∷ codes "devices"
    ∷ codes "vpci_irq_base" ∷ codes "cpu_reset_address" ∷ codes "msg_reply_timeout" ∷ codes "console" ∷ []

-- what an object's members tell of a cell's name, id, flags and CPU bitmap; else the first fault
unfoldable pub identity_told : Data → Result Identity JsonFault
identity_told d = do
  name ← member_told (codes "name") (cell_name d)
  id ← member_told (codes "id") (u32_at (codes "id") d)
  flags ← member_told (codes "flags") (u32_at (codes "flags") d)
  bytes ← member_told (codes "cpu_set_size") (cpu_set_size d)
  cpu_set ← member_told (codes "cpus") (cpu_set_in bytes d)
  Ok (record { name = name; id = id; flags = flags; cpu_set = cpu_set })

-- what an object's members tell of a cell's regions, interrupt controllers and devices; else the first fault
unfoldable pub lists_told : Data → Result Lists JsonFault
lists_told d = do
  regions ← member_told (codes "regions") (regions_in d)
  irqchips ← member_told (codes "irqchips") (irqchips_in d)
  devices ← member_told (codes "devices") (devices_in d)
  Ok (record { memory_regions = regions; irqchips = irqchips; pci_devices = devices })

-- what an object's members tell of a cell's other numbers and its console; else the first fault
unfoldable pub settings_told : Data → Result Settings JsonFault
settings_told d = do
  vpci_irq_base ← member_told (codes "vpci_irq_base") (u32_at (codes "vpci_irq_base") d)
  cpu_reset_address ← member_told (codes "cpu_reset_address") (u64_at (codes "cpu_reset_address") d)
  msg_reply_timeout ← member_told (codes "msg_reply_timeout") (u64_at (codes "msg_reply_timeout") d)
  console ← member_told (codes "console") (console_at (codes "console") d)
  Ok (record {
    vpci_irq_base = vpci_irq_base;
    cpu_reset_address = cpu_reset_address;
    msg_reply_timeout = msg_reply_timeout;
    console = console_bytes console;
  })

-- the cell that its members make, without cache regions, port ranges, capabilities and stream ids
abbrev pub cell_made_of : Identity → Lists → Settings → CellConfig
cell_made_of identity lists settings = record {
  name = identity.name;
  id = identity.id;
  flags = identity.flags;
  vpci_irq_base = settings.vpci_irq_base;
  cpu_reset_address = settings.cpu_reset_address;
  msg_reply_timeout = settings.msg_reply_timeout;
  console = settings.console;
  cpu_set = identity.cpu_set;
  memory_regions = lists.memory_regions;
  cache_regions = [];
  irqchips = lists.irqchips;
  pio_regions = [];
  pci_devices = lists.pci_devices;
  pci_caps = [];
  stream_ids = [];
}

-- the cell that an object's members tell, where it has no other names than these; else the first fault
unfoldable pub cell_told : List (List ℕ) → Data → Result CellConfig JsonFault
cell_told names d = do
  identity ← identity_told d
  lists ← lists_told d
  settings ← settings_told d
  _ ← all_listed names d
  Ok (cell_made_of identity lists settings)

-- ---- a system's members

-- the names of a system's members, in their order
abbrev pub system_names : List (List ℕ)
system_names =
    codes "flags" ∷ codes "hypervisor" ∷ codes "debug_console" ∷ codes "mmconfig_base" ∷ codes "end_bus" ∷ codes "is_virtual" ∷ codes "domain"
    ∷ codes "root" ∷ []

-- the memory region that the member of this name tells, all 0 where it is missing
abbrev pub region_at : List ℕ → Data → Option Region
region_at name d = told_or region_told no_region (get name d)

-- any fault in root is a fault of root
abbrev pub root_of : Result CellConfig JsonFault → Result CellConfig JsonFault
root_of (Ok config) = Ok config
root_of (Err fault) = Err (Member (codes "root"))

-- root is a cell without a kind, and must be there
abbrev pub root_in : Option Data → Result CellConfig JsonFault
root_in (Some root) = root_of (cell_told cell_names root)
root_in None = Err (Member (codes "root"))

-- the cell that the member `root` tells, which must be there; else a fault of root
abbrev pub root_told : Data → Result CellConfig JsonFault
root_told d = root_in (get (codes "root") d)

-- what an object's members tell of a system but root; else the first fault
unfoldable pub platform_told : Data → Result Platform JsonFault
platform_told d = do
  flags ← member_told (codes "flags") (u32_at (codes "flags") d)
  hypervisor ← member_told (codes "hypervisor") (region_at (codes "hypervisor") d)
  debug_console ← member_told (codes "debug_console") (console_at (codes "debug_console") d)
  mmconfig_base ← member_told (codes "mmconfig_base") (u64_at (codes "mmconfig_base") d)
  end_bus ← member_told (codes "end_bus") (u8_at (codes "end_bus") d)
  is_virtual ← member_told (codes "is_virtual") (u8_at (codes "is_virtual") d)
  domain ← member_told (codes "domain") (u16_at (codes "domain") d)
  Ok (record {
    flags = flags;
    hypervisor_memory = hypervisor;
    debug_console = debug_console;
    pci_mmconfig_base = mmconfig_base;
    pci_mmconfig_end_bus = end_bus;
    pci_is_virtual = is_virtual;
    pci_domain = domain;
    root_head = replicate 8 0;
  })

-- the system that an object's members tell; else the first fault
unfoldable pub system_told : Data → Result SystemConfig JsonFault
system_told d = do
  platform ← platform_told d
  root ← root_told d
  _ ← all_listed (codes "kind" ∷ system_names) d
  Ok (record { platform = platform; root = root })
