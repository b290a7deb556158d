-- The bytes of a cell's configuration, from its fields: revision 13 of Jailhouse's `cell-config.h`.
-- Numbers have their lowest byte first.
use Rattle.std.specs.Prelude.{ℕ, List, [], ◌∷◌, ◌++◌, length, codes}
use Rattle.std.specs.List.{flat_map}
use Rattle.std.specs.Int.{w16, w32, w64, to_le_bytes}
use Rattle.jh_cellcfg.specs.declared.region.Region.{Region}
use Rattle.jh_cellcfg.specs.declared.config.Irqchip.{Irqchip}
use Rattle.jh_cellcfg.specs.declared.config.PciDevice.{PciDevice}
use Rattle.jh_cellcfg.specs.declared.config.CellConfig.{CellConfig}
use Rattle.jh_cellcfg.specs.declared.config.Console.{Console}
use Rattle.jh_cellcfg.specs.declared.header.Counts.{Counts}
use Rattle.jh_cellcfg.specs.declared.header.Header.{Header}

-- the one byte of the number
abbrev pub u8_bytes : ℕ → List ℕ
u8_bytes n = n ∷ []

-- the two bytes of the number, the lowest first
abbrev pub u16_bytes : ℕ → List ℕ
u16_bytes n = to_le_bytes w16 n

-- the four bytes of the number, the lowest first
abbrev pub u32_bytes : ℕ → List ℕ
u32_bytes n = to_le_bytes w32 n

-- the eight bytes of the number, the lowest first
abbrev pub u64_bytes : ℕ → List ℕ
u64_bytes n = to_le_bytes w64 n

-- the 32 bytes of a memory region
abbrev pub region_bytes : Region → List ℕ
region_bytes r = u64_bytes r.phys_start ++ (u64_bytes r.virt_start ++ (u64_bytes r.size ++ u64_bytes r.flags))

-- the 32 bytes of an interrupt controller
abbrev pub irqchip_bytes : Irqchip → List ℕ
irqchip_bytes i = u64_bytes i.address ++ (u32_bytes i.id ++ (u32_bytes i.pin_base ++ flat_map u32_bytes i.pin_bitmap))

-- the 56 bytes of a PCI device
abbrev pub device_bytes : PciDevice → List ℕ
device_bytes d =
    u8_bytes d.kind ++ (u8_bytes d.iommu ++ (u16_bytes d.domain ++ (u16_bytes d.bdf
    ++ (flat_map u32_bytes d.bar_mask
    ++ (u16_bytes d.caps_start ++ (u16_bytes d.num_caps
    ++ (u8_bytes d.num_msi_vectors ++ (u8_bytes d.msi_bits ++ (u16_bytes d.num_msix_vectors
    ++ (u16_bytes d.msix_region_size ++ (u64_bytes d.msix_address
    ++ (u32_bytes d.shmem_regions_start ++ (u8_bytes d.shmem_dev_id ++ (u8_bytes d.shmem_peers
    ++ u16_bytes d.shmem_protocol))))))))))))))

-- the 32 bytes of a console
abbrev pub console_bytes : Console → List ℕ
console_bytes c =
    u64_bytes c.address ++ (u32_bytes c.size ++ (u16_bytes c.kind ++ (u16_bytes c.flags
    ++ (u32_bytes c.divider ++ (u32_bytes c.gate_nr ++ u64_bytes c.clock_reg)))))

-- how many records each part of the configuration has, and how many bytes its CPU set
abbrev pub counts_of : CellConfig → Counts
counts_of c = record {
  cpu_set = length c.cpu_set;
  memory_regions = length c.memory_regions;
  cache_regions = length c.cache_regions;
  irqchips = length c.irqchips;
  pio_regions = length c.pio_regions;
  pci_devices = length c.pci_devices;
  pci_caps = length c.pci_caps;
  stream_ids = length c.stream_ids;
}

-- the header of the configuration, from its name on
abbrev pub header_of : CellConfig → Header
header_of c = record {
  name = c.name;
  id = c.id;
  flags = c.flags;
  counts = counts_of c;
  vpci_irq_base = c.vpci_irq_base;
  cpu_reset_address = c.cpu_reset_address;
  msg_reply_timeout = c.msg_reply_timeout;
  console = c.console;
}

-- the 32 bytes of the counts in a header
abbrev pub counts_bytes : Counts → List ℕ
counts_bytes n =
    u32_bytes n.cpu_set ++ (u32_bytes n.memory_regions ++ (u32_bytes n.cache_regions ++ (u32_bytes n.irqchips
    ++ (u32_bytes n.pio_regions ++ (u32_bytes n.pci_devices ++ (u32_bytes n.pci_caps ++ u32_bytes n.stream_ids))))))

-- the 124 bytes of a header from its name on
abbrev pub header_bytes : Header → List ℕ
header_bytes h =
    h.name ++ (u32_bytes h.id ++ (u32_bytes h.flags ++ (counts_bytes h.counts ++ (u32_bytes h.vpci_irq_base
    ++ (u64_bytes h.cpu_reset_address ++ (u64_bytes h.msg_reply_timeout ++ h.console))))))

-- the bytes of the configuration's parts, in their order
abbrev pub parts_bytes : CellConfig → List ℕ
parts_bytes c =
    c.cpu_set ++ (flat_map region_bytes c.memory_regions ++ (flat_map (λ bytes. bytes) c.cache_regions
    ++ (flat_map irqchip_bytes c.irqchips ++ (flat_map (λ bytes. bytes) c.pio_regions
    ++ (flat_map device_bytes c.pci_devices ++ (flat_map (λ bytes. bytes) c.pci_caps
    ++ flat_map u32_bytes c.stream_ids))))))

-- the bytes of the configuration from its name on
abbrev pub body_bytes : CellConfig → List ℕ
body_bytes c = header_bytes (header_of c) ++ parts_bytes c

-- the one spelling of a cell's configuration
abbrev pub spelling : CellConfig → List ℕ
spelling c = codes "JHCELL" ++ (u16_bytes 13 ++ body_bytes c)
