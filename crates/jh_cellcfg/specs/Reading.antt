-- The configuration that bytes tell: each field where it stands in the layout, and the parts one behind
-- another. Numbers have their lowest byte first. What stands past the bytes' end is 0 or nothing, so
-- that any bytes tell one.
use Rattle.std.specs.Prelude.{ℕ, zero, suc, ◌+◌, ◌*◌, List, [], ◌∷◌, take, drop, slice_range, slice_index}
use Rattle.std.specs.Int.{w64, from_le_bytes}
use Rattle.jh_cellcfg.specs.declared.region.Region.{Region}
use Rattle.jh_cellcfg.specs.declared.config.Irqchip.{Irqchip}
use Rattle.jh_cellcfg.specs.declared.config.PciDevice.{PciDevice}
use Rattle.jh_cellcfg.specs.declared.config.CellConfig.{CellConfig}
use Rattle.jh_cellcfg.specs.declared.header.Counts.{Counts}
use Rattle.jh_cellcfg.specs.Faults.{u16_at, u32_at, counts_at}

-- the number of the one byte at the offset
abbrev pub u8_at : List ℕ → ℕ → ℕ
u8_at bytes offset = slice_index bytes offset

-- the number of the eight bytes at the offset, the lowest first
abbrev pub u64_at : List ℕ → ℕ → ℕ
u64_at bytes offset = from_le_bytes w64 (slice_range bytes offset (offset + 8))

-- the records that stand one behind another, so many of them and each of so many bytes
abbrev pub records : {X : Type 0} → (List ℕ → X) → ℕ → ℕ → List ℕ → List X
records read size zero bytes = []
records read size (suc n) bytes = read (take size bytes) ∷ records read size n (drop size bytes)

-- the number of the first four bytes, the lowest first
abbrev pub word_of : List ℕ → ℕ
word_of bytes = u32_at bytes 0

-- the bytes of a record that is kept as it is
abbrev pub same_bytes : List ℕ → List ℕ
same_bytes bytes = bytes

-- the memory region that 32 bytes tell
abbrev pub region_of : List ℕ → Region
region_of bytes = record {
  phys_start = u64_at bytes 0;
  virt_start = u64_at bytes 8;
  size = u64_at bytes 16;
  flags = u64_at bytes 24;
}

-- the interrupt controller that 32 bytes tell
abbrev pub irqchip_of : List ℕ → Irqchip
irqchip_of bytes = record {
  address = u64_at bytes 0;
  id = u32_at bytes 8;
  pin_base = u32_at bytes 12;
  pin_bitmap = records word_of 4 4 (drop 16 bytes);
}

-- the PCI device that 56 bytes tell
abbrev pub device_of : List ℕ → PciDevice
device_of bytes = record {
  kind = u8_at bytes 0;
  iommu = u8_at bytes 1;
  domain = u16_at bytes 2;
  bdf = u16_at bytes 4;
  bar_mask = records word_of 4 6 (drop 6 bytes);
  caps_start = u16_at bytes 30;
  num_caps = u16_at bytes 32;
  num_msi_vectors = u8_at bytes 34;
  msi_bits = u8_at bytes 35;
  num_msix_vectors = u16_at bytes 36;
  msix_region_size = u16_at bytes 38;
  msix_address = u64_at bytes 40;
  shmem_regions_start = u32_at bytes 48;
  shmem_dev_id = u8_at bytes 52;
  shmem_peers = u8_at bytes 53;
  shmem_protocol = u16_at bytes 54;
}

-- By the counts of the header, the configuration of the bytes from the header's name on. The parts begin
-- behind its 124 bytes.
abbrev pub config_with : Counts → List ℕ → CellConfig
config_with n body =
    let regions_at = 124 + n.cpu_set in
    let caches_at = regions_at + 32 * n.memory_regions in
    let irqchips_at = caches_at + 12 * n.cache_regions in
    let ports_at = irqchips_at + 32 * n.irqchips in
    let devices_at = ports_at + 4 * n.pio_regions in
    let caps_at = devices_at + 56 * n.pci_devices in
    let streams_at = caps_at + 8 * n.pci_caps in
    record {
      name = take 32 body;
      id = u32_at body 32;
      flags = u32_at body 36;
      vpci_irq_base = u32_at body 72;
      cpu_reset_address = u64_at body 76;
      msg_reply_timeout = u64_at body 84;
      console = slice_range body 92 124;
      cpu_set = take n.cpu_set (drop 124 body);
      memory_regions = records region_of 32 n.memory_regions (drop regions_at body);
      cache_regions = records same_bytes 12 n.cache_regions (drop caches_at body);
      irqchips = records irqchip_of 32 n.irqchips (drop irqchips_at body);
      pio_regions = records same_bytes 4 n.pio_regions (drop ports_at body);
      pci_devices = records device_of 56 n.pci_devices (drop devices_at body);
      pci_caps = records same_bytes 8 n.pci_caps (drop caps_at body);
      stream_ids = records word_of 4 n.stream_ids (drop streams_at body);
    }

-- the configuration of the bytes from a header's name on
unfoldable pub config_of_body : List ℕ → CellConfig
config_of_body body = config_with (counts_at body) body

-- the configuration that the bytes of a cell's file tell: eight stand before the name
unfoldable pub config_of : List ℕ → CellConfig
config_of bytes = config_of_body (drop 8 bytes)
