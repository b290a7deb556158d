-- Which values the fields of records and of a whole cell have: each number below its type's end, each
-- array of its length. The bytes in arrays and a cell's CPU set are left open. A law over all records, whose
-- numbers have no end, has this as a premise.
use Rattle.std.specs.Prelude.{◌≡◌, ℕ, ◌<◌, ◌^◌, List, length}
use Rattle.std.specs.List.{AllByRecursion}
use Rattle.jh_cellcfg.specs.declared.region.Region.{Region}
use Rattle.jh_cellcfg.specs.declared.config.Irqchip.{Irqchip}
use Rattle.jh_cellcfg.specs.declared.config.PciDevice.{PciDevice}
use Rattle.jh_cellcfg.specs.declared.config.Console.{Console}
use Rattle.jh_cellcfg.specs.declared.config.CellConfig.{CellConfig}
use Rattle.jh_cellcfg.specs.declared.header.Counts.{Counts}
use Rattle.jh_cellcfg.specs.declared.header.Header.{Header}

-- the list is of so many numbers, each of 32 bits
pub record IsWordArray (size : ℕ) (words : List ℕ) : Type 0 where
  pub count : length words ≡ size
  pub each : AllByRecursion (λ n. n < 2 ^ 32) words

-- the fields of the memory region have the values of their types
pub record IsRegion (r : Region) : Type 0 where
  pub phys_start : r.phys_start < 2 ^ 64
  pub virt_start : r.virt_start < 2 ^ 64
  pub size : r.size < 2 ^ 64
  pub flags : r.flags < 2 ^ 64

-- the fields of the interrupt controller have the values of their types
pub record IsIrqchip (i : Irqchip) : Type 0 where
  pub address : i.address < 2 ^ 64
  pub id : i.id < 2 ^ 32
  pub pin_base : i.pin_base < 2 ^ 32
  pub pin_bitmap : IsWordArray 4 i.pin_bitmap

-- the fields of the PCI device have the values of their types
pub record IsDevice (d : PciDevice) : Type 0 where
  pub kind : d.kind < 2 ^ 8
  pub iommu : d.iommu < 2 ^ 8
  pub domain : d.domain < 2 ^ 16
  pub bdf : d.bdf < 2 ^ 16
  pub bar_mask : IsWordArray 6 d.bar_mask
  pub caps_start : d.caps_start < 2 ^ 16
  pub num_caps : d.num_caps < 2 ^ 16
  pub num_msi_vectors : d.num_msi_vectors < 2 ^ 8
  pub msi_bits : d.msi_bits < 2 ^ 8
  pub num_msix_vectors : d.num_msix_vectors < 2 ^ 16
  pub msix_region_size : d.msix_region_size < 2 ^ 16
  pub msix_address : d.msix_address < 2 ^ 64
  pub shmem_regions_start : d.shmem_regions_start < 2 ^ 32
  pub shmem_dev_id : d.shmem_dev_id < 2 ^ 8
  pub shmem_peers : d.shmem_peers < 2 ^ 8
  pub shmem_protocol : d.shmem_protocol < 2 ^ 16

-- the fields of the console have the values of their types
pub record IsConsole (c : Console) : Type 0 where
  pub address : c.address < 2 ^ 64
  pub size : c.size < 2 ^ 32
  pub kind : c.kind < 2 ^ 16
  pub flags : c.flags < 2 ^ 16
  pub divider : c.divider < 2 ^ 32
  pub gate_nr : c.gate_nr < 2 ^ 32
  pub clock_reg : c.clock_reg < 2 ^ 64

-- the counts of a header are numbers of 32 bits
pub record AreCounts (n : Counts) : Type 0 where
  pub cpu_set : n.cpu_set < 2 ^ 32
  pub memory_regions : n.memory_regions < 2 ^ 32
  pub cache_regions : n.cache_regions < 2 ^ 32
  pub irqchips : n.irqchips < 2 ^ 32
  pub pio_regions : n.pio_regions < 2 ^ 32
  pub pci_devices : n.pci_devices < 2 ^ 32
  pub pci_caps : n.pci_caps < 2 ^ 32
  pub stream_ids : n.stream_ids < 2 ^ 32

-- the fields of the header have the values of their types
pub record IsHeader (h : Header) : Type 0 where
  pub name : length h.name ≡ 32
  pub id : h.id < 2 ^ 32
  pub flags : h.flags < 2 ^ 32
  pub counts : AreCounts h.counts
  pub vpci_irq_base : h.vpci_irq_base < 2 ^ 32
  pub cpu_reset_address : h.cpu_reset_address < 2 ^ 64
  pub msg_reply_timeout : h.msg_reply_timeout < 2 ^ 64
  pub console : length h.console ≡ 32

-- the fields of the cell's configuration have the values of their types
pub record IsCell (c : CellConfig) : Type 0 where
  pub name : length c.name ≡ 32
  pub id : c.id < 2 ^ 32
  pub flags : c.flags < 2 ^ 32
  pub vpci_irq_base : c.vpci_irq_base < 2 ^ 32
  pub cpu_reset_address : c.cpu_reset_address < 2 ^ 64
  pub msg_reply_timeout : c.msg_reply_timeout < 2 ^ 64
  pub console : length c.console ≡ 32
  pub memory_regions : AllByRecursion IsRegion c.memory_regions
  pub cache_regions : AllByRecursion (λ bytes. length bytes ≡ 12) c.cache_regions
  pub irqchips : AllByRecursion IsIrqchip c.irqchips
  pub pio_regions : AllByRecursion (λ bytes. length bytes ≡ 4) c.pio_regions
  pub pci_devices : AllByRecursion IsDevice c.pci_devices
  pub pci_caps : AllByRecursion (λ bytes. length bytes ≡ 8) c.pci_caps
  pub stream_ids : AllByRecursion (λ n. n < 2 ^ 32) c.stream_ids
