-- The words for a fault.
use Rattle.std.specs.Prelude.{ℕ, List, ◌++◌, codes, decimal}
use Rattle.jh_cellcfg.specs.declared.fault.ConfigFault.{ConfigFault}
use Rattle.jh_cellcfg.specs.declared.fault.ConfigFault.TheVariants.{Short, Signature, Revision, Name, Count, Trailing, NoMemory}
use Rattle.jh_cellcfg.specs.declared.fault.Part.{Part}
use Rattle.jh_cellcfg.specs.declared.fault.Part.TheVariants.{CpuSet, MemoryRegions, CacheRegions, Irqchips, PioRegions, PciDevices, PciCaps, StreamIds, Total}

-- the header's name of a count, or `total`
abbrev pub count_text : Part → List ℕ
count_text CpuSet = codes "cpu_set_size"
count_text MemoryRegions = codes "num_memory_regions"
count_text CacheRegions = codes "num_cache_regions"
count_text Irqchips = codes "num_irqchips"
count_text PioRegions = codes "num_pio_regions"
count_text PciDevices = codes "num_pci_devices"
count_text PciCaps = codes "num_pci_caps"
count_text StreamIds = codes "num_stream_ids"
count_text Total = codes "total"

-- the words for a fault of a configuration
abbrev pub config_fault_text : ConfigFault → List ℕ
config_fault_text (Short need) = codes "short " ++ decimal need
config_fault_text Signature = codes "signature"
config_fault_text (Revision found) = codes "revision " ++ decimal found
config_fault_text Name = codes "name"
config_fault_text (Count part found) = codes "count " ++ (count_text part ++ (codes " " ++ decimal found))
config_fault_text (Trailing extra) = codes "trailing " ++ decimal extra
config_fault_text NoMemory = codes "want of memory"
