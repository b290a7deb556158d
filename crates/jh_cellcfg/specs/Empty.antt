-- The cell that has nothing, and the system that has no more than its memory and root.
use Rattle.std.specs.Prelude.{ℕ, [], replicate}
use Rattle.jh_cellcfg.specs.declared.config.CellConfig.{CellConfig}
use Rattle.jh_cellcfg.specs.declared.config.Console.{Console}
use Rattle.jh_cellcfg.specs.declared.config.Platform.{Platform}
use Rattle.jh_cellcfg.specs.declared.config.SystemConfig.{SystemConfig}
use Rattle.jh_cellcfg.specs.declared.region.Region.{Region}

-- the cell that has this id, and 0 or nothing in each other field
abbrev pub empty_cell : ℕ → CellConfig
empty_cell id = record {
  name = replicate 32 0;
  id = id;
  flags = 0;
  vpci_irq_base = 0;
  cpu_reset_address = 0;
  msg_reply_timeout = 0;
  console = replicate 32 0;
  cpu_set = [];
  memory_regions = [];
  cache_regions = [];
  irqchips = [];
  pio_regions = [];
  pci_devices = [];
  pci_caps = [];
  stream_ids = [];
}

-- the console whose fields are all 0
abbrev pub no_console : Console
no_console = record { address = 0; size = 0; kind = 0; flags = 0; divider = 0; gate_nr = 0; clock_reg = 0 }

-- the platform that has this memory of the hypervisor, and 0 in all else
abbrev pub bare_platform : Region → Platform
bare_platform memory = record {
  flags = 0;
  hypervisor_memory = memory;
  debug_console = no_console;
  pci_mmconfig_base = 0;
  pci_mmconfig_end_bus = 0;
  pci_is_virtual = 0;
  pci_domain = 0;
  root_head = replicate 8 0;
}

-- the system that has this memory of the hypervisor and this root, and 0 in all else
abbrev pub bare_system : Region → CellConfig → SystemConfig
bare_system memory root = record { platform = bare_platform memory; root = root }
