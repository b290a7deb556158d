-- The configuration that a create reads, from the bytes that root may read at an address.
use Rattle.std.specs.Prelude.{ℕ, ℤ, List, map, Option, Some, None, option_map}
use Rattle.jh_num.specs.declared.error.TheConstants.{EINVAL, E2BIG}
use Rattle.jh_cellcfg.specs.declared.config.CellConfig.{CellConfig}
use Rattle.jh_cellcfg.specs.declared.fault.ConfigFault.{ConfigFault}
use Rattle.jh_cellcfg.specs.declared.fault.ConfigFault.TheVariants.{Count}
use Rattle.jh_cellcfg.specs.declared.fault.Part.TheVariants.{Total}
use Rattle.jh_cellcfg.specs.Faults.{header_fault, size_by_header}
use Rattle.jh_cellcfg.specs.Reading.{config_of}
use Rattle.jh_script.specs.declared.image.Image.{Image}
use Rattle.jh_history.specs.declared.access.Access.TheVariants.{Read}
use Rattle.jh_history.specs.declared.reading.ReadCell.{ReadCell}
use Rattle.jh_history.specs.declared.reading.ReadCell.TheVariants.{Reads, Refuses}
use Rattle.jh_history.specs.Access.{places_from}
use Rattle.jh_history.specs.Facts.{Facts}
use Rattle.jh_history.specs.Grants.{granted}

-- the bytes at the address, so many of them, where root may read all of them through its page-mapped regions
abbrev pub bytes_at : Image → Facts → ℕ → ℕ → Option (List ℕ)
bytes_at image facts at count = option_map (map facts.byte) (places_from (granted image facts image.system.root.id Read) at count)

-- the number that a create is refused with for a fault of the header: E2BIG for more bytes than a configuration may
-- have, else EINVAL
abbrev pub refused_for : ConfigFault → ℤ
refused_for (Count Total found) = E2BIG
refused_for fault = EINVAL

-- what is read of all the bytes of a configuration, where root may read them
abbrev pub read_whole : Option (List ℕ) → ReadCell
read_whole None = Refuses EINVAL
read_whole (Some bytes) = Reads (config_of bytes)

-- what is read of a configuration that begins with this header, where `bytes` tells so many of its first bytes, if root
-- may read them: the whole of it, unless the header has a fault
abbrev pub read_behind : (ℕ → Option (List ℕ)) → List ℕ → Option ConfigFault → ReadCell
read_behind bytes header None = read_whole (bytes (size_by_header header))
read_behind bytes header (Some fault) = Refuses (refused_for fault)

-- what is read of a configuration whose header is read first, where that may be read
abbrev pub read_from : (ℕ → Option (List ℕ)) → Option (List ℕ) → ReadCell
read_from bytes None = Refuses EINVAL
read_from bytes (Some header) = read_behind bytes header (header_fault header)

-- first the 132 bytes of the header are read, then the whole, as long as the header says
abbrev pub read_cell : (ℕ → Option (List ℕ)) → ReadCell
read_cell bytes = read_from bytes (bytes 132)

-- what root reads of a configuration at the address
unfoldable pub read_at : Image → Facts → ℕ → ReadCell
read_at image facts at = read_cell (bytes_at image facts at)

-- the configuration that was read, if one was
abbrev pub config_read : ReadCell → Option CellConfig
config_read (Reads config) = Some config
config_read (Refuses number) = None
