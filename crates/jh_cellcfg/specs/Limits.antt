-- What a configuration may have: its name, the records of its parts, and its size.
use Rattle.std.specs.Prelude.{ℕ, ◌+◌, ◌*◌, ◌≤◌, Bool, false, ◌&&◌, ◌==◌, nat_lt, nat_le, List, take, drop, Option, Some, None, IsTrue}
use Rattle.std.specs.List.{list_all, position}
use Rattle.jh_cellcfg.specs.declared.config.CellConfig.{CellConfig}
use Rattle.jh_cellcfg.specs.declared.header.Counts.{Counts}
use Rattle.jh_cellcfg.specs.Spelling.{counts_of}

-- the byte is a printable character: ASCII from the space to the tilde
abbrev pub is_printable : ℕ → Bool
is_printable byte = nat_le 0x20 byte && nat_le byte 0x7e

-- the byte is 0
abbrev pub is_zero : ℕ → Bool
is_zero byte = byte == 0

-- by where the first zero byte stands, if there is one: characters before it, one at least, and only zeros from it on
abbrev pub is_name_to : List ℕ → Option ℕ → Bool
is_name_to name None = false
is_name_to name (Some len) = nat_lt 0 len && list_all is_printable (take len name) && list_all is_zero (drop len name)

-- the bytes are printable characters, one at least, and then zero bytes, one at least: of 32 bytes at most 31 are
-- characters
unfoldable pub is_name : List ℕ → Bool
is_name name = is_name_to name (position is_zero name)

-- how many bytes the parts have, which stand behind the header
abbrev pub parts_size : Counts → ℕ
parts_size n =
    n.cpu_set + 32 * n.memory_regions + 12 * n.cache_regions + 32 * n.irqchips + 4 * n.pio_regions
    + 56 * n.pci_devices + 8 * n.pci_caps + 4 * n.stream_ids

-- how many bytes the whole configuration has, from the signature on
abbrev pub whole_size : Counts → ℕ
whole_size n = 132 + parts_size n

-- no part has more records than it may, the CPU set has a byte at least, and the whole is not too large
pub record AreWithinLimits (n : Counts) : Type 0 where
  pub some_cpus : 1 ≤ n.cpu_set
  pub cpu_set : n.cpu_set ≤ 64
  pub memory_regions : n.memory_regions ≤ 1024
  pub cache_regions : n.cache_regions ≤ 1024
  pub irqchips : n.irqchips ≤ 64
  pub pio_regions : n.pio_regions ≤ 1024
  pub pci_devices : n.pci_devices ≤ 256
  pub pci_caps : n.pci_caps ≤ 1024
  pub stream_ids : n.stream_ids ≤ 1024
  pub total : whole_size n ≤ 65536

-- the configuration is within its limits: its name, the counts of its parts, and the size of the whole
pub record IsWithinLimits (c : CellConfig) : Type 0 where
  pub name : IsTrue (is_name c.name)
  pub counts : AreWithinLimits (counts_of c)
