-- What the pair asks of its shared memory.
use Rattle.std.specs.Prelude.{◌+◌, ℕ, Bool, false, ◌&&◌, ◌||◌, ◌==◌, nat_le}
use Rattle.std.specs.List.{list_all}
use Rattle.std.specs.Option.{option_map_or}
use Rattle.jh_cellcfg.specs.declared.region.Region.{Region}
use Rattle.jh_cellcfg.specs.declared.config.CellConfig.{CellConfig}
use Rattle.jh_cellcfg.specs.declared.config.PciDevice.{PciDevice}
use Rattle.jh_cellcfg.specs.Regions.{has_flags}
use Rattle.jh_check.specs.Devices.{sections_of}
use Rattle.jh_history.specs.Devices.{section_at}
use Rattle.jh_talk.specs.declared.pair.Pair.{Pair}

-- the output of that peer, as the cell of the device has it
abbrev pub has_output : (Region → Bool) → CellConfig → PciDevice → ℕ → Bool
has_output test config device peer = option_map_or test (section_at config device (2 + peer)) false

-- a message has room in the output, which may be read
abbrev pub may_hear : Region → Bool
may_hear output = nat_le 8 output.size && has_flags 0x1 output

-- a message has room in the output, which may be read and written
abbrev pub may_tell : Region → Bool
may_tell output = may_hear output && has_flags 0x2 output

-- the cell of the device may write its own output, and read that of the other device
abbrev pub has_outputs : CellConfig → PciDevice → PciDevice → Bool
has_outputs config device other =
    has_output may_tell config device device.shmem_dev_id && has_output may_hear config device other.shmem_dev_id

-- the section, if it has a size, is shared with root
abbrev pub is_left_to_root : Region → Bool
is_left_to_root section = (section.size == 0) || has_flags 0x80 section

-- each section of the cell's device that has a size is shared with root
abbrev pub are_left_to_root : CellConfig → PciDevice → Bool
are_left_to_root cell device = list_all is_left_to_root (sections_of cell.memory_regions device)

-- the outputs of the pair serve in both maps, and its sections stay root's too
abbrev pub has_sections : CellConfig → CellConfig → Pair → Bool
has_sections root cell pair =
    has_outputs root pair.device pair.other && (has_outputs cell pair.other pair.device && are_left_to_root cell pair.other)
