-- Where the configuration space of the pair's function is, which is at the same addresses in both cells.
use Rattle.std.specs.Prelude.{◌+◌, ◌-◌, ◌*◌, ◌%◌, ℕ, Bool, ◌&&◌, not, ◌==◌, nat_le, List, ◌∷◌}
use Rattle.jh_num.specs.declared.address.TheConstants.{ADDRESS_END, PAGE_SIZE}
use Rattle.jh_cellcfg.specs.declared.region.Region.{Region}
use Rattle.jh_cellcfg.specs.declared.config.CellConfig.{CellConfig}
use Rattle.jh_cellcfg.specs.declared.config.PciDevice.{PciDevice}
use Rattle.jh_cellcfg.specs.declared.config.SystemConfig.{SystemConfig}
use Rattle.jh_history.specs.Behind.{ecam_start, ecam_end}
use Rattle.jh_talk.specs.Addresses.{addresses_from, is_met}

-- the first byte of the function's configuration space
abbrev pub function_start : SystemConfig → PciDevice → ℕ
function_start system device = ecam_start system + device.bdf * 4096

-- there is an ECAM window, and it begins at a page
abbrev pub has_ecam : SystemConfig → Bool
has_ecam system = not (ecam_start system == 0) && ((ecam_start system % PAGE_SIZE) == 0)

-- so many bytes from the first one on lie within the ECAM window, and within the addresses
abbrev pub is_in_ecam : SystemConfig → ℕ → ℕ → Bool
is_in_ecam system first count = nat_le (first + count) (ecam_end system) && nat_le (first + count) ADDRESS_END

-- the function's 4,096 bytes lie within the ECAM window, and no region of root or of the cell has one of them
abbrev pub has_function : SystemConfig → CellConfig → PciDevice → Bool
has_function system cell device =
    has_ecam system
    && (is_in_ecam system (function_start system device) 4096
    && not (is_met system.root.memory_regions (function_start system device) 4096)
    && not (is_met cell.memory_regions (function_start system device) 4096))

-- the ECAM window as a region; it has no size where the system has none
abbrev pub ecam_region : SystemConfig → Region
ecam_region system = addresses_from (ecam_start system) (ecam_end system - ecam_start system)

-- what stands in the way of the windows of devices: the ECAM window, and the cell's regions
abbrev pub obstacles : SystemConfig → CellConfig → List Region
obstacles system config = ecam_region system ∷ config.memory_regions
