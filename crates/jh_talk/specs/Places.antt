-- Where the cell's configuration is put, so that root may read it.
use Rattle.std.specs.Prelude.{◌≡◌, ◌≤◌, ◌+◌, ◌%◌, ℕ, Bool, true, false, ◌&&◌, not}
use Rattle.std.specs.List.{list_any}
use Rattle.jh_num.specs.declared.address.TheConstants.{PAGE_SIZE}
use Rattle.jh_cellcfg.specs.declared.region.Region.{Region}
use Rattle.jh_cellcfg.specs.declared.config.CellConfig.{CellConfig}
use Rattle.jh_cellcfg.specs.declared.config.PciDevice.{PciDevice}
use Rattle.jh_cellcfg.specs.Regions.{has_flags, is_device, is_page_mapped, phys_end, phys_meet}
use Rattle.jh_check.specs.Devices.{is_shmem, sections_of}
use Rattle.jh_check.specs.Laws.{IsItem}

-- so many places from the first one on
abbrev pub places_from : ℕ → ℕ → Region
places_from first count = record { phys_start = first; virt_start = 0; size = count; flags = 0 }

-- a section of the device has one of these places, if it is an ivshmem device
abbrev pub has_met_section : CellConfig → Region → PciDevice → Bool
has_met_section config places device =
    is_shmem device && list_any (phys_meet places) (sections_of config.memory_regions device)

-- a section of one of the cell's ivshmem devices has one of these places
abbrev pub are_shared : CellConfig → Region → Bool
are_shared config places = list_any (has_met_section config places) config.pci_devices

-- a configuration may be read from the region: its addresses are whole pages of memory, which may be read
abbrev pub may_hold : Region → Bool
may_hold region = is_page_mapped region && (has_flags 0x1 region && not (is_device region))

-- so many bytes may be put there: at a page, all in one region of root from which they may be read, and in no section
pub record IsPlace (root : CellConfig) (count first : ℕ) : Type 0 where
  pub aligned : first % PAGE_SIZE ≡ 0
  pub number : ℕ
  pub region : Region
  pub item : IsItem root number region
  pub holds : may_hold region ≡ true
  pub begins : region.phys_start ≤ first
  pub ends : first + count ≤ phys_end region
  pub clear : are_shared root (places_from first count) ≡ false

-- this is the least place where so many bytes may be put
pub record IsLeastPlace (root : CellConfig) (count first : ℕ) : Type 0 where
  pub is : IsPlace root count first
  pub least : (other : ℕ) → IsPlace root count other → first ≤ other

-- so many bytes may be put nowhere
abbrev pub HasNoPlace : CellConfig → ℕ → Type 0
HasNoPlace root count = (first : ℕ) → IsPlace root count first → ⊥
