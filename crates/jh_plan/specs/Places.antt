-- Which place a cell's memory is given.
use Rattle.std.specs.Prelude.{◌≡◌, ◌≤◌, ◌+◌, ◌%◌, ℕ, Bool, true, false, ◌&&◌, not, ◌==◌, nat_lt, if◌then◌else◌, List}
use Rattle.std.specs.List.{list_any}
use Rattle.jh_num.specs.declared.address.TheConstants.{PAGE_SIZE}
use Rattle.jh_cellcfg.specs.declared.region.Region.{Region}
use Rattle.jh_cellcfg.specs.declared.config.CellConfig.{CellConfig}
use Rattle.jh_cellcfg.specs.declared.config.PciDevice.{PciDevice}
use Rattle.jh_cellcfg.specs.Regions.{has_flags, is_comm, is_page_mapped, phys_end, phys_meet}
use Rattle.jh_check.specs.Devices.{is_shmem, is_section}
use Rattle.jh_check.specs.Laws.{IsItem}
use Rattle.jh_plan.specs.declared.place.TheConstants.{LARGE}

-- memory of so many bytes may begin there: at a multiple of 2 MiB where it has as many bytes, else at one of 4,096
abbrev pub is_aligned : ℕ → ℕ → Bool
is_aligned size place = if nat_lt size LARGE then (place % PAGE_SIZE) == 0 else (place % LARGE) == 0

-- the bytes from the place on
abbrev pub bytes_at : ℕ → ℕ → Region
bytes_at place size = record { phys_start = place; virt_start = 0; size = size; flags = 0 }

-- the region is memory that the bytes meet
abbrev pub is_met : Region → Region → Bool
is_met bytes region = not (is_comm region) && phys_meet region bytes

-- the bytes meet memory of the cell
abbrev pub has_met : Region → CellConfig → Bool
has_met bytes cell = list_any (is_met bytes) cell.memory_regions

-- the bytes meet memory of one of the cells
abbrev pub are_taken : List CellConfig → Region → Bool
are_taken cells bytes = list_any (has_met bytes) cells

-- so many bytes from the place on are free in the region: the place is aligned, they lie in the region, and they meet no
-- memory of the cells
pub record IsFreeIn (room : Region) (cells : List CellConfig) (size place : ℕ) : Type 0 where
  pub aligned : is_aligned size place ≡ true
  pub begins : room.phys_start ≤ place
  pub ends : place + size ≤ phys_end room
  pub free : are_taken cells (bytes_at place size) ≡ false

-- the region of that number is a section of one of the cell's ivshmem devices
abbrev pub is_shared : CellConfig → ℕ → Bool
is_shared cell number = list_any (λ (device : PciDevice). is_shmem device && is_section device number) cell.pci_devices

-- the region of root has room for cells: its addresses are whole pages, they may be read, written and executed, and it
-- is no section of a device
abbrev pub is_room : CellConfig → ℕ → Region → Bool
is_room root number region =
    is_page_mapped region && has_flags 0x1 region && has_flags 0x2 region && has_flags 0x4 region && not (is_shared root number)

-- so many bytes from the place on are free for a cell: in one region of root that has room for cells
pub record IsFreePlace (root : CellConfig) (cells : List CellConfig) (size place : ℕ) : Type 0 where
  pub number : ℕ
  pub region : Region
  pub item : IsItem root number region
  pub room : is_room root number region ≡ true
  pub free : IsFreeIn region cells size place

-- the place is the greatest that is free
pub record IsHighestPlace (root : CellConfig) (cells : List CellConfig) (size place : ℕ) : Type 0 where
  pub free : IsFreePlace root cells size place
  pub highest : (other : ℕ) → IsFreePlace root cells size other → other ≤ place

-- no place is free
abbrev pub HasNoPlace : CellConfig → List CellConfig → ℕ → Type 0
HasNoPlace root cells size = (place : ℕ) → IsFreePlace root cells size place → ⊥
