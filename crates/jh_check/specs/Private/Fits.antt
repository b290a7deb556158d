-- The bdfs at which all devices of different cells are known to fit each other.
use Rattle.std.specs.Prelude.{◌≡◌, ◌≢◌, ℕ, ◌<◌, Bool, true, false, ◌&&◌, ◌==◌, List, slice_index_or, Contains}
use Rattle.jh_cellcfg.specs.declared.region.Region.{Region}
use Rattle.jh_cellcfg.specs.declared.config.PciDevice.{PciDevice}
use Rattle.jh_cellcfg.specs.declared.config.CellConfig.{CellConfig}
use Rattle.jh_check.specs.declared.seats.Seat.{Seat}
use Rattle.jh_check.specs.Devices.{are_same_memory, sections_of, fits}
use Rattle.jh_check.specs.Private.Seats.{IsSeatOf}

-- one of the seats is that of the device, which is of the cell of that number, and has the device's bdf
pub record IsSeated (cells : List CellConfig) (seats : List Seat) (number : ℕ) (cell : CellConfig) (device : PciDevice) : Type 0 where
  pub seat : Seat
  pub is : Contains seats seat
  pub owner : seat.cell ≡ number
  pub bdf : seat.bdf ≡ device.bdf
  pub sits : IsSeatOf cells seat cell device

-- the other device has that number among its peers, and as many peers and the same memory as the one
abbrev pub is_like : List Region → PciDevice → List Region → PciDevice → ℕ → Bool
is_like regions device other_regions other id =
    (other.shmem_dev_id == id) && ((device.shmem_peers == other.shmem_peers) && are_same_memory (sections_of regions device) (sections_of other_regions other))

-- the device of the seat, if there is one, has the seat's number, and as many peers and the same memory as the one
abbrev pub LikeAt : List CellConfig → List Region → PciDevice → Seat → Type 0
LikeAt cells regions device seat =
    (c : CellConfig) (d : PciDevice) → IsSeatOf cells seat c d → is_like regions device c.memory_regions d seat.id ≡ true

-- the devices of the first seats have the seats' numbers, no two the same, and as many peers and the same memory as the
-- one
pub record AreLike (cells : List CellConfig) (regions : List Region) (device : PciDevice) (run : List Seat) (n : ℕ) : Type 0 where
  pub each : (k : ℕ) (d : Seat) → k < n → LikeAt cells regions device (slice_index_or run k d)
  pub ids : (j k : ℕ) (d : Seat) → j < k → k < n → (slice_index_or run j d).id ≢ (slice_index_or run k d).id

-- the devices of the two seats fit each other
abbrev pub FitAt : List CellConfig → Seat → Seat → Type 0
FitAt cells x y =
    (c : CellConfig) (d : PciDevice) (e : CellConfig) (f : PciDevice) → IsSeatOf cells x c d → IsSeatOf cells y e f → fits c.memory_regions d e.memory_regions f ≡ true

-- the devices of all seats of different cells fit each other
abbrev pub FitEachOther : List CellConfig → List Seat → Type 0
FitEachOther cells run = (x y : Seat) → Contains run x → Contains run y → x.cell ≢ y.cell → FitAt cells x y

-- at each bdf that is told, the devices of all seats of different cells fit each other
abbrev pub AreSure : List CellConfig → List Seat → List Bool → Type 0
AreSure cells seats sure =
    (bdf : ℕ) → slice_index_or sure bdf false ≡ true → (x y : Seat) → Contains seats x → Contains seats y → x.bdf ≡ bdf → y.bdf ≡ bdf → x.cell ≢ y.cell → FitAt cells x y
