-- Where the devices of all cells stand on the bus.
use Rattle.std.specs.Prelude.{◌≡◌, ℕ, ◌<◌, true, List, length, slice_index_or, Contains}
use Rattle.std.specs.List.Sorted.{IsNonDecreasingBy}
use Rattle.jh_cellcfg.specs.declared.region.Region.{Region}
use Rattle.jh_cellcfg.specs.declared.config.PciDevice.{PciDevice}
use Rattle.jh_cellcfg.specs.declared.config.CellConfig.{CellConfig}
use Rattle.jh_check.specs.declared.seats.Seat.{Seat}
use Rattle.jh_check.specs.Devices.{agrees_with}

-- the seat of the device that has that number in the cell of that number
abbrev pub seat_of : ℕ → ℕ → PciDevice → Seat
seat_of cell item device = record { bdf = device.bdf; id = device.shmem_dev_id; cell = cell; item = item }

-- each device of the cell has its seat among these
abbrev pub HasSeatsOf : ℕ → List PciDevice → List Seat → Type 0
HasSeatsOf cell devices seats =
    (n : ℕ) (d : PciDevice) → n < length devices → Contains seats (seat_of cell n (slice_index_or devices n d))

-- each device of each cell has its seat among these
abbrev pub HasSeats : List CellConfig → List Seat → Type 0
HasSeats cells seats =
    (c : ℕ) (d : CellConfig) → c < length cells → HasSeatsOf c (slice_index_or cells c d).pci_devices seats

-- the seats stand in the order of their bdfs
abbrev pub AreByBdf : List Seat → Type 0
AreByBdf seats = IsNonDecreasingBy (λ (seat : Seat). seat.bdf) seats

-- the seat is that of the device, which is of the cell
pub record IsSeatOf (cells : List CellConfig) (seat : Seat) (cell : CellConfig) (device : PciDevice) : Type 0 where
  pub among : seat.cell < length cells
  pub cell_is : slice_index_or cells seat.cell cell ≡ cell
  pub within : seat.item < length cell.pci_devices
  pub device_is : slice_index_or cell.pci_devices seat.item device ≡ device

-- the device of the seat, if it is of one of so many cells, agrees with the one
abbrev pub AgreesAt : List CellConfig → ℕ → List Region → PciDevice → Seat → Type 0
AgreesAt cells number regions device seat =
    (c : CellConfig) (d : PciDevice) → seat.cell < number → IsSeatOf cells seat c d → agrees_with regions device c.memory_regions d ≡ true
