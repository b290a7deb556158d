-- The ivshmem devices of cells: what is fixed of their endpoints, and which function and which window of a cell's devices
-- an access means.
use Rattle.std.specs.Prelude.{ℕ, ◌+◌, ◌-◌, ◌/◌, ◌%◌, ◌^◌, ◌<◌, ◌≡◌, ◌⊎◌, Bool, ◌&&◌, ◌==◌, nat_lt, List, [], ◌∷◌, ◌++◌, slice_get, Option, Some, None, option_and_then, if◌then◌else◌}
use Rattle.std.specs.Option.{option_map_or}
use Rattle.jh_cellcfg.specs.declared.region.Region.{Region}
use Rattle.jh_cellcfg.specs.declared.config.PciDevice.{PciDevice}
use Rattle.jh_cellcfg.specs.declared.config.CellConfig.{CellConfig}
use Rattle.jh_cellcfg.specs.declared.live.Live.{Live}
use Rattle.jh_check.specs.Devices.{is_shmem}
use Rattle.jh_mmio.specs.declared.hitting.Window.{Window}
use Rattle.jh_vpci.specs.declared.function.FunctionSpec.{FunctionSpec}
use Rattle.jh_vpci.specs.Space.{Space, window_of}
use Rattle.jh_vpci.specs.Windows.{window_size}
use Rattle.jh_ivshmem.specs.declared.spec.EndpointSpec.{EndpointSpec}
use Rattle.jh_ivshmem.specs.declared.endpoint.Endpoint.{Endpoint}
use Rattle.jh_ivshmem.specs.Links.{endpoint_at}
use Rattle.jh_script.specs.declared.image.Image.{Image}
use Rattle.jh_history.specs.Lives.{cell_in}

-- ---- what an access of a device means

-- bytes of configuration space: their offset from the start of the ECAM window, and how many they are
pub record InConfig : Type 0 where
  pub at : ℕ
  pub width : ℕ

-- a register, by the number of the cell's device, the BAR and the offset in its window
pub record InWindow : Type 0 where
  pub device : ℕ
  pub bar : ℕ
  pub at : ℕ

-- configuration space answers 1, 2 or 4 bytes, at a multiple of their number
pub record IsInConfig (bytes : InConfig) : Type 0 where
  pub wide : (bytes.width ≡ 1) ⊎ (bytes.width ≡ 2) ⊎ (bytes.width ≡ 4)
  pub aligned : bytes.at % bytes.width ≡ 0

-- a register has 32 bits, and lies within the 4,096 bytes of BAR 0 or the 512 of BAR 1
pub record IsInWindow (register : InWindow) : Type 0 where
  pub bar : register.bar < 2
  pub aligned : register.at % 4 ≡ 0
  pub within : register.at < window_size register.bar

-- ---- endpoints

-- the device of that number is an ivshmem device; a number has 32 bits
abbrev pub is_endpoint : ℕ → PciDevice → Bool
is_endpoint n device = nat_lt n (2 ^ 32) && is_shmem device

-- a section of the device: 0 is the state table, 1 the read/write section, and 2 + p the output of the peer p
abbrev pub section_at : CellConfig → PciDevice → ℕ → Option Region
section_at config device k = slice_get config.memory_regions (device.shmem_regions_start + k)

-- the size of a section, 0 where there is none
abbrev pub size_of : Option Region → ℕ
size_of region = option_map_or (λ (r : Region). r.size) region 0

-- the place where a section begins, 0 where there is none
abbrev pub place_of_section : Option Region → ℕ
place_of_section region = option_map_or (λ (r : Region). r.phys_start) region 0

-- the address where a section begins, 0 where there is none
abbrev pub address_of_section : Option Region → ℕ
address_of_section region = option_map_or (λ (r : Region). r.virt_start) region 0

-- what the function of the device shows; the size of the first output stands for all, since all have one size
abbrev pub function_of : CellConfig → PciDevice → FunctionSpec
function_of config device = record {
  protocol = device.shmem_protocol;
  vectors = device.num_msix_vectors;
  state_size = size_of (section_at config device 0);
  rw_size = size_of (section_at config device 1);
  out_size = size_of (section_at config device 2);
  address = address_of_section (section_at config device 0);
}

-- the endpoint of the cell's device of that number
abbrev pub spec_of : CellConfig → ℕ → PciDevice → EndpointSpec
spec_of config n device = record {
  cell = config.id;
  device = n;
  bdf = device.bdf;
  peers = device.shmem_peers;
  id = device.shmem_dev_id;
  table = place_of_section (section_at config device 0);
  function = function_of config device;
}

-- the endpoints of these devices, the first of which has that number; numbers count all devices
abbrev pub specs_from : CellConfig → ℕ → List PciDevice → List EndpointSpec
specs_from config n [] = []
specs_from config n (device ∷ devices) =
    if is_endpoint n device then spec_of config n device ∷ specs_from config (n + 1) devices else specs_from config (n + 1) devices

-- the endpoints of all ivshmem devices of the cell, in order of device
unfoldable pub specs_of : CellConfig → List EndpointSpec
specs_of config = specs_from config 0 config.pci_devices

-- the endpoint of the device of that number, where it is an ivshmem device
abbrev pub specs_by : CellConfig → ℕ → Option PciDevice → List EndpointSpec
specs_by config n None = []
specs_by config n (Some device) = if is_endpoint n device then spec_of config n device ∷ [] else []

-- the endpoint of the cell's device of that number, where it is an ivshmem device
abbrev pub specs_at : CellConfig → ℕ → List EndpointSpec
specs_at config n = specs_by config n (slice_get config.pci_devices n)

-- ---- the devices of a cell, at a moment

-- the cell's id, all devices of its configuration, and the endpoints of all cells
pub record Devices : Type 0 where
  pub cell : ℕ
  pub list : List PciDevice
  pub endpoints : List Endpoint

-- the devices of the configuration of the cell with the id, none where no live cell has it
abbrev pub list_in : Image → List Live → ℕ → List PciDevice
list_in image cells id = option_map_or (λ (c : CellConfig). c.pci_devices) (cell_in image cells id) []

-- the devices of the cell with the id, where these cells live besides root, and all have these endpoints
abbrev pub devices_in : Image → List Live → List Endpoint → ℕ → Devices
devices_in image cells endpoints id = record { cell = id; list = list_in image cells id; endpoints = endpoints }

-- the number of the first of these that is an ivshmem device with that bdf
abbrev pub number_from : ℕ → ℕ → List PciDevice → Option ℕ
number_from bdf n [] = None
number_from bdf n (device ∷ devices) = if is_endpoint n device && (device.bdf == bdf) then Some n else number_from bdf (n + 1) devices

-- the number of the cell's function that has the offset in the ECAM window: the function with number bdf has the 4,096
-- bytes from 4096 * bdf on. It is absent where the cell has no ivshmem device of that bdf
abbrev pub number_at : Devices → ℕ → Option ℕ
number_at devices at = number_from (at / 4096) 0 devices.list

-- the endpoint of the cell's function that has the offset in the ECAM window; none where that is absent
abbrev pub function_at : Devices → ℕ → Option Endpoint
function_at devices at = option_and_then (λ n. endpoint_at devices.cell n devices.endpoints) (number_at devices at)

-- the window of the BAR of the device of that number, where its configuration space enables it
abbrev pub space_window : Space → ℕ → ℕ → List Window
space_window space n bar =
    option_map_or (λ (ends : ℕ × ℕ). (record { start = ends.0; size = ends.1 - ends.0; device = n; bar = bar }) ∷ []) (window_of space bar) []

-- the enabled windows of the device of that number: BAR 0 before BAR 1
abbrev pub device_windows : ℕ → List Endpoint → ℕ → PciDevice → List Window
device_windows cell endpoints n device =
    if is_endpoint n device
    then option_map_or (λ (e : Endpoint). space_window e.space n 0 ++ space_window e.space n 1) (endpoint_at cell n endpoints) []
    else []

-- the enabled windows of these devices, the first of which has that number, in order of device
abbrev pub windows_from : ℕ → List Endpoint → ℕ → List PciDevice → List Window
windows_from cell endpoints n [] = []
windows_from cell endpoints n (device ∷ devices) = device_windows cell endpoints n device ++ windows_from cell endpoints (n + 1) devices

-- the enabled windows of the cell's devices, in order of device
unfoldable pub windows_of : Devices → List Window
windows_of devices = windows_from devices.cell devices.endpoints 0 devices.list
