-- What an entry does to the endpoints of ivshmem devices, and to the words of their state tables.
use Rattle.std.specs.Prelude.{◌≡◌, ℕ, ◌%◌, ◌^◌, true, List, [], fold, Option, Some, None, option_and_then, All, AllPairs}
use Rattle.std.specs.Option.{option_map_or}
use Rattle.jh_cellcfg.specs.declared.config.CellConfig.{CellConfig}
use Rattle.jh_cellcfg.specs.declared.config.PciDevice.{PciDevice}
use Rattle.jh_cellcfg.specs.declared.live.Live.{Live}
use Rattle.jh_check.specs.Clean.{IsShmem, IsGoodDevice}
use Rattle.jh_vpci.specs.Writes.{written as config_written}
use Rattle.jh_ivshmem.specs.declared.endpoint.Endpoint.{Endpoint}
use Rattle.jh_ivshmem.specs.declared.spec.EndpointSpec.{EndpointSpec}
use Rattle.jh_ivshmem.specs.Specs.{endpoint_word_of, IsInItsLimits, AreEndpointsApart}
use Rattle.jh_ivshmem.specs.Links.{configured, endpoint_at, joined, reset_of, left_by, pending_of, taken_of, written}
use Rattle.jh_call.specs.declared.call.Call.{Call}
use Rattle.jh_call.specs.declared.call.Call.TheVariants.{Create, Start, Destroy}
use Rattle.jh_script.specs.declared.image.Image.{Image}
use Rattle.jh_history.specs.declared.access.Access.TheVariants.{Write as ToWrite}
use Rattle.jh_history.specs.declared.access.Reach.{Reach}
use Rattle.jh_history.specs.declared.access.Reach.TheVariants.{Config, Window}
use Rattle.jh_history.specs.declared.call.OpenCall.{OpenCall}
use Rattle.jh_history.specs.declared.call.Phase.{Phase}
use Rattle.jh_history.specs.declared.device_change.DeviceChange.{DeviceChange}
use Rattle.jh_history.specs.declared.device_change.DeviceChange.TheVariants.{Join, Reset, Leave}
use Rattle.jh_history.specs.declared.entry.Entry.{Entry}
use Rattle.jh_history.specs.declared.entry.Act.{Act}
use Rattle.jh_history.specs.declared.entry.Act.TheVariants.{Write, Irq, Commit}
use Rattle.jh_history.specs.declared.place.Place.{Place}
use Rattle.jh_history.specs.Access.{with_endpoint_word}
use Rattle.jh_history.specs.Commits.{created}
use Rattle.jh_history.specs.Devices.{Devices, InConfig, InWindow, number_at, specs_of}
use Rattle.jh_history.specs.Facts.{Facts}
use Rattle.jh_history.specs.Grants.{reach, devices_of}
use Rattle.jh_history.specs.Lives.{live_in}

-- ---- writes of guests

-- the endpoints after a write of the value to the configuration space of this endpoint, which is that of the cell's
-- device of that number
abbrev pub function_put_at : Devices → InConfig → ℕ → ℕ → Endpoint → List Endpoint
function_put_at devices bytes value n e =
    configured devices.cell n (config_written e.space (bytes.at % 4096) bytes.width (value % 2 ^ 32)) devices.endpoints

-- the endpoints after a write of the value to the configuration space of the cell's device of that number
abbrev pub function_put : Devices → InConfig → ℕ → ℕ → List Endpoint
function_put devices bytes value n =
    option_map_or (function_put_at devices bytes value n) (endpoint_at devices.cell n devices.endpoints) devices.endpoints

-- the endpoints after a write of the value to configuration space; a function that is absent takes nothing
abbrev pub config_put : Devices → InConfig → ℕ → List Endpoint
config_put devices bytes value = option_map_or (function_put devices bytes value) (number_at devices bytes.at) devices.endpoints

-- the endpoints after a write of the value to the register of the cell's device
abbrev pub register_put : Devices → InWindow → ℕ → List Endpoint
register_put devices register value =
    option_map_or (λ (e : Endpoint). written e register.bar register.at (value % 2 ^ 32) devices.endpoints) (endpoint_at devices.cell register.device devices.endpoints) devices.endpoints

-- the endpoints after a cell with these devices writes the value where it reaches
abbrev pub endpoints_put : Devices → Reach → ℕ → List Endpoint
endpoints_put devices (Config bytes) value = config_put devices bytes value
endpoints_put devices (Window register) value = register_put devices register value
endpoints_put devices _ value = devices.endpoints

-- ---- Commits

-- the endpoints after that of a device joins its link, is reset, or leaves
abbrev pub endpoint_changed : DeviceChange → List Endpoint → EndpointSpec → List Endpoint
endpoint_changed Join list spec = joined spec list
endpoint_changed Reset list spec = option_map_or (λ (e : Endpoint). reset_of e list) (endpoint_at spec.cell spec.device list) list
endpoint_changed Leave list spec = option_map_or (λ (e : Endpoint). left_by e list) (endpoint_at spec.cell spec.device list) list

-- the endpoints after those of all devices of a cell join, are reset, or leave, in order of device
abbrev pub endpoints_changed : DeviceChange → List EndpointSpec → List Endpoint → List Endpoint
endpoints_changed change specs list = fold (endpoint_changed change) list specs

-- how the Commit of the call changes devices: those of a new cell join, those of a cell that is started are reset, and
-- those of one that is destroyed leave
abbrev pub device_change : Call → DeviceChange
device_change (Create at) = Join
device_change (Destroy id) = Leave
device_change _ = Reset

-- the configuration of the cell whose devices the Commit of the call changes: a set loadable changes none
abbrev pub changing : List Live → Call → Phase → Option CellConfig
changing cells (Create at) phase = created (Create at) phase
changing cells (Start id) phase = live_in cells id
changing cells (Destroy id) phase = live_in cells id
changing cells call phase = None

-- the configuration of the cell whose devices the act changes, by this call: a Commit alone changes some
abbrev pub changing_at : List Live → OpenCall → Act → Option CellConfig
changing_at cells o Commit = changing cells o.call o.phase
changing_at cells o act = None

-- the configuration of the cell whose devices the act changes, by the call that is open, if one is
abbrev pub changing_by : List Live → Option OpenCall → Act → Option CellConfig
changing_by cells call act = option_and_then (λ (o : OpenCall). changing_at cells o act) call

-- how the open call changes devices
abbrev pub change_by : Option OpenCall → DeviceChange
change_by call = option_map_or (λ (o : OpenCall). device_change o.call) call Reset

-- the endpoints of the devices that the act changes
abbrev pub specs_changing : Facts → Act → List EndpointSpec
specs_changing facts act = option_map_or specs_of (changing_by facts.cells facts.call act) []

-- ---- an entry

-- the endpoints after what the act of the cell does to them itself: a write that succeeds where it reaches a device, an
-- interrupt by taking its vector
abbrev pub endpoints_acted : Image → Facts → ℕ → Act → List Endpoint
endpoints_acted image facts cell (Write width at value true) = endpoints_put (devices_of image facts cell) (reach image facts cell ToWrite at width) value
endpoints_acted image facts cell (Irq device vector) = taken_of cell (Some (device, vector)) facts.endpoints
endpoints_acted image facts cell _ = facts.endpoints

-- the endpoints after an entry
abbrev pub endpoints_after : Image → Facts → Entry → List Endpoint
endpoints_after image facts entry =
    endpoints_changed (change_by facts.call) (specs_changing facts entry.act) (endpoints_acted image facts entry.cell entry.act)

-- ---- what changes ask for

-- where the act is an interrupt, it is the cell's pending one
abbrev pub IsNextOf : ℕ → List Endpoint → Act → Type 0
IsNextOf cell endpoints (Irq device vector) = pending_of cell endpoints ≡ Some (device, vector)
IsNextOf cell endpoints act = Unit {0}

-- the ivshmem devices of the cell are as the check wants them
abbrev pub HasGoodDevices : CellConfig → Type 0
HasGoodDevices config = All (λ (d : PciDevice). IsShmem d → IsGoodDevice config d) config.pci_devices

-- beside these endpoints one of this device may join
abbrev pub MayJoinThem : List Endpoint → EndpointSpec → Type 0
MayJoinThem endpoints spec = All (λ (e : Endpoint). AreEndpointsApart e.spec spec) endpoints

-- the change may be made at all devices of the cell
pub record MayChange (change : DeviceChange) (endpoints : List Endpoint) (config : CellConfig) : Type 0 where
  pub good : HasGoodDevices config
  pub within : All IsInItsLimits (specs_of config)
  pub new : change ≡ Join → All (MayJoinThem endpoints) (specs_of config)
  pub apart : change ≡ Join → AllPairs AreEndpointsApart (specs_of config)

-- ---- words of state tables

-- the bytes, with the words of these endpoints 0
abbrev pub with_words : List EndpointSpec → (Place → ℕ) → Place → ℕ
with_words specs byte = fold (λ (b : Place → ℕ) (spec : EndpointSpec). with_endpoint_word (endpoint_word_of spec 0) b) byte specs
