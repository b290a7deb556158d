-- What holds after every legal journal of an admitted image: of the cells that live, of whose the CPUs are, of
-- the management call that is open, and of the devices. And what it means that an image is made of bytes.
use Rattle.std.specs.Prelude.{◌≡◌, ◌≢◌, ◌⊎◌, ◌≤◌, ◌<◌, ℕ, ℤ, pos, true, false, List, [], ◌∷◌, ◌++◌, length, map, All, Contains, AllPairs, Option, Some, None, slice_get}
use Rattle.jh_cellcfg.specs.declared.config.CellConfig.{CellConfig}
use Rattle.jh_cellcfg.specs.declared.config.SystemConfig.{SystemConfig}
use Rattle.jh_cellcfg.specs.Cells.{name_of, is_cpu_set, is_passive}
use Rattle.jh_check.specs.Refusals.{is_known, AreTwo}
use Rattle.jh_check.specs.Clean.{IsClean}
use Rattle.jh_shape.specs.Pages.{pages_of}
use Rattle.jh_cpu.specs.declared.cpu.Cpu.{Cpu}
use Rattle.jh_cpu.specs.declared.cpu.Mode.TheVariants.{Running}
use Rattle.jh_call.specs.declared.call.Call.{Call}
use Rattle.jh_call.specs.declared.call.Call.TheVariants.{Create, Destroy}
use Rattle.jh_call.specs.Calls.{decoded, is_management}
use Rattle.jh_vpci.specs.Windows.{AreWindows}
use Rattle.jh_ivshmem.specs.declared.endpoint.Endpoint.{Endpoint}
use Rattle.jh_ivshmem.specs.declared.spec.EndpointSpec.{EndpointSpec}
use Rattle.jh_ivshmem.specs.Specs.{IsInItsLimits, AreEndpointsApart, IsBefore}
use Rattle.jh_ivshmem.specs.Links.{endpoint_at}
use Rattle.jh_script.specs.declared.image.Image.{Image}
use Rattle.jh_script.specs.declared.image.Preload.{Preload}
use Rattle.jh_script.specs.declared.op.Op.TheVariants.{Hvc as HvcOp}
use Rattle.jh_history.specs.declared.call.OpenCall.{OpenCall}
use Rattle.jh_history.specs.declared.call.Phase.{Phase}
use Rattle.jh_history.specs.declared.call.Phase.TheVariants.{ToDecide, ToSettle, ToCreate, ToCommit, ToNote, ToNoted, ToFinish}
use Rattle.jh_history.specs.Facts.{Facts}
use Rattle.jh_history.specs.Devices.{specs_of}
use Rattle.jh_history.specs.Lives.{is_on_board, program_ops}
use Rattle.jh_history.specs.Admitted.{pool_pages}
use Rattle.jh_history.specs.Calls.{is_named}
use Rattle.jh_history.specs.Cpus.{is_running}
use Rattle.jh_shape.specs.Lives.{configs_of}

-- ---- the cells

-- beside root live cells with these configurations: the check finds nothing in them, their pages are there, and
-- no two of all have one name or one id
pub record AreSoundCells (system : SystemConfig) (configs : List CellConfig) : Type 0 where
  pub clean : IsClean system configs
  pub room : pages_of system.root.memory_regions configs ≤ pool_pages system
  pub differ : AllPairs AreTwo (system.root ∷ configs)

-- ---- whose the CPUs are

-- a live cell with the configuration has exactly the CPUs that its set names, and they are the board's
pub record HasItsCpus (image : Image) (cpu : ℕ → Cpu) (config : CellConfig) : Type 0 where
  pub owned : (i : ℕ) → is_cpu_set config.cpu_set i ≡ true → (cpu i).owner ≡ config.id
  pub named : (i : ℕ) → (cpu i).owner ≡ config.id → is_cpu_set config.cpu_set i ≡ true
  pub board : (i : ℕ) → is_cpu_set config.cpu_set i ≡ true → is_on_board image i ≡ true

-- the owner is root or a live cell
abbrev pub IsOwner : Image → List CellConfig → ℕ → Type 0
IsOwner image configs owner = (owner ≡ image.system.root.id) ⊎ ((config : CellConfig) × Contains configs config × (owner ≡ config.id))

-- each live cell has exactly the CPUs that its set names, and each other CPU is root's
pub record AreOwned (image : Image) (configs : List CellConfig) (cpu : ℕ → Cpu) : Type 0 where
  pub cells : (config : CellConfig) → Contains configs config → HasItsCpus image cpu config
  pub others : (i : ℕ) → IsOwner image configs (cpu i).owner

-- ---- stopping

-- the CPU isn't asked to stop, and isn't stopped
pub record IsCalm (cpu : Cpu) : Type 0 where
  pub asked : cpu.asked ≡ false
  pub stopped : cpu.stopped ≡ false

-- the CPU isn't asked to stop, and is stopped exactly where its mode is that of a CPU that runs
pub record IsHalted (cpu : Cpu) : Type 0 where
  pub asked : cpu.asked ≡ false
  pub stopped : cpu.stopped ≡ is_running cpu.mode

-- the CPU runs, is asked to stop, and hasn't stopped
pub record IsAsked (cpu : Cpu) : Type 0 where
  pub asked : cpu.asked ≡ true
  pub stopped : cpu.stopped ≡ false
  pub running : cpu.mode ≡ Running

-- the CPU is asked to stop while it runs, or is halted already
abbrev pub IsHalting : Cpu → Type 0
IsHalting cpu = IsAsked cpu ⊎ IsHalted cpu

-- ---- the call that is open

-- the CPU made the call: it is one of the board's and root's, it runs, is neither asked nor stopped, and is at the
-- hypercall that began the call
pub record IsCaller (image : Image) (caller : ℕ) (call : Call) (cpu : Cpu) : Type 0 where
  pub board : is_on_board image caller ≡ true
  pub owner : cpu.owner ≡ image.system.root.id
  pub running : cpu.mode ≡ Running
  pub calm : IsCalm cpu
  pub code : ℕ
  pub a : ℕ
  pub b : ℕ
  pub at : slice_get (program_ops image (name_of image.system.root) caller) cpu.position ≡ Some (HvcOp code a b)
  pub asks : call ≡ decoded code a b
  pub management : is_management call ≡ true

-- how another CPU of root on the board stands in the phase: up to the Decide it is halting, from then on it is halted
abbrev pub HaltsForCall : Phase → Cpu → Type 0
HaltsForCall ToDecide cpu = IsHalting cpu
HaltsForCall _ cpu = IsHalted cpu

-- how a CPU of a cell stands in the phase: where the Commit is next, one of the cell that the call is about is halting;
-- else it is calm
abbrev pub HaltsForCommit : Call → Phase → Cpu → Type 0
HaltsForCommit call ToCommit cpu = (is_named call cpu.owner ≡ true → IsHalting cpu) × (is_named call cpu.owner ≡ false → IsCalm cpu)
HaltsForCommit call _ cpu = IsCalm cpu

-- the cell that the call is about lives
abbrev pub IsAboutLive : List CellConfig → Call → Type 0
IsAboutLive configs call = (config : CellConfig) × Contains configs config × (is_named call config.id ≡ true)

-- the cell with the configuration may come: no cell has its name or its id, each CPU that it names is another one of
-- root's, and with it the check finds nothing and the pages are there
pub record MayBeCreated (image : Image) (configs : List CellConfig) (cpu : ℕ → Cpu) (caller : ℕ) (config : CellConfig) : Type 0 where
  pub unknown : is_known (image.system.root ∷ configs) config ≡ false
  pub board : (i : ℕ) → is_cpu_set config.cpu_set i ≡ true → is_on_board image i ≡ true
  pub other : (i : ℕ) → is_cpu_set config.cpu_set i ≡ true → i ≢ caller
  pub owner : (i : ℕ) → is_cpu_set config.cpu_set i ≡ true → (cpu i).owner ≡ image.system.root.id
  pub clean : IsClean image.system (configs ++ config ∷ [])
  pub room : pages_of image.system.root.memory_regions (configs ++ config ∷ []) ≤ pool_pages image.system

-- the cell with the id is told of another: it lives, isn't passive, and isn't the one that it is told of
pub record IsNoteRecipient (configs : List CellConfig) (id about : ℕ) : Type 0 where
  pub config : CellConfig
  pub among : Contains configs config
  pub named : config.id ≡ id
  pub other : id ≢ about
  pub active : is_passive config ≡ false

-- what is told of, and the call's answer: a cell that the call created, and then its id, or one that it destroyed and
-- that lives no more, and then 0
abbrev pub IsNews : List CellConfig → Call → ℕ → ℤ → Type 0
IsNews configs (Create at) about answer = (config : CellConfig) × Contains configs config × (config.id ≡ about) × (answer ≡ pos about)
IsNews configs (Destroy id) about answer = (about ≡ id) × ((config : CellConfig) → Contains configs config → config.id ≢ about) × (answer ≡ pos 0)
IsNews configs _ about answer = ⊥

-- the call is a create
abbrev pub IsCreate : Call → Type 0
IsCreate (Create at) = Unit {0}
IsCreate _ = ⊥

-- what holds in the phase of the call
abbrev pub IsInPhase : Image → List CellConfig → (ℕ → Cpu) → ℕ → Call → Phase → Type 0
IsInPhase image configs cpu caller call ToDecide = Unit {0}
IsInPhase image configs cpu caller call (ToSettle waited) = IsAboutLive configs call
IsInPhase image configs cpu caller call (ToCreate config) = IsCreate call × MayBeCreated image configs cpu caller config
IsInPhase image configs cpu caller call ToCommit = IsAboutLive configs call
IsInPhase image configs cpu caller call (ToNote id about answer) = IsNoteRecipient configs id about × IsNews configs call about answer
IsInPhase image configs cpu caller call (ToNoted id about answer waited) = IsNoteRecipient configs id about × IsNews configs call about answer
IsInPhase image configs cpu caller call (ToFinish answer) = Unit {0}

-- the call is open, beside these cells and CPUs
pub record IsOpen (image : Image) (configs : List CellConfig) (cpu : ℕ → Cpu) (o : OpenCall) : Type 0 where
  pub caller : IsCaller image o.caller o.call (cpu o.caller)
  pub roots : (i : ℕ) → is_on_board image i ≡ true → i ≢ o.caller → (cpu i).owner ≡ image.system.root.id → HaltsForCall o.phase (cpu i)
  pub cells : (i : ℕ) → (cpu i).owner ≢ image.system.root.id → HaltsForCommit o.call o.phase (cpu i)
  pub absent : (i : ℕ) → is_on_board image i ≡ false → IsCalm (cpu i)
  pub phase : IsInPhase image configs cpu o.caller o.call o.phase

-- the call is as it has to be: without one no CPU is asked to stop or stopped; with one it is open beside these cells
-- and CPUs
abbrev pub IsSoundCall : Image → List CellConfig → (ℕ → Cpu) → Option OpenCall → Type 0
IsSoundCall image configs cpu None = (i : ℕ) → IsCalm (cpu i)
IsSoundCall image configs cpu (Some o) = IsOpen image configs cpu o

-- ---- the devices

-- the endpoint is that of an ivshmem device of root or of a live cell
abbrev pub IsOfDevice : Image → List CellConfig → EndpointSpec → Type 0
IsOfDevice image configs spec = (config : CellConfig) × Contains (image.system.root ∷ configs) config × Contains (specs_of config) spec

-- the endpoint of the device is there
abbrev pub HasEndpoint : List Endpoint → EndpointSpec → Type 0
HasEndpoint endpoints spec = (e : Endpoint) × (endpoint_at spec.cell spec.device endpoints ≡ Some e) × (e.spec ≡ spec)

-- the endpoint is within its limits, shows its device's function, has room for 16 vectors, and its windows begin at
-- multiples of their sizes
pub record IsSoundEndpoint (e : Endpoint) : Type 0 where
  pub within : IsInItsLimits e.spec
  pub function : e.space.spec ≡ e.spec.function
  pub windows : AreWindows e.space.bar0 e.space.bar1
  pub vectors : length e.vectors ≡ 16

-- the endpoints are those of the ivshmem devices of root and of the live cells, each once, in the order of the cells' ids
-- and of devices
pub record AreEndpoints (image : Image) (configs : List CellConfig) (endpoints : List Endpoint) : Type 0 where
  pub own : All (λ (e : Endpoint). IsOfDevice image configs e.spec) endpoints
  pub whole : (config : CellConfig) → Contains (image.system.root ∷ configs) config → All (HasEndpoint endpoints) (specs_of config)
  pub apart : AllPairs AreEndpointsApart (map (λ (e : Endpoint). e.spec) endpoints)
  pub order : AllPairs IsBefore (map (λ (e : Endpoint). e.spec) endpoints)
  pub sound : All IsSoundEndpoint endpoints

-- ---- all of it

-- the facts are sound: the cells that live, whose the CPUs are, the call that is open, and the endpoints
pub record IsSound (image : Image) (facts : Facts) : Type 0 where
  pub cells : AreSoundCells image.system (configs_of facts.cells)
  pub cpus : AreOwned image (configs_of facts.cells) facts.cpu
  pub call : IsSoundCall image (configs_of facts.cells) facts.cpu facts.call
  pub endpoints : AreEndpoints image (configs_of facts.cells) facts.endpoints

-- ---- bytes

-- the numbers are bytes
abbrev pub AreBytes : List ℕ → Type 0
AreBytes numbers = All (λ (b : ℕ). b < 256) numbers

-- the bytes of root's CPU set and of the preloads are bytes: so it is of each image that code can hold
pub record IsMadeOfBytes (image : Image) : Type 0 where
  pub set : AreBytes image.system.root.cpu_set
  pub preloads : All (λ (p : Preload). AreBytes p.bytes) image.preloads
