-- What an entry does to what a board holds, and what must hold before it is made.
use Rattle.std.specs.Prelude.{◌≡◌, ℕ, ◌+◌, ◌^◌, ◌<◌, ◌≤◌, Bool, true, false, length, List, [], ◌∷◌, ◌++◌, map, filter, All, Option, Some, None, IfSome}
use Rattle.std.specs.Option.{option_map_or}
use Rattle.jh_cellcfg.specs.declared.config.CellConfig.{CellConfig}
use Rattle.jh_cellcfg.specs.declared.live.Live.{Live}
use Rattle.jh_cellcfg.specs.declared.region.Region.{Region}
use Rattle.jh_cellcfg.specs.Regions.{AreInRange}
use Rattle.jh_check.specs.Clean.{IsSoundBitmap}
use Rattle.jh_check.specs.Refusals.{is_known}
use Rattle.jh_call.specs.declared.call.Call.{Call}
use Rattle.jh_call.specs.declared.call.Call.TheVariants.{Create, Start, Loadable, Destroy}
use Rattle.jh_ivshmem.specs.declared.endpoint.Endpoint.{Endpoint}
use Rattle.jh_ivshmem.specs.declared.spec.EndpointWord.{EndpointWord}
use Rattle.jh_ivshmem.specs.Links.{pending_of, taken_of}
use Rattle.jh_script.specs.declared.image.Image.{Image}
use Rattle.jh_history.specs.declared.access.Reach.{Reach}
use Rattle.jh_history.specs.declared.access.Reach.TheVariants.{Memory, Subpage, Config, Window, Nothing}
use Rattle.jh_history.specs.declared.call.OpenCall.{OpenCall}
use Rattle.jh_history.specs.declared.entry.Entry.{Entry}
use Rattle.jh_history.specs.declared.entry.Act.{Act}
use Rattle.jh_history.specs.declared.entry.Act.TheVariants.{Write, Irq, Decide, Commit}
use Rattle.jh_history.specs.declared.device_change.DeviceChange.TheVariants.{Join}
use Rattle.jh_history.specs.declared.place.Place.{Place}
use Rattle.jh_history.specs.Admitted.{IsAdmitted}
use Rattle.jh_history.specs.Access.{endpoint_word_of_reach}
use Rattle.jh_history.specs.Devices.{Devices, devices_in, specs_of}
use Rattle.jh_history.specs.Endpoints.{endpoints_put, change_by, changing_by, MayChange}
use Rattle.jh_history.specs.Places.{written}
use Rattle.jh_shape.specs.Lives.{all_cells, marked, new_live}
use Rattle.jh_history.specs.Calls.{call_by}
use Rattle.jh_history.specs.Commits.{is_other}
use Rattle.jh_history.specs.DueFacts.{NamesCpu}
use Rattle.jh_history.specs.Facts.{Facts}
use Rattle.jh_history.specs.History.{call_after}
use Rattle.jh_history.specs.Due.{due_at}
use Rattle.jh_history.specs.Sound.{IsSound}
use Rattle.jh_board.specs.declared.steps.CellsChange.{CellsChange}
use Rattle.jh_board.specs.declared.steps.CellsChange.TheVariants.{Keep, Mark, Remove}
use Rattle.jh_board.specs.declared.held.Held.{Held}
use Rattle.jh_board.specs.LiveView.{LiveView}
use Rattle.jh_board.specs.Means.{Means, HoldsWordsOf, IsReadyToGoOn, IsReadyFor}
use Rattle.jh_edit.specs.declared.stage.Stage2.{Stage2}
use Rattle.jh_board.specs.Pages.{HoldsPlace, HoldsEndpointWord, KeepsTables}
use Rattle.jh_board.specs.Private.Pages.{MayHold}

-- the act is a Decide that goes on
abbrev pub decides_to_go_on : Act → Bool
decides_to_go_on (Decide None) = true
decides_to_go_on act = false

-- the address at which a create reads its configuration
abbrev pub create_of : Call → Option ℕ
create_of (Create at) = Some at
create_of call = None

-- what the Commit of the call does to the cells that live already
abbrev pub change_of_call : Call → CellsChange
change_of_call (Start id) = Mark id false
change_of_call (Loadable id) = Mark id true
change_of_call (Destroy id) = Remove id
change_of_call call = Keep

-- what the act does to the cells that live already: the Commit of the open call changes them, and no other act
abbrev pub change_of_cells : Option OpenCall → Act → CellsChange
change_of_cells call Commit = option_map_or (λ (o : OpenCall). change_of_call o.call) call Keep
change_of_cells call act = Keep

-- the cells after the change
abbrev pub changed_cells : CellsChange → List Live → List Live
changed_cells Keep cells = cells
changed_cells (Mark id loadable) cells = map (marked id loadable) cells
changed_cells (Remove id) cells = filter (is_other id) cells

-- each place that is reached may be written
abbrev pub MayWrite : Stage2 → Reach → Type 0
MayWrite memory (Memory places) = All (MayHold memory) places
MayWrite memory (Subpage places) = All (MayHold memory) places
MayWrite memory (Config bytes) = Unit {0}
MayWrite memory (Window register) = Unit {0}
MayWrite memory Nothing = Unit {0}

-- where the act is a write, each place that it reaches may be written
abbrev pub MayWriteOf : Stage2 → Act → Reach → Type 0
MayWriteOf memory (Write width at value ok) found = MayWrite memory found
MayWriteOf memory act found = Unit {0}

-- ---- the memory and the devices that an act changes

-- the devices of the cell with the id, by what is held
abbrev pub devices_held : Image → Held → ℕ → Devices
devices_held image held id = devices_in image held.cells.lives held.endpoints.list id

-- the bytes after the value is written where it reaches memory
abbrev pub memory_written : (Place → ℕ) → Reach → ℕ → Place → ℕ
memory_written byte (Memory places) value = written byte places value
memory_written byte (Subpage places) value = written byte places value
memory_written byte _ value = byte

-- the bytes after what the act writes to memory: a write that succeeds changes those that it reaches
abbrev pub memory_after : (Place → ℕ) → Act → Reach → Place → ℕ
memory_after byte (Write width at value true) found = memory_written byte found value
memory_after byte act found = byte

-- the word of a state table that the act writes
abbrev pub endpoint_word_after : Devices → Act → Reach → Option EndpointWord
endpoint_word_after devices (Write width at value true) found = endpoint_word_of_reach devices found value
endpoint_word_after devices act found = None

-- the endpoints after what the act of the cell does to them itself
abbrev pub endpoints_acted_by : Devices → Act → Reach → List Endpoint
endpoints_acted_by devices (Write width at value true) found = endpoints_put devices found value
endpoints_acted_by devices (Irq device vector) found = taken_of devices.cell (pending_of devices.cell devices.endpoints) devices.endpoints
endpoints_acted_by devices act found = devices.endpoints

-- the word of a state table, if there is one to write, ends below 2^64, and its pages are held
abbrev pub MayPut : Stage2 → Option EndpointWord → Type 0
MayPut memory word = IfSome word (λ (s : EndpointWord). (s.place + 4 < 2 ^ 64) × HoldsEndpointWord memory s)

-- the word of a state table that the cell's act writes, if it writes one, ends below 2^64, and its pages are held
abbrev pub MayWriteEndpointWord : Image → Held → ℕ → Act → Reach → Type 0
MayWriteEndpointWord image held id act found = MayPut held.memory (endpoint_word_after (devices_held image held id) act found)

-- what is held has all that a Commit needs for the devices of its cell
pub record MayCommitDevices (held : Held) (config : CellConfig) : Type 0 where
  pub may : MayChange (change_by held.call) held.endpoints.list config
  pub room : change_by held.call ≡ Join → length (specs_of config) ≤ held.endpoints.spare
  pub words : HoldsWordsOf held config

-- what is held has all that the act needs for the devices that it changes, where it is a Commit that changes some
abbrev pub MayCommit : Held → Act → Type 0
MayCommit held act = IfSome (changing_by held.cells.lives held.call act) (MayCommitDevices held)

-- all but bytes and endpoints stays, and the pages that are held stay held
pub record IsSameButDevices (old new : Held) : Type 0 where
  pub form : new.form ≡ old.form
  pub cpus : new.cpus ≡ old.cpus
  pub cells : new.cells ≡ old.cells
  pub programs : new.programs ≡ old.programs
  pub call : new.call ≡ old.call
  pub coming_regions : new.coming_regions ≡ old.coming_regions
  pub pages : (q : Place) → HoldsPlace old.memory q → HoldsPlace new.memory q
  pub tables : KeepsTables old.memory new.memory

-- ---- the cell that comes

-- the cells with the one that comes, last and not loadable
abbrev pub joined_cells : List Live → CellConfig → List Live
joined_cells cells config = cells ++ new_live config ∷ []

-- the cell with the configuration may join those that live: its CPU set is sound, neither root nor any of them has its
-- name or its id, its regions are in range and were found, and there is room for it and for them; where it names a CPU,
-- fewer than 15 live
pub record MayJoinCells (live : LiveView) (found : Option (List Region)) (config : CellConfig) : Type 0 where
  pub cpus : IsSoundBitmap config.cpu_set
  pub few : NamesCpu config → length live.lives < 15
  pub unknown : is_known (all_cells live.system.root live.lives) config ≡ false
  pub within : AreInRange config.memory_regions
  pub regions : found ≡ Some config.memory_regions
  pub spare_cells : 0 < live.spare_cells
  pub spare_regions : length config.memory_regions ≤ live.spare_regions

-- ---- an entry, and the call that goes on by it

-- the image is admitted, and what is held stands for sound facts, by which the entry is due
pub record IsNextEntry (image : Image) (held : Held) (entry : Entry) : Type 0 where
  pub facts : Facts
  pub admitted : IsAdmitted image
  pub means : Means image held facts
  pub sound : IsSound image facts
  pub due : due_at image facts entry.cpu ≡ Some entry

-- with this configuration as the one that a create reads, the open call goes on by the entry as it has to
abbrev pub IsRead : Image → Facts → Entry → Option CellConfig → Type 0
IsRead image facts entry coming = call_by facts.cells coming facts.call entry entry.act ≡ call_after image facts entry

-- where the configuration of a cell comes, the open call isn't yet about to make a cell: whatever is held is ready for
-- what the call goes on to do
abbrev pub NeedsNothingYet : Facts → Option CellConfig → Type 0
NeedsNothingYet facts coming = IfSome coming (λ config. (held : Held) → IsReadyToGoOn held facts.call)

-- what is held is ready for what the call goes on to do behind the entry, where it was ready for what the call went
-- on to do before it, and is ready for the cell that comes, if one does
abbrev pub WillBeReady : Image → Facts → Entry → Option CellConfig → Type 0
WillBeReady image facts entry coming = (held : Held) → IsReadyToGoOn held facts.call → IfSome coming (IsReadyFor held) → IsReadyToGoOn held (call_after image facts entry)

-- what is held stands for the facts, the configuration is the one that the entry's call reads, and all memory that the
-- entry and the rest of its call take is held, but for its write
pub record IsPrepared (image : Image) (held : Held) (facts : Facts) (entry : Entry) (coming : Option CellConfig) : Type 0 where
  pub means : Means image held facts
  pub read : IsRead image facts entry coming
  pub ready : IsReadyToGoOn held (call_after image facts entry)
