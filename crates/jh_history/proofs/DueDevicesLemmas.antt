-- What a sound board says of its devices, at opening and where an entry is due.
use Rattle.std.proofs.Common.{◌≡◌, ℕ, ◌%◌, ◌^◌, List, [], ◌∷◌, ◌++◌, Bool, true, false, not, ◌&&◌, eqb, Option, Some, None, refl, sym, ap, subst, ⊎_elim, arith}
use Rattle.std.specs.Prelude.{IfSome, All, Contains, find, option_map, option_and_then}
use Rattle.std.proofs.lemmas.Bool.{both_ways, cond_both}
use Rattle.std.proofs.lemmas.Option.{none-some, same_Some}
use Rattle.std.proofs.lemmas.List.Elements.{All-contains, Contains-push}
use Rattle.jh_num.proofs.Public.{IsFound_from_find, Contains_map, Contains_tail}
use Rattle.jh_cellcfg.specs.declared.config.CellConfig.{CellConfig}
use Rattle.jh_cellcfg.specs.declared.live.Live.{Live}
use Rattle.jh_cellcfg.specs.Lives.{has_id}
use Rattle.jh_check.proofs.Public.{clean_from_nothing}
use Rattle.jh_cpu.specs.declared.cpu.Cpu.{Cpu}
use Rattle.jh_call.specs.declared.call.Call.{Call}
use Rattle.jh_call.specs.declared.call.Call.TheVariants.{Create, Start, Loadable, Destroy, Info, State, CpuInfo, CpuOff, CpuOn, Affinity, Unknown}
use Rattle.jh_call.specs.Calls.{decoded, is_management}
use Rattle.jh_ivshmem.specs.declared.endpoint.Endpoint.{Endpoint}
use Rattle.jh_ivshmem.specs.Specs.{is_device, AreEndpointsApart, endpoint_word_of}
use Rattle.jh_ivshmem.specs.Links.{endpoint_at, pending_of, endpoint_word_written}
use Rattle.jh_script.specs.declared.image.Image.{Image}
use Rattle.jh_script.specs.declared.op.Op.{Op}
use Rattle.jh_script.specs.declared.op.Op.TheVariants.{Read as ReadOp, Write as WriteOp, Fetch as FetchOp, Await as AwaitOp, Irq as IrqOp, Hvc as HvcOp}
use Rattle.jh_history.specs.declared.access.Access.TheVariants.{Read as ToRead}
use Rattle.jh_history.specs.declared.access.Reach.{Reach}
use Rattle.jh_history.specs.declared.access.Reach.TheVariants.{Memory, Subpage, Config, Window, Nothing}
use Rattle.jh_history.specs.declared.call.OpenCall.{OpenCall}
use Rattle.jh_history.specs.declared.call.Creation.TheVariants.{Accepted as Coming}
use Rattle.jh_history.specs.declared.call.Phase.{Phase}
use Rattle.jh_history.specs.declared.call.Phase.TheVariants.{ToDecide, ToSettle, ToCreate, ToCommit, ToNote, ToNoted, ToFinish}
use Rattle.jh_history.specs.declared.device_change.DeviceChange.{DeviceChange}
use Rattle.jh_history.specs.declared.device_change.DeviceChange.TheVariants.{Join, Reset, Leave}
use Rattle.jh_history.specs.declared.entry.Entry.{Entry}
use Rattle.jh_history.specs.declared.entry.Act.{Act}
use Rattle.jh_history.specs.declared.entry.Act.TheVariants.{Read, Write, Fetch, Await, Irq, Hvc, Begin, Stop, Decide, Settle, Commit, Note, Noted, Finish}
use Rattle.jh_history.specs.Access.{endpoint_word_of_reach}
use Rattle.jh_history.specs.Admitted.{IsAdmitted}
use Rattle.jh_history.specs.Devices.{InWindow, specs_of}
use Rattle.jh_history.specs.Due.{due_at, await_of, act_of, got_by, is_idle_but}
use Rattle.jh_history.specs.Endpoints.{changing, changing_at, changing_by, change_by, device_change, HasGoodDevices, IsNextOf, MayChange, MayJoinThem}
use Rattle.jh_history.specs.Facts.{Facts}
use Rattle.jh_history.specs.Grants.{devices_of}
use Rattle.jh_history.specs.Hypercalls.{call_in, answered}
use Rattle.jh_history.specs.Lives.{live_in}
use Rattle.jh_history.specs.Phases.{creation_of}
use Rattle.jh_shape.specs.Lives.{configs_of}
use Rattle.jh_history.specs.Sound.{IsOfDevice, IsSoundEndpoint, IsSoundCall, IsInPhase, IsSound}
use Rattle.jh_history.specs.DueFacts.{IsWordOf}
use Rattle.jh_history.proofs.SoundDueLemmas.{next_from_due, IsOfProgram, IsOfState}
use Rattle.jh_history.proofs.SpecsLemmas.{All_from_held, devices_good, specs_within, specs_apart, specs_apart_new, held_numbered}
use Rattle.jh_history.proofs.DuePhaseLemmas.{IsOf, IsActIn, due_parts, phase_act_holds}
use Rattle.jh_history.proofs.DueCreateLemmas.{comes_clean}

-- ---- at opening

pub opening_joins : (image : Image) → IsAdmitted image → MayChange Join [] image.system.root
opening_joins image admitted =
    let clean = clean_from_nothing image.system [] admitted.system.clean in
    record {
      good = devices_good image.system [] 0 image.system.root clean refl;
      within = specs_within image.system [] 0 image.system.root clean refl;
      new = λ _. All_from_held (MayJoinThem []) (specs_of image.system.root) (λ spec held k d below. absurd (omega arith));
      apart = λ _. specs_apart image.system [] 0 image.system.root clean refl;
    }

-- ---- at a Commit

-- the devices of a cell that lives don't join
live_changes : (image : Image) (f : Facts) (change : DeviceChange) (config : CellConfig) → IsSound image f → (change ≡ Join → ⊥) → Contains (configs_of f.cells) config → MayChange change f.endpoints config
live_changes image f change config sound other held =
    let configs : List CellConfig = configs_of f.cells in
    let all : Contains (image.system.root ∷ configs) config = Contains_tail image.system.root configs config held in
    let numbered = held_numbered image.system configs config all in
    record {
      good = devices_good image.system configs all.0 config sound.cells.clean numbered;
      within = specs_within image.system configs all.0 config sound.cells.clean numbered;
      new = λ joins. absurd (other joins);
      apart = λ joins. absurd (other joins);
    }

-- those of a cell that comes are beside all others
coming_changes : (image : Image) (f : Facts) (caller at : ℕ) (config : CellConfig) → IsSound image f → IsInPhase image (configs_of f.cells) f.cpu caller (Create at) (ToCreate config) → MayChange Join f.endpoints config
coming_changes image f caller at config sound phase =
    let configs : List CellConfig = configs_of f.cells in
    let may = phase.1 in
    let back : Contains (image.system.root ∷ (configs ++ config ∷ [])) config = Contains-push (image.system.root ∷ configs) config in
    let numbered = held_numbered image.system (configs ++ config ∷ []) config back in
    record {
      good = devices_good image.system (configs ++ config ∷ []) back.0 config may.clean numbered;
      within = specs_within image.system (configs ++ config ∷ []) back.0 config may.clean numbered;
      new = λ _. All_from_held (MayJoinThem f.endpoints) (specs_of config)
          (λ spec held. All_from_held (λ (e : Endpoint). AreEndpointsApart e.spec spec) f.endpoints
          (λ e there.
          let own : IsOfDevice image configs e.spec = All-contains (λ (x : Endpoint). IsOfDevice image configs x.spec) f.endpoints e sound.endpoints.own there in
          specs_apart_new image.system configs config own.0 e.spec spec may.clean may.unknown own.1 own.2 held));
      apart = λ _. specs_apart image.system (configs ++ config ∷ []) back.0 config may.clean numbered;
    }

held_by : (cells : List Live) (id : ℕ) (o : Option Live) (c : CellConfig) → find (has_id id) cells ≡ o → option_map (λ (live : Live). live.config) o ≡ Some c → Contains (configs_of cells) c
held_by cells id None c is h = absurd (none-some c h)
held_by cells id (Some live) c is h =
    let P : CellConfig → Type 0 = Contains (configs_of cells) in
    subst P (same_Some live.config c h) (Contains_map (λ (l : Live). l.config) cells live (IsFound_from_find (has_id id) cells live is).among)

pub live_held : (cells : List Live) (id : ℕ) (c : CellConfig) → live_in cells id ≡ Some c → Contains (configs_of cells) c
live_held cells id c h = held_by cells id (find (has_id id) cells) c refl h

found_changes : (image : Image) (f : Facts) (change : DeviceChange) (id : ℕ) (o : Option CellConfig) → IsSound image f → (change ≡ Join → ⊥) → live_in f.cells id ≡ o → IfSome o (MayChange change f.endpoints)
found_changes image f change id None sound other is = tt
found_changes image f change id (Some config) sound other is = live_changes image f change config sound other (live_held f.cells id config is)

abbrev joins : DeviceChange → Bool
joins Join = true
joins Reset = false
joins Leave = false

create_changes : (image : Image) (f : Facts) (caller at : ℕ) (phase : Phase) → IsSound image f → IsInPhase image (configs_of f.cells) f.cpu caller (Create at) phase → IfSome (changing f.cells (Create at) phase) (MayChange Join f.endpoints)
create_changes image f caller at ToDecide sound h = tt
create_changes image f caller at (ToSettle waited) sound h = tt
create_changes image f caller at (ToCreate config) sound h = coming_changes image f caller at config sound h
create_changes image f caller at ToCommit sound h = tt
create_changes image f caller at (ToNote id about answer) sound h = tt
create_changes image f caller at (ToNoted id about answer waited) sound h = tt
create_changes image f caller at (ToFinish answer) sound h = tt

call_changes : (image : Image) (f : Facts) (caller : ℕ) (call : Call) (phase : Phase) → IsSound image f → IsInPhase image (configs_of f.cells) f.cpu caller call phase → IfSome (changing f.cells call phase) (MayChange (device_change call) f.endpoints)
call_changes image f caller (Create at) phase sound h = create_changes image f caller at phase sound h
call_changes image f caller (Start id) phase sound h = found_changes image f Reset id (live_in f.cells id) sound (λ e. both_ways false refl (ap joins e)) refl
call_changes image f caller (Loadable id) phase sound h = tt
call_changes image f caller (Destroy id) phase sound h = found_changes image f Leave id (live_in f.cells id) sound (λ e. both_ways false refl (ap joins e)) refl
call_changes image f caller (Info kind) phase sound h = tt
call_changes image f caller (State id) phase sound h = tt
call_changes image f caller (CpuInfo cpu kind) phase sound h = tt
call_changes image f caller CpuOff phase sound h = tt
call_changes image f caller (CpuOn on) phase sound h = tt
call_changes image f caller (Affinity on level) phase sound h = tt
call_changes image f caller Unknown phase sound h = tt

act_changes : (image : Image) (f : Facts) (o : OpenCall) (act : Act) → IsSound image f → IsInPhase image (configs_of f.cells) f.cpu o.caller o.call o.phase → IfSome (changing_at f.cells o act) (MayChange (device_change o.call) f.endpoints)
act_changes image f o (Read width at got) sound h = tt
act_changes image f o (Write width at value ok) sound h = tt
act_changes image f o (Fetch at got) sound h = tt
act_changes image f o (Await width at value ok) sound h = tt
act_changes image f o (Irq device vector) sound h = tt
act_changes image f o (Hvc code a b answer) sound h = tt
act_changes image f o (Begin code a b) sound h = tt
act_changes image f o Stop sound h = tt
act_changes image f o (Decide refused) sound h = tt
act_changes image f o (Settle how) sound h = tt
act_changes image f o Commit sound h = call_changes image f o.caller o.call o.phase sound h
act_changes image f o (Note id) sound h = tt
act_changes image f o (Noted id how) sound h = tt
act_changes image f o (Finish answer) sound h = tt

open_changes : (image : Image) (f : Facts) (call : Option OpenCall) (act : Act) → IsSound image f → IsSoundCall image (configs_of f.cells) f.cpu call → IfSome (changing_by f.cells call act) (MayChange (change_by call) f.endpoints)
open_changes image f None act sound h = tt
open_changes image f (Some o) act sound h = act_changes image f o act sound h.phase

pub commit_changes : (image : Image) (f : Facts) (act : Act) → IsSound image f → IfSome (changing_by f.cells f.call act) (MayChange (change_by f.call) f.endpoints)
commit_changes image f act sound = open_changes image f f.call act sound sound.call

-- ---- of a cell that comes

pub comes_good : (image : Image) (f : Facts) (caller at : ℕ) (config : CellConfig) → IsSound image f → creation_of image f caller at ≡ Coming config → HasGoodDevices config
comes_good image f caller at config sound comes =
    let all : List CellConfig = configs_of f.cells ++ config ∷ [] in
    let back : Contains (image.system.root ∷ all) config = Contains-push (image.system.root ∷ configs_of f.cells) config in
    devices_good image.system all back.0 config (comes_clean image f caller at config sound comes) (held_numbered image.system all config back)

-- ---- an interrupt

irq_next : (cell : ℕ) (endpoints : List Endpoint) (o : Option (ℕ × ℕ)) → pending_of cell endpoints ≡ o → IfSome (option_map (λ (next : ℕ × ℕ). Irq next.0 next.1) o) (IsNextOf cell endpoints)
irq_next cell endpoints None is = tt
irq_next cell endpoints (Some next) is = is

await_next : (cell : ℕ) (endpoints : List Endpoint) (width at value : ℕ) (o : Option ℕ) → IfSome (await_of width at value o) (IsNextOf cell endpoints)
await_next cell endpoints width at value None = tt
await_next cell endpoints width at value (Some got) =
    cond_both (eqb got value) (Some (Await width at value true)) None (λ (o : Option Act). IfSome o (IsNextOf cell endpoints)) (λ _. tt) (λ _. tt)

-- what an operation comes to
op_next : (image : Image) (f : Facts) (cell : ℕ) (op : Op) → IfSome (act_of image f cell op) (IsNextOf cell f.endpoints)
op_next image f cell (ReadOp width at) = tt
op_next image f cell (WriteOp width at value) = tt
op_next image f cell (FetchOp at) = tt
op_next image f cell (AwaitOp width at value) = await_next cell f.endpoints width at value (got_by image f cell ToRead at width)
op_next image f cell IrqOp = irq_next cell f.endpoints (pending_of cell f.endpoints) refl
op_next image f cell (HvcOp code a b) =
    cond_both (eqb cell image.system.root.id && is_management (decoded code a b)) (Begin code a b)
    (Hvc code a b (answered image f cell (call_in f.form (decoded code a b))))
    (IsNextOf cell f.endpoints) (λ _. tt) (λ _. tt)

next_by : (cell : ℕ) (endpoints : List Endpoint) (act : Act) (o : Option Act) → IfSome o (IsNextOf cell endpoints) → o ≡ Some act → IsNextOf cell endpoints act
next_by cell endpoints act None h e = absurd (none-some act e)
next_by cell endpoints act (Some other) h e = let P : Act → Type 0 = IsNextOf cell endpoints in subst P (same_Some other act e) h

state_next : (image : Image) (f : Facts) (state : Cpu) (cpu : ℕ) (act : Act) → IsOfState image f state cpu act → IsNextOf state.owner f.endpoints act
state_next image f state cpu act h =
    let P : Act → Type 0 = IsNextOf state.owner f.endpoints in
    ⊎_elim
    (λ stops. subst P stops.1 tt)
    (λ (program : IsOfProgram image f state cpu act). next_by state.owner f.endpoints act (act_of image f state.owner program.op) (op_next image f state.owner program.op) program.is)
    h

-- no phase of a call is an interrupt
phase_next : (image : Image) (f : Facts) (cell caller : ℕ) (call : Call) (phase : Phase) (act : Act) → IsActIn image f caller call phase act → IsNextOf cell f.endpoints act
phase_next image f cell caller call ToDecide act h = let P : Act → Type 0 = IsNextOf cell f.endpoints in subst P (sym h) tt
phase_next image f cell caller call (ToSettle waited) act h = let P : Act → Type 0 = IsNextOf cell f.endpoints in subst P (sym h.1) tt
phase_next image f cell caller call (ToCreate config) act h = let P : Act → Type 0 = IsNextOf cell f.endpoints in subst P (sym h) tt
phase_next image f cell caller call ToCommit act h = let P : Act → Type 0 = IsNextOf cell f.endpoints in subst P (sym h) tt
phase_next image f cell caller call (ToNote id about answer) act h = let P : Act → Type 0 = IsNextOf cell f.endpoints in subst P (sym h) tt
phase_next image f cell caller call (ToNoted id about answer waited) act h = let P : Act → Type 0 = IsNextOf cell f.endpoints in subst P (sym h.1) tt
phase_next image f cell caller call (ToFinish answer) act h = let P : Act → Type 0 = IsNextOf cell f.endpoints in subst P (sym h) tt

due_next : (image : Image) (f : Facts) (call : Option OpenCall) (cpu : ℕ) (act : Act) → IsOf image f call cpu act → IsNextOf (f.cpu cpu).owner f.endpoints act
due_next image f None cpu act h = state_next image f (f.cpu cpu) cpu act h
due_next image f (Some o) cpu act h =
    ⊎_elim
    (λ made. phase_next image f (f.cpu cpu).owner o.caller o.call o.phase act (phase_act_holds image f (is_idle_but image f o.caller) o.caller o.call o.phase act made.1))
    (λ other. state_next image f (f.cpu cpu) cpu act other.1)
    h

pub interrupt_next : (image : Image) (f : Facts) (entry : Entry) → IsSound image f → due_at image f entry.cpu ≡ Some entry → IsNextOf entry.cell f.endpoints entry.act
interrupt_next image f entry sound due =
    let P : ℕ → Type 0 = λ cell. IsNextOf cell f.endpoints entry.act in
    subst P (sym (next_from_due image f entry due).cell) (due_next image f f.call entry.cpu entry.act (due_parts image f entry sound due))

-- ---- a word of a state table

written_word : (endpoints : List Endpoint) (e : Endpoint) (bar at value : ℕ) → Contains endpoints e → IsSoundEndpoint e → IfSome (endpoint_word_written e bar at value) (IsWordOf endpoints)
unfolding endpoint_word_written
written_word endpoints e bar at value there sound =
    cond_both ((eqb bar 0 && eqb at 0x10) && not (eqb e.state value)) (Some (endpoint_word_of e.spec value)) None (λ o. IfSome o (IsWordOf endpoints))
    (λ _. record { endpoint = e; there = there; within = sound.within; is = refl })
    (λ _. tt)

endpoint_word : (endpoints : List Endpoint) (cell : ℕ) (register : InWindow) (value : ℕ) (o : Option Endpoint) → All IsSoundEndpoint endpoints → endpoint_at cell register.device endpoints ≡ o
    → IfSome (option_and_then (λ (e : Endpoint). endpoint_word_written e register.bar register.at (value % 2 ^ 32)) o) (IsWordOf endpoints)
endpoint_word endpoints cell register value None sound is = tt
endpoint_word endpoints cell register value (Some e) sound is =
    let there = (IsFound_from_find (λ (x : Endpoint). is_device cell register.device x.spec) endpoints e is).among in
    written_word endpoints e register.bar register.at (value % 2 ^ 32) there (All-contains IsSoundEndpoint endpoints e sound there)

pub reach_word : (image : Image) (f : Facts) (id value : ℕ) (found : Reach) → IsSound image f → IfSome (endpoint_word_of_reach (devices_of image f id) found value) (IsWordOf f.endpoints)
reach_word image f id value (Memory places) sound = tt
reach_word image f id value (Subpage places) sound = tt
reach_word image f id value (Config bytes) sound = tt
reach_word image f id value (Window register) sound = endpoint_word f.endpoints id register value (endpoint_at id register.device f.endpoints) sound.endpoints.sound refl
reach_word image f id value Nothing sound = tt
