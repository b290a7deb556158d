-- What is due to a CPU of root's, and what the entries of a legal journal are: accesses by root, each the
-- operation that its CPU is at.
use Rattle.std.proofs.Common.{◌≡◌, ◌≢◌, ℕ, zero, suc, ◌+◌, ◌-◌, ◌<◌, ◌≤◌, ◌^◌, List, [], ◌∷◌, ◌++◌, length, Bool, true, false, cond, eqb, Option, Some, None, refl, sym, ap, subst, ◌∙◌, arith}
use Rattle.std.specs.Prelude.{IsTrue, option_map, option_and_then, slice_get, min, nat_lt}
use Rattle.std.specs.List.{fold, AllByRecursion}
use Rattle.std.specs.Option.{option_map_or}
use Rattle.std.proofs.lemmas.Bool.{cond_both, eq-eqb, ne_eqb, eqb-true, and_right}
use Rattle.std.proofs.lemmas.Option.{none-some, same_Some, slice_get_within}
use Rattle.jh_num.proofs.Public.{same_number}
use Rattle.jh_cellcfg.specs.declared.config.CellConfig.{CellConfig}
use Rattle.jh_cellcfg.specs.declared.config.PciDevice.{PciDevice}
use Rattle.jh_cellcfg.specs.Cells.{name_of}
use Rattle.jh_cpu.specs.declared.cpu.Cpu.{Cpu}
use Rattle.jh_cpu.specs.declared.cpu.Mode.{Mode}
use Rattle.jh_cpu.specs.declared.cpu.Mode.TheVariants.{Running, Parked, Failed}
use Rattle.jh_cpu.specs.Changes.{moved, failed}
use Rattle.jh_ivshmem.specs.declared.endpoint.Endpoint.{Endpoint}
use Rattle.jh_ivshmem.specs.declared.spec.EndpointSpec.{EndpointSpec}
use Rattle.jh_ivshmem.specs.Changes.{changed as changed_of}
use Rattle.jh_ivshmem.specs.Endpoint.{taken}
use Rattle.jh_ivshmem.specs.Specs.{is_device}
use Rattle.jh_script.specs.declared.image.Image.{Image}
use Rattle.jh_history.specs.declared.form.Form.{Form}
use Rattle.jh_script.specs.declared.op.Op.{Op}
use Rattle.jh_script.specs.declared.op.Op.TheVariants.{Read as ReadOp, Write as WriteOp, Fetch as FetchOp, Await as AwaitOp, Irq as IrqOp, Hvc as HvcOp}
use Rattle.jh_script.specs.Operations.{IsWellFormed, is_width}
use Rattle.jh_history.specs.declared.access.Access.TheVariants.{Read as ToRead, Write as ToWrite, Fetch as ToFetch}
use Rattle.jh_history.specs.declared.entry.Entry.{Entry}
use Rattle.jh_history.specs.declared.entry.Act.{Act}
use Rattle.jh_history.specs.declared.entry.Act.TheVariants.{Read, Write, Fetch, Await, Irq}
use Rattle.jh_history.specs.declared.access.Reach.{Reach}
use Rattle.jh_history.specs.declared.access.Reach.TheVariants.{Memory, Subpage, Config, Window, Nothing}
use Rattle.jh_history.specs.declared.call.OpenCall.{OpenCall}
use Rattle.jh_history.specs.declared.device_change.DeviceChange.TheVariants.{Join}
use Rattle.jh_history.specs.Access.{is_reached}
use Rattle.jh_history.specs.Devices.{is_endpoint, spec_of, specs_from, specs_of, list_in, devices_in, number_at}
use Rattle.jh_history.specs.Endpoints.{function_put, endpoints_put, endpoints_changed, endpoints_acted, changing_by, change_by}
use Rattle.jh_history.specs.Facts.{Facts}
use Rattle.jh_history.specs.Lives.{is_on_board, op_at, program_ops}
use Rattle.jh_history.specs.Grants.{reach}
use Rattle.jh_history.specs.Cpus.{change_of, changed, is_running, switches, runs_by_start}
use Rattle.jh_history.specs.Alone.{IsAlone, IsByRoot}
use Rattle.jh_history.specs.History.{start, after, facts}
use Rattle.jh_history.specs.Due.{due_at, act_of, await_of, irq_of, got_by, entry_by, IsLegal, IsLegalFrom}
use Rattle.jh_history.specs.Admitted.{IsAdmitted, IsNoHypercall, HasNoHypercall}
use Rattle.jh_history.specs.Calls.{is_of_call}
use Rattle.jh_history.proofs.Public.{due_at_absent, due_at_present, acted_own, alone_start, alone_after, due_split, IsLegal_begin, program_ops_all, few_operations}
use Rattle.std.proofs.lemmas.List.Elements.{recursion_from_All}
use Rattle.jh_laws.specs.RootAlone.{HasNoShmemDevice}
use Rattle.jh_laws.specs.Moves.{stepped, ended}
use Rattle.jh_laws.specs.Outcomes.{is_violation}
use Rattle.jh_laws.specs.Operations.{op_of_act, program_in}
use Rattle.jh_laws.proofs.RootLemmas.{op_well_formed}
use Rattle.jh_laws.proofs.FactsLemmas.{cpu_after_holds}

-- the image may be opened, root has no ivshmem device, and no program has a hypercall
pub record IsSilent (image : Image) : Type 0 where
  pub admitted : IsAdmitted image
  pub bare : HasNoShmemDevice image
  pub silent : HasNoHypercall image

-- so no operation is one
no_call_at : (ops : List Op) (i : ℕ) (op : Op) → AllByRecursion IsNoHypercall ops → slice_get ops i ≡ Some op → IsNoHypercall op
no_call_at [] i op all e = absurd (none-some op e)
no_call_at (first ∷ ops) zero op all e = let P : Op → Type 0 = IsNoHypercall in subst P (same_Some first op e) all.0
no_call_at (first ∷ ops) (suc i) op all e = no_call_at ops i op all.1 e

pub op_silent : (image : Image) (name : List ℕ) (cpu i : ℕ) (op : Op) → IsSilent image → slice_get (program_ops image name cpu) i ≡ Some op → IsNoHypercall op
op_silent image name cpu i op admitted e = no_call_at (program_ops image name cpu) i op (recursion_from_All IsNoHypercall (program_ops image name cpu) (program_ops_all IsNoHypercall image name cpu admitted.silent)) e

-- the CPU is root's, and is neither asked to stop nor stopped
pub record IsRoots (image : Image) (state : Cpu) : Type 0 where
  pub owner : state.owner ≡ image.system.root.id
  pub asked : state.asked ≡ false
  pub stopped : state.stopped ≡ false

-- the operation that a CPU of root's is at
pub op_at_root : (image : Image) (f : Facts) (state : Cpu) (cpu : ℕ) → IsRoots image state → op_at image f state cpu ≡ slice_get (program_in image image.system.root cpu) state.position
op_at_root image f state cpu roots = let e : eqb state.owner image.system.root.id ≡ true = eq-eqb state.owner image.system.root.id roots.owner in rw e refl

-- what is due to a CPU of the board that is root's
abbrev act_in : Image → Facts → Cpu → ℕ → Mode → Option Op → Option Entry
act_in image f state cpu mode op = option_map (entry_by cpu state.owner) (option_and_then (act_of image f state.owner) (cond (is_running mode) op None))

pub due_at_root : (image : Image) (f : Facts) (cpu : ℕ) → f.call ≡ None → is_on_board image cpu ≡ true → IsRoots image (f.cpu cpu)
    → due_at image f cpu ≡ option_map (entry_by cpu (f.cpu cpu).owner) (option_and_then (act_of image f (f.cpu cpu).owner) (cond (is_running (f.cpu cpu).mode) (op_at image f (f.cpu cpu) cpu) None))
due_at_root image f cpu closed e roots = due_at_present image f cpu e ∙ rw (closed, roots.asked, roots.stopped) refl

-- the entry is that of a running CPU of the board: its act is what the operation at its position comes to; no device has an
-- endpoint
pub record IsMade (image : Image) (f : Facts) (cpu : ℕ) (entry : Entry) : Type 0 where
  pub board : is_on_board image cpu ≡ true
  pub running : (f.cpu cpu).mode ≡ Running
  pub cpu_is : entry.cpu ≡ cpu
  pub cell_is : entry.cell ≡ (f.cpu cpu).owner
  pub op : Op
  pub at : slice_get (program_in image image.system.root cpu) (f.cpu cpu).position ≡ Some op
  pub act : act_of image f image.system.root.id op ≡ Some entry.act
  pub bare : f.endpoints ≡ []

made_act : (image : Image) (f : Facts) (cpu : ℕ) (entry : Entry) (op : Op) (o : Option Act) → f.endpoints ≡ [] → is_on_board image cpu ≡ true → IsRoots image (f.cpu cpu) → (f.cpu cpu).mode ≡ Running → op_at image f (f.cpu cpu) cpu ≡ Some op
    → act_of image f (f.cpu cpu).owner op ≡ o → option_map (entry_by cpu (f.cpu cpu).owner) o ≡ Some entry → IsMade image f cpu entry
made_act image f cpu entry op None bare board roots running at is h = absurd (none-some entry h)
made_act image f cpu entry op (Some act) bare board roots running at is h =
    let P : Entry → Type 0 = IsMade image f cpu in
    subst P (same_Some (entry_by cpu (f.cpu cpu).owner act) entry h) (record {
      board = board;
      running = running;
      cpu_is = refl;
      cell_is = refl;
      op = op;
      at = sym (op_at_root image f (f.cpu cpu) cpu roots) ∙ at;
      act = ap (λ (c : ℕ). act_of image f c op) (sym roots.owner) ∙ is;
      bare = bare;
    })

made_op : (image : Image) (f : Facts) (cpu : ℕ) (entry : Entry) (mode : Mode) (o : Option Op) → f.endpoints ≡ [] → is_on_board image cpu ≡ true → IsRoots image (f.cpu cpu) → (f.cpu cpu).mode ≡ mode → op_at image f (f.cpu cpu) cpu ≡ o
    → act_in image f (f.cpu cpu) cpu mode o ≡ Some entry → IsMade image f cpu entry
made_op image f cpu entry Running None bare board roots is at h = absurd (none-some entry h)
made_op image f cpu entry Running (Some op) bare board roots is at h = made_act image f cpu entry op (act_of image f (f.cpu cpu).owner op) bare board roots is at refl h
made_op image f cpu entry Parked o bare board roots is at h = absurd (none-some entry h)
made_op image f cpu entry Failed o bare board roots is at h = absurd (none-some entry h)

made_board : (image : Image) (f : Facts) (cpu : ℕ) (entry : Entry) (b : Bool) → f.endpoints ≡ [] → f.call ≡ None → is_on_board image cpu ≡ b → IsRoots image (f.cpu cpu) → due_at image f cpu ≡ Some entry → IsMade image f cpu entry
made_board image f cpu entry true bare closed e roots h = made_op image f cpu entry (f.cpu cpu).mode (op_at image f (f.cpu cpu) cpu) bare e roots refl refl (sym (due_at_root image f cpu closed e roots) ∙ h)
made_board image f cpu entry false bare closed e roots h = absurd (none-some entry (sym (due_at_absent image f cpu e) ∙ h))

-- what is due to a CPU of root's
pub due_at_made : (image : Image) (f : Facts) (cpu : ℕ) (entry : Entry) → f.endpoints ≡ [] → f.call ≡ None → IsRoots image (f.cpu cpu) → due_at image f cpu ≡ Some entry → IsMade image f cpu entry
due_at_made image f cpu entry bare closed roots h = made_board image f cpu entry (is_on_board image cpu) bare closed refl roots h

-- and what is, where it runs and is at an operation
pub due_at_running : (image : Image) (f : Facts) (cpu : ℕ) (op : Op) → f.call ≡ None → is_on_board image cpu ≡ true → IsRoots image (f.cpu cpu) → (f.cpu cpu).mode ≡ Running
    → slice_get (program_in image image.system.root cpu) (f.cpu cpu).position ≡ Some op → due_at image f cpu ≡ option_map (entry_by cpu (f.cpu cpu).owner) (act_of image f image.system.root.id op)
due_at_running image f cpu op closed board roots running at =
    due_at_root image f cpu closed board roots
    ∙ ap (λ (m : Mode). act_in image f (f.cpu cpu) cpu m (op_at image f (f.cpu cpu) cpu)) running
    ∙ ap (λ (o : Option Op). act_in image f (f.cpu cpu) cpu Running o) (op_at_root image f (f.cpu cpu) cpu roots ∙ at)
    ∙ ap (λ (c : ℕ). option_map (entry_by cpu (f.cpu cpu).owner) (act_of image f c op)) roots.owner

-- nothing is due to a failed CPU of root's
failed_on : (image : Image) (f : Facts) (cpu : ℕ) (b : Bool) → f.call ≡ None → is_on_board image cpu ≡ b → IsRoots image (f.cpu cpu) → (f.cpu cpu).mode ≡ Failed → due_at image f cpu ≡ None
failed_on image f cpu false closed e roots failed = due_at_absent image f cpu e
failed_on image f cpu true closed e roots failed = due_at_root image f cpu closed e roots ∙ ap (λ (m : Mode). act_in image f (f.cpu cpu) cpu m (op_at image f (f.cpu cpu) cpu)) failed

pub due_at_failed : (image : Image) (f : Facts) (cpu : ℕ) → f.call ≡ None → IsRoots image (f.cpu cpu) → (f.cpu cpu).mode ≡ Failed → due_at image f cpu ≡ None
due_at_failed image f cpu closed roots failed = failed_on image f cpu (is_on_board image cpu) closed refl roots failed

-- how an await that read this ends
abbrev pub AwaitOf : Option ℕ → ℕ → Bool → Type 0
AwaitOf got value true = got ≡ Some value
AwaitOf got value false = got ≡ None

-- the act is an access of the cell with the outcome that the facts give it
abbrev pub IsAccess : Image → Facts → ℕ → Act → Type 0
IsAccess image f cell (Read width at got) = IsTrue (is_width width) × (got ≡ got_by image f cell ToRead at width)
IsAccess image f cell (Write width at value ok) = IsTrue (is_width width) × (ok ≡ is_reached (reach image f cell ToWrite at width))
IsAccess image f cell (Fetch at got) = got ≡ got_by image f cell ToFetch at 4
IsAccess image f cell (Await width at value ok) = IsTrue (is_width width) × AwaitOf (got_by image f cell ToRead at width) value ok
IsAccess image f cell _ = ⊥

-- it is one, and that of the operation
pub record IsAccessOf (image : Image) (f : Facts) (cell : ℕ) (op : Op) (act : Act) : Type 0 where
  pub access : IsAccess image f cell act
  pub operation : op_of_act act ≡ Some op

await_equal : (image : Image) (f : Facts) (cell width at value got : ℕ) (act : Act) (b : Bool) → IsTrue (is_width width) → got_by image f cell ToRead at width ≡ Some got → eqb got value ≡ b
    → cond b (Some (Await width at value true)) None ≡ Some act → IsAccessOf image f cell (AwaitOp width at value) act
await_equal image f cell width at value got act true plain e is h =
    let same : got ≡ value = eqb-true got value is in
    let P : Act → Type 0 = IsAccessOf image f cell (AwaitOp width at value) in
    subst P (same_Some (Await width at value true) act h) (record { access = (plain, e ∙ ap Some same); operation = refl })
await_equal image f cell width at value got act false plain e is h = absurd (none-some act h)

await_access : (image : Image) (f : Facts) (cell width at value : ℕ) (act : Act) (o : Option ℕ) → IsTrue (is_width width) → got_by image f cell ToRead at width ≡ o
    → await_of width at value o ≡ Some act → IsAccessOf image f cell (AwaitOp width at value) act
await_access image f cell width at value act None plain e h =
    let P : Act → Type 0 = IsAccessOf image f cell (AwaitOp width at value) in
    subst P (same_Some (Await width at value false) act h) (record { access = (plain, e); operation = refl })
await_access image f cell width at value act (Some got) plain e h = await_equal image f cell width at value got act (eqb got value) plain e refl h

-- no interrupt is due where there is no endpoint
no_irq : (image : Image) (f : Facts) (cell : ℕ) → f.endpoints ≡ [] → act_of image f cell IrqOp ≡ None
no_irq image f cell bare = ap (irq_of cell) bare

pub act_access : (image : Image) (f : Facts) (cell : ℕ) (op : Op) (act : Act) → f.endpoints ≡ [] → IsWellFormed op → IsNoHypercall op → act_of image f cell op ≡ Some act → IsAccessOf image f cell op act
act_access image f cell (ReadOp width at) act bare plain silent h =
    let P : Act → Type 0 = IsAccessOf image f cell (ReadOp width at) in
    subst P (same_Some (Read width at (got_by image f cell ToRead at width)) act h) (record { access = (plain, refl); operation = refl })
act_access image f cell (WriteOp width at value) act bare plain silent h =
    let P : Act → Type 0 = IsAccessOf image f cell (WriteOp width at value) in
    subst P (same_Some (Write width at value (is_reached (reach image f cell ToWrite at width))) act h) (record { access = (plain.0, refl); operation = refl })
act_access image f cell (FetchOp at) act bare plain silent h =
    let P : Act → Type 0 = IsAccessOf image f cell (FetchOp at) in
    subst P (same_Some (Fetch at (got_by image f cell ToFetch at 4)) act h) (record { access = refl; operation = refl })
act_access image f cell (AwaitOp width at value) act bare plain silent h = await_access image f cell width at value act (got_by image f cell ToRead at width) plain.0 refl h
act_access image f cell IrqOp act bare plain silent h = absurd (none-some act (sym (no_irq image f cell bare) ∙ h))
act_access image f cell (HvcOp code a b) act bare plain silent h = absurd silent

-- the act of an entry is such an access
pub made_access : (image : Image) (f : Facts) (cpu : ℕ) (entry : Entry) (made : IsMade image f cpu entry) → IsSilent image → IsAccessOf image f image.system.root.id made.op entry.act
made_access image f cpu entry made admitted =
    act_access image f image.system.root.id made.op entry.act made.bare (op_well_formed image (name_of image.system.root) cpu (f.cpu cpu).position made.op admitted.admitted made.at)
    (op_silent image (name_of image.system.root) cpu (f.cpu cpu).position made.op admitted made.at) made.act

-- an access moves its CPU on, and fails it where it is a violation
abbrev pub done_by : Bool → Cpu → Cpu
done_by true state = failed (moved state)
done_by false state = moved state

pub changed_access : (image : Image) (f : Facts) (cell : ℕ) (act : Act) (state : Cpu) → IsAccess image f cell act → changed (change_of act) state ≡ done_by (is_violation act) state
changed_access image f cell (Read width at None) state access = refl
changed_access image f cell (Read width at (Some got)) state access = refl
changed_access image f cell (Write width at value true) state access = refl
changed_access image f cell (Write width at value false) state access = refl
changed_access image f cell (Fetch at None) state access = refl
changed_access image f cell (Fetch at (Some got)) state access = refl
changed_access image f cell (Await width at value true) state access = refl
changed_access image f cell (Await width at value false) state access = refl
changed_access image f cell _ state access = absurd access

-- so it is no phase of a call
pub access_own : (image : Image) (f : Facts) (cell : ℕ) (act : Act) → IsAccess image f cell act → is_of_call act ≡ false
access_own image f cell (Read width at got) access = refl
access_own image f cell (Write width at value ok) access = refl
access_own image f cell (Fetch at got) access = refl
access_own image f cell (Await width at value ok) access = refl
access_own image f cell _ access = absurd access

-- nor does it switch a CPU on or off
access_kept : (image : Image) (f : Facts) (cell : ℕ) (act : Act) → IsAccess image f cell act → switches act ≡ false
access_kept image f cell (Read width at got) access = refl
access_kept image f cell (Write width at value ok) access = refl
access_kept image f cell (Fetch at got) access = refl
access_kept image f cell (Await width at value ok) access = refl
access_kept image f cell _ access = absurd access

roots_done : (image : Image) (b : Bool) (state : Cpu) → IsRoots image state → IsRoots image (done_by b state)
roots_done image true state roots = record { owner = roots.owner; asked = roots.asked; stopped = roots.stopped }
roots_done image false state roots = record { owner = roots.owner; asked = roots.asked; stopped = roots.stopped }

-- each CPU is root's, root is the one cell, and no device has an endpoint
pub record AllRoots (image : Image) (f : Facts) : Type 0 where
  pub cpus : (cpu : ℕ) → IsRoots image (f.cpu cpu)
  pub alone : IsAlone image f
  pub endpoints : f.endpoints ≡ []

-- the entry is made by its own CPU from these facts on
abbrev pub IsNext : Image → Facts → Entry → Type 0
IsNext image f entry = IsMade image f entry.cpu entry

-- it is root's, and no phase of a call
pub by_root : (image : Image) (f : Facts) (entry : Entry) → IsSilent image → AllRoots image f → IsNext image f entry → IsByRoot image entry
by_root image f entry admitted roots made = record {
  cell = made.cell_is ∙ roots.alone.owners entry.cpu;
  act = access_own image f image.system.root.id entry.act (made_access image f entry.cpu entry made admitted).access;
}

-- what it leaves of each CPU
cpu_is : (image : Image) (f : Facts) (entry : Entry) (cpu : ℕ) → IsSilent image → IsNext image f entry → (after image f entry).cpu cpu ≡ cond (eqb cpu entry.cpu) (changed (change_of entry.act) (f.cpu cpu)) (f.cpu cpu)
cpu_is image f entry cpu admitted made =
    ap (λ (g : ℕ → Cpu). g cpu) (cpu_after_holds image f entry)
    ∙ acted_own image (runs_by_start f cpu) f.call entry.act entry.cpu cpu (f.cpu cpu) (access_own image f image.system.root.id entry.act (made_access image f entry.cpu entry made admitted).access)
    (access_kept image f image.system.root.id entry.act (made_access image f entry.cpu entry made admitted).access)

-- its CPU after it, and the others
pub own_after : (image : Image) (f : Facts) (entry : Entry) → IsSilent image → IsNext image f entry → (after image f entry).cpu entry.cpu ≡ done_by (is_violation entry.act) (f.cpu entry.cpu)
own_after image f entry admitted made =
    cpu_is image f entry entry.cpu admitted made
    ∙ ap (λ (b : Bool). cond b (changed (change_of entry.act) (f.cpu entry.cpu)) (f.cpu entry.cpu)) (same_number entry.cpu)
    ∙ changed_access image f image.system.root.id entry.act (f.cpu entry.cpu) (made_access image f entry.cpu entry made admitted).access

pub other_after : (image : Image) (f : Facts) (entry : Entry) (cpu : ℕ) → IsSilent image → IsNext image f entry → cpu ≢ entry.cpu → (after image f entry).cpu cpu ≡ f.cpu cpu
other_after image f entry cpu admitted made ne =
    cpu_is image f entry cpu admitted made
    ∙ ap (λ (b : Bool). cond b (changed (change_of entry.act) (f.cpu cpu)) (f.cpu cpu)) (ne_eqb cpu entry.cpu ne)

cpus_after : (image : Image) (f : Facts) (entry : Entry) → IsSilent image → IsNext image f entry → AllRoots image f → (cpu : ℕ) → IsRoots image ((after image f entry).cpu cpu)
cpus_after image f entry admitted made roots cpu =
    let own : changed (change_of entry.act) (f.cpu cpu) ≡ done_by (is_violation entry.act) (f.cpu cpu)
    = changed_access image f image.system.root.id entry.act (f.cpu cpu) (made_access image f entry.cpu entry made admitted).access in
    let P : Cpu → Type 0 = IsRoots image in
    subst P (sym (cpu_is image f entry cpu admitted made))
    (cond_both (eqb cpu entry.cpu) (changed (change_of entry.act) (f.cpu cpu)) (f.cpu cpu) P
    (λ _. subst P (sym own) (roots_done image (is_violation entry.act) (f.cpu cpu) (roots.cpus cpu))) (λ _. roots.cpus cpu))

-- without endpoints no entry makes one
put_none : (cell : ℕ) (list : List PciDevice) (found : Reach) (value : ℕ) → endpoints_put (record { cell = cell; list = list; endpoints = [] }) found value ≡ []
put_none cell list (Memory places) value = refl
put_none cell list (Subpage places) value = refl
put_none cell list (Config bytes) value = none_put (number_at (record { cell = cell; list = list; endpoints = [] }) bytes.at)
  where
    none_put : (o : Option ℕ) → option_map_or (function_put (record { cell = cell; list = list; endpoints = [] }) bytes value) o [] ≡ []
    none_put None = refl
    none_put (Some n) = refl
put_none cell list (Window register) value = refl
put_none cell list Nothing value = refl

none_acted : (image : Image) (f : Facts) (cell : ℕ) (act : Act) → f.endpoints ≡ [] → endpoints_acted image f cell act ≡ []
unfolding changed_of
none_acted image f cell (Write width at value true) bare =
    let found : Reach = reach image f cell ToWrite at width in
    ap (λ (es : List Endpoint). endpoints_put (devices_in image f.cells es cell) found value) bare ∙ put_none cell (list_in image f.cells cell) found value
none_acted image f cell (Irq device vector) bare = ap (changed_of (is_device cell device) (taken vector)) bare
none_acted image f cell _ bare = bare

none_after : (image : Image) (f : Facts) (entry : Entry) → f.call ≡ None → f.endpoints ≡ [] → (after image f entry).endpoints ≡ []
unfolding after
none_after image f entry closed bare =
    ap (λ (call : Option OpenCall). endpoints_changed (change_by f.call) (option_map_or specs_of (changing_by f.cells call entry.act) []) (endpoints_acted image f entry.cell entry.act)) closed
    ∙ none_acted image f entry.cell entry.act bare

pub roots_after : (image : Image) (f : Facts) (entry : Entry) → IsSilent image → IsNext image f entry → AllRoots image f → AllRoots image (after image f entry)
roots_after image f entry admitted made roots = record {
  cpus = cpus_after image f entry admitted made roots;
  alone = alone_after image f entry roots.alone (by_root image f entry admitted roots made);
  endpoints = none_after image f entry roots.alone.call roots.endpoints;
}

-- the first of legal entries is made, where each CPU is root's
pub next_made : (image : Image) (f : Facts) (entry : Entry) (entries : List Entry) → AllRoots image f → IsLegalFrom image f (entry ∷ entries) → IsNext image f entry
next_made image f entry entries roots legal = due_at_made image f entry.cpu entry roots.endpoints roots.alone.call (roots.cpus entry.cpu) legal.0

roots_from : (image : Image) (f : Facts) (entries : List Entry) → IsSilent image → AllRoots image f → IsLegalFrom image f entries → AllRoots image (fold (after image) f entries)
roots_from image f [] admitted roots legal = roots
roots_from image f (entry ∷ entries) admitted roots legal =
    roots_from image (after image f entry) entries admitted (roots_after image f entry admitted (next_made image f entry entries roots legal) roots) legal.1

-- root without devices has none at opening
no_specs : (config : CellConfig) (n : ℕ) (devices : List PciDevice) → AllByRecursion (λ (d : PciDevice). d.kind ≢ 3) devices → specs_from config n devices ≡ []
no_specs config n [] none = refl
no_specs config n (device ∷ devices) none =
    let other : is_endpoint n device ≡ false = and_right (nat_lt n (2 ^ 32)) (eqb device.kind 3) (ne_eqb device.kind 3 none.0) in
    ap (λ (b : Bool). cond b (spec_of config n device ∷ specs_from config (n + 1) devices) (specs_from config (n + 1) devices)) other ∙ no_specs config (n + 1) devices none.1

pub no_specs_of_root : (image : Image) → HasNoShmemDevice image → specs_of image.system.root ≡ []
unfolding specs_of
no_specs_of_root image bare = no_specs image.system.root 0 image.system.root.pci_devices (recursion_from_All (λ (d : PciDevice). d.kind ≢ 3) image.system.root.pci_devices bare.devices)

pub roots_start : (image : Image) (form : Form) → HasNoShmemDevice image → AllRoots image (start image form)
roots_start image form bare = record {
  cpus = λ cpu. record { owner = refl; asked = refl; stopped = refl };
  alone = alone_start image form;
  endpoints = ap (λ (specs : List EndpointSpec). endpoints_changed Join specs []) (no_specs_of_root image bare);
}

-- after a legal journal each CPU is root's
pub roots_at : (image : Image) (form : Form) (entries : List Entry) → IsSilent image → IsLegal image form entries → AllRoots image (facts image form entries)
unfolding facts IsLegal
roots_at image form entries admitted legal = roots_from image (start image form) entries admitted (roots_start image form admitted.bare) legal

-- each entry of a legal journal is made by its CPU
pub made_at : (image : Image) (form : Form) (before rest : List Entry) (entry : Entry) → IsSilent image → IsLegal image form (before ++ entry ∷ rest) → IsNext image (facts image form before) entry
made_at image form before rest entry admitted legal =
    let roots = roots_at image form before admitted (IsLegal_begin image form before (entry ∷ rest) legal) in
    due_at_made image (facts image form before) entry.cpu entry roots.endpoints roots.alone.call (roots.cpus entry.cpu) (due_split image form before rest entry legal)

-- what an access does to its CPU, where the position isn't at the end of its numbers
abbrev pub moved_by : Bool → Cpu → Cpu
moved_by true state = ended state
moved_by false state = stepped state

by_violation : (b : Bool) (state : Cpu) → min (state.position + 1) (2 ^ 32 - 1) ≡ state.position + 1 → done_by b state ≡ moved_by b state
by_violation true state e = ap (λ (n : ℕ). record state { position = n; mode = Failed }) e
by_violation false state e = ap (λ (n : ℕ). record state { position = n }) e

-- as it isn't in a program
pub done_by_moved : (image : Image) (b : Bool) (state : Cpu) (cpu : ℕ) (op : Op) → IsSilent image → slice_get (program_in image image.system.root cpu) state.position ≡ Some op → done_by b state ≡ moved_by b state
done_by_moved image b state cpu op admitted at =
    let within : state.position < length (program_in image image.system.root cpu) = slice_get_within (program_in image image.system.root cpu) state.position op at in
    let few : length (program_in image image.system.root cpu) ≤ 4096 = few_operations image (name_of image.system.root) cpu admitted.admitted in
    let one : min (state.position + 1) (2 ^ 32 - 1) ≡ state.position + 1 = omega arith in
    by_violation b state one
