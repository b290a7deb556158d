-- What is sound stays sound over each entry that is due, and so after each legal journal.
use Rattle.std.proofs.Common.{◌≡◌, ◌≢◌, ℕ, ◌<◌, List, [], ◌∷◌, ◌++◌, Bool, true, false, cond, eqb, map, pos, ℤ, Option, Some, None, is_some, refl, sym, ap, subst, ◌∙◌, inl, ⊎_elim, arith}
use Rattle.std.specs.Prelude.{filter, option_map, slice_get}
use Rattle.std.specs.List.{fold}
use Rattle.std.proofs.lemmas.Bool.{both_ways, cond_both, eqb-true, eq-eqb}
use Rattle.std.proofs.lemmas.Option.{none-some, same_Some}
use Rattle.jh_num.proofs.Public.{same_number, same_test}
use Rattle.jh_cellcfg.specs.declared.config.CellConfig.{CellConfig}
use Rattle.jh_cellcfg.specs.declared.live.Live.{Live}
use Rattle.jh_cellcfg.specs.Cells.{name_of}
use Rattle.jh_num.specs.Below.{any_below}
use Rattle.jh_cpu.specs.declared.cpu.Cpu.{Cpu}
use Rattle.jh_cpu.specs.Changes.{restarted, parked}
use Rattle.jh_call.specs.declared.call.Call.{Call}
use Rattle.jh_call.specs.Calls.{decoded}
use Rattle.jh_call.specs.declared.call.Call.TheVariants.{Create, Start, Loadable, Destroy, Info, State, CpuInfo, CpuOff, CpuOn, Affinity, Unknown}
use Rattle.jh_ivshmem.specs.declared.endpoint.Endpoint.{Endpoint}
use Rattle.jh_script.specs.declared.image.Image.{Image}
use Rattle.jh_history.specs.declared.form.Form.{Form}
use Rattle.jh_script.specs.declared.op.Op.{Op}
use Rattle.jh_script.specs.declared.op.Op.TheVariants.{Hvc as HvcOp}
use Rattle.jh_history.specs.declared.place.Place.{Place}
use Rattle.jh_history.specs.declared.call.OpenCall.{OpenCall}
use Rattle.jh_history.specs.declared.call.Phase.{Phase}
use Rattle.jh_history.specs.declared.call.Phase.TheVariants.{ToDecide, ToSettle, ToCreate, ToCommit, ToNote, ToNoted, ToFinish}
use Rattle.jh_history.specs.declared.change.Change.{Change}
use Rattle.jh_history.specs.declared.change.Change.TheVariants.{Step, Stop as Halt}
use Rattle.jh_history.specs.declared.entry.Entry.{Entry}
use Rattle.jh_history.specs.declared.entry.Settled.{Settled}
use Rattle.jh_history.specs.declared.entry.Heard.{Heard}
use Rattle.jh_history.specs.declared.entry.Act.{Act}
use Rattle.jh_history.specs.declared.entry.Act.TheVariants.{Read, Write, Fetch, Await, Irq, Hvc, Begin, Stop, Decide, Settle, Commit, Note, Noted, Finish}
use Rattle.jh_history.specs.Facts.{Facts}
use Rattle.jh_history.specs.Lives.{is_on_board, program_ops, ops_in}
use Rattle.jh_history.specs.Admitted.{IsAdmitted}
use Rattle.jh_history.specs.Bytes.{byte_after}
use Rattle.jh_history.specs.Calls.{call_by, counted, after_decide, first_recipient, telling, listed_behind, is_named}
use Rattle.jh_history.specs.Commits.{cells_by, is_other}
use Rattle.jh_history.specs.Cpus.{acted, cpu_by_call, change_if, is_undenied, runs_by_start}
use Rattle.jh_history.specs.History.{start, after, facts, coming_of, coming_by}
use Rattle.jh_history.specs.Wants.{goes_on}
use Rattle.jh_history.specs.Endpoints.{endpoints_after}
use Rattle.jh_history.specs.Phases.{phase_act, keeps_decide, keeps_commit, decision, settled_of, heard_of}
use Rattle.jh_shape.specs.Lives.{configs_of, marked}
use Rattle.jh_shape.proofs.Public.{configs_marked}
use Rattle.jh_history.specs.Due.{due_at, is_idle_but, IsLegal, IsLegalFrom}
use Rattle.jh_history.proofs.FactsLemmas.{same_function}
use Rattle.jh_history.specs.Sound.{AreSoundCells, AreOwned, IsCalm, IsHalted, IsOpen, IsSoundCall, AreEndpoints, IsSound}
use Rattle.jh_history.proofs.SoundCellsLemmas.{cells_open, cells_joined, cells_fewer}
use Rattle.jh_history.proofs.SoundCallsLemmas.{IsGrantedOwn, called_owner, called_calm, open_called, granted_owner}
use Rattle.jh_history.proofs.SoundCpusLemmas.{IsMild, owned_kept, come_rests}
use Rattle.jh_history.proofs.SoundDueLemmas.{IsNext, next_from_due, IsOfProgram, IsOfState, state_parts, IsOfCall, call_parts}
use Rattle.jh_history.proofs.SoundStepLemmas.{one_changed, one_owner, calm_one, open_mild, open_stop, owned_begun, open_begun, owned_finished, calm_finished}
use Rattle.jh_history.proofs.SoundDecideLemmas.{open_decided, owned_settled, open_settled}
use Rattle.jh_history.proofs.SoundCommitLemmas.{cell_changed, owned_changed, open_changed, restarted_calm, parked_calm, is_other_config, configs_others, owned_returned, open_destroyed, configs_joined, owned_lent, open_created, open_noted, open_note}
use Rattle.jh_history.proofs.SoundEndpointsLemmas.{endpoints_open, endpoints_after_holds}

-- what there is beside the CPUs, the cells and the call, and which CPUs a start lets run
record Rest : Type 0 where
  form : Form
  runs : ℕ → Bool
  byte : Place → ℕ
  endpoints : List Endpoint

-- the facts, part by part
abbrev board : Rest → (ℕ → Cpu) → List Live → Option OpenCall → Facts
board rest cpu cells call = record { form = rest.form; byte = rest.byte; cpu = cpu; cells = cells; endpoints = rest.endpoints; call = call }

-- all that is sound but the devices
record IsSoundBut (image : Image) (f : Facts) : Type 0 where
  cells : AreSoundCells image.system (configs_of f.cells)
  cpus : AreOwned image (configs_of f.cells) f.cpu
  call : IsSoundCall image (configs_of f.cells) f.cpu f.call

abbrev pub opened_call : ℕ → Call → Phase → OpenCall
opened_call caller call phase = record { caller = caller; call = call; phase = phase }

-- the facts behind an act of the CPU, whatever it writes
abbrev behind_act : Image → Rest → (ℕ → Cpu) → List Live → Option OpenCall → Option CellConfig → ℕ → ℕ → Act → Facts
behind_act image rest cpu cells call coming own cell act =
    board rest (λ i. acted image (rest.runs i) call act own i (cpu i)) (cells_by call cells act) (call_by cells coming call (record { cpu = own; cell = cell; act = act }) act)

-- ---- a CPU that goes on with its program

mild_if : (b : Bool) → IsMild (change_if b)
mild_if true = tt
mild_if false = tt

own_none : (image : Image) (rest rest' : Rest) (cpu : ℕ → Cpu) (cells : List Live) (own : ℕ) (change : Change) → IsMild change → IsSoundBut image (board rest cpu cells None) → IsSoundBut image (board rest' (one_changed change own cpu) cells None)
own_none image rest rest' cpu cells own change mild sound = record {
  cells = sound.cells;
  cpus = owned_kept image (configs_of cells) cpu (one_changed change own cpu) (one_owner change own cpu) sound.cpus;
  call = calm_one change own cpu mild sound.call;
}

-- a hypercall that was answered
called_none : (image : Image) (rest rest' : Rest) (cpu : ℕ → Cpu) (cells : List Live) (own : ℕ) (call : Call) (answer : ℤ) → IsSoundBut image (board rest cpu cells None) → IsSoundBut image (board rest' (λ i. cpu_by_call call answer own i (cpu i)) cells None)
called_none image rest rest' cpu cells own call answer sound = record {
  cells = sound.cells;
  cpus = owned_kept image (configs_of cells) cpu (λ i. cpu_by_call call answer own i (cpu i)) (λ i. called_owner call answer own i (cpu i)) sound.cpus;
  call = λ i. called_calm call answer own i (cpu i) (sound.call i);
}

begin_none : (image : Image) (rest rest' : Rest) (cpu : ℕ → Cpu) (cells : List Live) (coming : Option CellConfig) (own cell code a b : ℕ) → IsSoundBut image (board rest cpu cells None) → is_on_board image own ≡ true
    → IsOfProgram image (board rest cpu cells None) (cpu own) own (Begin code a b) → IsSoundBut image (behind_act image rest' cpu cells None coming own cell (Begin code a b))
begin_none image rest rest' cpu cells coming own cell code a b sound on program =
    let root : ℕ = image.system.root.id in
    let is : (cpu own).owner ≡ root = program.comes.1 in
    let roots : ops_in image cells (cpu own).owner own ≡ program_ops image (name_of image.system.root) own = rw (is, same_number root) refl in
    let at : slice_get (program_ops image (name_of image.system.root) own) (cpu own).position ≡ Some (HvcOp code a b) =
    ap (λ (ops : List Op). slice_get ops (cpu own).position) (sym roots) ∙ program.at ∙ ap Some program.comes.0 in
    record {
      cells = sound.cells;
      cpus = owned_begun image (configs_of cells) cpu own sound.cpus;
      call = open_begun image (configs_of cells) cpu own code a b sound.call on is program.goes at program.comes.2;
    }

program_none : (image : Image) (rest rest' : Rest) (cpu : ℕ → Cpu) (cells : List Live) (coming : Option CellConfig) (own cell : ℕ) (act : Act) → IsSoundBut image (board rest cpu cells None) → is_on_board image own ≡ true
    → IsOfProgram image (board rest cpu cells None) (cpu own) own act → IsSoundBut image (behind_act image rest' cpu cells None coming own cell act)
program_none image rest rest' cpu cells coming own cell (Read width at got) sound on program = own_none image rest rest' cpu cells own (change_if (is_some got)) (mild_if (is_some got)) sound
program_none image rest rest' cpu cells coming own cell (Write width at value ok) sound on program = own_none image rest rest' cpu cells own (change_if ok) (mild_if ok) sound
program_none image rest rest' cpu cells coming own cell (Fetch at got) sound on program = own_none image rest rest' cpu cells own (change_if (is_some got)) (mild_if (is_some got)) sound
program_none image rest rest' cpu cells coming own cell (Await width at value ok) sound on program = own_none image rest rest' cpu cells own (change_if ok) (mild_if ok) sound
program_none image rest rest' cpu cells coming own cell (Irq device vector) sound on program = own_none image rest rest' cpu cells own Step tt sound
program_none image rest rest' cpu cells coming own cell (Hvc code a b answer) sound on program = called_none image rest rest' cpu cells own (decoded code a b) answer sound
program_none image rest rest' cpu cells coming own cell (Begin code a b) sound on program = begin_none image rest rest' cpu cells coming own cell code a b sound on program
program_none image rest rest' cpu cells coming own cell Stop sound on program = absurd program.comes
program_none image rest rest' cpu cells coming own cell (Decide refused) sound on program = absurd program.comes
program_none image rest rest' cpu cells coming own cell (Settle how) sound on program = absurd program.comes
program_none image rest rest' cpu cells coming own cell Commit sound on program = absurd program.comes
program_none image rest rest' cpu cells coming own cell (Note id) sound on program = absurd program.comes
program_none image rest rest' cpu cells coming own cell (Noted id how) sound on program = absurd program.comes
program_none image rest rest' cpu cells coming own cell (Finish answer) sound on program = absurd program.comes

state_none : (image : Image) (rest rest' : Rest) (cpu : ℕ → Cpu) (cells : List Live) (coming : Option CellConfig) (own cell : ℕ) (act : Act) → IsSoundBut image (board rest cpu cells None) → is_on_board image own ≡ true
    → IsOfState image (board rest cpu cells None) (cpu own) own act → IsSoundBut image (behind_act image rest' cpu cells None coming own cell act)
state_none image rest rest' cpu cells coming own cell act sound on h =
    ⊎_elim
    (λ stops. absurd (both_ways (cpu own).asked (sound.call own).asked stops.0))
    (λ (program : IsOfProgram image (board rest cpu cells None) (cpu own) own act). program_none image rest rest' cpu cells coming own cell act sound on program)
    h

-- ---- another CPU than the caller of the call that is open

own_some : (image : Image) (rest rest' : Rest) (cpu : ℕ → Cpu) (cells : List Live) (o : OpenCall) (own cell : ℕ) (change : Change) → IsMild change → IsSoundBut image (board rest cpu cells (Some o)) → is_on_board image own ≡ true → own ≢ o.caller
    → goes_on (cpu own) ≡ true → IsSoundBut image (board rest' (one_changed change own cpu) cells (Some (opened_call o.caller o.call (counted cell o.call o.phase))))
own_some image rest rest' cpu cells o own cell change mild sound on other goes = record {
  cells = sound.cells;
  cpus = owned_kept image (configs_of cells) cpu (one_changed change own cpu) (one_owner change own cpu) sound.cpus;
  call = open_mild image (configs_of cells) cpu o change own cell mild sound.call on other goes;
}

called_some : (image : Image) (rest rest' : Rest) (cpu : ℕ → Cpu) (cells : List Live) (o : OpenCall) (own cell : ℕ) (call : Call) (answer : ℤ) → IsSoundBut image (board rest cpu cells (Some o)) → is_on_board image own ≡ true → own ≢ o.caller
    → goes_on (cpu own) ≡ true → IsGrantedOwn cpu own call answer
    → IsSoundBut image (board rest' (λ i. cpu_by_call call answer own i (cpu i)) cells (Some (opened_call o.caller o.call (counted cell o.call o.phase))))
called_some image rest rest' cpu cells o own cell call answer sound on other goes granted = record {
  cells = sound.cells;
  cpus = owned_kept image (configs_of cells) cpu (λ i. cpu_by_call call answer own i (cpu i)) (λ i. called_owner call answer own i (cpu i)) sound.cpus;
  call = open_called image (configs_of cells) cpu o own cell call answer sound.call on other goes granted;
}

stop_some : (image : Image) (rest rest' : Rest) (cpu : ℕ → Cpu) (cells : List Live) (o : OpenCall) (coming : Option CellConfig) (own cell : ℕ) → IsSoundBut image (board rest cpu cells (Some o)) → is_on_board image own ≡ true → own ≢ o.caller
    → (cpu own).asked ≡ true → IsSoundBut image (behind_act image rest' cpu cells (Some o) coming own cell Stop)
stop_some image rest rest' cpu cells o coming own cell sound on other asked = record {
  cells = sound.cells;
  cpus = owned_kept image (configs_of cells) cpu (one_changed Halt own cpu) (one_owner Halt own cpu) sound.cpus;
  call = open_stop image (configs_of cells) cpu o own cell sound.call on other asked;
}

program_some : (image : Image) (rest rest' : Rest) (cpu : ℕ → Cpu) (cells : List Live) (o : OpenCall) (coming : Option CellConfig) (own cell : ℕ) (act : Act) → IsSoundBut image (board rest cpu cells (Some o)) → is_on_board image own ≡ true → own ≢ o.caller
    → IsOfProgram image (board rest cpu cells (Some o)) (cpu own) own act → IsSoundBut image (behind_act image rest' cpu cells (Some o) coming own cell act)
program_some image rest rest' cpu cells o coming own cell (Read width at got) sound on other program = own_some image rest rest' cpu cells o own cell (change_if (is_some got)) (mild_if (is_some got)) sound on other program.goes
program_some image rest rest' cpu cells o coming own cell (Write width at value ok) sound on other program = own_some image rest rest' cpu cells o own cell (change_if ok) (mild_if ok) sound on other program.goes
program_some image rest rest' cpu cells o coming own cell (Fetch at got) sound on other program = own_some image rest rest' cpu cells o own cell (change_if (is_some got)) (mild_if (is_some got)) sound on other program.goes
program_some image rest rest' cpu cells o coming own cell (Await width at value ok) sound on other program = own_some image rest rest' cpu cells o own cell (change_if ok) (mild_if ok) sound on other program.goes
program_some image rest rest' cpu cells o coming own cell (Irq device vector) sound on other program = own_some image rest rest' cpu cells o own cell Step tt sound on other program.goes
program_some image rest rest' cpu cells o coming own cell (Hvc code a b answer) sound on other program =
    called_some image rest rest' cpu cells o own cell (decoded code a b) answer sound on other program.goes (granted_owner image (board rest cpu cells (Some o)) (cpu own) own code a b answer program)
program_some image rest rest' cpu cells o coming own cell (Begin code a b) sound on other program = absurd (come_rests o.phase (cpu own) (sound.call.roots own on other program.comes.1) program.goes)
program_some image rest rest' cpu cells o coming own cell Stop sound on other program = absurd program.comes
program_some image rest rest' cpu cells o coming own cell (Decide refused) sound on other program = absurd program.comes
program_some image rest rest' cpu cells o coming own cell (Settle how) sound on other program = absurd program.comes
program_some image rest rest' cpu cells o coming own cell Commit sound on other program = absurd program.comes
program_some image rest rest' cpu cells o coming own cell (Note id) sound on other program = absurd program.comes
program_some image rest rest' cpu cells o coming own cell (Noted id how) sound on other program = absurd program.comes
program_some image rest rest' cpu cells o coming own cell (Finish answer) sound on other program = absurd program.comes

state_some : (image : Image) (rest rest' : Rest) (cpu : ℕ → Cpu) (cells : List Live) (o : OpenCall) (coming : Option CellConfig) (own cell : ℕ) (act : Act) → IsSoundBut image (board rest cpu cells (Some o)) → is_on_board image own ≡ true → own ≢ o.caller
    → IsOfState image (board rest cpu cells (Some o)) (cpu own) own act → IsSoundBut image (behind_act image rest' cpu cells (Some o) coming own cell act)
state_some image rest rest' cpu cells o coming own cell act sound on other h =
    let P : Act → Type 0 = λ x. IsSoundBut image (behind_act image rest' cpu cells (Some o) coming own cell x) in
    ⊎_elim
    (λ stops. subst P stops.1 (stop_some image rest rest' cpu cells o coming own cell sound on other stops.0))
    (λ (program : IsOfProgram image (board rest cpu cells (Some o)) (cpu own) own act). program_some image rest rest' cpu cells o coming own cell act sound on other program)
    h

-- ---- the caller

-- an act that changes no CPU
stays : (own : ℕ) (cpu : ℕ → Cpu) → (λ (i : ℕ). cond (eqb i own) (cpu i) (cpu i)) ≡ cpu
stays own cpu =
    same_function (λ (i : ℕ). cond (eqb i own) (cpu i) (cpu i)) cpu
    (λ i. let is : Cpu → Type 0 = λ c. c ≡ cpu i in cond_both (eqb i own) (cpu i) (cpu i) is (λ _. refl) (λ _. refl))

phase_only : (image : Image) (rest : Rest) (cpu : ℕ → Cpu) (cells : List Live) (own : ℕ) (o : OpenCall) → IsSoundBut image (board rest cpu cells (Some o)) → IsSoundBut image (board rest (λ i. cond (eqb i own) (cpu i) (cpu i)) cells (Some o))
phase_only image rest cpu cells own o sound =
    let P : (ℕ → Cpu) → Type 0 = λ c. IsSoundBut image (board rest c cells (Some o)) in
    subst P (sym (stays own cpu)) sound

-- what is sound with the configurations that the cells have
sound_by : (image : Image) (rest : Rest) (cpu : ℕ → Cpu) (cells : List Live) (configs : List CellConfig) (o : OpenCall) → configs_of cells ≡ configs → AreSoundCells image.system configs → AreOwned image configs cpu → IsOpen image configs cpu o
    → IsSoundBut image (board rest cpu cells (Some o))
sound_by image rest cpu cells configs o is sound owned opens =
    let A : List CellConfig → Type 0 = AreSoundCells image.system in
    let B : List CellConfig → Type 0 = λ cs. AreOwned image cs cpu in
    let C : List CellConfig → Type 0 = λ cs. IsOpen image cs cpu o in
    record { cells = subst A (sym is) sound; cpus = subst B (sym is) owned; call = subst C (sym is) opens }

-- the Decide
decide_sound : (image : Image) (rest rest' : Rest) (cpu : ℕ → Cpu) (cells : List Live) (caller : ℕ) (call : Call) (cell : ℕ) (act : Act) (b : Bool) → IsSoundBut image (board rest cpu cells (Some (opened_call caller call ToDecide)))
    → any_below (λ k. keeps_decide image caller k (cpu k)) 16 ≡ b
    → cond b None (Some (Decide (decision image (board rest cpu cells (Some (opened_call caller call ToDecide))) caller call))) ≡ Some act
    → IsSoundBut image (behind_act image rest' cpu cells (Some (opened_call caller call ToDecide)) (coming_by image (board rest cpu cells (Some (opened_call caller call ToDecide))) call) caller cell act)
decide_sound image rest rest' cpu cells caller call cell act true sound none h = absurd (none-some act h)
decide_sound image rest rest' cpu cells caller call cell act false sound none h =
    let f : Facts = board rest cpu cells (Some (opened_call caller call ToDecide)) in
    let refused : Option ℤ = decision image f caller call in
    let P : Act → Type 0 = λ x. IsSoundBut image (behind_act image rest' cpu cells (Some (opened_call caller call ToDecide)) (coming_by image f call) caller cell x) in
    subst P (same_Some (Decide refused) act h)
    (phase_only image rest' cpu cells caller (opened_call caller call (after_decide call (coming_by image f call) refused))
    (record { cells = sound.cells; cpus = sound.cpus; call = open_decided image f caller call sound.cells sound.call none }))

-- the Settle
settle_sound : (image : Image) (rest rest' : Rest) (cpu : ℕ → Cpu) (cells : List Live) (caller waited : ℕ) (call : Call) (coming : Option CellConfig) (cell : ℕ) (act : Act) (o : Option Settled) → IsSoundBut image (board rest cpu cells (Some (opened_call caller call (ToSettle waited))))
    → option_map (λ (how : Settled). Settle how) o ≡ Some act
    → IsSoundBut image (behind_act image rest' cpu cells (Some (opened_call caller call (ToSettle waited))) coming caller cell act)
settle_sound image rest rest' cpu cells caller waited call coming cell act None sound h = absurd (none-some act h)
settle_sound image rest rest' cpu cells caller waited call coming cell act (Some how) sound h =
    let P : Act → Type 0 = λ x. IsSoundBut image (behind_act image rest' cpu cells (Some (opened_call caller call (ToSettle waited))) coming caller cell x) in
    subst P (same_Some (Settle how) act h)
    (record {
      cells = sound.cells;
      cpus = owned_settled image (configs_of cells) cpu (is_undenied how) call sound.cpus;
      call = open_settled image (configs_of cells) cpu caller waited call how sound.cells sound.cpus sound.call;
    })

-- the Commit of a create
create_sound : (image : Image) (rest rest' : Rest) (cpu : ℕ → Cpu) (cells : List Live) (caller : ℕ) (call : Call) (new : CellConfig) (coming : Option CellConfig) (cell : ℕ) → IsSoundBut image (board rest cpu cells (Some (opened_call caller call (ToCreate new))))
    → IsSoundBut image (behind_act image rest' cpu cells (Some (opened_call caller call (ToCreate new))) coming caller cell Commit)
create_sound image rest rest' cpu cells caller (Create at) new coming cell sound =
    let configs : List CellConfig = configs_of cells in
    let may = sound.call.phase.1 in
    sound_by image rest' (λ i. acted image (rest'.runs i) (Some (opened_call caller (Create at) (ToCreate new))) Commit caller i (cpu i)) (cells ++ (record { config = new; loadable = false }) ∷ []) (configs ++ new ∷ [])
    (opened_call caller (Create at) (telling new.id (pos new.id) (first_recipient new.id cells)))
    (configs_joined cells new)
    (cells_joined image.system configs new sound.cells may.unknown may.clean may.room)
    (owned_lent image configs cpu caller new sound.cells sound.cpus may)
    (open_created image cells cpu caller at new sound.cells sound.cpus sound.call)
create_sound image rest rest' cpu cells caller (Start id) new coming cell sound = absurd sound.call.phase.0
create_sound image rest rest' cpu cells caller (Loadable id) new coming cell sound = absurd sound.call.phase.0
create_sound image rest rest' cpu cells caller (Destroy id) new coming cell sound = absurd sound.call.phase.0
create_sound image rest rest' cpu cells caller (Info kind) new coming cell sound = absurd sound.call.phase.0
create_sound image rest rest' cpu cells caller (State id) new coming cell sound = absurd sound.call.phase.0
create_sound image rest rest' cpu cells caller (CpuInfo i kind) new coming cell sound = absurd sound.call.phase.0
create_sound image rest rest' cpu cells caller CpuOff new coming cell sound = absurd sound.call.phase.0
create_sound image rest rest' cpu cells caller (CpuOn on) new coming cell sound = absurd sound.call.phase.0
create_sound image rest rest' cpu cells caller (Affinity on level) new coming cell sound = absurd sound.call.phase.0
create_sound image rest rest' cpu cells caller Unknown new coming cell sound = absurd sound.call.phase.0

-- a test of two numbers, either way round
turned : (a b : ℕ) → eqb a b ≡ eqb b a
turned a b = same_test (eqb a b) (eqb b a) (λ h. eq-eqb b a (sym (eqb-true a b h))) (λ h. eq-eqb a b (sym (eqb-true b a h)))

-- the Commit of a start and of a set loadable
mark_sound : (image : Image) (rest : Rest) (cpu : ℕ → Cpu) (cells : List Live) (caller id : ℕ) (call : Call) (loadable : Bool) (change : ℕ → Cpu → Cpu) (answer : ℤ)
    → ((x : ℕ) → is_named call x ≡ eqb x id) → ((i : ℕ) (c : Cpu) → (change i c).owner ≡ c.owner) → ((i : ℕ) (c : Cpu) → IsHalted c → IsCalm (change i c))
    → AreSoundCells image.system (configs_of cells) → AreOwned image (configs_of cells) cpu → IsOpen image (configs_of cells) cpu (opened_call caller call ToCommit)
    → any_below (λ k. keeps_commit image call k (cpu k)) 16 ≡ false
    → IsSoundBut image (board rest (λ i. cond (eqb (cpu i).owner id) (change i (cpu i)) (cpu i)) (map (marked id loadable) cells) (Some (opened_call caller call (ToFinish answer))))
mark_sound image rest cpu cells caller id call loadable change answer about kept calm sound owned opens none =
    let same : cell_changed change call cpu ≡ (λ (i : ℕ). cond (eqb (cpu i).owner id) (change i (cpu i)) (cpu i)) =
    same_function (cell_changed change call cpu) (λ (i : ℕ). cond (eqb (cpu i).owner id) (change i (cpu i)) (cpu i)) (λ i. ap (λ (b : Bool). cond b (change i (cpu i)) (cpu i)) (about (cpu i).owner)) in
    let P : (ℕ → Cpu) → Type 0 = λ c. IsSoundBut image (board rest c (map (marked id loadable) cells) (Some (opened_call caller call (ToFinish answer)))) in
    subst P same
    (sound_by image rest (cell_changed change call cpu) (map (marked id loadable) cells) (configs_of cells) (opened_call caller call (ToFinish answer))
    (configs_marked id loadable cells)
    sound
    (owned_changed image (configs_of cells) cpu change call kept owned)
    (open_changed image (configs_of cells) cpu change caller call answer kept calm sound owned opens none))

-- by a start a CPU of the cell runs or is parked
abbrev start_change : (ℕ → Bool) → ℕ → Cpu → Cpu
start_change runs i c = cond (runs i) (restarted c) (parked c)

start_owner : (runs : ℕ → Bool) (i : ℕ) (c : Cpu) → (start_change runs i c).owner ≡ c.owner
start_owner runs i c =
    let same : Cpu → Type 0 = λ x. x.owner ≡ c.owner in
    cond_both (runs i) (restarted c) (parked c) same (λ _. refl) (λ _. refl)

start_calm : (runs : ℕ → Bool) (i : ℕ) (c : Cpu) → IsHalted c → IsCalm (start_change runs i c)
start_calm runs i c h = cond_both (runs i) (restarted c) (parked c) IsCalm (λ _. restarted_calm c h) (λ _. parked_calm c h)

-- the Commit of a call about a cell that lives
commit_sound : (image : Image) (rest rest' : Rest) (cpu : ℕ → Cpu) (cells : List Live) (caller : ℕ) (call : Call) (coming : Option CellConfig) (cell : ℕ) → IsSoundBut image (board rest cpu cells (Some (opened_call caller call ToCommit)))
    → any_below (λ k. keeps_commit image call k (cpu k)) 16 ≡ false → IsSoundBut image (behind_act image rest' cpu cells (Some (opened_call caller call ToCommit)) coming caller cell Commit)
commit_sound image rest rest' cpu cells caller (Create at) coming cell sound none = absurd (both_ways false refl sound.call.phase.2)
commit_sound image rest rest' cpu cells caller (Start id) coming cell sound none =
    mark_sound image rest' cpu cells caller id (Start id) false (start_change rest'.runs) (pos 0) (λ x. turned id x) (start_owner rest'.runs) (start_calm rest'.runs) sound.cells sound.cpus sound.call none
commit_sound image rest rest' cpu cells caller (Loadable id) coming cell sound none =
    mark_sound image rest' cpu cells caller id (Loadable id) true (λ i c. parked c) (pos 0) (λ x. turned id x) (λ i c. refl) (λ i c. parked_calm c) sound.cells sound.cpus sound.call none
commit_sound image rest rest' cpu cells caller (Destroy id) coming cell sound none =
    let configs : List CellConfig = configs_of cells in
    sound_by image rest' (λ i. acted image (rest'.runs i) (Some (opened_call caller (Destroy id) ToCommit)) Commit caller i (cpu i)) (filter (is_other id) cells) (filter (is_other_config id) configs)
    (opened_call caller (Destroy id) (telling id (pos 0) (first_recipient id cells)))
    (configs_others id cells)
    (cells_fewer image.system (is_other_config id) configs sound.cells)
    (owned_returned image configs cpu id sound.cells sound.cpus)
    (open_destroyed image cells cpu caller id sound.cells sound.cpus sound.call none)
commit_sound image rest rest' cpu cells caller (Info kind) coming cell sound none = absurd (both_ways false refl sound.call.phase.2)
commit_sound image rest rest' cpu cells caller (State id) coming cell sound none = absurd (both_ways false refl sound.call.phase.2)
commit_sound image rest rest' cpu cells caller (CpuInfo i kind) coming cell sound none = absurd (both_ways false refl sound.call.phase.2)
commit_sound image rest rest' cpu cells caller CpuOff coming cell sound none = absurd (both_ways false refl sound.call.phase.2)
commit_sound image rest rest' cpu cells caller (CpuOn on) coming cell sound none = absurd (both_ways false refl sound.call.phase.2)
commit_sound image rest rest' cpu cells caller (Affinity on level) coming cell sound none = absurd (both_ways false refl sound.call.phase.2)
commit_sound image rest rest' cpu cells caller Unknown coming cell sound none = absurd (both_ways false refl sound.call.phase.2)

commit_by : (image : Image) (rest rest' : Rest) (cpu : ℕ → Cpu) (cells : List Live) (caller : ℕ) (call : Call) (coming : Option CellConfig) (cell : ℕ) (act : Act) (b : Bool) → IsSoundBut image (board rest cpu cells (Some (opened_call caller call ToCommit)))
    → any_below (λ k. keeps_commit image call k (cpu k)) 16 ≡ b → cond b None (Some Commit) ≡ Some act → IsSoundBut image (behind_act image rest' cpu cells (Some (opened_call caller call ToCommit)) coming caller cell act)
commit_by image rest rest' cpu cells caller call coming cell act true sound none h = absurd (none-some act h)
commit_by image rest rest' cpu cells caller call coming cell act false sound none h =
    let P : Act → Type 0 = λ x. IsSoundBut image (behind_act image rest' cpu cells (Some (opened_call caller call ToCommit)) coming caller cell x) in
    subst P (same_Some Commit act h) (commit_sound image rest rest' cpu cells caller call coming cell sound none)

-- a note was heard
noted_sound : (image : Image) (rest rest' : Rest) (cpu : ℕ → Cpu) (cells : List Live) (caller id about waited : ℕ) (call : Call) (answer : ℤ) (coming : Option CellConfig) (cell : ℕ) (act : Act) (o : Option Heard)
    → IsSoundBut image (board rest cpu cells (Some (opened_call caller call (ToNoted id about answer waited))))
    → option_map (λ (how : Heard). Noted id how) o ≡ Some act
    → IsSoundBut image (behind_act image rest' cpu cells (Some (opened_call caller call (ToNoted id about answer waited))) coming caller cell act)
noted_sound image rest rest' cpu cells caller id about waited call answer coming cell act None sound h = absurd (none-some act h)
noted_sound image rest rest' cpu cells caller id about waited call answer coming cell act (Some how) sound h =
    let P : Act → Type 0 = λ x. IsSoundBut image (behind_act image rest' cpu cells (Some (opened_call caller call (ToNoted id about answer waited))) coming caller cell x) in
    subst P (same_Some (Noted id how) act h)
    (phase_only image rest' cpu cells caller (opened_call caller call (telling about answer (first_recipient about (listed_behind id cells))))
    (record { cells = sound.cells; cpus = sound.cpus; call = open_noted image cells cpu caller id about waited call answer sound.call }))

-- each phase of a call
phase_sound : (image : Image) (rest rest' : Rest) (cpu : ℕ → Cpu) (cells : List Live) (caller : ℕ) (call : Call) (phase : Phase) (idle : Bool) (cell : ℕ) (act : Act) → IsSoundBut image (board rest cpu cells (Some (opened_call caller call phase)))
    → phase_act image (board rest cpu cells (Some (opened_call caller call phase))) idle caller call phase ≡ Some act
    → IsSoundBut image (behind_act image rest' cpu cells (Some (opened_call caller call phase)) (coming_by image (board rest cpu cells (Some (opened_call caller call phase))) call) caller cell act)
phase_sound image rest rest' cpu cells caller call ToDecide idle cell act sound h =
    decide_sound image rest rest' cpu cells caller call cell act (any_below (λ k. keeps_decide image caller k (cpu k)) 16) sound refl h
phase_sound image rest rest' cpu cells caller call (ToSettle waited) idle cell act sound h =
    let f : Facts = board rest cpu cells (Some (opened_call caller call (ToSettle waited))) in
    settle_sound image rest rest' cpu cells caller waited call (coming_by image f call) cell act (settled_of f idle call waited) sound h
phase_sound image rest rest' cpu cells caller call (ToCreate new) idle cell act sound h =
    let f : Facts = board rest cpu cells (Some (opened_call caller call (ToCreate new))) in
    let P : Act → Type 0 = λ x. IsSoundBut image (behind_act image rest' cpu cells (Some (opened_call caller call (ToCreate new))) (coming_by image f call) caller cell x) in
    subst P (same_Some Commit act h) (create_sound image rest rest' cpu cells caller call new (coming_by image f call) cell sound)
phase_sound image rest rest' cpu cells caller call ToCommit idle cell act sound h =
    let f : Facts = board rest cpu cells (Some (opened_call caller call ToCommit)) in
    commit_by image rest rest' cpu cells caller call (coming_by image f call) cell act (any_below (λ k. keeps_commit image call k (cpu k)) 16) sound refl h
phase_sound image rest rest' cpu cells caller call (ToNote id about answer) idle cell act sound h =
    let f : Facts = board rest cpu cells (Some (opened_call caller call (ToNote id about answer))) in
    let P : Act → Type 0 = λ x. IsSoundBut image (behind_act image rest' cpu cells (Some (opened_call caller call (ToNote id about answer))) (coming_by image f call) caller cell x) in
    subst P (same_Some (Note id) act h)
    (phase_only image rest' cpu cells caller (opened_call caller call (ToNoted id about answer 0))
    (record { cells = sound.cells; cpus = sound.cpus; call = open_note image (configs_of cells) cpu caller id about call answer sound.call }))
phase_sound image rest rest' cpu cells caller call (ToNoted id about answer waited) idle cell act sound h =
    let f : Facts = board rest cpu cells (Some (opened_call caller call (ToNoted id about answer waited))) in
    noted_sound image rest rest' cpu cells caller id about waited call answer (coming_by image f call) cell act (heard_of f idle id waited) sound h
phase_sound image rest rest' cpu cells caller call (ToFinish answer) idle cell act sound h =
    let f : Facts = board rest cpu cells (Some (opened_call caller call (ToFinish answer))) in
    let P : Act → Type 0 = λ x. IsSoundBut image (behind_act image rest' cpu cells (Some (opened_call caller call (ToFinish answer))) (coming_by image f call) caller cell x) in
    subst P (same_Some (Finish answer) act h)
    (record { cells = sound.cells; cpus = owned_finished image (configs_of cells) cpu caller sound.cpus; call = calm_finished image (configs_of cells) cpu caller caller call answer sound.call })

-- ---- an entry that is due

call_sound : (image : Image) (rest rest' : Rest) (cpu : ℕ → Cpu) (cells : List Live) (o : OpenCall) (own cell : ℕ) (act : Act) → IsSoundBut image (board rest cpu cells (Some o)) → is_on_board image own ≡ true
    → IsOfCall image (board rest cpu cells (Some o)) o own act → IsSoundBut image (behind_act image rest' cpu cells (Some o) (coming_by image (board rest cpu cells (Some o)) o.call) own cell act)
call_sound image rest rest' cpu cells o own cell act sound on h =
    let f : Facts = board rest cpu cells (Some o) in
    let P : ℕ → Type 0 = λ k. IsSoundBut image (behind_act image rest' cpu cells (Some o) (coming_by image f o.call) k cell act) in
    ⊎_elim
    (λ made. subst P made.0 (phase_sound image rest rest' cpu cells o.caller o.call o.phase (is_idle_but image f o.caller) cell act sound made.1))
    (λ other. state_some image rest rest' cpu cells o (coming_by image f o.call) own cell act sound on other.0 other.1)
    h

due_sound : (image : Image) (rest rest' : Rest) (cpu : ℕ → Cpu) (cells : List Live) (call : Option OpenCall) (own cell : ℕ) (act : Act) → IsSoundBut image (board rest cpu cells call)
    → IsNext image (board rest cpu cells call) (record { cpu = own; cell = cell; act = act })
    → IsSoundBut image (behind_act image rest' cpu cells call (coming_of image (board rest cpu cells call)) own cell act)
due_sound image rest rest' cpu cells None own cell act sound next =
    state_none image rest rest' cpu cells None own cell act sound next.board (state_parts image (board rest cpu cells None) (cpu own) own act next.act)
due_sound image rest rest' cpu cells (Some o) own cell act sound next =
    call_sound image rest rest' cpu cells o own cell act sound next.board (call_parts image (board rest cpu cells (Some o)) o own act sound.call.caller next.act)

but_after : (image : Image) (f : Facts) (entry : Entry) → IsSoundBut image f → due_at image f entry.cpu ≡ Some entry → IsSoundBut image (after image f entry)
unfolding after
but_after image f entry sound due =
    let rest : Rest = record { form = f.form; runs = runs_by_start f; byte = f.byte; endpoints = f.endpoints } in
    let rest' : Rest = record { form = f.form; runs = runs_by_start f; byte = byte_after image f entry; endpoints = endpoints_after image f entry } in
    due_sound image rest rest' f.cpu f.cells f.call entry.cpu entry.cell entry.act sound (next_from_due image f entry due)

but_devices : (image : Image) (f : Facts) → IsSound image f → IsSoundBut image f
but_devices image f sound = record { cells = sound.cells; cpus = sound.cpus; call = sound.call }

and_devices : (image : Image) (f : Facts) → IsSoundBut image f → AreEndpoints image (configs_of f.cells) f.endpoints → IsSound image f
and_devices image f sound endpoints = record { cells = sound.cells; cpus = sound.cpus; call = sound.call; endpoints = endpoints }

-- an entry that is due leaves sound what was sound
pub sound_after : (image : Image) (f : Facts) (entry : Entry) → IsSound image f → due_at image f entry.cpu ≡ Some entry → IsSound image (after image f entry)
unfolding after
sound_after image f entry sound due =
    and_devices image (after image f entry) (but_after image f entry (but_devices image f sound) due) (endpoints_after_holds image f entry sound)

-- at opening
pub sound_start : (image : Image) (form : Form) → IsAdmitted image → IsSound image (start image form)
sound_start image form admitted =
    let sound : AreSoundCells image.system [] = cells_open image.system admitted.system in
    record {
      cells = sound;
      cpus = record { cells = λ config held. let below : held.0 < 0 = held.1 in absurd (omega arith); others = λ i. inl refl };
      call = λ i. record { asked = refl; stopped = refl };
      endpoints = endpoints_open image sound.clean;
    }

sound_from : (image : Image) (f : Facts) (entries : List Entry) → IsSound image f → IsLegalFrom image f entries → IsSound image (fold (after image) f entries)
sound_from image f [] sound legal = sound
sound_from image f (entry ∷ entries) sound legal = sound_from image (after image f entry) entries (sound_after image f entry sound legal.0) legal.1

-- after each legal journal
pub legal_sound : (image : Image) (form : Form) (entries : List Entry) → IsAdmitted image → IsLegal image form entries → IsSound image (facts image form entries)
unfolding IsLegal facts
legal_sound image form entries admitted legal = sound_from image (start image form) entries (sound_start image form admitted) legal
