-- When an entry is due to a CPU of a sound board.
use Rattle.std.proofs.Common.{◌≡◌, ◌≢◌, ℕ, ◌<◌, ◌≤◌, List, ℤ, Bool, true, false, cond, not, ◌&&◌, ◌||◌, eqb, Option, Some, None, is_some, refl, sym, ap, subst, ◌∙◌, inl, inr, ◌⊎◌, ⊎_elim, arith}
use Rattle.std.specs.Prelude.{Contains, find, option_map, option_and_then, nat_le}
use Rattle.std.specs.Option.{option_map_or}
use Rattle.std.proofs.lemmas.Bool.{both_ways, and_parts, and_from, or_left, or_right, or_cases, eqb-true, eq-eqb, ne_eqb, cases_Bool, not-true, not_from_false, false_from_ne_true, le-leb, leb-true, false≢true}
use Rattle.std.proofs.lemmas.Option.{none-some, same_Some}
use Rattle.jh_cellcfg.specs.declared.config.CellConfig.{CellConfig}
use Rattle.jh_cellcfg.specs.declared.live.Live.{Live}
use Rattle.jh_cellcfg.specs.Lives.{has_id}
use Rattle.jh_cellcfg.specs.Cells.{is_passive}
use Rattle.jh_num.specs.Below.{any_below}
use Rattle.jh_num.proofs.Public.{below_at, below_of}
use Rattle.jh_comm.specs.declared.words.TheConstants.{REPLY_REQUEST_APPROVED, REPLY_RECEIVED}
use Rattle.jh_cpu.specs.declared.cpu.Cpu.{Cpu}
use Rattle.jh_cpu.specs.declared.cpu.Mode.TheVariants.{Running}
use Rattle.jh_ivshmem.specs.Links.{pending_of}
use Rattle.jh_call.specs.declared.call.Call.{Call}
use Rattle.jh_call.specs.declared.call.Call.TheVariants.{Start, Loadable, Destroy}
use Rattle.jh_script.specs.declared.image.Image.{Image}
use Rattle.jh_script.specs.declared.op.Op.{Op}
use Rattle.jh_script.specs.declared.op.Op.TheVariants.{Read as ReadOp, Write as WriteOp, Fetch as FetchOp, Await as AwaitOp, Irq as IrqOp, Hvc as HvcOp}
use Rattle.jh_script.specs.Operations.{IsWellFormed}
use Rattle.jh_history.specs.declared.access.Access.TheVariants.{Read as ToRead}
use Rattle.jh_history.specs.declared.call.OpenCall.{OpenCall}
use Rattle.jh_history.specs.declared.call.Phase.{Phase}
use Rattle.jh_history.specs.declared.call.Phase.TheVariants.{ToDecide, ToSettle, ToCommit, ToNoted}
use Rattle.jh_history.specs.declared.entry.Entry.{Entry}
use Rattle.jh_history.specs.declared.entry.Settled.{Settled}
use Rattle.jh_history.specs.declared.entry.Settled.TheVariants.{Agreed, Denied, Timeout}
use Rattle.jh_history.specs.declared.entry.Heard.{Heard}
use Rattle.jh_history.specs.declared.entry.Heard.TheVariants.{Received, Down, Other, Timeout as Unheard}
use Rattle.jh_history.specs.declared.entry.Act.{Act}
use Rattle.jh_history.specs.declared.entry.Act.TheVariants.{Await, Irq, Stop, Decide, Settle, Commit, Noted}
use Rattle.jh_history.specs.Facts.{Facts}
use Rattle.jh_history.specs.Lives.{is_on_board, live_in, op_at, cell_in}
use Rattle.jh_history.specs.Calls.{is_named}
use Rattle.jh_history.specs.Cpus.{is_running}
use Rattle.jh_history.specs.Pages.{named_cell}
use Rattle.jh_history.specs.Wants.{goes_on, pending_op}
use Rattle.jh_history.specs.Phases.{phase_act, keeps_decide, keeps_commit, decision, is_down, is_over, settled_by, settled_of, heard_by, heard_of, state_word, reply_word}
use Rattle.jh_shape.specs.Lives.{configs_of}
use Rattle.jh_history.specs.Due.{due_at, entry_of, next_act, state_act, act_of, await_of, got_by, caller_act, is_idle_but}
use Rattle.jh_history.specs.Admitted.{IsAdmitted}
use Rattle.jh_history.specs.Sound.{AreSoundCells, IsHalted, IsAsked, IsHalting, IsCaller, IsOpen, IsSound, IsCalm}
use Rattle.jh_laws.specs.Ends.{IsAnswered, IsReadBy, IsGotBy}
use Rattle.jh_laws.specs.Ready.{IsDueIn, NothingElseIsDue, IsWaitedForNoMore, RootHasStopped, IsPhaseDue, IsReadyCaller, IsReadyProgram, IsReadyAt}
use Rattle.jh_history.proofs.Public.{goes_calm, goes_running, running_mode, root_unnamed, board_few, halted_to_decide, halted_to_commit, named_board, IsOfProgram, state_parts, call_open, due_at_absent, is_some_entry}
use Rattle.jh_laws.proofs.HeldLemmas.{found_by_id, live_found}
use Rattle.jh_laws.proofs.PendingLemmas.{next_some_holds, next_is}
use Rattle.jh_laws.proofs.EndsLemmas.{got_of_cell, one_value, width_some, ops_well_formed}

-- ---- what an operation comes to

await_due : (image : Image) (f : Facts) (id width at value : ℕ) (o : Option ℕ) → IsGotBy image f id ToRead at width o → is_some (await_of width at value o) ≡ true → IsAnswered image f id ToRead at width → IsReadBy image f id ToRead at width value
await_due image f id width at value None got due answered = absurd (false≢true (got.answered.1 answered))
await_due image f id width at value (Some n) got due answered =
    ⊎_elim
    (λ (same : eqb n value ≡ true). let P : ℕ → Type 0 = IsReadBy image f id ToRead at width in subst P (eqb-true n value same) (got.reads n refl))
    (λ (apart : eqb n value ≡ false). absurd (both_ways (is_some (await_of width at value (Some n))) (ap (λ (b : Bool). is_some (cond b (Some (Await width at value true)) None)) apart) due))
    (cases_Bool (eqb n value))

due_await : (image : Image) (f : Facts) (id width at value : ℕ) (o : Option ℕ) → IsSound image f → IsGotBy image f id ToRead at width o
    → (IsAnswered image f id ToRead at width → IsReadBy image f id ToRead at width value) → is_some (await_of width at value o) ≡ true
due_await image f id width at value None sound got due = refl
due_await image f id width at value (Some n) sound got due =
    let answered = got.answered.0 refl in
    let same : n ≡ value = one_value image f id ToRead at width n value sound answered (got.reads n refl) (due answered) in
    ap (λ (b : Bool). is_some (cond b (Some (Await width at value true)) None)) (eq-eqb n value same)

irq_due : (image : Image) (f : Facts) (id : ℕ) (o : Option (ℕ × ℕ)) → IsSound image f → pending_of id f.endpoints ≡ o → is_some (option_map (λ (next : ℕ × ℕ). Irq next.0 next.1) o) ≡ true → IsDueIn image f id IrqOp
irq_due image f id None sound is due = absurd (false≢true due)
irq_due image f id (Some next) sound is due = (next.0, next.1, (next_is image f id next.0 next.1 sound is).pending)

op_due : (image : Image) (f : Facts) (id : ℕ) (op : Op) → IsSound image f → IsWellFormed op → is_some (act_of image f id op) ≡ true → IsDueIn image f id op
op_due image f id (ReadOp width at) sound plain due = tt
op_due image f id (WriteOp width at value) sound plain due = tt
op_due image f id (FetchOp at) sound plain due = tt
op_due image f id (AwaitOp width at value) sound plain due = await_due image f id width at value (got_by image f id ToRead at width) (got_of_cell image f id ToRead at width sound (width_some width plain.0)) due
op_due image f id IrqOp sound plain due = irq_due image f id (pending_of id f.endpoints) sound refl due
op_due image f id (HvcOp code a b) sound plain due = tt

due_op : (image : Image) (f : Facts) (id : ℕ) (op : Op) → IsSound image f → IsWellFormed op → IsDueIn image f id op → is_some (act_of image f id op) ≡ true
due_op image f id (ReadOp width at) sound plain due = refl
due_op image f id (WriteOp width at value) sound plain due = refl
due_op image f id (FetchOp at) sound plain due = refl
due_op image f id (AwaitOp width at value) sound plain due = due_await image f id width at value (got_by image f id ToRead at width) sound (got_of_cell image f id ToRead at width sound (width_some width plain.0)) due
due_op image f id IrqOp sound plain due = (let next = next_some_holds f id due.0 due.1 due.2 in ap (λ (o : Option (ℕ × ℕ)). is_some (option_map (λ (n : ℕ × ℕ). Irq n.0 n.1) o)) next.1)
due_op image f id (HvcOp code a b) sound plain due = refl

-- ---- what is due, by the act

due_on : (image : Image) (f : Facts) (cpu : ℕ) → is_on_board image cpu ≡ true → is_some (due_at image f cpu) ≡ is_some (next_act image f (f.cpu cpu) cpu)
unfolding due_at
due_on image f cpu on =
    let here : cond (is_on_board image cpu) (entry_of image f (f.cpu cpu) cpu) None ≡ entry_of image f (f.cpu cpu) cpu = rw on refl in
    ap (λ (o : Option Entry). is_some o) here ∙ is_some_entry cpu (f.cpu cpu).owner (next_act image f (f.cpu cpu) cpu)

-- of a CPU without an open call
next_none : (image : Image) (f : Facts) (cpu : ℕ) → f.call ≡ None → next_act image f (f.cpu cpu) cpu ≡ state_act image f (f.cpu cpu) cpu
next_none image f cpu is = ap (λ (c : Option OpenCall). option_map_or (caller_act image f (f.cpu cpu)) (option_and_then (λ (o : OpenCall). cond (eqb o.caller cpu) (Some o) None) c) (state_act image f (f.cpu cpu) cpu)) is

next_some : (image : Image) (f : Facts) (cpu : ℕ) (o : OpenCall) (b : Bool) → f.call ≡ Some o → eqb o.caller cpu ≡ b → next_act image f (f.cpu cpu) cpu ≡ option_map_or (caller_act image f (f.cpu cpu)) (cond b (Some o) None) (state_act image f (f.cpu cpu) cpu)
next_some image f cpu o b is own =
    ap (λ (c : Option OpenCall). option_map_or (caller_act image f (f.cpu cpu)) (option_and_then (λ (p : OpenCall). cond (eqb p.caller cpu) (Some p) None) c) (state_act image f (f.cpu cpu) cpu)) is
    ∙ ap (λ (x : Bool). option_map_or (caller_act image f (f.cpu cpu)) (cond x (Some o) None) (state_act image f (f.cpu cpu) cpu)) own

some_of : {X : Type 0} (o : Option X) → is_some o ≡ true → (x : X) × (o ≡ Some x)
some_of None h = absurd (false≢true h)
some_of (Some x) h = (x, refl)

well_formed_at : (image : Image) (f : Facts) (cpu : ℕ) (op : Op) → IsAdmitted image → op_at image f (f.cpu cpu) cpu ≡ Some op → IsWellFormed op
well_formed_at image f cpu op admitted at = ops_well_formed image cpu (cell_in image f.cells (f.cpu cpu).owner) (f.cpu cpu).position op admitted at

-- a calm CPU that runs goes on with its program
calm_goes : (cpu : Cpu) → IsCalm cpu → cpu.mode ≡ Running → goes_on cpu ≡ true
calm_goes cpu calm running = rw (calm.asked, calm.stopped, running) refl

-- what the state alone makes due
state_ready : (image : Image) (f : Facts) (cpu : ℕ) → IsAdmitted image → IsSound image f → ((o : OpenCall) → f.call ≡ Some o → o.caller ≢ cpu) → is_some (state_act image f (f.cpu cpu) cpu) ≡ true
    → ((f.cpu cpu).asked ≡ true) ⊎ IsReadyProgram image f cpu
state_ready image f cpu admitted sound none due =
    let act = some_of (state_act image f (f.cpu cpu) cpu) due in
    ⊎_elim
    (λ stops. inl stops.0)
    (λ (program : IsOfProgram image f (f.cpu cpu) cpu act.0).
    inr (record {
      op = program.op;
      at = record {
        none = none;
        running = running_mode (f.cpu cpu) (goes_running (f.cpu cpu) program.goes);
        calm = goes_calm (f.cpu cpu) program.goes;
        at = program.at;
      };
      due = op_due image f (f.cpu cpu).owner program.op sound (well_formed_at image f cpu program.op admitted program.at) (ap (λ (o : Option Act). is_some o) program.is);
    }))
    (state_parts image f (f.cpu cpu) cpu act.0 act.1)

asked_state : (image : Image) (f : Facts) (cpu : ℕ) → (f.cpu cpu).asked ≡ true → is_some (state_act image f (f.cpu cpu) cpu) ≡ true
asked_state image f cpu asked = ap (λ (b : Bool). is_some (cond b (Some Stop) (option_and_then (act_of image f (f.cpu cpu).owner) (pending_op image f (f.cpu cpu) cpu)))) asked

program_state : (image : Image) (f : Facts) (cpu : ℕ) → IsAdmitted image → IsSound image f → IsReadyProgram image f cpu → is_some (state_act image f (f.cpu cpu) cpu) ≡ true
program_state image f cpu admitted sound ready =
    let state : Cpu = f.cpu cpu in
    let goes : goes_on state ≡ true = calm_goes state ready.at.calm ready.at.running in
    ap (λ (b : Bool). is_some (cond b (Some Stop) (option_and_then (act_of image f state.owner) (pending_op image f state cpu)))) ready.at.calm.asked
    ∙ ap (λ (b : Bool). is_some (option_and_then (act_of image f state.owner) (cond b (op_at image f state cpu) None))) goes
    ∙ ap (λ (o : Option Op). is_some (option_and_then (act_of image f state.owner) o)) ready.at.at
    ∙ due_op image f state.owner ready.op sound (well_formed_at image f cpu ready.op admitted ready.at.at) ready.due

-- ---- nothing due to any other

other_state : (image : Image) (f : Facts) (o : OpenCall) (i : ℕ) → f.call ≡ Some o → is_on_board image i ≡ true → i ≢ o.caller → is_some (due_at image f i) ≡ is_some (state_act image f (f.cpu i) i)
other_state image f o i is on other =
    due_on image f i on ∙ ap (λ (a : Option Act). is_some a) (next_some image f i o false is (ne_eqb o.caller i (λ e. other (sym e))))

none_of : {X : Type 0} (o : Option X) → is_some o ≡ false → o ≡ None
none_of None h = refl
none_of (Some x) h = absurd (false≢true (sym h))

abbrev waits_for : Image → Facts → ℕ → ℕ → Bool
waits_for image f caller i = is_on_board image i && not (eqb i caller) && is_some (state_act image f (f.cpu i) i)

pub idle_nothing : (image : Image) (f : Facts) (o : OpenCall) → AreSoundCells image.system (configs_of f.cells) → f.call ≡ Some o → is_idle_but image f o.caller ≡ true → NothingElseIsDue image f o.caller
idle_nothing image f o sound is idle cpu other =
    ⊎_elim
    (λ (on : is_on_board image cpu ≡ true).
    none_of (due_at image f cpu)
    (other_state image f o cpu is on other
    ∙ false_from_ne_true (is_some (state_act image f (f.cpu cpu) cpu))
    (λ some.
    let fails : any_below (waits_for image f o.caller) 16 ≡ false = not-true (any_below (waits_for image f o.caller) 16) idle in
    let waits : waits_for image f o.caller cpu ≡ true =
    and_from (is_on_board image cpu && not (eqb cpu o.caller)) (is_some (state_act image f (f.cpu cpu) cpu)) (and_from (is_on_board image cpu) (not (eqb cpu o.caller)) on (not_from_false (eqb cpu o.caller) (ne_eqb cpu o.caller other))) some in
    both_ways (any_below (waits_for image f o.caller) 16) fails (below_at (waits_for image f o.caller) 16 cpu (board_few image (configs_of f.cells) sound.clean cpu on) waits))))
    (λ (off : is_on_board image cpu ≡ false). due_at_absent image f cpu off)
    (cases_Bool (is_on_board image cpu))

nothing_idle : (image : Image) (f : Facts) (o : OpenCall) → f.call ≡ Some o → NothingElseIsDue image f o.caller → is_idle_but image f o.caller ≡ true
nothing_idle image f o is nothing =
    not_from_false (any_below (waits_for image f o.caller) 16)
    (false_from_ne_true (any_below (waits_for image f o.caller) 16)
    (λ some.
    let found = below_of (waits_for image f o.caller) 16 some in
    let i : ℕ = found.0 in
    let parts = and_parts (is_on_board image i && not (eqb i o.caller)) (is_some (state_act image f (f.cpu i) i)) found.2 in
    let first = and_parts (is_on_board image i) (not (eqb i o.caller)) parts.0 in
    let other : i ≢ o.caller = λ e. both_ways (eqb i o.caller) (not-true (eqb i o.caller) first.1) (eq-eqb i o.caller e) in
    both_ways (is_some (due_at image f i)) (ap (λ (x : Option Entry). is_some x) (nothing i other)) (other_state image f o i is first.0 other ∙ parts.1)))

-- ---- phases

some_if : {X : Type 0} (b : Bool) (x : X) → is_some (cond b None (Some x)) ≡ true → b ≡ false
some_if true x h = absurd (false≢true h)
some_if false x h = refl

if_some : {X : Type 0} (b : Bool) (x : X) → b ≡ false → is_some (cond b None (Some x)) ≡ true
if_some b x h = ap (λ (c : Bool). is_some (cond c None (Some x))) h

stays_halted : (cpu : Cpu) → IsHalting cpu → cpu.asked ≡ false → IsHalted cpu
stays_halted cpu h fails = ⊎_elim (λ (asked : IsAsked cpu). absurd (both_ways cpu.asked fails asked.asked)) (λ (halted : IsHalted cpu). halted) h

decide_due : (image : Image) (f : Facts) (o : OpenCall) → AreSoundCells image.system (configs_of f.cells)
    → ((i : ℕ) → is_on_board image i ≡ true → i ≢ o.caller → (f.cpu i).owner ≡ image.system.root.id → IsHalting (f.cpu i))
    → any_below (λ i. keeps_decide image o.caller i (f.cpu i)) 16 ≡ false → RootHasStopped image f o.caller
decide_due image f o sound come none i on other root = (halted_to_decide image o.caller i f.cpu (board_few image (configs_of f.cells) sound.clean i on) none on other root (come i on other root)).asked

-- a CPU that a Decide waits for: another one of root's, that runs and hasn't stopped
pub record KeepsDecide (image : Image) (f : Facts) (caller i : ℕ) : Type 0 where
  pub on_board : is_on_board image i ≡ true
  pub other : i ≢ caller
  pub of_root : (f.cpu i).owner ≡ image.system.root.id
  pub runs : is_running (f.cpu i).mode ≡ true
  pub goes_on : (f.cpu i).stopped ≡ false

pub keeps_a_decide : (image : Image) (f : Facts) (caller : ℕ) → any_below (λ i. keeps_decide image caller i (f.cpu i)) 16 ≡ true → (i : ℕ) × KeepsDecide image f caller i
keeps_a_decide image f caller some =
    let found = below_of (λ i. keeps_decide image caller i (f.cpu i)) 16 some in
    let i : ℕ = found.0 in
    let cpu : Cpu = f.cpu i in
    let root : ℕ = image.system.root.id in
    let a = and_parts (is_on_board image i && not (eqb i caller) && eqb cpu.owner root && is_running cpu.mode) (not cpu.stopped) found.2 in
    let b = and_parts (is_on_board image i && not (eqb i caller) && eqb cpu.owner root) (is_running cpu.mode) a.0 in
    let c = and_parts (is_on_board image i && not (eqb i caller)) (eqb cpu.owner root) b.0 in
    let d = and_parts (is_on_board image i) (not (eqb i caller)) c.0 in (
      i,
      record {
        on_board = d.0;
        other = λ e. both_ways (eqb i caller) (not-true (eqb i caller) d.1) (eq-eqb i caller e);
        of_root = eqb-true cpu.owner root c.1;
        runs = b.1;
        goes_on = not-true cpu.stopped a.1;
      },
    )

due_decide : (image : Image) (f : Facts) (o : OpenCall)
    → ((i : ℕ) → is_on_board image i ≡ true → i ≢ o.caller → (f.cpu i).owner ≡ image.system.root.id → IsHalting (f.cpu i))
    → RootHasStopped image f o.caller → any_below (λ i. keeps_decide image o.caller i (f.cpu i)) 16 ≡ false
due_decide image f o come stopped =
    false_from_ne_true (any_below (λ i. keeps_decide image o.caller i (f.cpu i)) 16)
    (λ some.
    let found = keeps_a_decide image f o.caller some in
    let i : ℕ = found.0 in
    let k = found.1 in
    let cpu : Cpu = f.cpu i in
    let halted = stays_halted cpu (come i k.on_board k.other k.of_root) (stopped i k.on_board k.other k.of_root) in
    both_ways cpu.stopped k.goes_on (halted.stopped ∙ k.runs))

commit_due : (image : Image) (f : Facts) (caller : ℕ) (call : Call) → AreSoundCells image.system (configs_of f.cells) → IsSound image f → IsOpen image (configs_of f.cells) f.cpu (record { caller = caller; call = call; phase = ToCommit })
    → any_below (λ i. keeps_commit image call i (f.cpu i)) 16 ≡ false → (i : ℕ) → is_named call (f.cpu i).owner ≡ true → (f.cpu i).asked ≡ false
commit_due image f caller call cells sound opens none i named =
    let on = named_board image (configs_of f.cells) f.cpu call i sound.cpus opens.phase named in
    let unnamed = root_unnamed image.system (configs_of f.cells) call cells opens.phase in
    let apart : (f.cpu i).owner ≢ image.system.root.id = λ e. both_ways (is_named call (f.cpu i).owner) (ap (is_named call) e ∙ unnamed) named in
    (halted_to_commit image call i f.cpu (board_few image (configs_of f.cells) cells.clean i on) none on named ((opens.cells i apart).0 named)).asked

-- a CPU that a Commit waits for: one of the call's cell, that runs and hasn't stopped
pub record KeepsCommit (image : Image) (f : Facts) (call : Call) (i : ℕ) : Type 0 where
  pub on_board : is_on_board image i ≡ true
  pub named : is_named call (f.cpu i).owner ≡ true
  pub runs : is_running (f.cpu i).mode ≡ true
  pub goes_on : (f.cpu i).stopped ≡ false

pub keeps_a_commit : (image : Image) (f : Facts) (call : Call) → any_below (λ i. keeps_commit image call i (f.cpu i)) 16 ≡ true → (i : ℕ) × KeepsCommit image f call i
keeps_a_commit image f call some =
    let found = below_of (λ i. keeps_commit image call i (f.cpu i)) 16 some in
    let i : ℕ = found.0 in
    let cpu : Cpu = f.cpu i in
    let a = and_parts (is_on_board image i && is_named call cpu.owner && is_running cpu.mode) (not cpu.stopped) found.2 in
    let b = and_parts (is_on_board image i && is_named call cpu.owner) (is_running cpu.mode) a.0 in
    let c = and_parts (is_on_board image i) (is_named call cpu.owner) b.0 in
    (i, record { on_board = c.0; named = c.1; runs = b.1; goes_on = not-true cpu.stopped a.1 })

due_commit : (image : Image) (f : Facts) (caller : ℕ) (call : Call) → AreSoundCells image.system (configs_of f.cells) → IsOpen image (configs_of f.cells) f.cpu (record { caller = caller; call = call; phase = ToCommit })
    → ((i : ℕ) → is_named call (f.cpu i).owner ≡ true → (f.cpu i).asked ≡ false) → any_below (λ i. keeps_commit image call i (f.cpu i)) 16 ≡ false
due_commit image f caller call cells opens stopped =
    false_from_ne_true (any_below (λ i. keeps_commit image call i (f.cpu i)) 16)
    (λ some.
    let found = keeps_a_commit image f call some in
    let i : ℕ = found.0 in
    let k = found.1 in
    let cpu : Cpu = f.cpu i in
    let unnamed = root_unnamed image.system (configs_of f.cells) call cells opens.phase in
    let apart : cpu.owner ≢ image.system.root.id = λ e. both_ways (is_named call cpu.owner) (ap (is_named call) e ∙ unnamed) k.named in
    let halted = stays_halted cpu ((opens.cells i apart).0 k.named) (stopped i k.named) in
    both_ways cpu.stopped k.goes_on (halted.stopped ∙ k.runs))

-- ---- answers of cells

some_else : {X : Type 0} (b : Bool) (x : X) (o : Option X) → is_some (cond b (Some x) o) ≡ true → (b ≡ true) ⊎ (is_some o ≡ true)
some_else true x o h = inl refl
some_else false x o h = inr h

some_first : {X : Type 0} (b : Bool) (x : X) (o : Option X) → b ≡ true → is_some (cond b (Some x) o) ≡ true
some_first b x o h = ap (λ (c : Bool). is_some (cond c (Some x) o)) h

pub some_later : {X : Type 0} (b : Bool) (x : X) (o : Option X) → is_some o ≡ true → is_some (cond b (Some x) o) ≡ true
some_later true x o h = refl
some_later false x o h = h

over_if : (over : Bool) (how : Settled) → is_some (cond over (Some how) None) ≡ true → over ≡ true
over_if true how h = refl
over_if false how h = absurd (false≢true h)

-- there is a reply, or the time is over
replied : (reply approved : ℕ) (over : Bool) → 0 < approved → (eqb reply approved ≡ true) ⊎ ((not (eqb reply 0) ≡ true) ⊎ (over ≡ true)) → (reply ≢ 0) ⊎ (over ≡ true)
replied reply approved over some h =
    ⊎_elim
    (λ (yes : eqb reply approved ≡ true). inl (λ e. let same : reply ≡ approved = eqb-true reply approved yes in omega arith))
    (λ rest. ⊎_elim (λ (other : not (eqb reply 0) ≡ true). inl (λ e. both_ways (eqb reply 0) (not-true (eqb reply 0) other) (eq-eqb reply 0 e))) (λ (is : over ≡ true). inr is) rest)
    h

pub over_parts : (timeout waited : ℕ) (idle : Bool) → is_over timeout waited idle ≡ true → ((timeout ≢ 0) × (timeout ≤ waited)) ⊎ (idle ≡ true)
over_parts timeout waited idle h =
    ⊎_elim
    (λ (first : (not (eqb timeout 0) && nat_le timeout waited) ≡ true).
    let parts = and_parts (not (eqb timeout 0)) (nat_le timeout waited) first in
    inl (λ e. both_ways (eqb timeout 0) (not-true (eqb timeout 0) parts.0) (eq-eqb timeout 0 e), leb-true timeout waited parts.1))
    (λ (is : idle ≡ true). inr is)
    (or_cases (not (eqb timeout 0) && nat_le timeout waited) idle h)

over_from : (timeout waited : ℕ) (idle : Bool) → ((timeout ≢ 0) × (timeout ≤ waited)) ⊎ (idle ≡ true) → is_over timeout waited idle ≡ true
over_from timeout waited idle h =
    ⊎_elim
    (λ time. or_left (not (eqb timeout 0) && nat_le timeout waited) idle (and_from (not (eqb timeout 0)) (nat_le timeout waited) (not_from_false (eqb timeout 0) (ne_eqb timeout 0 time.0)) (le-leb timeout waited time.1)))
    (λ is. or_right (not (eqb timeout 0) && nat_le timeout waited) idle is)
    h

-- what an answer tells of the cell
heard_from : (image : Image) (f : Facts) (o : OpenCall) (config : CellConfig) (waited : ℕ) → AreSoundCells image.system (configs_of f.cells) → f.call ≡ Some o
    → (is_down (state_word f config.id) ≡ true) ⊎ ((reply_word f config.id ≢ 0) ⊎ (is_over config.msg_reply_timeout waited (is_idle_but image f o.caller) ≡ true)) → IsWaitedForNoMore image f o.caller config waited
heard_from image f o config waited sound is h =
    ⊎_elim
    (λ down. inl down)
    (λ rest.
    ⊎_elim
    (λ reply. inr (inl reply))
    (λ over.
    ⊎_elim
    (λ time. inr (inr (inl time)))
    (λ idle. inr (inr (inr (idle_nothing image f o sound is idle))))
    (over_parts config.msg_reply_timeout waited (is_idle_but image f o.caller) over))
    rest)
    h

from_heard : (image : Image) (f : Facts) (o : OpenCall) (config : CellConfig) (waited : ℕ) → f.call ≡ Some o → IsWaitedForNoMore image f o.caller config waited
    → (is_down (state_word f config.id) ≡ true) ⊎ ((reply_word f config.id ≢ 0) ⊎ (is_over config.msg_reply_timeout waited (is_idle_but image f o.caller) ≡ true))
from_heard image f o config waited is h =
    let idle : Bool = is_idle_but image f o.caller in
    ⊎_elim
    (λ down. inl down)
    (λ rest.
    ⊎_elim
    (λ reply. inr (inl reply))
    (λ more.
    ⊎_elim
    (λ time. inr (inr (over_from config.msg_reply_timeout waited idle (inl time))))
    (λ nothing. inr (inr (over_from config.msg_reply_timeout waited idle (inr (nothing_idle image f o is nothing)))))
    more)
    rest)
    h

settled_tells : (passive : Bool) (state reply : ℕ) (over : Bool) → is_some (settled_by passive state reply over) ≡ true → (passive ≡ true) ⊎ ((is_down state ≡ true) ⊎ ((reply ≢ 0) ⊎ (over ≡ true)))
settled_tells passive state reply over h =
    let last : Option Settled = cond over (Some Timeout) None in
    let third : Option Settled = cond (not (eqb reply 0)) (Some Denied) last in
    let second : Option Settled = cond (eqb reply REPLY_REQUEST_APPROVED) (Some Agreed) third in
    ⊎_elim
    (λ (first : (passive || is_down state) ≡ true). ⊎_elim (λ yes. inl yes) (λ down. inr (inl down)) (or_cases passive (is_down state) first))
    (λ rest.
    inr (inr (replied reply REPLY_REQUEST_APPROVED over (omega arith)
    (⊎_elim
    (λ (yes : eqb reply REPLY_REQUEST_APPROVED ≡ true). inl yes)
    (λ more. inr (⊎_elim (λ (other : not (eqb reply 0) ≡ true). inl other) (λ end. inr (over_if over Timeout end)) (some_else (not (eqb reply 0)) Denied last more)))
    (some_else (eqb reply REPLY_REQUEST_APPROVED) Agreed third rest)))))
    (some_else (passive || is_down state) Agreed second h)

tells_settled : (passive : Bool) (state reply : ℕ) (over : Bool) → (passive ≡ true) ⊎ ((is_down state ≡ true) ⊎ ((reply ≢ 0) ⊎ (over ≡ true))) → is_some (settled_by passive state reply over) ≡ true
tells_settled passive state reply over h =
    let last : Option Settled = cond over (Some Timeout) None in
    let third : Option Settled = cond (not (eqb reply 0)) (Some Denied) last in
    let second : Option Settled = cond (eqb reply REPLY_REQUEST_APPROVED) (Some Agreed) third in
    ⊎_elim
    (λ yes. some_first (passive || is_down state) Agreed second (or_left passive (is_down state) yes))
    (λ rest.
    ⊎_elim
    (λ down. some_first (passive || is_down state) Agreed second (or_right passive (is_down state) down))
    (λ more.
    some_later (passive || is_down state) Agreed second (some_later (eqb reply REPLY_REQUEST_APPROVED) Agreed third
    (⊎_elim
    (λ other. some_first (not (eqb reply 0)) Denied last (not_from_false (eqb reply 0) (ne_eqb reply 0 other)))
    (λ is. some_later (not (eqb reply 0)) Denied last (some_first over Timeout None is))
    more)))
    rest)
    h

heard_if : (over : Bool) (how : Heard) → is_some (cond over (Some how) None) ≡ true → over ≡ true
heard_if true how h = refl
heard_if false how h = absurd (false≢true h)

heard_tells : (state reply : ℕ) (over : Bool) → is_some (heard_by state reply over) ≡ true → (is_down state ≡ true) ⊎ ((reply ≢ 0) ⊎ (over ≡ true))
heard_tells state reply over h =
    let last : Option Heard = cond over (Some Unheard) None in
    let third : Option Heard = cond (not (eqb reply 0)) (Some Other) last in
    let second : Option Heard = cond (eqb reply REPLY_RECEIVED) (Some Received) third in
    ⊎_elim
    (λ (down : is_down state ≡ true). inl down)
    (λ rest.
    inr (replied reply REPLY_RECEIVED over (omega arith)
    (⊎_elim
    (λ (yes : eqb reply REPLY_RECEIVED ≡ true). inl yes)
    (λ more. inr (⊎_elim (λ (other : not (eqb reply 0) ≡ true). inl other) (λ end. inr (heard_if over Unheard end)) (some_else (not (eqb reply 0)) Other last more)))
    (some_else (eqb reply REPLY_RECEIVED) Received third rest))))
    (some_else (is_down state) Down second h)

tells_heard : (state reply : ℕ) (over : Bool) → (is_down state ≡ true) ⊎ ((reply ≢ 0) ⊎ (over ≡ true)) → is_some (heard_by state reply over) ≡ true
tells_heard state reply over h =
    let last : Option Heard = cond over (Some Unheard) None in
    let third : Option Heard = cond (not (eqb reply 0)) (Some Other) last in
    let second : Option Heard = cond (eqb reply REPLY_RECEIVED) (Some Received) third in
    ⊎_elim
    (λ down. some_first (is_down state) Down second down)
    (λ more.
    some_later (is_down state) Down second (some_later (eqb reply REPLY_RECEIVED) Received third
    (⊎_elim
    (λ other. some_first (not (eqb reply 0)) Other last (not_from_false (eqb reply 0) (ne_eqb reply 0 other)))
    (λ is. some_later (not (eqb reply 0)) Other last (some_first over Unheard None is))
    more)))
    h

pub named_of : (cells : List Live) (call : Call) (config : CellConfig) → named_cell cells call ≡ Some config → Contains (configs_of cells) config × (is_named call config.id ≡ true)
named_of cells (Start id) config h = let live = live_found cells id (find (has_id id) cells) config refl h in (live.0, eq-eqb id config.id (sym live.1))
named_of cells (Loadable id) config h = let live = live_found cells id (find (has_id id) cells) config refl h in (live.0, eq-eqb id config.id (sym live.1))
named_of cells (Destroy id) config h = let live = live_found cells id (find (has_id id) cells) config refl h in (live.0, eq-eqb id config.id (sym live.1))
named_of cells _ config h = absurd (none-some config h)

pub live_by_id : (image : Image) (cells : List Live) (config : CellConfig) (id : ℕ) → AreSoundCells image.system (configs_of cells) → Contains (configs_of cells) config → config.id ≡ id → live_in cells id ≡ Some config
live_by_id image cells config id sound held is = let P : ℕ → Type 0 = λ k. live_in cells k ≡ Some config in subst P is (found_by_id image cells config sound held)

pub of_named : (image : Image) (cells : List Live) (call : Call) (config : CellConfig) → AreSoundCells image.system (configs_of cells) → Contains (configs_of cells) config → is_named call config.id ≡ true → named_cell cells call ≡ Some config
of_named image cells (Start id) config sound held named = live_by_id image cells config id sound held (sym (eqb-true id config.id named))
of_named image cells (Loadable id) config sound held named = live_by_id image cells config id sound held (sym (eqb-true id config.id named))
of_named image cells (Destroy id) config sound held named = live_by_id image cells config id sound held (sym (eqb-true id config.id named))
of_named image cells _ config sound held named = absurd (false≢true named)

some_map : {X Y : Type 0} (g : X → Y) (o : Option X) → is_some (option_map g o) ≡ is_some o
some_map g None = refl
some_map g (Some x) = refl

pub some_then : {X Y : Type 0} (g : X → Option Y) (o : Option X) → is_some (option_and_then g o) ≡ true → (x : X) × (o ≡ Some x) × (is_some (g x) ≡ true)
some_then g None h = absurd (false≢true h)
some_then g (Some x) h = (x, refl, h)

abbrev pub settled_with : Facts → Bool → ℕ → CellConfig → Option Settled
settled_with f idle waited c = settled_by (is_passive c) (state_word f c.id) (reply_word f c.id) (is_over c.msg_reply_timeout waited idle)

abbrev pub heard_with : Facts → Bool → ℕ → ℕ → CellConfig → Option Heard
heard_with f idle id waited c = heard_by (state_word f id) (reply_word f id) (is_over c.msg_reply_timeout waited idle)

settle_due : (image : Image) (f : Facts) (o : OpenCall) (waited : ℕ) → AreSoundCells image.system (configs_of f.cells) → f.call ≡ Some o → is_some (settled_of f (is_idle_but image f o.caller) o.call waited) ≡ true → IsPhaseDue image f o (ToSettle waited)
settle_due image f o waited sound is h =
    let found = some_then (settled_with f (is_idle_but image f o.caller) waited) (named_cell f.cells o.call) h in
    let c : CellConfig = found.0 in
    let live = named_of f.cells o.call c found.1 in (
      c,
      live.0,
      live.1,
      ⊎_elim (λ yes. inl yes) (λ rest. inr (heard_from image f o c waited sound is rest))
          (settled_tells (is_passive c) (state_word f c.id) (reply_word f c.id) (is_over c.msg_reply_timeout waited (is_idle_but image f o.caller)) found.2),
    )

due_settle : (image : Image) (f : Facts) (o : OpenCall) (waited : ℕ) → AreSoundCells image.system (configs_of f.cells) → f.call ≡ Some o → IsPhaseDue image f o (ToSettle waited) → is_some (settled_of f (is_idle_but image f o.caller) o.call waited) ≡ true
due_settle image f o waited sound is h =
    let c : CellConfig = h.0 in
    let idle : Bool = is_idle_but image f o.caller in
    ap (λ (n : Option CellConfig). is_some (option_and_then (settled_with f idle waited) n)) (of_named image f.cells o.call c sound h.1 h.2)
    ∙ tells_settled (is_passive c) (state_word f c.id) (reply_word f c.id) (is_over c.msg_reply_timeout waited idle)
    (⊎_elim (λ yes. inl yes) (λ heard. inr (from_heard image f o c waited is heard)) h.3)

note_due : (image : Image) (f : Facts) (o : OpenCall) (id about waited : ℕ) (answer : ℤ) → AreSoundCells image.system (configs_of f.cells) → f.call ≡ Some o → is_some (heard_of f (is_idle_but image f o.caller) id waited) ≡ true → IsPhaseDue image f o (ToNoted id about answer waited)
note_due image f o id about waited answer sound is h =
    let idle : Bool = is_idle_but image f o.caller in
    let found = some_then (heard_with f idle id waited) (live_in f.cells id) h in
    let c : CellConfig = found.0 in
    let live = live_found f.cells id (find (has_id id) f.cells) c refl found.1 in
    let P : ℕ → Type 0 = λ k. (is_down (state_word f k) ≡ true) ⊎ ((reply_word f k ≢ 0) ⊎ (is_over c.msg_reply_timeout waited idle ≡ true)) in
    (c, live.0, live.1, heard_from image f o c waited sound is (subst P (sym live.1) (heard_tells (state_word f id) (reply_word f id) (is_over c.msg_reply_timeout waited idle) found.2)))

due_note : (image : Image) (f : Facts) (o : OpenCall) (id about waited : ℕ) (answer : ℤ) → AreSoundCells image.system (configs_of f.cells) → f.call ≡ Some o → IsPhaseDue image f o (ToNoted id about answer waited) → is_some (heard_of f (is_idle_but image f o.caller) id waited) ≡ true
due_note image f o id about waited answer sound is h =
    let c : CellConfig = h.0 in
    let idle : Bool = is_idle_but image f o.caller in
    let P : ℕ → Type 0 = λ k. (is_down (state_word f k) ≡ true) ⊎ ((reply_word f k ≢ 0) ⊎ (is_over c.msg_reply_timeout waited idle ≡ true)) in
    ap (λ (n : Option CellConfig). is_some (option_and_then (heard_with f idle id waited) n)) (live_by_id image f.cells c id sound h.1 h.2)
    ∙ tells_heard (state_word f id) (reply_word f id) (is_over c.msg_reply_timeout waited idle) (subst P h.2 (from_heard image f o c waited is h.3))

-- ---- a phase

phase_ready : (image : Image) (f : Facts) (caller : ℕ) (call : Call) (phase : Phase) → IsSound image f → f.call ≡ Some (record { caller = caller; call = call; phase = phase }) → IsOpen image (configs_of f.cells) f.cpu (record { caller = caller; call = call; phase = phase })
    → is_some (phase_act image f (is_idle_but image f caller) caller call phase) ≡ true → IsPhaseDue image f (record { caller = caller; call = call; phase = phase }) phase
phase_ready image f caller call ToDecide sound is opens h =
    decide_due image f (record { caller = caller; call = call; phase = ToDecide }) sound.cells opens.roots (some_if (any_below (λ i. keeps_decide image caller i (f.cpu i)) 16) (Decide (decision image f caller call)) h)
phase_ready image f caller call (ToSettle waited) sound is opens h =
    settle_due image f (record { caller = caller; call = call; phase = ToSettle waited }) waited sound.cells is (sym (some_map (λ (how : Settled). Settle how) (settled_of f (is_idle_but image f caller) call waited)) ∙ h)
phase_ready image f caller call ToCommit sound is opens h = commit_due image f caller call sound.cells sound opens (some_if (any_below (λ i. keeps_commit image call i (f.cpu i)) 16) Commit h)
phase_ready image f caller call (ToNoted id about answer waited) sound is opens h =
    note_due image f (record { caller = caller; call = call; phase = ToNoted id about answer waited }) id about waited answer sound.cells is (sym (some_map (λ (how : Heard). Noted id how) (heard_of f (is_idle_but image f caller) id waited)) ∙ h)
phase_ready image f caller call _ sound is opens h = tt

ready_phase : (image : Image) (f : Facts) (caller : ℕ) (call : Call) (phase : Phase) → IsSound image f → f.call ≡ Some (record { caller = caller; call = call; phase = phase }) → IsOpen image (configs_of f.cells) f.cpu (record { caller = caller; call = call; phase = phase })
    → IsPhaseDue image f (record { caller = caller; call = call; phase = phase }) phase → is_some (phase_act image f (is_idle_but image f caller) caller call phase) ≡ true
ready_phase image f caller call ToDecide sound is opens h =
    if_some (any_below (λ i. keeps_decide image caller i (f.cpu i)) 16) (Decide (decision image f caller call)) (due_decide image f (record { caller = caller; call = call; phase = ToDecide }) opens.roots h)
ready_phase image f caller call (ToSettle waited) sound is opens h =
    some_map (λ (how : Settled). Settle how) (settled_of f (is_idle_but image f caller) call waited) ∙ due_settle image f (record { caller = caller; call = call; phase = ToSettle waited }) waited sound.cells is h
ready_phase image f caller call ToCommit sound is opens h = if_some (any_below (λ i. keeps_commit image call i (f.cpu i)) 16) Commit (due_commit image f caller call sound.cells opens h)
ready_phase image f caller call (ToNoted id about answer waited) sound is opens h =
    some_map (λ (how : Heard). Noted id how) (heard_of f (is_idle_but image f caller) id waited) ∙ due_note image f (record { caller = caller; call = call; phase = ToNoted id about answer waited }) id about waited answer sound.cells is h
ready_phase image f caller call _ sound is opens h = refl

-- ---- a CPU

caller_same : (image : Image) (f : Facts) (o : OpenCall) (cpu : ℕ) → o.caller ≡ cpu → IsCaller image o.caller o.call (f.cpu o.caller) → caller_act image f (f.cpu cpu) o ≡ phase_act image f (is_idle_but image f o.caller) o.caller o.call o.phase
caller_same image f o cpu own caller =
    let P : ℕ → Type 0 = λ k. caller_act image f (f.cpu k) o ≡ phase_act image f (is_idle_but image f o.caller) o.caller o.call o.phase in
    let e : caller_act image f (f.cpu o.caller) o ≡ phase_act image f (is_idle_but image f o.caller) o.caller o.call o.phase = rw (caller.calm.asked, caller.calm.stopped, caller.running) refl in
    subst P own e

own_next : (image : Image) (f : Facts) (o : OpenCall) (cpu : ℕ) → f.call ≡ Some o → o.caller ≡ cpu → IsCaller image o.caller o.call (f.cpu o.caller) → next_act image f (f.cpu cpu) cpu ≡ phase_act image f (is_idle_but image f o.caller) o.caller o.call o.phase
own_next image f o cpu is own caller = next_some image f cpu o true is (eq-eqb o.caller cpu own) ∙ caller_same image f o cpu own caller

ready_by : (image : Image) (f : Facts) (cpu : ℕ) (call : Option OpenCall) → IsAdmitted image → IsSound image f → f.call ≡ call → is_some (next_act image f (f.cpu cpu) cpu) ≡ true → ((f.cpu cpu).asked ≡ true) ⊎ (IsReadyCaller image f cpu ⊎ IsReadyProgram image f cpu)
ready_by image f cpu None admitted sound is h =
    ⊎_elim (λ asked. inl asked) (λ program. inr (inr program))
    (state_ready image f cpu admitted sound (λ o opens. absurd (none-some o (sym is ∙ opens))) (sym (ap (λ (a : Option Act). is_some a) (next_none image f cpu is)) ∙ h))
ready_by image f cpu (Some o) admitted sound is h =
    let opens = call_open image f o sound is in
    ⊎_elim
    (λ (own : eqb o.caller cpu ≡ true).
    let same : o.caller ≡ cpu = eqb-true o.caller cpu own in
    inr (inl (o, is, same, phase_ready image f o.caller o.call o.phase sound is opens (sym (ap (λ (a : Option Act). is_some a) (own_next image f o cpu is same opens.caller)) ∙ h))))
    (λ (other : eqb o.caller cpu ≡ false).
    ⊎_elim (λ asked. inl asked) (λ program. inr (inr program))
    (state_ready image f cpu admitted sound
    (λ p there e. both_ways (eqb o.caller cpu) other (eq-eqb o.caller cpu (ap (λ (x : OpenCall). x.caller) (same_Some o p (sym is ∙ there)) ∙ e)))
    (sym (ap (λ (a : Option Act). is_some a) (next_some image f cpu o false is other)) ∙ h)))
    (cases_Bool (eqb o.caller cpu))

pub ready_from_due : (image : Image) (f : Facts) (cpu : ℕ) → IsAdmitted image → IsSound image f → is_some (due_at image f cpu) ≡ true → IsReadyAt image f cpu
ready_from_due image f cpu admitted sound h =
    ⊎_elim
    (λ (on : is_on_board image cpu ≡ true). record { board = on; what = ready_by image f cpu f.call admitted sound refl (sym (due_on image f cpu on) ∙ h) })
    (λ (off : is_on_board image cpu ≡ false). absurd (both_ways (is_some (due_at image f cpu)) (ap (λ (o : Option Entry). is_some o) (due_at_absent image f cpu off)) h))
    (cases_Bool (is_on_board image cpu))

-- by the state, where the CPU has no call open
state_next : (image : Image) (f : Facts) (cpu : ℕ) (call : Option OpenCall) → f.call ≡ call → ((o : OpenCall) → f.call ≡ Some o → o.caller ≢ cpu) → next_act image f (f.cpu cpu) cpu ≡ state_act image f (f.cpu cpu) cpu
state_next image f cpu None is none = next_none image f cpu is
state_next image f cpu (Some o) is none = next_some image f cpu o false is (ne_eqb o.caller cpu (none o is))

-- a CPU that is asked made no call
asked_none : (image : Image) (f : Facts) (cpu : ℕ) → IsSound image f → (f.cpu cpu).asked ≡ true → (o : OpenCall) → f.call ≡ Some o → o.caller ≢ cpu
asked_none image f cpu sound asked o is own =
    let caller = (call_open image f o sound is).caller in
    let P : ℕ → Type 0 = λ k. (f.cpu k).asked ≡ false in
    both_ways (f.cpu cpu).asked (subst P own caller.calm.asked) asked

pub due_from_ready : (image : Image) (f : Facts) (cpu : ℕ) → IsAdmitted image → IsSound image f → IsReadyAt image f cpu → is_some (due_at image f cpu) ≡ true
due_from_ready image f cpu admitted sound ready =
    due_on image f cpu ready.board
    ∙ ⊎_elim
    (λ (asked : (f.cpu cpu).asked ≡ true). ap (λ (a : Option Act). is_some a) (state_next image f cpu f.call refl (asked_none image f cpu sound asked)) ∙ asked_state image f cpu asked)
    (λ rest.
    ⊎_elim
    (λ (caller : IsReadyCaller image f cpu).
    let o : OpenCall = caller.0 in
    let opens = call_open image f o sound caller.1 in
    ap (λ (a : Option Act). is_some a) (own_next image f o cpu caller.1 caller.2 opens.caller) ∙ ready_phase image f o.caller o.call o.phase sound caller.1 opens caller.3)
    (λ (program : IsReadyProgram image f cpu). ap (λ (a : Option Act). is_some a) (state_next image f cpu f.call refl program.at.none) ∙ program_state image f cpu admitted sound program)
    rest)
    ready.what
