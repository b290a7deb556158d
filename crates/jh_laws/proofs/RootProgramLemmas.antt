-- How far a CPU is in root's program, entry by entry, and that it goes on there after it was lent.
use Rattle.std.proofs.Common.{◌≡◌, ◌≢◌, ℕ, ℤ, zero, suc, ◌+◌, ◌<◌, ◌≤◌, List, [], ◌∷◌, ◌++◌, Bool, true, false, cond, not, ◌&&◌, eqb, length, take, drop, Option, Some, None, refl, sym, ap, subst, ◌∙◌, inl, inr, ⊎_elim, append_assoc, arith}
use Rattle.std.specs.Prelude.{◌⊎◌, Contains, option_map, slice_get}
use Rattle.std.specs.Option.{option_map_or}
use Rattle.std.proofs.lemmas.Bool.{both_ways, cases_Bool, cases_eq, cond_both, eqb-true, eq-eqb, ne_eqb, false≢true}
use Rattle.std.proofs.lemmas.List.{drop_all, drop_more}
use Rattle.std.proofs.lemmas.Option.{get_or_from_slice_get, none-some, slice_get_within}
use Rattle.jh_num.proofs.Public.{Contains_head, same_number}
use Rattle.jh_cellcfg.specs.declared.config.CellConfig.{CellConfig}
use Rattle.jh_cellcfg.specs.declared.live.Live.{Live}
use Rattle.jh_cellcfg.specs.Cells.{name_of, is_cpu_set}
use Rattle.jh_check.specs.Refusals.{is_known}
use Rattle.jh_shape.specs.Lives.{configs_of}
use Rattle.jh_cpu.specs.declared.cpu.Cpu.{Cpu}
use Rattle.jh_cpu.specs.declared.cpu.Mode.TheVariants.{Failed}
use Rattle.jh_cpu.specs.Changes.{is_failed, asked_of, stopped_of, resumed, moved, lent, parked, restarted, returned}
use Rattle.jh_call.specs.declared.call.Call.{Call}
use Rattle.jh_call.specs.declared.call.Call.TheVariants.{Create, Start, Loadable, Destroy}
use Rattle.jh_call.specs.Calls.{decoded}
use Rattle.jh_script.specs.declared.image.Image.{Image}
use Rattle.jh_history.specs.declared.form.Form.{Form}
use Rattle.jh_script.specs.declared.op.Op.{Op}
use Rattle.jh_history.specs.declared.call.OpenCall.{OpenCall}
use Rattle.jh_history.specs.declared.call.Phase.{Phase}
use Rattle.jh_history.specs.declared.call.Phase.TheVariants.{ToDecide, ToSettle, ToCreate, ToCommit, ToNote, ToNoted, ToFinish}
use Rattle.jh_history.specs.declared.change.Change.{Change}
use Rattle.jh_history.specs.declared.change.Change.TheVariants.{Stay, Step, Fail, Stop as Halt}
use Rattle.jh_history.specs.declared.entry.Entry.{Entry}
use Rattle.jh_history.specs.declared.entry.Settled.{Settled}
use Rattle.jh_history.specs.declared.entry.Act.{Act}
use Rattle.jh_history.specs.declared.entry.Act.TheVariants.{Read, Write, Fetch, Await, Irq, Hvc, Begin, Stop, Decide, Settle, Commit, Note, Noted, Finish}
use Rattle.jh_history.specs.Admitted.{IsAdmitted}
use Rattle.jh_history.specs.Calls.{is_named, is_of_call, phase_after, call_by}
use Rattle.jh_history.specs.Commits.{is_commit}
use Rattle.jh_history.specs.Cpus.{acted, changed, change_of, cpu_by_call, runs_by_start, cpu_by_settle, cpu_by_commit, cpu_by_finish, resumed_of_root, is_running, is_undenied}
use Rattle.jh_history.specs.Due.{is_idle_but, IsLegal}
use Rattle.jh_history.specs.Facts.{Facts}
use Rattle.jh_history.specs.History.{facts, coming_of}
use Rattle.jh_history.specs.Lives.{is_on_board, program_ops}
use Rattle.jh_history.specs.Sound.{IsCreate, IsInPhase}
use Rattle.jh_history.proofs.Public.{after_call, call_open, called_keeps, called_spared, facts_nil, facts_push, other_id, other_root}
use Rattle.jh_laws.specs.Moments.{AdmittedMoment, facts_before, facts_behind}
use Rattle.jh_laws.specs.Moves.{stepped}
use Rattle.jh_laws.specs.Operations.{op_of_act, op_by, program_in}
use Rattle.jh_laws.specs.Outcomes.{is_violation}
use Rattle.jh_laws.specs.Programs.{op_in, with_op, operations_in}
use Rattle.jh_laws.specs.States.{is_stop_act}
use Rattle.jh_laws.specs.Ways.{is_phase, is_finish, call_of_begin, begun}
use Rattle.jh_laws.proofs.CallLemmas.{Expects, IsBeside, begins_alone, call_of_open, entry_of_call, phase_expects, phase_of_due}
use Rattle.jh_laws.proofs.EntryLemmas.{cell_at, operation_at, runs_at}
use Rattle.jh_laws.proofs.PageCauseLemmas.{commit_lives, committing_at, due_of, sound_at}
use Rattle.jh_laws.proofs.PlacesHeldLemmas.{commit_or}
use Rattle.jh_laws.proofs.PowerLemmas.{Spares, spares_root, roots_stay_on}
use Rattle.jh_laws.proofs.StatesLemmas.{behind_cpu, begin_cpus, finish_cpus, others_by, own_steps, own_ends}

-- ---- where a CPU is in root's program

abbrev root_program : Image → ℕ → List Op
root_program image cpu = program_ops image (name_of image.system.root) cpu

-- one more where the CPU's own call is open: its operation is made, and it moves at the end
abbrev pending : Option OpenCall → ℕ → ℕ
pending None cpu = 0
pending (Some o) cpu = cond (eqb o.caller cpu) 1 0

-- the place is that of the next operation, or the program is at its end
abbrev AtOrPast : List Op → ℕ → ℕ → Type 0
AtOrPast ops n place = (place ≡ n) ⊎ (length ops ≤ place)

-- a CPU in this state makes the operation of that number next in root's name, if it makes one
record IsAtBy (image : Image) (cpu n : ℕ) (state : Cpu) (more : ℕ) : Type 0 where
  own : state.owner ≡ image.system.root.id → state.mode ≢ Failed → AtOrPast (root_program image cpu) n (state.position + more)
  lent : state.owner ≢ image.system.root.id → state.failed_in_root ≡ false → AtOrPast (root_program image cpu) n state.root_position

abbrev IsAt : Image → ℕ → ℕ → Facts → Type 0
IsAt image cpu n f = IsAtBy image cpu n (f.cpu cpu) (pending f.call cpu)

-- a change that leaves it there
record KeepsPlace (root : ℕ) (before behind : Cpu) : Type 0 where
  owner : behind.owner ≡ before.owner
  root_position : behind.root_position ≡ before.root_position
  failed : behind.failed_in_root ≡ before.failed_in_root
  own : before.owner ≡ root → (behind.position ≡ before.position) × (behind.mode ≡ before.mode)

kept_at : (image : Image) (cpu n : ℕ) (before behind : Cpu) (more later : ℕ) → IsAtBy image cpu n before more → KeepsPlace image.system.root.id before behind → later ≡ more → IsAtBy image cpu n behind later
kept_at image cpu n before behind more later h keeps same =
    let P : ℕ → Type 0 = AtOrPast (root_program image cpu) n in
    record {
      own = λ owner good.
          let own = keeps.own (sym keeps.owner ∙ owner) in
          let there : before.position + more ≡ behind.position + later = (let e = own.0 in omega (arith, e, same)) in
          subst P there (h.own (sym keeps.owner ∙ owner) (λ failed. good (own.1 ∙ failed)));
      lent = λ owner good. subst P (sym keeps.root_position) (h.lent (λ root. owner (keeps.owner ∙ root)) (sym keeps.failed ∙ good));
    }

same_place : (root : ℕ) (cpu : Cpu) → KeepsPlace root cpu cpu
same_place root cpu = record { owner = refl; root_position = refl; failed = refl; own = λ own. (refl, refl) }

-- ---- what keeps its place

one_of : (root : ℕ) (b : Bool) (cpu other : Cpu) → KeepsPlace root cpu other → KeepsPlace root cpu (cond b other cpu)
one_of root b cpu other h = let P : Cpu → Type 0 = KeepsPlace root cpu in cond_both b other cpu P (λ _. h) (λ _. same_place root cpu)

asked_place : (root : ℕ) (cpu : Cpu) → KeepsPlace root cpu (asked_of cpu)
asked_place root cpu = record { owner = refl; root_position = refl; failed = refl; own = λ own. (refl, refl) }

stopped_place : (root : ℕ) (cpu : Cpu) → KeepsPlace root cpu (stopped_of cpu)
stopped_place root cpu = record { owner = refl; root_position = refl; failed = refl; own = λ own. (refl, refl) }

resumed_place : (root : ℕ) (cpu : Cpu) → KeepsPlace root cpu (resumed cpu)
resumed_place root cpu = record { owner = refl; root_position = refl; failed = refl; own = λ own. (refl, refl) }

settled_place : (root : ℕ) (how : Settled) (call : Option OpenCall) (cpu : Cpu) → KeepsPlace root cpu (option_map_or (λ (o : OpenCall). cpu_by_settle (is_undenied how) o.call cpu) call cpu)
settled_place root how None cpu = same_place root cpu
settled_place root how (Some o) cpu = one_of root (is_undenied how && is_named o.call cpu.owner && is_running cpu.mode) cpu (asked_of cpu) (asked_place root cpu)

finished_place : (image : Image) (root own i : ℕ) (cpu : Cpu) → i ≢ own → KeepsPlace root cpu (cpu_by_finish image own i cpu)
finished_place image root own i cpu other =
    let going : Cpu = resumed_of_root image.system.root.id cpu in
    let P : Cpu → Type 0 = KeepsPlace root cpu in
    let same : cond (eqb i own) (moved going) going ≡ going = ap (λ (b : Bool). cond b (moved going) going) (ne_eqb i own other) in
    subst P (sym same) (one_of root (eqb cpu.owner image.system.root.id) cpu (resumed cpu) (resumed_place root cpu))

-- a hypercall leaves a CPU that isn't root's where it was in root's program
foreign_called : (root : ℕ) (call : Call) (answer : ℤ) (own i : ℕ) (cpu : Cpu) → cpu.owner ≢ root → KeepsPlace root cpu (cpu_by_call call answer own i cpu)
foreign_called root call answer own i cpu other =
    called_keeps (KeepsPlace root cpu)
    (λ c h. record { owner = h.owner; root_position = h.root_position; failed = h.failed; own = λ own. absurd (other own) })
    (λ c h. record { owner = h.owner; root_position = h.root_position; failed = h.failed; own = λ own. absurd (other own) })
    (λ c h. record { owner = h.owner; root_position = h.root_position; failed = h.failed; own = λ own. absurd (other own) })
    call answer own i cpu (same_place root cpu)

-- an entry of another CPU that is no Commit
other_place : (image : Image) (runs : Bool) (root : ℕ) (call : Option OpenCall) (act : Act) (own i : ℕ) (cpu : Cpu) → i ≢ own → is_commit act ≡ false → (cpu.owner ≡ root → Spares i act) → KeepsPlace root cpu (acted image runs call act own i cpu)
other_place image runs root call (Begin code a b) own i cpu other unlike spares =
    one_of root (is_on_board image i && not (eqb i own) && eqb cpu.owner image.system.root.id && is_running cpu.mode) cpu (asked_of cpu) (asked_place root cpu)
other_place image runs root call (Hvc code a b answer) own i cpu other unlike spares =
    let P : Cpu → Type 0 = KeepsPlace root cpu in
    ⊎_elim
    (λ (roots : cpu.owner ≡ root). subst P (sym (called_spared (decoded code a b) answer own i cpu other (spares roots))) (same_place root cpu))
    (λ (foreign : cpu.owner ≢ root). foreign_called root (decoded code a b) answer own i cpu foreign)
    (cases_eq cpu.owner root)
other_place image runs root call (Settle how) own i cpu other unlike spares = settled_place root how call cpu
other_place image runs root call (Finish answer) own i cpu other unlike spares = finished_place image root own i cpu other
other_place image runs root call Commit own i cpu other unlike spares = absurd (false≢true (sym unlike))
other_place image runs root call act own i cpu other unlike spares = let P : Cpu → Type 0 = KeepsPlace root cpu in subst P (sym (others_by image runs call act own i cpu refl other)) (same_place root cpu)

-- its own entry that is no operation, nor the end of a call, nor a Commit
own_place : (image : Image) (runs : Bool) (root : ℕ) (call : Option OpenCall) (act : Act) (own : ℕ) (cpu : Cpu) → op_of_act act ≡ None → is_finish act ≡ false → is_commit act ≡ false → KeepsPlace root cpu (acted image runs call act own own cpu)
own_place image runs root call Stop own cpu none more unlike = one_of root (eqb own own) cpu (stopped_of cpu) (stopped_place root cpu)
own_place image runs root call (Settle how) own cpu none more unlike = settled_place root how call cpu
own_place image runs root call (Decide refused) own cpu none more unlike = one_of root (eqb own own) cpu cpu (same_place root cpu)
own_place image runs root call (Note id) own cpu none more unlike = one_of root (eqb own own) cpu cpu (same_place root cpu)
own_place image runs root call (Noted id how) own cpu none more unlike = one_of root (eqb own own) cpu cpu (same_place root cpu)
own_place image runs root call Commit own cpu none more unlike = absurd (false≢true (sym unlike))
own_place image runs root call (Finish answer) own cpu none more unlike = absurd (false≢true (sym more))
own_place image runs root call _ own cpu none more unlike = absurd (none-some _ (sym none))

-- a step of a CPU that isn't root's
foreign_step : (root : ℕ) (change : Change) (cpu : Cpu) → cpu.owner ≢ root → KeepsPlace root cpu (changed change cpu)
foreign_step root Stay cpu other = record { owner = refl; root_position = refl; failed = refl; own = λ own. absurd (other own) }
foreign_step root Step cpu other = record { owner = refl; root_position = refl; failed = refl; own = λ own. absurd (other own) }
foreign_step root Fail cpu other = record { owner = refl; root_position = refl; failed = refl; own = λ own. absurd (other own) }
foreign_step root Halt cpu other = record { owner = refl; root_position = refl; failed = refl; own = λ own. absurd (other own) }

foreign_place : (image : Image) (runs : Bool) (root : ℕ) (call : Option OpenCall) (act : Act) (own : ℕ) (cpu : Cpu) (op : Op) → op_of_act act ≡ Some op → cpu.owner ≢ root → KeepsPlace root cpu (acted image runs call act own own cpu)
foreign_place image runs root call (Read width at got) own cpu op is other = one_of root (eqb own own) cpu (changed (change_of (Read width at got)) cpu) (foreign_step root (change_of (Read width at got)) cpu other)
foreign_place image runs root call (Write width at value ok) own cpu op is other = one_of root (eqb own own) cpu (changed (change_of (Write width at value ok)) cpu) (foreign_step root (change_of (Write width at value ok)) cpu other)
foreign_place image runs root call (Fetch at got) own cpu op is other = one_of root (eqb own own) cpu (changed (change_of (Fetch at got)) cpu) (foreign_step root (change_of (Fetch at got)) cpu other)
foreign_place image runs root call (Await width at value ok) own cpu op is other = one_of root (eqb own own) cpu (changed (change_of (Await width at value ok)) cpu) (foreign_step root (change_of (Await width at value ok)) cpu other)
foreign_place image runs root call (Irq device vector) own cpu op is other = one_of root (eqb own own) cpu (changed Step cpu) (foreign_step root Step cpu other)
foreign_place image runs root call (Hvc code a b answer) own cpu op is other = foreign_called root (decoded code a b) answer own own cpu other
foreign_place image runs root call (Begin code a b) own cpu op is other =
    one_of root (is_on_board image own && not (eqb own own) && eqb cpu.owner image.system.root.id && is_running cpu.mode) cpu (asked_of cpu) (asked_place root cpu)
foreign_place image runs root call _ own cpu op is other = absurd (none-some op is)

-- ---- the open call

abbrev is_begin : Act → Bool
is_begin (Begin code a b) = true
is_begin _ = false

call_behind : (m : AdmittedMoment) → (facts_behind m).call ≡ call_by (facts_before m).cells (coming_of m.image (facts_before m)) (facts_before m).call m.entry m.entry.act
call_behind m = ap (λ (f : Facts). f.call) (facts_push m.image m.form m.before m.entry) ∙ after_call m.image (facts_before m) m.entry

pend_map : (call : Option OpenCall) (g : OpenCall → Phase) (cpu : ℕ) → pending (option_map (λ (o : OpenCall). record { caller = o.caller; call = o.call; phase = g o }) call) cpu ≡ pending call cpu
pend_map None g cpu = refl
pend_map (Some o) g cpu = refl

pend_by : (cells : List Live) (coming : Option CellConfig) (call : Option OpenCall) (entry : Entry) (act : Act) (cpu : ℕ) → is_begin act ≡ false → is_finish act ≡ false → pending (call_by cells coming call entry act) cpu ≡ pending call cpu
pend_by cells coming call entry (Begin code a b) cpu unlike more = absurd (false≢true (sym unlike))
pend_by cells coming call entry (Finish answer) cpu unlike more = absurd (false≢true (sym more))
pend_by cells coming call entry act cpu unlike more = pend_map call (λ o. phase_after cells coming entry.cell o.call o.phase act) cpu

pend_same : (m : AdmittedMoment) (cpu : ℕ) → is_begin m.entry.act ≡ false → is_finish m.entry.act ≡ false → pending (facts_behind m).call cpu ≡ pending (facts_before m).call cpu
pend_same m cpu unlike more =
    ap (λ (c : Option OpenCall). pending c cpu) (call_behind m) ∙ pend_by (facts_before m).cells (coming_of m.image (facts_before m)) (facts_before m).call m.entry m.entry.act cpu unlike more

-- none is open where one begins
none_open : (m : AdmittedMoment) (code a b : ℕ) (call : Option OpenCall) → m.entry.act ≡ Begin code a b → (facts_before m).call ≡ call → call ≡ None
none_open m code a b None act is = refl
none_open m code a b (Some o) act is =
    let alone : begun m.before ≡ None = begins_alone m.image m.form m.before m.rest m.entry code a b m.admitted m.legal act in
    absurd (none-some o.call (ap (option_map (λ (first : Entry). call_of_begin first.act)) (sym alone) ∙ call_of_open m.image m.form m.before o is))

begin_pends : (m : AdmittedMoment) (code a b cpu : ℕ) → m.entry.act ≡ Begin code a b → (pending (facts_before m).call cpu ≡ 0) × (pending (facts_behind m).call cpu ≡ cond (eqb m.entry.cpu cpu) 1 0)
begin_pends m code a b cpu act = (
  ap (λ (c : Option OpenCall). pending c cpu) (none_open m code a b (facts_before m).call act refl),
  ap (λ (c : Option OpenCall). pending c cpu) (call_behind m)
      ∙ ap (λ (x : Act). pending (call_by (facts_before m).cells (coming_of m.image (facts_before m)) (facts_before m).call m.entry x) cpu) act,
)

finish_pends : (m : AdmittedMoment) (cpu : ℕ) (is : (answer : ℤ) × (m.entry.act ≡ Finish answer)) → (pending (facts_before m).call cpu ≡ cond (eqb m.entry.cpu cpu) 1 0) × (pending (facts_behind m).call cpu ≡ 0)
finish_pends m cpu is =
    let of = phase_of_due m.image (facts_before m) m.entry (sound_at m) (due_of m) (ap is_phase is.1) in (
      ap (λ (c : Option OpenCall). pending c cpu) of.opens ∙ ap (λ (k : ℕ). cond (eqb k cpu) 1 0) of.caller,
      ap (λ (c : Option OpenCall). pending c cpu) (call_behind m)
          ∙ ap (λ (x : Act). pending (call_by (facts_before m).cells (coming_of m.image (facts_before m)) (facts_before m).call m.entry x) cpu) is.1,
    )

-- a CPU that isn't root's has no call open
foreign_pends : (m : AdmittedMoment) (cpu : ℕ) (call : Option OpenCall) → (facts_before m).call ≡ call → ((facts_before m).cpu cpu).owner ≢ m.image.system.root.id → pending call cpu ≡ 0
foreign_pends m cpu None is other = refl
foreign_pends m cpu (Some o) is other =
    let caller = (call_open m.image (facts_before m) o (sound_at m) is).caller in
    let P : ℕ → Type 0 = λ k. ((facts_before m).cpu k).owner ≡ m.image.system.root.id in
    ap (λ (b : Bool). cond b 1 0) (ne_eqb o.caller cpu (λ same. other (subst P same caller.owner)))

-- nor has one that makes an operation
expects_none : (phase : Phase) (act : Act) → Expects phase act → op_of_act act ≡ None
expects_none ToDecide act e = ap op_of_act e.1
expects_none (ToSettle waited) act e = ap op_of_act e.1
expects_none (ToCreate config) act e = ap op_of_act e
expects_none ToCommit act e = ap op_of_act e
expects_none (ToNote id about answer) act e = ap op_of_act e
expects_none (ToNoted id about answer waited) act e = ap op_of_act e.1
expects_none (ToFinish answer) act e = ap op_of_act e

op_pends : (m : AdmittedMoment) (op : Op) (call : Option OpenCall) → op_of_act m.entry.act ≡ Some op → (facts_before m).call ≡ call → pending call m.entry.cpu ≡ 0
op_pends m op None made is = refl
op_pends m op (Some o) made is =
    ⊎_elim
    (λ phase. absurd (none-some op (sym (expects_none o.phase m.entry.act (phase_expects m.image (facts_before m) (is_idle_but m.image (facts_before m) o.caller) o.caller o.call o.phase m.entry.act phase.1)) ∙ made)))
    (λ (beside : IsBeside m.image (facts_before m) o m.entry). ap (λ (b : Bool). cond b 1 0) (ne_eqb o.caller m.entry.cpu (λ same. beside.other (sym same))))
    (entry_of_call m.image (facts_before m) o m.entry (sound_at m) is (due_of m))

-- ---- which act it is

data Kind (act : Act) : Type 0 where
  Begins : (code a b : ℕ) → act ≡ Begin code a b → Kind act
  Ends : ((answer : ℤ) × (act ≡ Finish answer)) → Kind act
  Other : is_begin act ≡ false → is_finish act ≡ false → Kind act

kind_of : (act : Act) → Kind act
kind_of (Begin code a b) = Begins code a b refl
kind_of (Finish answer) = Ends (answer, refl)
kind_of _ = Other refl refl

pend_other : (m : AdmittedMoment) (cpu : ℕ) → cpu ≢ m.entry.cpu → Kind m.entry.act → pending (facts_behind m).call cpu ≡ pending (facts_before m).call cpu
pend_other m cpu other (Begins code a b act) =
    let p = begin_pends m code a b cpu act in
    p.1 ∙ ap (λ (x : Bool). cond x 1 0) (ne_eqb m.entry.cpu cpu (λ same. other (sym same))) ∙ sym p.0
pend_other m cpu other (Ends is) =
    let p = finish_pends m cpu is in
    p.1 ∙ sym (p.0 ∙ ap (λ (x : Bool). cond x 1 0) (ne_eqb m.entry.cpu cpu (λ same. other (sym same))))
pend_other m cpu other (Other unlike more) = pend_same m cpu unlike more

-- ---- a step

abbrev op_here : AdmittedMoment → ℕ → Option Op
op_here m cpu = op_in m.image.system.root.id cpu m.entry

-- the entry is the next operation of root's program of the CPU, or none of it
abbrev IsStep : AdmittedMoment → ℕ → ℕ → Type 0
IsStep m cpu n =
    ((op : Op) × (op_here m cpu ≡ Some op) × (slice_get (root_program m.image cpu) n ≡ Some op) × IsAt m.image cpu (n + 1) (facts_behind m))
    ⊎ ((op_here m cpu ≡ None) × IsAt m.image cpu n (facts_behind m))

-- where the place is kept
keeps_at : (m : AdmittedMoment) (cpu n : ℕ) → IsAt m.image cpu n (facts_before m) → KeepsPlace m.image.system.root.id ((facts_before m).cpu cpu) (acted m.image (runs_by_start (facts_before m) cpu) (facts_before m).call m.entry.act m.entry.cpu cpu ((facts_before m).cpu cpu))
    → pending (facts_behind m).call cpu ≡ pending (facts_before m).call cpu → IsAt m.image cpu n (facts_behind m)
keeps_at m cpu n h keeps same =
    let P : Cpu → Type 0 = KeepsPlace m.image.system.root.id ((facts_before m).cpu cpu) in
    kept_at m.image cpu n ((facts_before m).cpu cpu) ((facts_behind m).cpu cpu) (pending (facts_before m).call cpu) (pending (facts_behind m).call cpu) h
    (subst P (sym (behind_cpu m.image m.form m.before m.entry cpu)) keeps) same

-- ---- a Commit

lent_at : (image : Image) (cpu n id : ℕ) (before : Cpu) → id ≢ image.system.root.id → before.owner ≡ image.system.root.id → IsAtBy image cpu n before 0 → IsAtBy image cpu n (lent id before) 0
lent_at image cpu n id before other root h = record {
  own = λ owner good. absurd (other owner);
  lent = λ owner good.
      let P : ℕ → Type 0 = AtOrPast (root_program image cpu) n in
      let e : before.position + 0 ≡ before.position = omega arith in
      subst P e (h.own root (λ failed. both_ways (is_failed before.mode) good (ap is_failed failed)));
}

returned_at : (image : Image) (cpu n : ℕ) (before : Cpu) → before.owner ≢ image.system.root.id → IsAtBy image cpu n before 0 → IsAtBy image cpu n (returned image.system.root.id (length (root_program image cpu)) before) 0
returned_at image cpu n before other h =
    let end : ℕ = length (root_program image cpu) in
    let P : ℕ → Type 0 = λ place. AtOrPast (root_program image cpu) n (place + 0) in
    record {
      own = λ owner good.
          ⊎_elim
          (λ (failed : before.failed_in_root ≡ true). subst P (sym (ap (λ (b : Bool). cond b end before.root_position) failed)) (inr (omega arith)))
          (λ (unfailed : before.failed_in_root ≡ false).
          let Q : ℕ → Type 0 = AtOrPast (root_program image cpu) n in
          let e : before.root_position ≡ before.root_position + 0 = omega arith in
          subst P (sym (ap (λ (b : Bool). cond b end before.root_position) unfailed)) (subst Q e (h.lent other unfailed)))
          (cases_Bool before.failed_in_root);
      lent = λ owner good. absurd (owner refl);
    }

parked_place : (root : ℕ) (cpu : Cpu) → cpu.owner ≢ root → KeepsPlace root cpu (parked cpu)
parked_place root cpu other = record { owner = refl; root_position = refl; failed = refl; own = λ own. absurd (other own) }

restarted_place : (root : ℕ) (cpu : Cpu) → cpu.owner ≢ root → KeepsPlace root cpu (restarted cpu)
restarted_place root cpu other = record { owner = refl; root_position = refl; failed = refl; own = λ own. absurd (other own) }

-- a cell that comes isn't root, nor is one that a call is about
new_apart : (m : AdmittedMoment) (config : CellConfig) → is_known (m.image.system.root ∷ configs_of (facts_before m).cells) config ≡ false → config.id ≢ m.image.system.root.id
new_apart m config unknown same =
    let root : CellConfig = m.image.system.root in
    other_id (root ∷ configs_of (facts_before m).cells) config root unknown (Contains_head root (configs_of (facts_before m).cells)) (sym same)

about_apart : (m : AdmittedMoment) (call : Call) (phase : Phase) (id owner : ℕ) → (IsCreate call → ⊥) → Expects phase Commit → IsInPhase m.image (configs_of (facts_before m).cells) (facts_before m).cpu m.entry.cpu call phase
    → ((k : ℕ) → is_named call k ≡ true → k ≡ id) → owner ≡ id → owner ≢ m.image.system.root.id
about_apart m call phase id owner other e holds only own root =
    let live = commit_lives m.image (configs_of (facts_before m).cells) (facts_before m).cpu m.entry.cpu call phase other e holds in
    other_root m.image.system (configs_of (facts_before m).cells) live.0 (sound_at m).cells live.1 (only live.0.id live.2 ∙ sym own ∙ root)

-- by the call that is committed, where no call is open of a CPU that is lent or given back
committed_at : (m : AdmittedMoment) (runs : Bool) (cpu n more : ℕ) (call : Call) (phase : Phase) → ((facts_before m).call ≡ Some (record { caller = m.entry.cpu; call = call; phase = phase })) → Expects phase Commit
    → IsInPhase m.image (configs_of (facts_before m).cells) (facts_before m).cpu m.entry.cpu call phase → pending (facts_before m).call cpu ≡ more
    → IsAtBy m.image cpu n ((facts_before m).cpu cpu) more → IsAtBy m.image cpu n (cpu_by_commit m.image runs call phase cpu ((facts_before m).cpu cpu)) more
committed_at m runs cpu n more (Create at) (ToCreate config) opens e holds pends h =
    let before : Cpu = (facts_before m).cpu cpu in
    let P : Cpu → Type 0 = λ c. IsAtBy m.image cpu n c more in
    cond_both (is_cpu_set config.cpu_set cpu) (lent config.id before) before P
    (λ set.
    let may = holds.1 in
    let zero_is : 0 ≡ more = sym (ap (λ (c : Option OpenCall). pending c cpu) opens ∙ ap (λ (b : Bool). cond b 1 0) (ne_eqb m.entry.cpu cpu (λ same. may.other cpu set (sym same)))) ∙ pends in
    let other : config.id ≢ m.image.system.root.id = λ same. new_apart m config may.unknown same in
    let Q : ℕ → Type 0 = IsAtBy m.image cpu n before in
    let R : ℕ → Type 0 = IsAtBy m.image cpu n (lent config.id before) in
    subst R zero_is (lent_at m.image cpu n config.id before other (may.owner cpu set) (subst Q (sym zero_is) h)))
    (λ none. h)
committed_at m runs cpu n more (Start id) phase opens e holds pends h =
    let before : Cpu = (facts_before m).cpu cpu in
    let P : Cpu → Type 0 = λ c. IsAtBy m.image cpu n c more in
    let next : Cpu = cond runs (restarted before) (parked before) in
    cond_both (eqb before.owner id) next before P
    (λ own.
    let other = about_apart m (Start id) phase id before.owner (λ none. none) e holds (λ k named. sym (eqb-true id k named)) (eqb-true before.owner id own) in
    let keeps : KeepsPlace m.image.system.root.id before next =
    cond_both runs (restarted before) (parked before) (KeepsPlace m.image.system.root.id before) (λ _. restarted_place m.image.system.root.id before other) (λ _. parked_place m.image.system.root.id before other) in
    kept_at m.image cpu n before next more more h keeps refl)
    (λ none. h)
committed_at m runs cpu n more (Loadable id) phase opens e holds pends h =
    let before : Cpu = (facts_before m).cpu cpu in
    let P : Cpu → Type 0 = λ c. IsAtBy m.image cpu n c more in
    cond_both (eqb before.owner id) (parked before) before P
    (λ own. kept_at m.image cpu n before (parked before) more more h (parked_place m.image.system.root.id before (about_apart m (Loadable id) phase id before.owner (λ none. none) e holds (λ k named. sym (eqb-true id k named)) (eqb-true before.owner id own))) refl)
    (λ none. h)
committed_at m runs cpu n more (Destroy id) phase opens e holds pends h =
    let before : Cpu = (facts_before m).cpu cpu in
    let back : Cpu = returned m.image.system.root.id (length (root_program m.image cpu)) before in
    let P : Cpu → Type 0 = λ c. IsAtBy m.image cpu n c more in
    cond_both (eqb before.owner id) back before P
    (λ own.
    let other = about_apart m (Destroy id) phase id before.owner (λ none. none) e holds (λ k named. sym (eqb-true id k named)) (eqb-true before.owner id own) in
    let zero_is : 0 ≡ more = sym (foreign_pends m cpu (facts_before m).call refl other) ∙ pends in
    let Q : ℕ → Type 0 = IsAtBy m.image cpu n before in
    let R : ℕ → Type 0 = IsAtBy m.image cpu n back in
    subst R zero_is (returned_at m.image cpu n before other (subst Q (sym zero_is) h)))
    (λ none. h)
committed_at m runs cpu n more _ phase opens e holds pends h = h

commits_at : (m : AdmittedMoment) (cpu n : ℕ) → m.entry.act ≡ Commit → IsAt m.image cpu n (facts_before m) → IsAt m.image cpu n (facts_behind m)
commits_at m cpu n act h =
    let f : Facts = facts_before m in
    let of = phase_of_due m.image f m.entry (sound_at m) (due_of m) (ap is_phase act) in
    let call : Call = of.o.call in
    let at = committing_at m call (call_of_open m.image m.form m.before of.o of.opens) act in
    let o : OpenCall = record { caller = m.entry.cpu; call = call; phase = at.phase } in
    let same : (facts_behind m).cpu cpu ≡ cpu_by_commit m.image (runs_by_start f cpu) call at.phase cpu (f.cpu cpu) =
    behind_cpu m.image m.form m.before m.entry cpu
    ∙ ap (λ (c : Option OpenCall). acted m.image (runs_by_start f cpu) c m.entry.act m.entry.cpu cpu (f.cpu cpu)) at.opens
    ∙ ap (λ (a : Act). acted m.image (runs_by_start f cpu) (Some o) a m.entry.cpu cpu (f.cpu cpu)) act in
    let P : Cpu → Type 0 = λ c. IsAtBy m.image cpu n c (pending f.call cpu) in
    let Q : ℕ → Type 0 = IsAtBy m.image cpu n ((facts_behind m).cpu cpu) in
    subst Q (sym (pend_same m cpu (ap is_begin act) (ap is_finish act)))
    (subst P (sym same) (committed_at m (runs_by_start f cpu) cpu n (pending f.call cpu) call at.phase at.opens at.expects at.holds refl h))

-- ---- an operation in root's name

op_alone : (act : Act) (op : Op) → op_of_act act ≡ Some op → is_begin act ≡ false → (is_of_call act ≡ false) × (is_stop_act act ≡ false)
op_alone (Read width at got) op is unlike = (refl, refl)
op_alone (Write width at value ok) op is unlike = (refl, refl)
op_alone (Fetch at got) op is unlike = (refl, refl)
op_alone (Await width at value ok) op is unlike = (refl, refl)
op_alone (Irq device vector) op is unlike = (refl, refl)
op_alone (Hvc code a b answer) op is unlike = (refl, refl)
op_alone (Begin code a b) op is unlike = absurd (false≢true (sym unlike))
op_alone _ op is unlike = absurd (none-some op is)

op_moves : (act : Act) (op : Op) → op_of_act act ≡ Some op → is_stop_act act ≡ false
op_moves Stop op is = absurd (none-some op is)
op_moves _ op is = refl

op_ends : (act : Act) (op : Op) → op_of_act act ≡ Some op → is_finish act ≡ false
op_ends (Finish answer) op is = absurd (none-some op is)
op_ends _ op is = refl

-- the CPU one operation further
next_at : (image : Image) (cpu n : ℕ) (behind : Cpu) (more : ℕ) → behind.owner ≡ image.system.root.id → behind.position + more ≡ n + 1 → IsAtBy image cpu (n + 1) behind more
next_at image cpu n behind more root next = record { own = λ owner good. inl next; lent = λ other good. absurd (other root) }

-- what the CPU is then
record IsMoved (m : AdmittedMoment) (n : ℕ) : Type 0 where
  owner : ((facts_behind m).cpu m.entry.cpu).owner ≡ m.image.system.root.id
  next : ((facts_behind m).cpu m.entry.cpu).position + pending (facts_behind m).call m.entry.cpu ≡ n + 1

begins_moved : (m : AdmittedMoment) (n code a b : ℕ) → m.entry.act ≡ Begin code a b → ((facts_before m).cpu m.entry.cpu).owner ≡ m.image.system.root.id → ((facts_before m).cpu m.entry.cpu).position ≡ n → IsMoved m n
begins_moved m n code a b act owner there =
    let same : (facts_behind m).cpu m.entry.cpu ≡ (facts_before m).cpu m.entry.cpu = (begin_cpus m.image m.form m.before m.entry code a b m.entry.cpu act).caller refl in
    let position : ((facts_behind m).cpu m.entry.cpu).position ≡ n = ap (λ (c : Cpu). c.position) same ∙ there in
    let more : pending (facts_behind m).call m.entry.cpu ≡ 1 = (begin_pends m code a b m.entry.cpu act).1 ∙ ap (λ (x : Bool). cond x 1 0) (same_number m.entry.cpu) in
    record { owner = ap (λ (c : Cpu). c.owner) same ∙ owner; next = omega (arith, position, more) }

runs_moved : (m : AdmittedMoment) (n : ℕ) (op : Op) → op_of_act m.entry.act ≡ Some op → is_begin m.entry.act ≡ false → ((facts_before m).cpu m.entry.cpu).owner ≡ m.image.system.root.id → ((facts_before m).cpu m.entry.cpu).position ≡ n
    → pending (facts_before m).call m.entry.cpu ≡ 0 → IsMoved m n
runs_moved m n op is unlike owner there none =
    let before : Cpu = (facts_before m).cpu m.entry.cpu in
    let behind : Cpu = (facts_behind m).cpu m.entry.cpu in
    let alone = op_alone m.entry.act op is unlike in
    let more : pending (facts_behind m).call m.entry.cpu ≡ 0 = pend_same m m.entry.cpu unlike (op_ends m.entry.act op is) ∙ none in
    let moves : (behind.owner ≡ before.owner) × (behind.position ≡ before.position + 1) =
    ⊎_elim
    (λ (violates : is_violation m.entry.act ≡ true). let e = own_ends m.image m.form m.before m.rest m.entry m.admitted m.legal violates in (ap (λ (c : Cpu). c.owner) e, ap (λ (c : Cpu). c.position) e))
    (λ (good : is_violation m.entry.act ≡ false). let e = own_steps m.image m.form m.before m.rest m.entry m.admitted m.legal alone.0 alone.1 good (roots_stay_on m.image (facts_before m) m.entry (sound_at m) (due_of m) owner) in (ap (λ (c : Cpu). c.owner) e, ap (λ (c : Cpu). c.position) e))
    (cases_Bool (is_violation m.entry.act)) in
    record { owner = moves.0 ∙ owner; next = omega (arith, moves.1, there, more) }

made_at : (m : AdmittedMoment) (n : ℕ) (op : Op) → op_of_act m.entry.act ≡ Some op → m.entry.cell ≡ m.image.system.root.id → IsAt m.image m.entry.cpu n (facts_before m) → IsStep m m.entry.cpu n
made_at m n op is root h =
    let f : Facts = facts_before m in
    let state : Cpu = f.cpu m.entry.cpu in
    let ops : List Op = root_program m.image m.entry.cpu in
    let operation = operation_at m.image m.form m.before m.rest m.entry op m.admitted m.legal is in
    let cell : operation.0 ≡ m.image.system.root =
    ⊎_elim
    (λ (same : operation.0 ≡ m.image.system.root). same)
    (λ (live : Contains (configs_of f.cells) operation.0). absurd (other_root m.image.system (configs_of f.cells) operation.0 (sound_at m).cells live (operation.2 ∙ root)))
    operation.1 in
    let at : slice_get ops state.position ≡ Some op = ap (λ (c : CellConfig). slice_get (program_ops m.image (name_of c) m.entry.cpu) state.position) (sym cell) ∙ operation.3 in
    let within : state.position < length ops = slice_get_within ops state.position op at in
    let owner : state.owner ≡ m.image.system.root.id = sym (cell_at m.image m.form m.before m.rest m.entry m.legal).1 ∙ root in
    let running = (runs_at m.image m.form m.before m.rest m.entry m.admitted m.legal (op_moves m.entry.act op is)).1 in
    let none : pending f.call m.entry.cpu ≡ 0 = op_pends m op f.call is refl in
    let there : state.position ≡ n =
    ⊎_elim
    (λ (same : state.position + pending f.call m.entry.cpu ≡ n). omega (arith, same, none))
    (λ (past : length ops ≤ state.position + pending f.call m.entry.cpu). absurd (omega (arith, past, none, within)))
    (h.own owner (λ failed. false≢true (ap is_running (sym failed ∙ running)))) in
    let moved_is : IsMoved m n =
    ⊎_elim
    (λ (begins : is_begin m.entry.act ≡ true). let b = begin_of m.entry.act begins in begins_moved m n b.0 b.1 b.2 b.3 owner there)
    (λ (unlike : is_begin m.entry.act ≡ false). runs_moved m n op is unlike owner there none)
    (cases_Bool (is_begin m.entry.act)) in
    let P : ℕ → Type 0 = λ k. slice_get ops k ≡ Some op in
    inl (
      op,
      ap (λ (b : Bool). cond b (op_by m.entry.cpu m.entry) None) (eq-eqb m.entry.cell m.image.system.root.id root) ∙ ap (λ (b : Bool). cond b (op_of_act m.entry.act) None) (same_number m.entry.cpu) ∙ is,
      subst P there at,
      next_at m.image m.entry.cpu n ((facts_behind m).cpu m.entry.cpu) (pending (facts_behind m).call m.entry.cpu) moved_is.owner moved_is.next,
    )
  where
    begin_of : (act : Act) → is_begin act ≡ true → (code : ℕ) × (a : ℕ) × (b : ℕ) × (act ≡ Begin code a b)
    begin_of (Begin code a b) passes = (code, a, b, refl)
    begin_of _ passes = absurd (false≢true passes)

-- ---- any entry

no_op : (m : AdmittedMoment) (cpu : ℕ) → op_of_act m.entry.act ≡ None → op_here m cpu ≡ None
no_op m cpu none =
    let P : Option Op → Type 0 = λ o. o ≡ None in
    cond_both (eqb m.entry.cell m.image.system.root.id) (op_by cpu m.entry) None P (λ _. cond_both (eqb m.entry.cpu cpu) (op_of_act m.entry.act) None P (λ _. none) (λ _. refl)) (λ _. refl)

finishes_at : (m : AdmittedMoment) (n : ℕ) (is : (answer : ℤ) × (m.entry.act ≡ Finish answer)) → IsAt m.image m.entry.cpu n (facts_before m) → IsAt m.image m.entry.cpu n (facts_behind m)
finishes_at m n is h =
    let before : Cpu = (facts_before m).cpu m.entry.cpu in
    let ops : List Op = root_program m.image m.entry.cpu in
    let same : (facts_behind m).cpu m.entry.cpu ≡ stepped before = (finish_cpus m.image m.form m.before m.rest m.entry is.0 m.entry.cpu m.admitted m.legal is.1).caller refl in
    let pends = finish_pends m m.entry.cpu is in
    let one : pending (facts_before m).call m.entry.cpu ≡ 1 = pends.0 ∙ ap (λ (b : Bool). cond b 1 0) (same_number m.entry.cpu) in
    let e : before.position + pending (facts_before m).call m.entry.cpu ≡ (before.position + 1) + 0 = omega (arith, one) in
    let A : ℕ → Type 0 = AtOrPast ops n in
    let P : Cpu → Type 0 = λ c. IsAtBy m.image m.entry.cpu n c 0 in
    let Q : ℕ → Type 0 = IsAtBy m.image m.entry.cpu n ((facts_behind m).cpu m.entry.cpu) in
    subst Q (sym pends.1) (subst P (sym same) (record { own = λ owner good. subst A e (h.own owner good); lent = λ other good. h.lent other good }))

own_none : (m : AdmittedMoment) (n : ℕ) → op_of_act m.entry.act ≡ None → is_commit m.entry.act ≡ false → IsAt m.image m.entry.cpu n (facts_before m) → Kind m.entry.act → IsAt m.image m.entry.cpu n (facts_behind m)
own_none m n none unlike h (Begins code a b act) = absurd (none-some _ (sym none ∙ ap op_of_act act))
own_none m n none unlike h (Ends is) = finishes_at m n is h
own_none m n none unlike h (Other begins ends) =
    keeps_at m m.entry.cpu n h (own_place m.image (runs_by_start (facts_before m) m.entry.cpu) m.image.system.root.id (facts_before m).call m.entry.act m.entry.cpu ((facts_before m).cpu m.entry.cpu) none ends unlike) (pend_same m m.entry.cpu begins ends)

own_foreign : (m : AdmittedMoment) (n : ℕ) (op : Op) → op_of_act m.entry.act ≡ Some op → m.entry.cell ≢ m.image.system.root.id → IsAt m.image m.entry.cpu n (facts_before m) → IsAt m.image m.entry.cpu n (facts_behind m)
own_foreign m n op is other h =
    let f : Facts = facts_before m in
    let foreign : (f.cpu m.entry.cpu).owner ≢ m.image.system.root.id = λ root. other ((cell_at m.image m.form m.before m.rest m.entry m.legal).1 ∙ root) in
    let keeps = foreign_place m.image (runs_by_start f m.entry.cpu) m.image.system.root.id f.call m.entry.act m.entry.cpu (f.cpu m.entry.cpu) op is foreign in
    let same : (facts_behind m).cpu m.entry.cpu ≡ acted m.image (runs_by_start f m.entry.cpu) f.call m.entry.act m.entry.cpu m.entry.cpu (f.cpu m.entry.cpu) = behind_cpu m.image m.form m.before m.entry m.entry.cpu in
    let A : ℕ → Type 0 = AtOrPast (root_program m.image m.entry.cpu) n in
    record {
      own = λ root good. absurd (foreign (sym (ap (λ (c : Cpu). c.owner) same ∙ keeps.owner) ∙ root));
      lent = λ apart good. subst A (sym (ap (λ (c : Cpu). c.root_position) same ∙ keeps.root_position)) (h.lent foreign (sym (ap (λ (c : Cpu). c.failed_in_root) same ∙ keeps.failed) ∙ good));
    }

foreign_none : (m : AdmittedMoment) (cpu : ℕ) → m.entry.cell ≢ m.image.system.root.id → op_here m cpu ≡ None
foreign_none m cpu other = ap (λ (b : Bool). cond b (op_by cpu m.entry) None) (ne_eqb m.entry.cell m.image.system.root.id other)

own_step : (m : AdmittedMoment) (n : ℕ) (o : Option Op) → op_of_act m.entry.act ≡ o → IsAt m.image m.entry.cpu n (facts_before m) → IsStep m m.entry.cpu n
own_step m n None is h =
    inr (no_op m m.entry.cpu is, ⊎_elim (λ (act : m.entry.act ≡ Commit). commits_at m m.entry.cpu n act h) (λ (unlike : is_commit m.entry.act ≡ false). own_none m n is unlike h (kind_of m.entry.act)) (commit_or m.entry.act))
own_step m n (Some op) is h =
    ⊎_elim
    (λ (root : m.entry.cell ≡ m.image.system.root.id). made_at m n op is root h)
    (λ (other : m.entry.cell ≢ m.image.system.root.id). inr (foreign_none m m.entry.cpu other, own_foreign m n op is other h))
    (cases_eq m.entry.cell m.image.system.root.id)

other_step : (m : AdmittedMoment) (cpu n : ℕ) → cpu ≢ m.entry.cpu → IsAt m.image cpu n (facts_before m) → IsStep m cpu n
other_step m cpu n other h =
    let P : Option Op → Type 0 = λ o. o ≡ None in
    inr (
      cond_both (eqb m.entry.cell m.image.system.root.id) (op_by cpu m.entry) None P
          (λ _. ap (λ (b : Bool). cond b (op_of_act m.entry.act) None) (ne_eqb m.entry.cpu cpu (λ same. other (sym same))))
          (λ _. refl),
      ⊎_elim
          (λ (act : m.entry.act ≡ Commit). commits_at m cpu n act h)
          (λ (unlike : is_commit m.entry.act ≡ false).
          keeps_at m cpu n h (other_place m.image (runs_by_start (facts_before m) cpu) m.image.system.root.id (facts_before m).call m.entry.act m.entry.cpu cpu ((facts_before m).cpu cpu) other unlike (λ own. spares_root m.image (facts_before m) m.entry cpu (sound_at m) (due_of m) own)) (pend_other m cpu other (kind_of m.entry.act)))
          (commit_or m.entry.act),
    )

step : (m : AdmittedMoment) (cpu n : ℕ) → IsAt m.image cpu n (facts_before m) → IsStep m cpu n
step m cpu n h =
    ⊎_elim
    (λ (own : m.entry.cpu ≡ cpu). (let P : ℕ → Type 0 = λ k. IsAt m.image k n (facts_before m) → IsStep m k n in subst P own (own_step m n (op_of_act m.entry.act) refl) h))
    (λ (other : m.entry.cpu ≢ cpu). other_step m cpu n (λ same. other (sym same)) h)
    (cases_eq m.entry.cpu cpu)

-- ---- over the entries

made_over : (image : Image) (form : Form) (before rest : List Entry) (cpu n : ℕ) → IsAdmitted image → IsLegal image form (before ++ rest) → IsAt image cpu n (facts image form before)
    → (k : ℕ) × (operations_in image.system.root.id cpu rest ≡ take k (drop n (root_program image cpu)))
made_over image form before [] cpu n admitted legal h = (0, refl)
made_over image form before (entry ∷ rest) cpu n admitted legal h =
    let m : AdmittedMoment = record { image = image; form = form; before = before; entry = entry; rest = rest; admitted = admitted; legal = legal } in
    let ops : List Op = root_program image cpu in
    let root : ℕ = image.system.root.id in
    let split : (before ++ entry ∷ []) ++ rest ≡ before ++ entry ∷ rest = append_assoc before (entry ∷ []) rest in
    let P : List Entry → Type 0 = IsLegal image form in
    let later : (j : ℕ) → IsAt image cpu j (facts_behind m) → (k : ℕ) × (operations_in root cpu rest ≡ take k (drop j ops)) = λ j at. made_over image form (before ++ entry ∷ []) rest cpu j admitted (subst P (sym split) legal) at in
    ⊎_elim
    (λ (made : (op : Op) × (op_in root cpu entry ≡ Some op) × (slice_get ops n ≡ Some op) × IsAt image cpu (n + 1) (facts_behind m)).
    let op : Op = made.0 in
    let more = later (n + 1) made.3 in
    let first : drop n ops ≡ op ∷ drop (n + 1) ops = drop_more ops n op (slice_get_within ops n op made.2) ∙ ap (λ (x : Op). x ∷ drop (n + 1) ops) (get_or_from_slice_get ops n op op made.2) in (
      suc more.0,
      ap (λ (o : Option Op). with_op o (operations_in root cpu rest)) made.1 ∙ ap (λ (xs : List Op). op ∷ xs) more.1 ∙ ap (take (suc more.0)) (sym first),
    ))
    (λ (none : (op_in root cpu entry ≡ None) × IsAt image cpu n (facts_behind m)).
    let more = later n none.1 in
    (more.0, ap (λ (o : Option Op). with_op o (operations_in root cpu rest)) none.0 ∙ more.1))
    (step m cpu n h)

opens_at : (image : Image) (form : Form) (cpu : ℕ) → IsAt image cpu 0 (facts image form [])
opens_at image form cpu =
    let P : Facts → Type 0 = IsAt image cpu 0 in
    subst P (sym (facts_nil image form)) (record { own = λ owner good. inl refl; lent = λ other good. absurd (other refl) })

pub operations_go_on : (image : Image) (form : Form) (entries : List Entry) (cpu : ℕ) → IsAdmitted image → IsLegal image form entries → (n : ℕ) × (operations_in image.system.root.id cpu entries ≡ take n (program_in image image.system.root cpu))
operations_go_on image form entries cpu admitted legal = made_over image form [] entries cpu 0 admitted legal (opens_at image form cpu)

take_none : (k : ℕ) → take {A = Op} k [] ≡ []
take_none zero = refl
take_none (suc k) = refl

-- behind a violation
pub violation_ends : (m : AdmittedMoment) → is_violation m.entry.act ≡ true → m.entry.cell ≡ m.image.system.root.id → operations_in m.image.system.root.id m.entry.cpu m.rest ≡ []
violation_ends m violates root =
    let ops : List Op = root_program m.image m.entry.cpu in
    let behind = own_ends m.image m.form m.before m.rest m.entry m.admitted m.legal violates in
    let owner : ((facts_behind m).cpu m.entry.cpu).owner ≡ m.image.system.root.id = ap (λ (c : Cpu). c.owner) behind ∙ sym (cell_at m.image m.form m.before m.rest m.entry m.legal).1 ∙ root in
    let at : IsAt m.image m.entry.cpu (length ops) (facts_behind m) = record { own = λ own good. absurd (good (ap (λ (c : Cpu). c.mode) behind)); lent = λ other good. absurd (other owner) } in
    let split : (m.before ++ m.entry ∷ []) ++ m.rest ≡ m.before ++ m.entry ∷ m.rest = append_assoc m.before (m.entry ∷ []) m.rest in
    let P : List Entry → Type 0 = IsLegal m.image m.form in
    let made = made_over m.image m.form (m.before ++ m.entry ∷ []) m.rest m.entry.cpu (length ops) m.admitted (subst P (sym split) m.legal) at in
    made.1 ∙ ap (take made.0) (drop_all (length ops) ops (omega arith)) ∙ take_none made.0
