-- What entries do to CPUs.
use Rattle.std.proofs.Common.{◌≡◌, ◌≢◌, ℕ, ◌+◌, ◌-◌, ◌^◌, ◌<◌, ◌≤◌, min, List, [], ◌∷◌, ◌++◌, ℤ, Bool, true, false, cond, not, ◌&&◌, ◌||◌, eqb, length, Option, Some, None, is_some, refl, sym, ap, subst, ◌∙◌, arith}
use Rattle.std.specs.Prelude.{slice_get}
use Rattle.std.specs.Option.{option_map_or}
use Rattle.std.proofs.lemmas.Bool.{both_ways, and_left, and_right, and_from, cond_both, eqb-true, eq-eqb, false_from_ne_true, ne_eqb, false≢true}
use Rattle.std.proofs.lemmas.Option.{none-some, slice_get_within}
use Rattle.jh_cellcfg.specs.declared.config.CellConfig.{CellConfig}
use Rattle.jh_cellcfg.specs.declared.live.Live.{Live}
use Rattle.jh_cellcfg.specs.Cells.{name_of}
use Rattle.jh_cpu.specs.declared.cpu.Cpu.{Cpu}
use Rattle.jh_cpu.specs.declared.cpu.Mode.{Mode}
use Rattle.jh_cpu.specs.declared.cpu.Mode.TheVariants.{Running, Parked, Failed}
use Rattle.jh_cpu.specs.Changes.{is_failed, asked_of, stopped_of, resumed, moved, failed, lent, parked, restarted, returned}
use Rattle.jh_call.specs.declared.call.Call.{Call}
use Rattle.jh_call.specs.declared.call.Call.TheVariants.{Create, Start, Loadable, Destroy, CpuOff, CpuOn}
use Rattle.jh_call.specs.Calls.{decoded, is_management}
use Rattle.jh_num.specs.Below.{any_below}
use Rattle.jh_num.proofs.Public.{below_at, below_of}
use Rattle.jh_script.specs.declared.image.Image.{Image}
use Rattle.jh_history.specs.declared.form.Form.{Form}
use Rattle.jh_history.specs.declared.form.Form.TheVariants.{One, Two}
use Rattle.jh_script.specs.declared.op.Op.{Op}
use Rattle.jh_script.specs.declared.op.Op.TheVariants.{Hvc as HvcOp}
use Rattle.jh_history.specs.declared.call.OpenCall.{OpenCall}
use Rattle.jh_history.specs.declared.call.Phase.{Phase}
use Rattle.jh_history.specs.declared.call.Phase.TheVariants.{ToDecide, ToSettle, ToCreate, ToCommit, ToNote, ToNoted, ToFinish}
use Rattle.jh_history.specs.declared.change.Change.{Change}
use Rattle.jh_history.specs.declared.change.Change.TheVariants.{Stay, Step, Fail, Stop as Halt}
use Rattle.jh_history.specs.declared.entry.Entry.{Entry}
use Rattle.jh_history.specs.declared.entry.Settled.TheVariants.{Agreed, Denied, Timeout}
use Rattle.jh_history.specs.declared.entry.Act.{Act}
use Rattle.jh_history.specs.declared.entry.Act.TheVariants.{Read, Write, Fetch, Await, Irq, Hvc, Begin, Stop, Decide, Settle, Commit, Note, Noted, Finish}
use Rattle.jh_history.specs.Facts.{Facts}
use Rattle.jh_history.specs.Lives.{is_on_board, program_ops, cell_in}
use Rattle.jh_history.specs.Admitted.{IsAdmitted}
use Rattle.jh_history.specs.Calls.{is_named, is_of_call}
use Rattle.jh_history.specs.Commits.{cells_by, committed_cells, is_commit}
use Rattle.jh_history.specs.Cpus.{acted, changed, is_granted, switched, cpu_by_call, is_one, runs_by_start, change_if, asked_by_begin, cpu_by_settle, cpu_by_commit, cpu_by_finish, resumed_of_root, is_running}
use Rattle.jh_history.specs.History.{facts}
use Rattle.jh_shape.specs.Lives.{configs_of}
use Rattle.jh_history.specs.Due.{is_idle_but, IsLegal}
use Rattle.jh_history.proofs.Public.{facts_push, facts_form, and_other, called_spared, due_split, IsLegal_begin, configs_joined, legal_sound, after_cells, call_open, few_operations}
use Rattle.jh_history.specs.Sound.{IsCaller, IsInPhase}
use Rattle.jh_laws.specs.Ways.{is_phase, is_undenied_settle, begun_call}
use Rattle.jh_laws.specs.Moves.{stepped, ended, IsLentTo, IsGivenBack}
use Rattle.jh_laws.specs.Outcomes.{is_violation}
use Rattle.jh_laws.specs.States.{is_on, is_off, switches_off, changes_others, changes_none, is_stop_act, HasBegun, HasSettled, HasStarted, HasCommitted, HasFinished}
use Rattle.jh_laws.proofs.CallLemmas.{Expects, phase_expects, phase_of_due, same_call, not_same, IsMadeBy, Stopping, Running as Runs, Calling, made_by, phase_call}
use Rattle.jh_laws.proofs.FactsLemmas.{cpu_after_holds}
use Rattle.jh_laws.proofs.HvcLemmas.{not_failed}
use Rattle.jh_laws.proofs.PowerLemmas.{Spares, spares_own}

-- CPU i behind an entry
pub behind_cpu : (image : Image) (form : Form) (before : List Entry) (entry : Entry) (i : ℕ) → (facts image form (before ++ entry ∷ [])).cpu i ≡ acted image (runs_by_start (facts image form before) i) (facts image form before).call entry.act entry.cpu i ((facts image form before).cpu i)
behind_cpu image form before entry i = ap (λ (f : Facts). f.cpu i) (facts_push image form before entry) ∙ ap (λ (c : ℕ → Cpu). c i) (cpu_after_holds image (facts image form before) entry)

-- ---- a CPU's own entry

-- a position in a program is below the end of its type
within_ops : (image : Image) (cpu : ℕ) (o : Option CellConfig) (i : ℕ) (op : Op) → IsAdmitted image → slice_get (option_map_or (λ (c : CellConfig). program_ops image (name_of c) cpu) o []) i ≡ Some op → i < 4096
within_ops image cpu None i op admitted h = absurd (none-some op h)
within_ops image cpu (Some c) i op admitted h =
    let few : length (program_ops image (name_of c) cpu) ≤ 4096 = few_operations image (name_of c) cpu admitted in
    let within : i < length (program_ops image (name_of c) cpu) = slice_get_within (program_ops image (name_of c) cpu) i op h in
    omega (arith, few, within)

pub moved_stepped : (cpu : Cpu) → cpu.position < 4096 → moved cpu ≡ stepped cpu
moved_stepped cpu few =
    let e : min (cpu.position + 1) (2 ^ 32 - 1) ≡ cpu.position + 1 = omega arith in
    ap (λ (p : ℕ). record cpu { position = p }) e

own_cpu : (change : Change) (own : ℕ) (cpu : Cpu) → cond (eqb own own) (changed change cpu) cpu ≡ changed change cpu
own_cpu change own cpu = ap (λ (b : Bool). cond b (changed change cpu) cpu) (eq-eqb own own refl)

-- a call that switches its caller neither on nor off moves it
switched_own : (call : Call) (own : ℕ) (c : Cpu) → is_off call ≡ false → ((on : ℕ) → call ≡ CpuOn on → own ≢ on) → switched call own own c ≡ c
switched_own CpuOff own c off apart = absurd (false≢true (sym off))
switched_own (CpuOn on) own c off apart = rw (ne_eqb own on (apart on refl)) refl
switched_own _ own c off apart = refl

called_own : (call : Call) (answer : ℤ) (own : ℕ) (c : Cpu) → (is_granted answer && is_off call) ≡ false → (is_granted answer ≡ true → (on : ℕ) → call ≡ CpuOn on → own ≢ on) → cpu_by_call call answer own own c ≡ moved c
called_own call answer own c off apart =
    let made : Cpu = cond (eqb own own) (moved c) c in
    let same : made ≡ moved c = ap (λ (b : Bool). cond b (moved c) c) (eq-eqb own own refl) in
    cond_both (is_granted answer) (switched call own own made) made (λ (x : Cpu). x ≡ moved c)
    (λ yes. switched_own call own made (and_other (is_granted answer) (is_off call) off yes) (apart yes) ∙ same)
    (λ _. same)

-- an access or a hypercall that is answered moves its CPU, and a violation fails it
own_by : (image : Image) (runs : Bool) (call : Option OpenCall) (act : Act) (own : ℕ) (cpu : Cpu) → cpu.position < 4096 → is_of_call act ≡ false → is_stop_act act ≡ false → is_violation act ≡ false → switches_off act ≡ false → Spares own act → acted image runs call act own own cpu ≡ stepped cpu
own_by image runs call (Read width at None) own cpu few a b c off spares = absurd (false≢true (sym c))
own_by image runs call (Read width at (Some got)) own cpu few a b c off spares = own_cpu Step own cpu ∙ moved_stepped cpu few
own_by image runs call (Fetch at None) own cpu few a b c off spares = absurd (false≢true (sym c))
own_by image runs call (Fetch at (Some got)) own cpu few a b c off spares = own_cpu Step own cpu ∙ moved_stepped cpu few
own_by image runs call (Write width at value true) own cpu few a b c off spares = own_cpu Step own cpu ∙ moved_stepped cpu few
own_by image runs call (Write width at value false) own cpu few a b c off spares = absurd (false≢true (sym c))
own_by image runs call (Await width at value true) own cpu few a b c off spares = own_cpu Step own cpu ∙ moved_stepped cpu few
own_by image runs call (Await width at value false) own cpu few a b c off spares = absurd (false≢true (sym c))
own_by image runs call (Irq device vector) own cpu few a b c off spares = own_cpu Step own cpu ∙ moved_stepped cpu few
own_by image runs call (Hvc code x y answer) own cpu few a b c off spares = called_own (decoded code x y) answer own cpu off spares ∙ moved_stepped cpu few
own_by image runs call Stop own cpu few a b c off spares = absurd (false≢true (sym b))
own_by image runs call _ own cpu few a b c off spares = absurd (false≢true (sym a))

moved_ended : (cpu : Cpu) → cpu.position < 4096 → failed (moved cpu) ≡ ended cpu
moved_ended cpu few = ap failed (moved_stepped cpu few)

fails_by : (image : Image) (runs : Bool) (call : Option OpenCall) (act : Act) (own : ℕ) (cpu : Cpu) → cpu.position < 4096 → is_violation act ≡ true → acted image runs call act own own cpu ≡ ended cpu
fails_by image runs call (Read width at None) own cpu few c = own_cpu Fail own cpu ∙ moved_ended cpu few
fails_by image runs call (Fetch at None) own cpu few c = own_cpu Fail own cpu ∙ moved_ended cpu few
fails_by image runs call (Write width at value true) own cpu few c = absurd (false≢true c)
fails_by image runs call (Write width at value false) own cpu few c = own_cpu Fail own cpu ∙ moved_ended cpu few
fails_by image runs call (Await width at value true) own cpu few c = absurd (false≢true c)
fails_by image runs call (Await width at value false) own cpu few c = own_cpu Fail own cpu ∙ moved_ended cpu few
fails_by image runs call _ own cpu few c = absurd (false≢true c)

pub violation_own : (act : Act) → is_violation act ≡ true → (is_of_call act ≡ false) × (is_stop_act act ≡ false)
violation_own (Read width at got) c = (refl, refl)
violation_own (Fetch at got) c = (refl, refl)
violation_own (Write width at value ok) c = (refl, refl)
violation_own (Await width at value ok) c = (refl, refl)
violation_own _ c = absurd (false≢true c)

-- the operation that the CPU was at
position_by : (image : Image) (f : Facts) (entry : Entry) → IsAdmitted image → is_of_call entry.act ≡ false → is_stop_act entry.act ≡ false → IsMadeBy image f entry → (f.cpu entry.cpu).position < 4096
position_by image f entry admitted a b (Stopping is) = absurd (both_ways (is_stop_act entry.act) b (ap is_stop_act (sym is)))
position_by image f entry admitted a b (Calling phase) = absurd (both_ways (is_of_call entry.act) a (phase_call entry.act phase))
position_by image f entry admitted a b (Runs program) = within_ops image entry.cpu (cell_in image f.cells (f.cpu entry.cpu).owner) (f.cpu entry.cpu).position program.op admitted program.at

pub position_few : (image : Image) (form : Form) (before rest : List Entry) (entry : Entry) → IsAdmitted image → IsLegal image form (before ++ entry ∷ rest) → is_of_call entry.act ≡ false → is_stop_act entry.act ≡ false → ((facts image form before).cpu entry.cpu).position < 4096
position_few image form before rest entry admitted legal a b =
    let f : Facts = facts image form before in
    let sound = legal_sound image form before admitted (IsLegal_begin image form before (entry ∷ rest) legal) in
    position_by image f entry admitted a b (made_by image f entry sound (due_split image form before rest entry legal))

pub own_steps : (image : Image) (form : Form) (before rest : List Entry) (entry : Entry) → IsAdmitted image → IsLegal image form (before ++ entry ∷ rest) → is_of_call entry.act ≡ false → is_stop_act entry.act ≡ false → is_violation entry.act ≡ false → switches_off entry.act ≡ false
    → (facts image form (before ++ entry ∷ [])).cpu entry.cpu ≡ stepped ((facts image form before).cpu entry.cpu)
own_steps image form before rest entry admitted legal a b c off =
    let f : Facts = facts image form before in
    let sound = legal_sound image form before admitted (IsLegal_begin image form before (entry ∷ rest) legal) in
    behind_cpu image form before entry entry.cpu ∙ own_by image (runs_by_start f entry.cpu) f.call entry.act entry.cpu (f.cpu entry.cpu) (position_few image form before rest entry admitted legal a b) a b c off (spares_own image f entry sound (due_split image form before rest entry legal))

pub own_ends : (image : Image) (form : Form) (before rest : List Entry) (entry : Entry) → IsAdmitted image → IsLegal image form (before ++ entry ∷ rest) → is_violation entry.act ≡ true → (facts image form (before ++ entry ∷ [])).cpu entry.cpu ≡ ended ((facts image form before).cpu entry.cpu)
own_ends image form before rest entry admitted legal c =
    let f : Facts = facts image form before in
    let kind = violation_own entry.act c in
    behind_cpu image form before entry entry.cpu ∙ fails_by image (runs_by_start f entry.cpu) f.call entry.act entry.cpu (f.cpu entry.cpu) (position_few image form before rest entry admitted legal kind.0 kind.1) c

pub own_stops : (image : Image) (form : Form) (before : List Entry) (entry : Entry) → entry.act ≡ Stop → (facts image form (before ++ entry ∷ [])).cpu entry.cpu ≡ stopped_of ((facts image form before).cpu entry.cpu)
own_stops image form before entry act =
    let f : Facts = facts image form before in
    behind_cpu image form before entry entry.cpu ∙ ap (λ (x : Act). acted image (runs_by_start f entry.cpu) f.call x entry.cpu entry.cpu (f.cpu entry.cpu)) act ∙ own_cpu Halt entry.cpu (f.cpu entry.cpu)

-- ---- other CPUs

other_cpu : (change : Change) (own i : ℕ) (cpu : Cpu) → i ≢ own → cond (eqb i own) (changed change cpu) cpu ≡ cpu
other_cpu change own i cpu other = ap (λ (b : Bool). cond b (changed change cpu) cpu) (ne_eqb i own other)

-- a call that switches no CPU on leaves them
called_others : (call : Call) (answer : ℤ) (own i : ℕ) (cpu : Cpu) → (is_granted answer && is_on call) ≡ false → i ≢ own → cpu_by_call call answer own i cpu ≡ cpu
called_others call answer own i cpu a other =
    called_spared call answer own i cpu other (λ granted on is _. both_ways (is_granted answer && is_on call) a (and_from (is_granted answer) (is_on call) granted (ap is_on is)))

pub others_by : (image : Image) (runs : Bool) (call : Option OpenCall) (act : Act) (own i : ℕ) (cpu : Cpu) → changes_others act ≡ false → i ≢ own → acted image runs call act own i cpu ≡ cpu
others_by image runs call (Read width at got) own i cpu a other = other_cpu (change_if (is_some got)) own i cpu other
others_by image runs call (Fetch at got) own i cpu a other = other_cpu (change_if (is_some got)) own i cpu other
others_by image runs call (Write width at value ok) own i cpu a other = other_cpu (change_if ok) own i cpu other
others_by image runs call (Await width at value ok) own i cpu a other = other_cpu (change_if ok) own i cpu other
others_by image runs call (Irq device vector) own i cpu a other = other_cpu Step own i cpu other
others_by image runs call (Hvc code x y answer) own i cpu a other = called_others (decoded code x y) answer own i cpu a other
others_by image runs call Stop own i cpu a other = other_cpu Halt own i cpu other
others_by image runs call (Decide refused) own i cpu a other = other_cpu Stay own i cpu other
others_by image runs call (Note id) own i cpu a other = other_cpu Stay own i cpu other
others_by image runs call (Noted id how) own i cpu a other = other_cpu Stay own i cpu other
others_by image runs call _ own i cpu a other = absurd (false≢true (sym a))

pub others_kept : (image : Image) (form : Form) (before : List Entry) (entry : Entry) (i : ℕ) → changes_others entry.act ≡ false → i ≢ entry.cpu → (facts image form (before ++ entry ∷ [])).cpu i ≡ (facts image form before).cpu i
others_kept image form before entry i a other = behind_cpu image form before entry i ∙ others_by image (runs_by_start (facts image form before) i) (facts image form before).call entry.act entry.cpu i ((facts image form before).cpu i) a other

-- ---- what changes no CPU

stay_own : (own i : ℕ) (cpu : Cpu) → cond (eqb i own) (changed Stay cpu) cpu ≡ cpu
stay_own own i cpu = let P : Cpu → Type 0 = λ c. c ≡ cpu in cond_both (eqb i own) cpu cpu P (λ _. refl) (λ _. refl)

denied_stay : (call : Option OpenCall) (cpu : Cpu) → option_map_or (λ (o : OpenCall). cpu_by_settle false o.call cpu) call cpu ≡ cpu
denied_stay None cpu = refl
denied_stay (Some o) cpu = refl

stay_by : (image : Image) (runs : Bool) (call : Option OpenCall) (act : Act) (own i : ℕ) (cpu : Cpu) → changes_none act ≡ true → acted image runs call act own i cpu ≡ cpu
stay_by image runs call (Decide refused) own i cpu h = stay_own own i cpu
stay_by image runs call (Settle Denied) own i cpu h = denied_stay call cpu
stay_by image runs call (Note id) own i cpu h = stay_own own i cpu
stay_by image runs call (Noted id how) own i cpu h = stay_own own i cpu
stay_by image runs call _ own i cpu h = absurd (false≢true h)

pub cpus_stay : (image : Image) (form : Form) (before : List Entry) (entry : Entry) (i : ℕ) → changes_none entry.act ≡ true → (facts image form (before ++ entry ∷ [])).cpu i ≡ (facts image form before).cpu i
cpus_stay image form before entry i h = behind_cpu image form before entry i ∙ stay_by image (runs_by_start (facts image form before) i) (facts image form before).call entry.act entry.cpu i ((facts image form before).cpu i) h

-- ---- the beginning and the end of a call

not_running : (mode : Mode) → mode ≢ Running → is_running mode ≡ false
not_running Running other = absurd (other refl)
not_running Parked other = refl
not_running Failed other = refl

asked_if : (b : Bool) (cpu : Cpu) → b ≡ false → cond b (asked_of cpu) cpu ≡ cpu
asked_if b cpu fails = ap (λ (x : Bool). cond x (asked_of cpu) cpu) fails

pub begins : (image : Image) (own i : ℕ) (cpu : Cpu) → HasBegun image own i cpu (asked_by_begin image own i cpu)
begins image own i cpu =
    let a : Bool = is_on_board image i in
    let b : Bool = not (eqb i own) in
    let c : Bool = eqb cpu.owner image.system.root.id in
    let d : Bool = is_running cpu.mode in
    record {
      asked = λ on other root runs. rw (on, ne_eqb i own other, eq-eqb cpu.owner image.system.root.id root, runs) refl;
      absent = λ off. asked_if (a && b && c && d) cpu (and_left (a && b && c) d (and_left (a && b) c (and_left a b off)));
      caller = λ own_is. asked_if (a && b && c && d) cpu (and_left (a && b && c) d (and_left (a && b) c (and_right a b (ap not (eq-eqb i own own_is)))));
      foreign = λ other. asked_if (a && b && c && d) cpu (and_left (a && b && c) d (and_right (a && b) c (ne_eqb cpu.owner image.system.root.id other)));
      rests = λ other. asked_if (a && b && c && d) cpu (and_right (a && b && c) d (not_running cpu.mode other));
    }

pub begin_cpus : (image : Image) (form : Form) (before : List Entry) (entry : Entry) (code x y i : ℕ) → entry.act ≡ Begin code x y → HasBegun image entry.cpu i ((facts image form before).cpu i) ((facts image form (before ++ entry ∷ [])).cpu i)
begin_cpus image form before entry code x y i act =
    let f : Facts = facts image form before in
    let P : Cpu → Type 0 = HasBegun image entry.cpu i (f.cpu i) in
    let same = behind_cpu image form before entry i ∙ ap (λ (a : Act). acted image (runs_by_start f i) f.call a entry.cpu i (f.cpu i)) act in
    subst P (sym same) (begins image entry.cpu i (f.cpu i))

finishes : (image : Image) (own i : ℕ) (cpu : Cpu) → (i ≡ own → (cpu.position < 4096) × (cpu.stopped ≡ false) × (cpu.owner ≡ image.system.root.id)) → HasFinished image own i cpu (cpu_by_finish image own i cpu)
finishes image own i cpu caller =
    let root : ℕ = image.system.root.id in
    record {
      caller = λ is.
          let c = caller is in
          let yes : eqb i own ≡ true = eq-eqb i own is in
          let there : resumed_of_root root cpu ≡ resumed cpu = ap (λ (b : Bool). cond b (resumed cpu) cpu) (eq-eqb cpu.owner root c.2) in
          let same : resumed cpu ≡ cpu = ap (λ (b : Bool). record cpu { stopped = b }) (sym c.1) in
          let e : cpu_by_finish image own i cpu ≡ moved (resumed_of_root root cpu) = rw yes refl in
          e ∙ ap moved (there ∙ same) ∙ moved_stepped cpu c.0;
      roots = λ other is.
          let fails : eqb i own ≡ false = ne_eqb i own other in
          let e : cpu_by_finish image own i cpu ≡ resumed_of_root root cpu = rw fails refl in
          e ∙ ap (λ (b : Bool). cond b (resumed cpu) cpu) (eq-eqb cpu.owner root is);
      foreign = λ other.
          let fails : eqb i own ≡ false = ne_eqb i own (λ is. other (caller is).2) in
          let e : cpu_by_finish image own i cpu ≡ resumed_of_root root cpu = rw fails refl in
          e ∙ ap (λ (b : Bool). cond b (resumed cpu) cpu) (ne_eqb cpu.owner root other);
    }

pub finish_cpus : (image : Image) (form : Form) (before rest : List Entry) (entry : Entry) (answer : ℤ) (i : ℕ) → IsAdmitted image → IsLegal image form (before ++ entry ∷ rest) → entry.act ≡ Finish answer → HasFinished image entry.cpu i ((facts image form before).cpu i) ((facts image form (before ++ entry ∷ [])).cpu i)
finish_cpus image form before rest entry answer i admitted legal act =
    let f : Facts = facts image form before in
    let sound = legal_sound image form before admitted (IsLegal_begin image form before (entry ∷ rest) legal) in
    let of = phase_of_due image f entry sound (due_split image form before rest entry legal) (ap is_phase act) in
    let Q : ℕ → Type 0 = λ k. IsCaller image k of.o.call (f.cpu k) in
    let made : IsCaller image entry.cpu of.o.call (f.cpu entry.cpu) = subst Q of.caller (call_open image f of.o sound of.opens).caller in
    let few : length (program_ops image (name_of image.system.root) entry.cpu) ≤ 4096 = few_operations image (name_of image.system.root) entry.cpu admitted in
    let within = slice_get_within (program_ops image (name_of image.system.root) entry.cpu) (f.cpu entry.cpu).position (HvcOp made.code made.a made.b) made.at in
    let R : ℕ → Type 0 = λ k. ((f.cpu k).position < 4096) × ((f.cpu k).stopped ≡ false) × ((f.cpu k).owner ≡ image.system.root.id) in
    let own : R entry.cpu = (omega (arith, few, within), made.calm.stopped, made.owner) in
    let P : Cpu → Type 0 = HasFinished image entry.cpu i (f.cpu i) in
    let same = behind_cpu image form before entry i ∙ ap (λ (a : Act). acted image (runs_by_start f i) f.call a entry.cpu i (f.cpu i)) act in
    subst P (sym same) (finishes image entry.cpu i (f.cpu i) (λ is. subst R (sym is) own))

-- ---- the Settle and the Commit

agrees : (call : Call) (cpu : Cpu) → HasSettled call cpu (cpu_by_settle true call cpu)
agrees call cpu = record {
  asked = λ named runs. rw (named, runs) refl;
  foreign = λ other. asked_if (is_named call cpu.owner && is_running cpu.mode) cpu (and_left (is_named call cpu.owner) (is_running cpu.mode) other);
  rests = λ other. asked_if (is_named call cpu.owner && is_running cpu.mode) cpu (and_right (is_named call cpu.owner) (is_running cpu.mode) (not_running cpu.mode other));
}

-- the call of a phase that is made
pub record IsPhaseBegun (image : Image) (form : Form) (before : List Entry) (entry : Entry) (call : Call) : Type 0 where
  pub phase : Phase
  pub opens : (facts image form before).call ≡ Some (record { caller = entry.cpu; call = call; phase = phase })
  pub expects : Expects phase entry.act
  pub holds : IsInPhase image (configs_of (facts image form before).cells) (facts image form before).cpu entry.cpu call phase
  pub manages : is_management call ≡ true

pub phase_begun : (image : Image) (form : Form) (before rest : List Entry) (entry : Entry) (call : Call) → IsAdmitted image → IsLegal image form (before ++ entry ∷ rest) → begun_call before ≡ Some call → is_phase entry.act ≡ true → IsPhaseBegun image form before entry call
phase_begun image form before rest entry call admitted legal is phase =
    let f : Facts = facts image form before in
    let sound = legal_sound image form before admitted (IsLegal_begin image form before (entry ∷ rest) legal) in
    let of = phase_of_due image f entry sound (due_split image form before rest entry legal) phase in
    let o : OpenCall = of.o in
    let opens = call_open image f o sound of.opens in
    let same : o.call ≡ call = same_call image form before o call of.opens is in
    let whole : record { caller = o.caller; call = o.call; phase = o.phase } ≡ record { caller = entry.cpu; call = call; phase = o.phase } =
    ap (λ (k : ℕ). record { caller = k; call = o.call; phase = o.phase }) of.caller ∙ ap (λ (c : Call). record { caller = entry.cpu; call = c; phase = o.phase }) same in
    let P : Call → Type 0 = λ k. IsInPhase image (configs_of f.cells) f.cpu entry.cpu k o.phase in
    let Q : ℕ → Type 0 = λ k. IsInPhase image (configs_of f.cells) f.cpu k o.call o.phase in
    let M : Call → Type 0 = λ k. is_management k ≡ true in
    record {
      phase = o.phase;
      opens = of.opens ∙ ap Some whole;
      expects = phase_expects image f (is_idle_but image f o.caller) o.caller o.call o.phase entry.act of.act;
      holds = subst P same (subst Q of.caller opens.phase);
      manages = subst M same opens.caller.management;
    }

settle_by : (image : Image) (runs : Bool) (call : Option OpenCall) (o : OpenCall) (act : Act) (own i : ℕ) (cpu : Cpu) → call ≡ Some o → is_undenied_settle act ≡ true → HasSettled o.call cpu (acted image runs call act own i cpu)
settle_by image runs call o (Settle Agreed) own i cpu is agreed = let P : Option OpenCall → Type 0 = λ c. HasSettled o.call cpu (acted image runs c (Settle Agreed) own i cpu) in subst P (sym is) (agrees o.call cpu)
settle_by image runs call o (Settle Timeout) own i cpu is agreed = let P : Option OpenCall → Type 0 = λ c. HasSettled o.call cpu (acted image runs c (Settle Timeout) own i cpu) in subst P (sym is) (agrees o.call cpu)
settle_by image runs call o _ own i cpu is agreed = absurd (false≢true agreed)

agreement_phase : (act : Act) → is_undenied_settle act ≡ true → is_phase act ≡ true
agreement_phase (Settle how) h = refl
agreement_phase _ h = absurd (false≢true h)

pub settle_cpus : (image : Image) (form : Form) (before rest : List Entry) (entry : Entry) (call : Call) (i : ℕ) → IsAdmitted image → IsLegal image form (before ++ entry ∷ rest) → begun_call before ≡ Some call → is_undenied_settle entry.act ≡ true
    → HasSettled call ((facts image form before).cpu i) ((facts image form (before ++ entry ∷ [])).cpu i)
settle_cpus image form before rest entry call i admitted legal is agreed =
    let f : Facts = facts image form before in
    let of = phase_begun image form before rest entry call admitted legal is (agreement_phase entry.act agreed) in
    let P : Cpu → Type 0 = HasSettled call (f.cpu i) in
    subst P (sym (behind_cpu image form before entry i)) (settle_by image (runs_by_start f i) f.call (record { caller = entry.cpu; call = call; phase = of.phase }) entry.act entry.cpu i (f.cpu i) of.opens agreed)

is_lent : (id : ℕ) (cpu : Cpu) → IsLentTo id cpu (lent id cpu)
is_lent id cpu = record {
  owner = refl;
  mode = refl;
  asked = refl;
  stopped = refl;
  position = refl;
  root_position = refl;
  failed = λ is. ap is_failed is;
  unfailed = λ other. not_failed cpu.mode other;
}

is_given_back : (root end : ℕ) (cpu : Cpu) → IsGivenBack root end cpu (returned root end cpu)
is_given_back root end cpu = record {
  owner = refl;
  mode = refl;
  asked = refl;
  stopped = refl;
  ended = λ is. ap (λ (b : Bool). cond b end cpu.root_position) is;
  position = λ is. ap (λ (b : Bool). cond b end cpu.root_position) is;
  root_position = refl;
  failed = refl;
}

created_cpus : (image : Image) (form : Form) (runs : Bool) (cells made : List Live) (cpu : ℕ → Cpu) (caller at i : ℕ) (phase : Phase) → Expects phase Commit → IsInPhase image (configs_of cells) cpu caller (Create at) phase → made ≡ committed_cells (Create at) phase cells
    → HasCommitted image form cpu (configs_of cells) (configs_of made) (Create at) i (cpu i) (cpu_by_commit image runs (Create at) phase i (cpu i))
created_cpus image form runs cells made cpu caller at i ToDecide e h is = absurd (not_same is_commit Commit (Decide e.0) refl refl e.1)
created_cpus image form runs cells made cpu caller at i (ToSettle waited) e h is = absurd (not_same is_commit Commit (Settle e.0) refl refl e.1)
created_cpus image form runs cells made cpu caller at i (ToCreate config) e h is = (
  config,
  ap configs_of is ∙ configs_joined cells config,
  λ set. (let P : Cpu → Type 0 = IsLentTo config.id (cpu i) in subst P (sym (ap (λ (b : Bool). cond b (lent config.id (cpu i)) (cpu i)) set)) (is_lent config.id (cpu i))),
  λ none. ap (λ (b : Bool). cond b (lent config.id (cpu i)) (cpu i)) none,
)
created_cpus image form runs cells made cpu caller at i ToCommit e h is = absurd (both_ways false refl h.2)
created_cpus image form runs cells made cpu caller at i (ToNote id about answer) e h is = absurd (not_same is_commit Commit (Note id) refl refl e)
created_cpus image form runs cells made cpu caller at i (ToNoted id about answer waited) e h is = absurd (not_same is_commit Commit (Noted id e.0) refl refl e.1)
created_cpus image form runs cells made cpu caller at i (ToFinish answer) e h is = absurd (not_same is_commit Commit (Finish answer) refl refl e)

-- a change of the CPUs of one owner
owner_changed : (change : Cpu → Cpu) (id : ℕ) (cpu : Cpu) → (cpu.owner ≡ id → cond (eqb cpu.owner id) (change cpu) cpu ≡ change cpu) × (cpu.owner ≢ id → cond (eqb cpu.owner id) (change cpu) cpu ≡ cpu)
owner_changed change id cpu = (
  λ is. ap (λ (b : Bool). cond b (change cpu) cpu) (eq-eqb cpu.owner id is),
  λ other. ap (λ (b : Bool). cond b (change cpu) cpu) (ne_eqb cpu.owner id other),
)

-- a start, as the form says
started : (form : Form) (cpu : ℕ → Cpu) (id i : ℕ) → HasStarted form cpu id i (cpu i) (cond (eqb (cpu i).owner id) (cond (is_one form || not (any_below (λ k. eqb (cpu k).owner (cpu i).owner) i)) (restarted (cpu i)) (parked (cpu i))) (cpu i))
started One cpu id i = λ own. ap (λ (b : Bool). cond b (restarted (cpu i)) (cpu i)) (eq-eqb (cpu i).owner id own)
started Two cpu id i =
    let lower : ℕ → Bool = λ k. eqb (cpu k).owner (cpu i).owner in
    let change : Bool → Cpu = λ any. cond (not any) (restarted (cpu i)) (parked (cpu i)) in
    let here : (cpu i).owner ≡ id → cond (eqb (cpu i).owner id) (change (any_below lower i)) (cpu i) ≡ change (any_below lower i) =
    λ own. ap (λ (b : Bool). cond b (change (any_below lower i)) (cpu i)) (eq-eqb (cpu i).owner id own) in (
      λ own none.
          let lowest : any_below lower i ≡ false =
          false_from_ne_true (any_below lower i)
          (λ yes. let one = below_of lower i yes in none one.0 one.1 (eqb-true (cpu one.0).owner (cpu i).owner one.2 ∙ own)) in
          here own ∙ ap change lowest,
      λ k own lt is. here own ∙ ap change (below_at lower i k lt (eq-eqb (cpu k).owner (cpu i).owner (is ∙ sym own))),
    )

commit_by : (image : Image) (form : Form) (cells made : List Live) (cpu : ℕ → Cpu) (caller i : ℕ) (call : Call) (phase : Phase) → is_management call ≡ true → Expects phase Commit → IsInPhase image (configs_of cells) cpu caller call phase → made ≡ committed_cells call phase cells
    → HasCommitted image form cpu (configs_of cells) (configs_of made) call i (cpu i) (cpu_by_commit image (is_one form || not (any_below (λ k. eqb (cpu k).owner (cpu i).owner) i)) call phase i (cpu i))
commit_by image form cells made cpu caller i (Create at) phase manages e h is = created_cpus image form (is_one form || not (any_below (λ k. eqb (cpu k).owner (cpu i).owner) i)) cells made cpu caller at i phase e h is
commit_by image form cells made cpu caller i (Start id) phase manages e h is =
    let runs : Bool = is_one form || not (any_below (λ k. eqb (cpu k).owner (cpu i).owner) i) in
    (started form cpu id i, (owner_changed (λ (c : Cpu). cond runs (restarted c) (parked c)) id (cpu i)).1)
commit_by image form cells made cpu caller i (Loadable id) phase manages e h is = owner_changed parked id (cpu i)
commit_by image form cells made cpu caller i (Destroy id) phase manages e h is =
    let root : ℕ = image.system.root.id in
    let end : ℕ = length (program_ops image (name_of image.system.root) i) in
    let back = owner_changed (returned root end) id (cpu i) in
    let P : Cpu → Type 0 = IsGivenBack root end (cpu i) in
    (λ own. subst P (sym (back.0 own)) (is_given_back root end (cpu i)), back.1)
commit_by image form cells made cpu caller i _ phase manages e h is = both_ways false refl manages

pub commit_cpus : (image : Image) (form : Form) (before rest : List Entry) (entry : Entry) (call : Call) (i : ℕ) → IsAdmitted image → IsLegal image form (before ++ entry ∷ rest) → begun_call before ≡ Some call → entry.act ≡ Commit
    → HasCommitted image form (facts image form before).cpu (configs_of (facts image form before).cells) (configs_of (facts image form (before ++ entry ∷ [])).cells) call i ((facts image form before).cpu i) ((facts image form (before ++ entry ∷ [])).cpu i)
commit_cpus image form before rest entry call i admitted legal is act =
    let f : Facts = facts image form before in
    let of = phase_begun image form before rest entry call admitted legal is (ap is_phase act) in
    let o : OpenCall = record { caller = entry.cpu; call = call; phase = of.phase } in
    let made : List Live = (facts image form (before ++ entry ∷ [])).cells in
    let E : Act → Type 0 = Expects of.phase in
    let cells : made ≡ committed_cells call of.phase f.cells =
    ap (λ (g : Facts). g.cells) (facts_push image form before entry)
    ∙ after_cells image f entry
    ∙ ap (λ (c : Option OpenCall). cells_by c f.cells entry.act) of.opens
    ∙ ap (cells_by (Some o) f.cells) act in
    let same : (facts image form (before ++ entry ∷ [])).cpu i ≡ cpu_by_commit image (runs_by_start f i) call of.phase i (f.cpu i) =
    behind_cpu image form before entry i
    ∙ ap (λ (c : Option OpenCall). acted image (runs_by_start f i) c entry.act entry.cpu i (f.cpu i)) of.opens
    ∙ ap (λ (a : Act). acted image (runs_by_start f i) (Some o) a entry.cpu i (f.cpu i)) act in
    let P : Cpu → Type 0 = HasCommitted image form f.cpu (configs_of f.cells) (configs_of made) call i (f.cpu i) in
    let Q : Form → Type 0 = λ x. HasCommitted image x f.cpu (configs_of f.cells) (configs_of made) call i (f.cpu i) (cpu_by_commit image (runs_by_start f i) call of.phase i (f.cpu i)) in
    subst P (sym same) (subst Q (facts_form image form before) (commit_by image f.form f.cells made f.cpu entry.cpu i call of.phase of.manages (subst E act of.expects) of.holds cells))
