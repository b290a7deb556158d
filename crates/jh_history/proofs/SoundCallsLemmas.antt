-- What a hypercall that was answered leaves sound: it moves its caller, and one that was granted switches that off, or
-- another CPU of the caller's cell on.
use Rattle.std.proofs.Common.{◌≡◌, ◌≢◌, ℕ, ℤ, List, Bool, true, false, cond, ◌&&◌, eqb, Some, None, Option, refl, sym, ap, subst, ◌∙◌}
use Rattle.std.specs.Prelude.{IfSome, option_map}
use Rattle.std.proofs.lemmas.Bool.{both_ways, and_parts, cond_both, eqb-true, eq-eqb, ne_eqb, false_from_ne_true}
use Rattle.std.proofs.lemmas.Option.{none-some, same_Some}
use Rattle.jh_cellcfg.specs.declared.config.CellConfig.{CellConfig}
use Rattle.jh_cpu.specs.declared.cpu.Cpu.{Cpu}
use Rattle.jh_cpu.specs.Changes.{moved, parked, restarted}
use Rattle.jh_call.specs.declared.call.Call.{Call}
use Rattle.jh_call.specs.declared.call.Call.TheVariants.{Create, Start, Loadable, Destroy, Info, State, CpuInfo, CpuOff, CpuOn, Affinity, Unknown}
use Rattle.jh_call.specs.declared.seen.PowerSeen.{PowerSeen}
use Rattle.jh_call.specs.declared.seen.PowerSeen.TheVariants.{Foreign}
use Rattle.jh_call.specs.Calls.{decoded, is_management}
use Rattle.jh_call.specs.Answers.{on_answer}
use Rattle.jh_ivshmem.specs.Links.{pending_of}
use Rattle.jh_num.specs.declared.error.TheConstants.{ENOSYS}
use Rattle.jh_script.specs.declared.image.Image.{Image}
use Rattle.jh_script.specs.declared.op.Op.{Op}
use Rattle.jh_script.specs.declared.op.Op.TheVariants.{Read as ReadOp, Write as WriteOp, Fetch as FetchOp, Await as AwaitOp, Irq as IrqOp, Hvc as HvcOp}
use Rattle.jh_history.specs.declared.access.Access.TheVariants.{Read as ToRead}
use Rattle.jh_history.specs.declared.call.OpenCall.{OpenCall}
use Rattle.jh_history.specs.declared.call.Phase.{Phase}
use Rattle.jh_history.specs.declared.call.Phase.TheVariants.{ToDecide, ToSettle, ToCreate, ToCommit, ToNote, ToNoted, ToFinish}
use Rattle.jh_history.specs.declared.entry.Act.{Act}
use Rattle.jh_history.specs.declared.entry.Act.TheVariants.{Read, Write, Fetch, Await, Irq, Hvc, Begin, Stop, Decide, Settle, Commit, Note, Noted, Finish}
use Rattle.jh_history.specs.declared.form.Form.{Form}
use Rattle.jh_history.specs.declared.form.Form.TheVariants.{One, Two}
use Rattle.jh_history.specs.Facts.{Facts}
use Rattle.jh_history.specs.Lives.{is_on_board}
use Rattle.jh_history.specs.Calls.{is_named, counted}
use Rattle.jh_history.specs.Cpus.{is_granted, switched, is_switch, cpu_by_call}
use Rattle.jh_history.specs.Due.{act_of, await_of, got_by}
use Rattle.jh_history.specs.Hypercalls.{call_in, answered, power_of}
use Rattle.jh_history.specs.Wants.{goes_on}
use Rattle.jh_history.specs.Sound.{IsCalm, IsCaller, IsOpen, HaltsForCall, HaltsForCommit}
use Rattle.jh_history.proofs.SoundCpusLemmas.{goes_calm, halting_rests, come_rests, come_counted, goes_counted, phase_counted}
use Rattle.jh_history.proofs.SoundDueLemmas.{IsOfProgram}

-- ---- one CPU

-- what moving, parking and beginning anew keep, a switch keeps
switched_keeps : (P : Cpu → Type 0) → ((c : Cpu) → P c → P (parked c)) → ((c : Cpu) → P c → P (restarted c)) → (call : Call) (own i : ℕ) (c : Cpu) → P c → P (switched call own i c)
switched_keeps P parks begins CpuOff own i c h = cond_both (eqb i own) (parked c) c P (λ _. parks c h) (λ _. h)
switched_keeps P parks begins (CpuOn on) own i c h = cond_both (eqb i on) (restarted c) c P (λ _. begins c h) (λ _. h)
switched_keeps P parks begins _ own i c h = h

pub called_keeps : (P : Cpu → Type 0) → ((c : Cpu) → P c → P (moved c)) → ((c : Cpu) → P c → P (parked c)) → ((c : Cpu) → P c → P (restarted c)) → (call : Call) (answer : ℤ) (own i : ℕ) (c : Cpu) → P c → P (cpu_by_call call answer own i c)
called_keeps P moves parks begins call answer own i c h =
    let made : Cpu = cond (eqb i own) (moved c) c in
    let here : P made = cond_both (eqb i own) (moved c) c P (λ _. moves c h) (λ _. h) in
    cond_both (is_granted answer) (switched call own i made) made P (λ _. switched_keeps P parks begins call own i made here) (λ _. here)

pub called_owner : (call : Call) (answer : ℤ) (own i : ℕ) (c : Cpu) → (cpu_by_call call answer own i c).owner ≡ c.owner
called_owner call answer own i c = called_keeps (λ (x : Cpu). x.owner ≡ c.owner) (λ x h. h) (λ x h. h) (λ x h. h) call answer own i c refl

pub called_calm : (call : Call) (answer : ℤ) (own i : ℕ) (c : Cpu) → IsCalm c → IsCalm (cpu_by_call call answer own i c)
called_calm call answer own i c h =
    called_keeps IsCalm
    (λ x calm. record { asked = calm.asked; stopped = calm.stopped })
    (λ x calm. record { asked = calm.asked; stopped = refl })
    (λ x calm. record { asked = calm.asked; stopped = refl })
    call answer own i c h

-- ---- a call that switches no CPU

switched_none : (call : Call) (own i : ℕ) (c : Cpu) → is_switch call ≡ false → switched call own i c ≡ c
switched_none CpuOff own i c h = absurd (both_ways true h refl)
switched_none (CpuOn on) own i c h = absurd (both_ways true h refl)
switched_none _ own i c h = refl

pub and_other : (a b : Bool) → (a && b) ≡ false → a ≡ true → b ≡ false
and_other true b h is = h
and_other false b h is = absurd (both_ways false refl is)

-- it moves its caller alone
pub called_none : (call : Call) (answer : ℤ) (own i : ℕ) (c : Cpu) → (is_granted answer && is_switch call) ≡ false → cpu_by_call call answer own i c ≡ cond (eqb i own) (moved c) c
called_none call answer own i c h =
    let made : Cpu = cond (eqb i own) (moved c) c in
    cond_both (is_granted answer) (switched call own i made) made (λ (x : Cpu). x ≡ made)
    (λ yes. switched_none call own i made (and_other (is_granted answer) (is_switch call) h yes))
    (λ _. refl)

-- a CPU that didn't make the call, and that isn't the one that it switches on, stays as it is
switched_other : (call : Call) (own i : ℕ) (c : Cpu) → i ≢ own → ((on : ℕ) → call ≡ CpuOn on → i ≢ on) → switched call own i c ≡ c
switched_other CpuOff own i c apart other = rw (ne_eqb i own apart) refl
switched_other (CpuOn on) own i c apart other = rw (ne_eqb i on (other on refl)) refl
switched_other _ own i c apart other = refl

pub called_spared : (call : Call) (answer : ℤ) (own i : ℕ) (c : Cpu) → i ≢ own → (is_granted answer ≡ true → (on : ℕ) → call ≡ CpuOn on → i ≢ on) → cpu_by_call call answer own i c ≡ c
called_spared call answer own i c apart spares =
    let made : Cpu = cond (eqb i own) (moved c) c in
    let same : made ≡ c = rw (ne_eqb i own apart) refl in
    cond_both (is_granted answer) (switched call own i made) made (λ (x : Cpu). x ≡ c)
    (λ yes. switched_other call own i made apart (spares yes) ∙ same)
    (λ _. same)

-- ---- whose CPU is switched

-- where the call was granted, a CPU that it switches on is of the caller's cell
abbrev pub IsGrantedOwn : (ℕ → Cpu) → ℕ → Call → ℤ → Type 0
IsGrantedOwn cpu own call answer = is_granted answer ≡ true → (on : ℕ) → call ≡ CpuOn on → (cpu on).owner ≡ (cpu own).owner

-- a CPU of another cell than the caller's stays as it is
pub called_other : (cpu : ℕ → Cpu) (own i : ℕ) (call : Call) (answer : ℤ) → IsGrantedOwn cpu own call answer → (cpu i).owner ≢ (cpu own).owner → cpu_by_call call answer own i (cpu i) ≡ cpu i
called_other cpu own i call answer granted other =
    let owner : ℕ → ℕ = λ k. (cpu k).owner in
    called_spared call answer own i (cpu i) (λ e. other (ap owner e)) (λ yes on is e. other (ap owner e ∙ granted yes on is))

-- ---- beside an open call

-- a CPU of the cell isn't about to be halted for the Commit, where one of its CPUs goes on
goes_unnamed : (call : Call) (c : Cpu) → HaltsForCommit call ToCommit c → goes_on c ≡ true → is_named call c.owner ≡ false
goes_unnamed call c h on = false_from_ne_true (is_named call c.owner) (λ named. halting_rests c (h.0 named) on)

unnamed : (call : Call) (phase : Phase) (c : Cpu) → HaltsForCommit call phase c → goes_on c ≡ true → phase ≡ ToCommit → is_named call c.owner ≡ false
unnamed call phase c h on is = goes_unnamed call c (subst (λ (p : Phase). HaltsForCommit call p c) is h) on

goes_called : (o call : Call) (answer : ℤ) (own i : ℕ) (phase : Phase) (c : Cpu) → (phase ≡ ToCommit → is_named o c.owner ≡ false) → HaltsForCommit o phase c → HaltsForCommit o phase (cpu_by_call call answer own i c)
goes_called o call answer own i ToDecide c out h = called_calm call answer own i c h
goes_called o call answer own i (ToSettle waited) c out h = called_calm call answer own i c h
goes_called o call answer own i (ToCreate config) c out h = called_calm call answer own i c h
goes_called o call answer own i ToCommit c out h = (
  λ named. absurd (both_ways (is_named o c.owner) (out refl) (ap (is_named o) (sym (called_owner call answer own i c)) ∙ named)),
  λ _. called_calm call answer own i c (h.1 (out refl)),
)
goes_called o call answer own i (ToNote id about told) c out h = called_calm call answer own i c h
goes_called o call answer own i (ToNoted id about told waited) c out h = called_calm call answer own i c h
goes_called o call answer own i (ToFinish told) c out h = called_calm call answer own i c h

-- a CPU of a cell besides root, where one of its own or of another cell made the call
goes_beside : (o call : Call) (answer : ℤ) (cpu : ℕ → Cpu) (own i : ℕ) (phase : Phase) (same : Bool) → eqb (cpu i).owner (cpu own).owner ≡ same → IsGrantedOwn cpu own call answer → HaltsForCommit o phase (cpu own) → goes_on (cpu own) ≡ true
    → HaltsForCommit o phase (cpu i) → HaltsForCommit o phase (cpu_by_call call answer own i (cpu i))
goes_beside o call answer cpu own i phase true same granted here on h =
    let is : (cpu i).owner ≡ (cpu own).owner = eqb-true (cpu i).owner (cpu own).owner same in
    goes_called o call answer own i phase (cpu i) (λ late. ap (is_named o) is ∙ unnamed o phase (cpu own) here on late) h
goes_beside o call answer cpu own i phase false same granted here on h =
    let P : Cpu → Type 0 = HaltsForCommit o phase in
    let other : (cpu i).owner ≢ (cpu own).owner = λ e. both_ways (eqb (cpu i).owner (cpu own).owner) same (eq-eqb (cpu i).owner (cpu own).owner e) in
    subst P (sym (called_other cpu own i call answer granted other)) h

-- a CPU that isn't the caller of the open call goes on with a hypercall: it isn't root's, nor is one that it switches
pub open_called : (image : Image) (configs : List CellConfig) (cpu : ℕ → Cpu) (o : OpenCall) (own cell : ℕ) (call : Call) (answer : ℤ) → IsOpen image configs cpu o → is_on_board image own ≡ true → own ≢ o.caller → goes_on (cpu own) ≡ true
    → IsGrantedOwn cpu own call answer → IsOpen image configs (λ i. cpu_by_call call answer own i (cpu i)) (record { caller = o.caller; call = o.call; phase = counted cell o.call o.phase })
open_called image configs cpu o own cell call answer opens on other goes granted =
    let root : ℕ = image.system.root.id in
    let after : ℕ → Cpu = λ i. cpu_by_call call answer own i (cpu i) in
    let owner : (i : ℕ) → (after i).owner ≡ (cpu i).owner = λ i. called_owner call answer own i (cpu i) in
    let apart : (cpu own).owner ≢ root = λ is. come_rests o.phase (cpu own) (opens.roots own on other is) goes in
    let kept : (i : ℕ) → (cpu i).owner ≡ root → after i ≡ cpu i = λ i is. called_other cpu own i call answer granted (λ e. apart (sym e ∙ is)) in
    record {
      caller = subst (IsCaller image o.caller o.call) (sym (kept o.caller opens.caller.owner)) opens.caller;
      roots = λ i here away is.
          let was : (cpu i).owner ≡ root = sym (owner i) ∙ is in
          come_counted cell o.call o.phase (after i) (subst (HaltsForCall o.phase) (sym (kept i was)) (opens.roots i here away was));
      cells = λ i is.
          goes_counted cell o.call o.phase (after i)
          (goes_beside o.call call answer cpu own i o.phase (eqb (cpu i).owner (cpu own).owner) refl granted (opens.cells own apart) goes (opens.cells i (λ e. is (owner i ∙ e))));
      absent = λ i off. called_calm call answer own i (cpu i) (opens.absent i off);
      phase = phase_counted image configs cpu after o.caller cell o.call o.phase owner opens.phase;
    }

-- ---- what a call is answered

-- the answer of a hypercall that is due
abbrev pub IsAnsweredAct : Image → Facts → ℕ → Act → Type 0
IsAnsweredAct image f cell (Hvc code a b answer) = answer ≡ answered image f cell (call_in f.form (decoded code a b))
IsAnsweredAct image f cell act = Unit {0}

await_answered : (image : Image) (f : Facts) (cell width at value : ℕ) (o : Option ℕ) → IfSome (await_of width at value o) (IsAnsweredAct image f cell)
await_answered image f cell width at value None = tt
await_answered image f cell width at value (Some got) =
    cond_both (eqb got value) (Some (Await width at value true)) None (λ (o : Option Act). IfSome o (IsAnsweredAct image f cell)) (λ _. tt) (λ _. tt)

irq_answered : (image : Image) (f : Facts) (cell : ℕ) (o : Option (ℕ × ℕ)) → IfSome (option_map (λ (next : ℕ × ℕ). Irq next.0 next.1) o) (IsAnsweredAct image f cell)
irq_answered image f cell None = tt
irq_answered image f cell (Some next) = tt

op_answered : (image : Image) (f : Facts) (cell : ℕ) (op : Op) → IfSome (act_of image f cell op) (IsAnsweredAct image f cell)
op_answered image f cell (ReadOp width at) = tt
op_answered image f cell (WriteOp width at value) = tt
op_answered image f cell (FetchOp at) = tt
op_answered image f cell (AwaitOp width at value) = await_answered image f cell width at value (got_by image f cell ToRead at width)
op_answered image f cell IrqOp = irq_answered image f cell (pending_of cell f.endpoints)
op_answered image f cell (HvcOp code a b) =
    cond_both (eqb cell image.system.root.id && is_management (decoded code a b)) (Begin code a b)
    (Hvc code a b (answered image f cell (call_in f.form (decoded code a b))))
    (IsAnsweredAct image f cell) (λ _. tt) (λ _. refl)

answered_by : (image : Image) (f : Facts) (cell : ℕ) (act : Act) (o : Option Act) → IfSome o (IsAnsweredAct image f cell) → o ≡ Some act → IsAnsweredAct image f cell act
answered_by image f cell act None h e = absurd (none-some act e)
answered_by image f cell act (Some other) h e = let P : Act → Type 0 = IsAnsweredAct image f cell in subst P (same_Some other act e) h

pub program_answered : (image : Image) (f : Facts) (state : Cpu) (cpu : ℕ) (act : Act) → IsOfProgram image f state cpu act → IsAnsweredAct image f state.owner act
program_answered image f state cpu act program = answered_by image f state.owner act (act_of image f state.owner program.op) (op_answered image f state.owner program.op) program.is

-- a CPU that is switched on is the caller's cell's
abbrev IsOwnOn : Image → Facts → ℕ → ℕ → ℤ → Type 0
IsOwnOn image f cell on answer = is_granted answer ≡ true → (f.cpu on).owner ≡ cell

own_on : (image : Image) (f : Facts) (cell on : ℕ) → IsOwnOn image f cell on (on_answer (cond (is_on_board image on && eqb (f.cpu on).owner cell) (power_of (f.cpu on).mode) Foreign))
own_on image f cell on =
    cond_both (is_on_board image on && eqb (f.cpu on).owner cell) (power_of (f.cpu on).mode) Foreign (λ (seen : PowerSeen). IsOwnOn image f cell on (on_answer seen))
    (λ yes _. eqb-true (f.cpu on).owner cell (and_parts (is_on_board image on) (eqb (f.cpu on).owner cell) yes).1)
    (λ _ granted. absurd (both_ways false refl granted))

answered_on : (image : Image) (f : Facts) (cell on : ℕ) (form : Form) → IsOwnOn image f cell on (answered image f cell (call_in form (CpuOn on)))
answered_on image f cell on One granted = absurd (both_ways false refl granted)
answered_on image f cell on Two granted =
    cond_both (eqb cell image.system.root.id) ENOSYS (on_answer (cond (is_on_board image on && eqb (f.cpu on).owner cell) (power_of (f.cpu on).mode) Foreign)) (IsOwnOn image f cell on)
    (λ _ given. absurd (both_ways false refl given))
    (λ _ given. own_on image f cell on given)
    granted

pub granted_owner : (image : Image) (f : Facts) (state : Cpu) (own code a b : ℕ) (answer : ℤ) → IsOfProgram image f state own (Hvc code a b answer) → is_granted answer ≡ true → (on : ℕ) → decoded code a b ≡ CpuOn on → (f.cpu on).owner ≡ state.owner
granted_owner image f state own code a b answer program granted on is =
    let is_answer : answer ≡ answered image f state.owner (call_in f.form (CpuOn on)) =
    program_answered image f state own (Hvc code a b answer) program ∙ ap (λ (call : Call). answered image f state.owner (call_in f.form call)) is in
    answered_on image f state.owner on f.form (ap is_granted (sym is_answer) ∙ granted)
