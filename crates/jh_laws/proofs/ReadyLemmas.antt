-- When an entry is due to a CPU, and which.
use Rattle.std.proofs.Common.{◌≡◌, ℕ, List, [], Bool, true, false, cond, eqb, Option, Some, None, is_some, refl, sym, ap, subst, ◌∙◌, arith}
use Rattle.std.specs.Prelude.{IsSome, option_map}
use Rattle.std.proofs.lemmas.Bool.{false≢true, eqb-true, eq-eqb}
use Rattle.std.proofs.lemmas.Option.{none-some, same_Some}
use Rattle.jh_num.proofs.Public.{same_test}
use Rattle.jh_cellcfg.specs.Cells.{name_of}
use Rattle.jh_script.specs.declared.image.Image.{Image}
use Rattle.jh_history.specs.declared.form.Form.{Form}
use Rattle.jh_script.specs.declared.op.Op.{Op}
use Rattle.jh_script.specs.declared.op.Op.TheVariants.{Read as ReadOp, Write as WriteOp, Fetch as FetchOp, Await as AwaitOp, Irq as IrqOp, Hvc as HvcOp}
use Rattle.jh_script.specs.Operations.{IsWellFormed}
use Rattle.jh_history.specs.declared.access.Access.{Access}
use Rattle.jh_history.specs.declared.access.Access.TheVariants.{Read as ToRead, Write as ToWrite, Fetch as ToFetch}
use Rattle.jh_history.specs.declared.entry.Entry.{Entry}
use Rattle.jh_history.specs.declared.entry.Act.{Act}
use Rattle.jh_history.specs.declared.entry.Act.TheVariants.{Read, Write, Fetch, Await}
use Rattle.jh_history.specs.Access.{is_reached}
use Rattle.jh_history.specs.History.{facts}
use Rattle.jh_history.specs.Grants.{reach}
use Rattle.jh_history.specs.Due.{due, act_of, await_of, irq_of, got_by, entry_by, IsLegal, IsQuiet}
use Rattle.jh_history.specs.Admitted.{IsNoHypercall}
use Rattle.jh_history.specs.Sound.{IsSound}
use Rattle.jh_history.proofs.Public.{legal_sound}
use Rattle.jh_laws.specs.Ends.{IsAnswered, IsReadBy, IsGotBy, IsAwaitedBy}
use Rattle.jh_laws.specs.Outcomes.{HasItsOutcome}
use Rattle.jh_laws.specs.Operations.{op_of_act, IsDueOp, IsReady, IsCpusOwn}
use Rattle.jh_laws.proofs.RootLemmas.{op_well_formed}
use Rattle.jh_laws.proofs.MadeLemmas.{IsSilent, op_silent, IsMade, due_at_made, due_at_running, made_access, roots_at}
use Rattle.jh_laws.proofs.OutcomeLemmas.{got_of, reached_of, value_of, outcome}
use Rattle.jh_laws.proofs.EndsLemmas.{width_some}

-- what root's read of so many bytes gets after the entries
abbrev got_after : Image → Form → List Entry → ℕ → ℕ → Option ℕ
got_after image form entries at width = got_by image (facts image form entries) image.system.root.id ToRead at width

-- an await that comes to an act is due
equal_due : (image : Image) (form : Form) (entries : List Entry) (width at value got : ℕ) (act : Act) (b : Bool) → IsGotBy image (facts image form entries) image.system.root.id ToRead at width (Some got) → eqb got value ≡ b
    → cond b (Some (Await width at value true)) None ≡ Some act → IsAnswered image (facts image form entries) image.system.root.id ToRead at width → IsReadBy image (facts image form entries) image.system.root.id ToRead at width value
equal_due image form entries width at value got act true outcome is h = λ answered. let P : ℕ → Type 0 = IsReadBy image (facts image form entries) image.system.root.id ToRead at width in subst P (eqb-true got value is) (outcome.reads got refl)
equal_due image form entries width at value got act false outcome is h = absurd (none-some act h)

await_due : (image : Image) (form : Form) (entries : List Entry) (width at value : ℕ) (act : Act) (o : Option ℕ) → IsGotBy image (facts image form entries) image.system.root.id ToRead at width o → await_of width at value o ≡ Some act
    → IsAnswered image (facts image form entries) image.system.root.id ToRead at width → IsReadBy image (facts image form entries) image.system.root.id ToRead at width value
await_due image form entries width at value act None outcome h = λ granted. absurd (false≢true (outcome.answered.1 granted))
await_due image form entries width at value act (Some got) outcome h = equal_due image form entries width at value got act (eqb got value) outcome refl h

op_due : (image : Image) (form : Form) (entries : List Entry) (op : Op) (act : Act) → (facts image form entries).endpoints ≡ [] → IsSound image (facts image form entries) → IsWellFormed op → IsNoHypercall op → act_of image (facts image form entries) image.system.root.id op ≡ Some act → IsDueOp image form entries image.system.root op
op_due image form entries (ReadOp width at) act bare sound plain silent h = tt
op_due image form entries (WriteOp width at value) act bare sound plain silent h = tt
op_due image form entries (FetchOp at) act bare sound plain silent h = tt
op_due image form entries (AwaitOp width at value) act bare sound plain silent h =
    await_due image form entries width at value act (got_after image form entries at width) (got_of image form entries ToRead at width sound (width_some width plain.0)) h
op_due image form entries IrqOp act bare sound plain silent h = none-some act (sym (ap (irq_of image.system.root.id) bare) ∙ h)
op_due image form entries (HvcOp code a b) act bare sound plain silent h = silent

-- and one that is due comes to an act
await_act : (image : Image) (form : Form) (entries : List Entry) (width at value : ℕ) (o : Option ℕ) → IsSound image (facts image form entries) → IsGotBy image (facts image form entries) image.system.root.id ToRead at width o
    → (IsAnswered image (facts image form entries) image.system.root.id ToRead at width → IsReadBy image (facts image form entries) image.system.root.id ToRead at width value) → (act : Act) × (await_of width at value o ≡ Some act)
await_act image form entries width at value None sound outcome due = (Await width at value false, refl)
await_act image form entries width at value (Some got) sound outcome due =
    let answered = outcome.answered.0 refl in
    let same : got ≡ value = value_of image form entries ToRead at width got value sound answered (outcome.reads got refl) (due answered) in
    (Await width at value true, ap (λ (b : Bool). cond b (Some (Await width at value true)) None) (eq-eqb got value same))

due_act : (image : Image) (form : Form) (entries : List Entry) (op : Op) → IsSound image (facts image form entries) → IsWellFormed op → IsDueOp image form entries image.system.root op → (act : Act) × (act_of image (facts image form entries) image.system.root.id op ≡ Some act)
due_act image form entries (ReadOp width at) sound plain due = (Read width at (got_after image form entries at width), refl)
due_act image form entries (WriteOp width at value) sound plain due = (Write width at value (is_reached (reach image (facts image form entries) image.system.root.id ToWrite at width)), refl)
due_act image form entries (FetchOp at) sound plain due = (Fetch at (got_by image (facts image form entries) image.system.root.id ToFetch at 4), refl)
due_act image form entries (AwaitOp width at value) sound plain due =
    await_act image form entries width at value (got_after image form entries at width) sound (got_of image form entries ToRead at width sound (width_some width plain.0)) due
due_act image form entries IrqOp sound plain due = absurd due
due_act image form entries (HvcOp code a b) sound plain due = absurd due

ready_by : (image : Image) (form : Form) (entries : List Entry) (cpu : ℕ) (o : Option Entry) → IsSilent image → IsLegal image form entries → due image form entries cpu ≡ o → IsSome o → IsReady image form entries image.system.root cpu
ready_by image form entries cpu None admitted legal h some = absurd (false≢true some)
ready_by image form entries cpu (Some entry) admitted legal h some =
    let all = roots_at image form entries admitted legal in
    let roots = all.cpus cpu in
    let made : IsMade image (facts image form entries) cpu entry = due_at_made image (facts image form entries) cpu entry all.endpoints all.alone.call roots h in
    let silent = op_silent image (name_of image.system.root) cpu ((facts image form entries).cpu cpu).position made.op admitted made.at in
    let plain = op_well_formed image (name_of image.system.root) cpu ((facts image form entries).cpu cpu).position made.op admitted.admitted made.at in
    record { board = made.board; running = made.running; asked = roots.asked; stopped = roots.stopped; op = made.op; at = made.at; due = op_due image form entries made.op entry.act all.endpoints (legal_sound image form entries admitted.admitted legal) plain silent made.act }

-- a CPU with an entry due is ready
pub ready_from_due : (image : Image) (form : Form) (entries : List Entry) (cpu : ℕ) → IsSilent image → IsLegal image form entries → IsSome (due image form entries cpu) → IsReady image form entries image.system.root cpu
ready_from_due image form entries cpu admitted legal some = ready_by image form entries cpu (due image form entries cpu) admitted legal refl some

-- and a ready CPU has one
pub due_from_ready : (image : Image) (form : Form) (entries : List Entry) (cpu : ℕ) → IsSilent image → IsLegal image form entries → IsReady image form entries image.system.root cpu → IsSome (due image form entries cpu)
due_from_ready image form entries cpu admitted legal ready =
    let f = facts image form entries in
    let plain = op_well_formed image (name_of image.system.root) cpu (f.cpu cpu).position ready.op admitted.admitted ready.at in
    let act = due_act image form entries ready.op (legal_sound image form entries admitted.admitted legal) plain ready.due in
    let made : due image form entries cpu ≡ Some (entry_by cpu (f.cpu cpu).owner act.0)
    = due_at_running image f cpu ready.op (roots_at image form entries admitted legal).alone.call ready.board ((roots_at image form entries admitted legal).cpus cpu) ready.running ready.at ∙ ap (option_map (entry_by cpu (f.cpu cpu).owner)) act.1 in
    ap (λ (o : Option Entry). is_some o) made

-- the entry due is the CPU's own
pub own_from_due : (image : Image) (form : Form) (entries : List Entry) (cpu : ℕ) (entry : Entry) → IsSilent image → IsLegal image form entries → due image form entries cpu ≡ Some entry → IsCpusOwn image form entries image.system.root cpu entry
own_from_due image form entries cpu entry admitted legal h =
    let made : IsMade image (facts image form entries) cpu entry = due_at_made image (facts image form entries) cpu entry (roots_at image form entries admitted legal).endpoints (roots_at image form entries admitted legal).alone.call ((roots_at image form entries admitted legal).cpus cpu) h in
    let of = made_access image (facts image form entries) cpu entry made admitted in
    record { cpu_is = made.cpu_is; cell_is = made.cell_is; operation = of.operation ∙ sym made.at; outcome = outcome image form entries entry.act (legal_sound image form entries admitted.admitted legal) of.access }

-- nothing is due to a CPU where it isn't ready
none_by : (image : Image) (form : Form) (entries : List Entry) (cpu : ℕ) (o : Option Entry) → due image form entries cpu ≡ o → (IsSome o → ⊥) → due image form entries cpu ≡ None
none_by image form entries cpu None is none = is
none_by image form entries cpu (Some entry) is none = absurd (none refl)

pub some_none : (o : Option Entry) → o ≡ None → IsSome o → ⊥
some_none o e some = false≢true (ap (λ (p : Option Entry). is_some p) (sym e) ∙ some)

pub quiet_not_ready : (image : Image) (form : Form) (entries : List Entry) → IsSilent image → IsLegal image form entries → IsQuiet image form entries → (cpu : ℕ) → IsReady image form entries image.system.root cpu → ⊥
quiet_not_ready image form entries admitted legal quiet cpu ready = some_none (due image form entries cpu) (quiet cpu) (due_from_ready image form entries cpu admitted legal ready)

pub quiet_from_none : (image : Image) (form : Form) (entries : List Entry) → IsSilent image → IsLegal image form entries → ((cpu : ℕ) → IsReady image form entries image.system.root cpu → ⊥) → IsQuiet image form entries
quiet_from_none image form entries admitted legal none cpu =
    none_by image form entries cpu (due image form entries cpu) refl (λ some. none cpu (ready_from_due image form entries cpu admitted legal some))

-- two readings of the same bytes
got_same : (image : Image) (form : Form) (entries : List Entry) (access : Access) (at width : ℕ) (one other : Option ℕ) → IsSound image (facts image form entries) → IsGotBy image (facts image form entries) image.system.root.id access at width one → IsGotBy image (facts image form entries) image.system.root.id access at width other → one ≡ other
got_same image form entries access at width None None sound a b = refl
got_same image form entries access at width None (Some w) sound a b = absurd (false≢true (a.answered.1 (b.answered.0 refl)))
got_same image form entries access at width (Some v) None sound a b = absurd (false≢true (b.answered.1 (a.answered.0 refl)))
got_same image form entries access at width (Some v) (Some w) sound a b = ap Some (value_of image form entries access at width v w sound (a.answered.0 refl) (a.reads v refl) (b.reads w refl))

-- an await with its outcome is what the operation comes to
await_from : (image : Image) (form : Form) (entries : List Entry) (width at value : ℕ) (o : Option ℕ) (ok : Bool) → IsSound image (facts image form entries) → IsGotBy image (facts image form entries) image.system.root.id ToRead at width o → IsAwaitedBy image (facts image form entries) image.system.root.id at width value ok
    → await_of width at value o ≡ Some (Await width at value ok)
await_from image form entries width at value None true sound got awaited = absurd (false≢true (got.answered.1 (awaited.answered.0 refl)))
await_from image form entries width at value None false sound got awaited = refl
await_from image form entries width at value (Some v) true sound got awaited =
    let same : v ≡ value = value_of image form entries ToRead at width v value sound (got.answered.0 refl) (got.reads v refl) (awaited.reads refl) in
    ap (λ (b : Bool). cond b (Some (Await width at value true)) None) (eq-eqb v value same)
await_from image form entries width at value (Some v) false sound got awaited = absurd (false≢true (awaited.answered.1 (got.answered.0 refl)))

-- and so is each access
act_from : (image : Image) (form : Form) (entries : List Entry) (op : Op) (act : Act) → IsSound image (facts image form entries) → IsWellFormed op → op_of_act act ≡ Some op → HasItsOutcome image form entries image.system.root act → act_of image (facts image form entries) image.system.root.id op ≡ Some act
act_from image form entries op (Read width at got) sound plain is h =
    let P : Op → Type 0 = λ o. IsWellFormed o → act_of image (facts image form entries) image.system.root.id o ≡ Some (Read width at got) in
    subst P (same_Some (ReadOp width at) op is)
    (λ own. ap (λ (g : Option ℕ). Some (Read width at g)) (got_same image form entries ToRead at width (got_after image form entries at width) got sound (got_of image form entries ToRead at width sound (width_some width own)) h))
    plain
act_from image form entries op (Write width at value ok) sound plain is h =
    let P : Op → Type 0 = λ o. IsWellFormed o → act_of image (facts image form entries) image.system.root.id o ≡ Some (Write width at value ok) in
    let r = is_reached (reach image (facts image form entries) image.system.root.id ToWrite at width) in
    subst P (same_Some (WriteOp width at value) op is)
    (λ own. let reached = reached_of image (facts image form entries) ToWrite at width sound (width_some width own.0) in
    ap (λ (b : Bool). Some (Write width at value b)) (same_test r ok (λ passes. h.1 (reached.0 passes)) (λ passes. reached.1 (h.0 passes))))
    plain
act_from image form entries op (Fetch at got) sound plain is h =
    let P : Op → Type 0 = λ o. act_of image (facts image form entries) image.system.root.id o ≡ Some (Fetch at got) in
    let r = got_by image (facts image form entries) image.system.root.id ToFetch at 4 in
    subst P (same_Some (FetchOp at) op is)
    (ap (λ (g : Option ℕ). Some (Fetch at g)) (got_same image form entries ToFetch at 4 r got sound (got_of image form entries ToFetch at 4 sound (omega arith)) h))
act_from image form entries op (Await width at value ok) sound plain is h =
    let P : Op → Type 0 = λ o. IsWellFormed o → act_of image (facts image form entries) image.system.root.id o ≡ Some (Await width at value ok) in
    subst P (same_Some (AwaitOp width at value) op is)
    (λ own. await_from image form entries width at value (got_after image form entries at width) ok sound (got_of image form entries ToRead at width sound (width_some width own.0)) h)
    plain
act_from image form entries op _ sound plain is h = absurd h

-- so an entry that is a ready CPU's own is the one due
pub due_from_own : (image : Image) (form : Form) (entries : List Entry) (cpu : ℕ) (entry : Entry) → IsSilent image → IsLegal image form entries → IsReady image form entries image.system.root cpu → IsCpusOwn image form entries image.system.root cpu entry → due image form entries cpu ≡ Some entry
due_from_own image form entries cpu entry admitted legal ready own =
    let f = facts image form entries in
    let plain = op_well_formed image (name_of image.system.root) cpu (f.cpu cpu).position ready.op admitted.admitted ready.at in
    let act : act_of image f image.system.root.id ready.op ≡ Some entry.act = act_from image form entries ready.op entry.act (legal_sound image form entries admitted.admitted legal) plain (own.operation ∙ ready.at) own.outcome in
    let same : entry_by cpu (f.cpu cpu).owner entry.act ≡ entry =
    ap (λ (c : ℕ). entry_by c (f.cpu cpu).owner entry.act) (sym own.cpu_is) ∙ ap (λ (c : ℕ). entry_by entry.cpu c entry.act) (sym own.cell_is) in
    due_at_running image f cpu ready.op (roots_at image form entries admitted legal).alone.call ready.board ((roots_at image form entries admitted legal).cpus cpu) ready.running ready.at
    ∙ ap (option_map (entry_by cpu (f.cpu cpu).owner)) act
    ∙ ap Some same
