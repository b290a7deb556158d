-- What hypercalls are answered, and which begin a call.
use Rattle.std.proofs.Common.{◌≡◌, ◌≢◌, ℕ, ◌≤◌, List, ◌∷◌, ◌++◌, Bool, true, false, cond, ◌&&◌, ◌||◌, eqb, ℤ, Option, Some, None, pos, negsuc, refl, sym, ap, subst, ◌∙◌, inr, ◌⊎◌, ⊎_elim, arith}
use Rattle.std.specs.Prelude.{Contains, IfSome, find, option_map, nat_le}
use Rattle.std.proofs.lemmas.Bool.{both_ways, and_parts, and_right, and_from, cond_both, eq-eqb, eqb-true, ne_eqb, le-leb, leb-true, false_from_ne_true, false≢true, or_left, or_right}
use Rattle.std.proofs.lemmas.Option.{none-some, same_Some}
use Rattle.jh_num.specs.declared.error.TheConstants.{EINVAL}
use Rattle.jh_cellcfg.specs.declared.config.CellConfig.{CellConfig}
use Rattle.jh_cellcfg.specs.declared.live.Live.{Live}
use Rattle.jh_cellcfg.specs.Lives.{has_id}
use Rattle.jh_cpu.specs.declared.cpu.Mode.{Mode}
use Rattle.jh_cpu.specs.declared.cpu.Mode.TheVariants.{Running, Parked, Failed}
use Rattle.jh_cpu.specs.Changes.{is_failed}
use Rattle.jh_call.specs.declared.call.Call.{Call}
use Rattle.jh_call.specs.declared.call.Call.TheVariants.{Info, State, CpuInfo, CpuOff, CpuOn, Affinity, Unknown}
use Rattle.jh_call.specs.declared.seen.CpuSeen.TheVariants.{Fine, Failed as FailedSeen}
use Rattle.jh_call.specs.declared.seen.PowerSeen.{PowerSeen}
use Rattle.jh_call.specs.declared.seen.PowerSeen.TheVariants.{Foreign as NotOwned, On, Off, Failed as IsDown}
use Rattle.jh_call.specs.Calls.{decoded, is_management, is_power}
use Rattle.jh_call.specs.Answers.{answer_of, info_of, cpu_answer, on_answer, affinity_answer}
use Rattle.jh_ivshmem.specs.Links.{pending_of}
use Rattle.jh_script.specs.declared.image.Image.{Image}
use Rattle.jh_history.specs.declared.form.Form.{Form}
use Rattle.jh_history.specs.declared.form.Form.TheVariants.{One, Two}
use Rattle.jh_script.specs.declared.op.Op.{Op}
use Rattle.jh_script.specs.declared.op.Op.TheVariants.{Read as ReadOp, Write as WriteOp, Fetch as FetchOp, Await as AwaitOp, Irq as IrqOp, Hvc as HvcOp}
use Rattle.jh_history.specs.declared.access.Access.TheVariants.{Read as ToRead}
use Rattle.jh_history.specs.declared.entry.Entry.{Entry}
use Rattle.jh_history.specs.declared.entry.Act.{Act}
use Rattle.jh_history.specs.declared.entry.Act.TheVariants.{Await, Irq, Hvc, Begin, Stop}
use Rattle.jh_history.specs.Facts.{Facts}
use Rattle.jh_history.specs.Lives.{is_on_board, live_in}
use Rattle.jh_history.specs.History.{facts}
use Rattle.jh_history.specs.Hypercalls.{state_of_cell, mode_seen, cpu_seen_by, power_of, power_seen_by, seen_of, call_in, answered}
use Rattle.jh_history.specs.Phases.{state_word}
use Rattle.jh_shape.specs.Lives.{configs_of}
use Rattle.jh_history.specs.Due.{due_at, act_of, await_of, got_by, IsLegal}
use Rattle.jh_history.specs.Admitted.{IsAdmitted}
use Rattle.jh_history.proofs.Public.{due_split, IsLegal_begin, other_root, found_live, next_from_due, legal_sound}
use Rattle.jh_history.specs.Sound.{AreSoundCells}
use Rattle.jh_laws.specs.Ways.{is_phase}
use Rattle.jh_laws.specs.Hypercalls.{IsInfoAnswer, IsStateAnswer, IsCpuAnswer, IsNotOwn, IsOffAnswer, IsOnAnswer, IsAffinityAnswer, IsAnswer}
use Rattle.jh_laws.proofs.CallLemmas.{IsMadeBy, Stopping, Running as Runs, Calling, made_by}
use Rattle.jh_laws.proofs.HeldLemmas.{live_cell}

-- ---- the answers

info_by : (image : Image) (f : Facts) (cell kind : ℕ) (call : Call) → IsInfoAnswer image f kind (info_of kind (seen_of image f cell call))
info_by image f cell kind call = record {
  size = λ is. rw is refl;
  used = λ is. rw is refl;
  cells = λ is. rw is refl;
  other = λ a b c. rw (ne_eqb kind 0 a, ne_eqb kind 1 b, ne_eqb kind 4 c) refl;
}

-- the state of a live cell
told_live : (image : Image) (f : Facts) (id : ℕ) (config : CellConfig) → AreSoundCells image.system (configs_of f.cells) → Contains (configs_of f.cells) config → config.id ≡ id → state_of_cell image f id ≡ Some (state_word f id)
told_live image f id config sound held is =
    let other : id ≢ image.system.root.id = λ e. other_root image.system (configs_of f.cells) config sound held (is ∙ e) in
    let apart : state_of_cell image f id ≡ option_map (λ (c : CellConfig). state_word f c.id) (live_in f.cells id) = rw (ne_eqb id image.system.root.id other) refl in
    let P : ℕ → Type 0 = λ k. k ≢ image.system.root.id → cond (eqb k image.system.root.id) (Some image.system.root) (live_in f.cells k) ≡ Some config → live_in f.cells k ≡ Some config in
    let found : live_in f.cells id ≡ Some config = subst P is (λ o h. let e : cond (eqb config.id image.system.root.id) (Some image.system.root) (live_in f.cells config.id) ≡ live_in f.cells config.id = rw (ne_eqb config.id image.system.root.id o) refl in sym e ∙ h) other (rw (← is) (live_cell image f.cells config sound (inr held))) in
    apart ∙ ap (option_map (λ (c : CellConfig). state_word f c.id)) found ∙ ap (λ (k : ℕ). Some (state_word f k)) is

pub none_live : (cells : List Live) (id : ℕ) (o : Option Live) → find (has_id id) cells ≡ o → ((config : CellConfig) → Contains (configs_of cells) config → config.id ≢ id) → o ≡ None
none_live cells id None e none = refl
none_live cells id (Some live) e none = let found = found_live cells id live e in absurd (none live.config found.0 found.1)

state_by : (image : Image) (f : Facts) (cell id : ℕ) → AreSoundCells image.system (configs_of f.cells) → IsStateAnswer image f cell id (answer_of (State id) (seen_of image f cell (State id)))
state_by image f cell id sound = record {
  others = λ other. rw (ne_eqb cell image.system.root.id other) refl;
  root = λ own is. rw (eq-eqb cell image.system.root.id own, eq-eqb id image.system.root.id is) refl;
  state = λ config own held is few. rw (eq-eqb cell image.system.root.id own, told_live image f id config sound held is, le-leb (state_word f id) 4 few) refl;
  wrong = λ config own held is many.
      let fails : nat_le (state_word f id) 4 ≡ false = false_from_ne_true (nat_le (state_word f id) 4) (λ yes. let le : state_word f id ≤ 4 = leb-true (state_word f id) 4 yes in omega arith) in
      rw (eq-eqb cell image.system.root.id own, told_live image f id config sound held is, fails) refl;
  none = λ own other none.
      let nothing : find (has_id id) f.cells ≡ None = none_live f.cells id (find (has_id id) f.cells) refl none in
      rw (eq-eqb cell image.system.root.id own, ne_eqb id image.system.root.id other, nothing) refl;
}

pub not_failed : (mode : Mode) → mode ≢ Failed → is_failed mode ≡ false
not_failed Running other = refl
not_failed Parked other = refl
not_failed Failed other = absurd (other refl)

-- a CPU that the cell sees
seen_by : (image : Image) (f : Facts) (cell cpu : ℕ) → is_on_board image cpu ≡ true → (cell ≡ image.system.root.id) ⊎ ((f.cpu cpu).owner ≡ cell) → cpu_seen_by image f cell cpu ≡ mode_seen (f.cpu cpu)
seen_by image f cell cpu on h =
    let sees : (eqb cell image.system.root.id || eqb (f.cpu cpu).owner cell) ≡ true =
    ⊎_elim
    (λ own. or_left (eqb cell image.system.root.id) (eqb (f.cpu cpu).owner cell) (eq-eqb cell image.system.root.id own))
    (λ owner. or_right (eqb cell image.system.root.id) (eqb (f.cpu cpu).owner cell) (eq-eqb (f.cpu cpu).owner cell owner))
    h in
    rw (on, sees) refl

mode_kind : (failed : Bool) (kind : ℕ) → kind ≢ 0 → cpu_answer kind (cond failed FailedSeen Fine) ≡ EINVAL
mode_kind true kind other = rw (ne_eqb kind 0 other) refl
mode_kind false kind other = rw (ne_eqb kind 0 other) refl

cpu_by : (image : Image) (f : Facts) (cell cpu kind : ℕ) → IsCpuAnswer image f cell cpu kind (answer_of (CpuInfo cpu kind) (seen_of image f cell (CpuInfo cpu kind)))
cpu_by image f cell cpu kind = record {
  absent = λ off. rw off refl;
  foreign = λ on other owner. rw (on, ne_eqb cell image.system.root.id other, ne_eqb (f.cpu cpu).owner cell owner) refl;
  wrong = λ on sees other. ap (cpu_answer kind) (seen_by image f cell cpu on sees) ∙ mode_kind (is_failed (f.cpu cpu).mode) kind other;
  failed = λ on sees is mode. ap (cpu_answer kind) (seen_by image f cell cpu on sees) ∙ rw (mode, is) refl;
  good = λ on sees is mode. ap (cpu_answer kind) (seen_by image f cell cpu on sees) ∙ rw (not_failed (f.cpu cpu).mode mode, is) refl;
}

-- ---- the power interface

power_none : (image : Image) (f : Facts) (cell cpu : ℕ) → IsNotOwn image f cell cpu → power_seen_by image f cell cpu ≡ NotOwned
power_none image f cell cpu h =
    ⊎_elim
    (λ (off : is_on_board image cpu ≡ false). rw off refl)
    (λ (other : (f.cpu cpu).owner ≢ cell). ap (λ (b : Bool). cond b (power_of (f.cpu cpu).mode) NotOwned) (and_right (is_on_board image cpu) (eqb (f.cpu cpu).owner cell) (ne_eqb (f.cpu cpu).owner cell other)))
    h

power_own : (image : Image) (f : Facts) (cell cpu : ℕ) → is_on_board image cpu ≡ true → (f.cpu cpu).owner ≡ cell → power_seen_by image f cell cpu ≡ power_of (f.cpu cpu).mode
power_own image f cell cpu on own = rw (on, eq-eqb (f.cpu cpu).owner cell own) refl

off_by : (image : Image) (f : Facts) (cell : ℕ) → IsOffAnswer image cell (answer_of CpuOff (seen_of image f cell CpuOff))
off_by image f cell = record {
  root = λ own. rw (eq-eqb cell image.system.root.id own) refl;
  granted = λ other. rw (ne_eqb cell image.system.root.id other) refl;
}

on_by : (image : Image) (f : Facts) (cell cpu : ℕ) → IsOnAnswer image f cell cpu (answer_of (CpuOn cpu) (seen_of image f cell (CpuOn cpu)))
on_by image f cell cpu =
    let apart : cell ≢ image.system.root.id → answer_of (CpuOn cpu) (seen_of image f cell (CpuOn cpu)) ≡ on_answer (power_seen_by image f cell cpu) =
    λ other. rw (ne_eqb cell image.system.root.id other) refl in
    record {
      root = λ own. rw (eq-eqb cell image.system.root.id own) refl;
      foreign = λ other none. apart other ∙ ap on_answer (power_none image f cell cpu none);
      running = λ other on own is. apart other ∙ ap on_answer (power_own image f cell cpu on own ∙ ap power_of is);
      failed = λ other on own is. apart other ∙ ap on_answer (power_own image f cell cpu on own ∙ ap power_of is);
      parked = λ other on own is. apart other ∙ ap on_answer (power_own image f cell cpu on own ∙ ap power_of is);
    }

no_level : (level : ℕ) (power : PowerSeen) → level ≢ 0 → affinity_answer level power ≡ negsuc 1
no_level level NotOwned other = refl
no_level level On other = rw (ne_eqb level 0 other) refl
no_level level Off other = rw (ne_eqb level 0 other) refl
no_level level IsDown other = rw (ne_eqb level 0 other) refl

power_down : (mode : Mode) → mode ≢ Running → affinity_answer 0 (power_of mode) ≡ pos 1
power_down Running other = absurd (other refl)
power_down Parked other = refl
power_down Failed other = refl

affinity_by : (image : Image) (f : Facts) (cell cpu level : ℕ) → IsAffinityAnswer image f cell cpu level (answer_of (Affinity cpu level) (seen_of image f cell (Affinity cpu level)))
affinity_by image f cell cpu level =
    let apart : cell ≢ image.system.root.id → answer_of (Affinity cpu level) (seen_of image f cell (Affinity cpu level)) ≡ affinity_answer level (power_seen_by image f cell cpu) =
    λ other. rw (ne_eqb cell image.system.root.id other) refl in
    record {
      root = λ own. rw (eq-eqb cell image.system.root.id own) refl;
      foreign = λ other none. apart other ∙ ap (affinity_answer level) (power_none image f cell cpu none);
      level_is = λ other level_other. apart other ∙ no_level level (power_seen_by image f cell cpu) level_other;
      running = λ other on own level_none is. apart other ∙ ap (affinity_answer level) (power_own image f cell cpu on own ∙ ap power_of is) ∙ ap (λ (l : ℕ). affinity_answer l On) level_none;
      down = λ other on own level_none is.
          apart other ∙ ap (affinity_answer level) (power_own image f cell cpu on own) ∙ ap (λ (l : ℕ). affinity_answer l (power_of (f.cpu cpu).mode)) level_none ∙ power_down (f.cpu cpu).mode is;
    }

-- a management call that is answered isn't root's
managed_by : (image : Image) (cell : ℕ) (call : Call) → is_management call ≡ true → (eqb cell image.system.root.id && is_management call) ≡ false → cell ≢ image.system.root.id
managed_by image cell call manages fails own = both_ways (eqb cell image.system.root.id && is_management call) fails (and_from (eqb cell image.system.root.id) (is_management call) (eq-eqb cell image.system.root.id own) manages)

answer_by : (image : Image) (f : Facts) (cell : ℕ) (call : Call) → AreSoundCells image.system (configs_of f.cells) → (eqb cell image.system.root.id && is_management call) ≡ false → IsAnswer image f cell call (answer_of call (seen_of image f cell call))
answer_by image f cell (Info kind) sound fails = info_by image f cell kind (Info kind)
answer_by image f cell (State id) sound fails = state_by image f cell id sound
answer_by image f cell (CpuInfo cpu kind) sound fails = cpu_by image f cell cpu kind
answer_by image f cell CpuOff sound fails = off_by image f cell
answer_by image f cell (CpuOn cpu) sound fails = on_by image f cell cpu
answer_by image f cell (Affinity cpu level) sound fails = affinity_by image f cell cpu level
answer_by image f cell Unknown sound fails = refl
answer_by image f cell call sound fails = (managed_by image cell call refl fails, refl)

-- what a journal of the form doesn't know is answered as it has to be, too
unknown_fails : (image : Image) (cell : ℕ) (call : Call) (power : Bool) → is_power call ≡ power → (eqb cell image.system.root.id && is_management call) ≡ false
    → (eqb cell image.system.root.id && is_management (cond power Unknown call)) ≡ false
unknown_fails image cell call true is fails = and_right (eqb cell image.system.root.id) false refl
unknown_fails image cell call false is fails = fails

known_fails : (image : Image) (cell : ℕ) (form : Form) (call : Call) → (eqb cell image.system.root.id && is_management call) ≡ false → (eqb cell image.system.root.id && is_management (call_in form call)) ≡ false
known_fails image cell One call fails = unknown_fails image cell call (is_power call) refl fails
known_fails image cell Two call fails = fails

-- ---- the act

-- a hypercall is answered by its cause, and one that manages cells begins where root makes it
abbrev pub IsAnswered : Image → Facts → ℕ → Act → Type 0
IsAnswered image f cell (Hvc code a b answer) = IsAnswer image f cell (call_in f.form (decoded code a b)) answer
IsAnswered image f cell (Begin code a b) = (cell ≡ image.system.root.id) × (is_management (decoded code a b) ≡ true)
IsAnswered image f cell _ = Unit {0}

await_answered : (image : Image) (f : Facts) (cell width at value : ℕ) (o : Option ℕ) → IfSome (await_of width at value o) (IsAnswered image f cell)
await_answered image f cell width at value None = tt
await_answered image f cell width at value (Some got) =
    cond_both (eqb got value) (Some (Await width at value true)) None (λ (o : Option Act). IfSome o (IsAnswered image f cell)) (λ _. tt) (λ _. tt)

irq_answered : (image : Image) (f : Facts) (cell : ℕ) (o : Option (ℕ × ℕ)) → IfSome (option_map (λ (next : ℕ × ℕ). Irq next.0 next.1) o) (IsAnswered image f cell)
irq_answered image f cell None = tt
irq_answered image f cell (Some next) = tt

op_answered : (image : Image) (f : Facts) (cell : ℕ) (op : Op) → AreSoundCells image.system (configs_of f.cells) → IfSome (act_of image f cell op) (IsAnswered image f cell)
op_answered image f cell (ReadOp width at) sound = tt
op_answered image f cell (WriteOp width at value) sound = tt
op_answered image f cell (FetchOp at) sound = tt
op_answered image f cell (AwaitOp width at value) sound = await_answered image f cell width at value (got_by image f cell ToRead at width)
op_answered image f cell IrqOp sound = irq_answered image f cell (pending_of cell f.endpoints)
op_answered image f cell (HvcOp code a b) sound =
    cond_both (eqb cell image.system.root.id && is_management (decoded code a b)) (Begin code a b) (Hvc code a b (answered image f cell (call_in f.form (decoded code a b))))
    (IsAnswered image f cell)
    (λ yes. let parts = and_parts (eqb cell image.system.root.id) (is_management (decoded code a b)) yes in (eqb-true cell image.system.root.id parts.0, parts.1))
    (λ fails. answer_by image f cell (call_in f.form (decoded code a b)) sound (known_fails image cell f.form (decoded code a b) fails))

answered_by : (image : Image) (f : Facts) (cell : ℕ) (act : Act) (o : Option Act) → IfSome o (IsAnswered image f cell) → o ≡ Some act → IsAnswered image f cell act
answered_by image f cell act None h is = absurd (none-some act is)
answered_by image f cell act (Some other) h is = let P : Act → Type 0 = IsAnswered image f cell in subst P (same_Some other act is) h

stop_answered : (image : Image) (f : Facts) (cell : ℕ) (act : Act) → Stop ≡ act → IsAnswered image f cell act
stop_answered image f cell act is = let P : Act → Type 0 = IsAnswered image f cell in subst P is tt

phase_answered : (image : Image) (f : Facts) (cell : ℕ) (act : Act) → is_phase act ≡ true → IsAnswered image f cell act
phase_answered image f cell (Hvc code a b answer) h = absurd (false≢true h)
phase_answered image f cell (Begin code a b) h = absurd (false≢true h)
phase_answered image f cell _ h = tt

pub answered_made : (image : Image) (f : Facts) (entry : Entry) → AreSoundCells image.system (configs_of f.cells) → IsMadeBy image f entry → IsAnswered image f (f.cpu entry.cpu).owner entry.act
answered_made image f entry sound (Stopping is) = stop_answered image f (f.cpu entry.cpu).owner entry.act is
answered_made image f entry sound (Calling phase) = phase_answered image f (f.cpu entry.cpu).owner entry.act phase
answered_made image f entry sound (Runs program) =
    answered_by image f (f.cpu entry.cpu).owner entry.act (act_of image f (f.cpu entry.cpu).owner program.op) (op_answered image f (f.cpu entry.cpu).owner program.op sound) program.is

pub answered_at : (image : Image) (form : Form) (before rest : List Entry) (entry : Entry) → IsAdmitted image → IsLegal image form (before ++ entry ∷ rest) → IsAnswered image (facts image form before) entry.cell entry.act
answered_at image form before rest entry admitted legal =
    let f : Facts = facts image form before in
    let sound = legal_sound image form before admitted (IsLegal_begin image form before (entry ∷ rest) legal) in
    let due : due_at image f entry.cpu ≡ Some entry = due_split image form before rest entry legal in
    let P : ℕ → Type 0 = λ id. IsAnswered image f id entry.act in
    subst P (sym (next_from_due image f entry due).cell) (answered_made image f entry sound.cells (made_by image f entry sound due))

pub hvc_answered : (image : Image) (f : Facts) (cell : ℕ) (act : Act) (code a b : ℕ) (answer : ℤ) → act ≡ Hvc code a b answer → IsAnswered image f cell act → IsAnswer image f cell (call_in f.form (decoded code a b)) answer
hvc_answered image f cell act code a b answer is h = let P : Act → Type 0 = IsAnswered image f cell in subst P is h

pub begin_roots : (image : Image) (f : Facts) (cell : ℕ) (act : Act) (code a b : ℕ) → act ≡ Begin code a b → IsAnswered image f cell act → (cell ≡ image.system.root.id) × (is_management (decoded code a b) ≡ true)
begin_roots image f cell act code a b is h = let P : Act → Type 0 = IsAnswered image f cell in subst P is h
