-- What an entry that is due is, by its CPU and the call that is open.
use Rattle.std.proofs.Common.{◌≡◌, ◌≢◌, ℕ, Bool, true, false, cond, ◌&&◌, eqb, Option, Some, None, refl, sym, ap, subst, ◌∙◌, inl, inr, ◌⊎◌}
use Rattle.std.specs.Prelude.{IfSome, option_map, option_and_then}
use Rattle.std.specs.Option.{option_map_or}
use Rattle.std.proofs.lemmas.Bool.{both_ways, and_parts, cond_both, eqb-true, eq-eqb}
use Rattle.std.proofs.lemmas.Option.{none-some, same_Some}
use Rattle.jh_cpu.specs.declared.cpu.Cpu.{Cpu}
use Rattle.jh_ivshmem.specs.Links.{pending_of}
use Rattle.jh_call.specs.Calls.{decoded, is_management}
use Rattle.jh_script.specs.declared.image.Image.{Image}
use Rattle.jh_script.specs.declared.op.Op.{Op}
use Rattle.jh_script.specs.declared.op.Op.TheVariants.{Read as ReadOp, Write as WriteOp, Fetch as FetchOp, Await as AwaitOp, Irq as IrqOp, Hvc as HvcOp}
use Rattle.jh_history.specs.declared.access.Access.TheVariants.{Read as ToRead}
use Rattle.jh_history.specs.declared.call.OpenCall.{OpenCall}
use Rattle.jh_history.specs.declared.entry.Entry.{Entry}
use Rattle.jh_history.specs.declared.entry.Act.{Act}
use Rattle.jh_history.specs.declared.entry.Act.TheVariants.{Read, Write, Fetch, Await, Irq, Hvc, Begin, Stop, Decide, Settle, Commit, Note, Noted, Finish}
use Rattle.jh_history.specs.Facts.{Facts}
use Rattle.jh_history.specs.Lives.{is_on_board, op_at}
use Rattle.jh_history.specs.Hypercalls.{call_in, answered}
use Rattle.jh_history.specs.Phases.{phase_act}
use Rattle.jh_history.specs.Wants.{goes_on, pending_op}
use Rattle.jh_history.specs.Due.{due_at, entry_of, entry_by, next_act, state_act, act_of, await_of, got_by, caller_act, is_idle_but}
use Rattle.jh_history.specs.Sound.{IsCaller}

-- ---- the entry

act_by : (cpu own : ℕ) (entry : Entry) (o : Option Act) → option_map (entry_by cpu own) o ≡ Some entry → o ≡ Some entry.act
act_by cpu own entry None h = absurd (none-some entry h)
act_by cpu own entry (Some act) h = ap (λ (e : Entry). Some e.act) (same_Some (entry_by cpu own act) entry h)

cell_by : (cpu own : ℕ) (entry : Entry) (o : Option Act) → option_map (entry_by cpu own) o ≡ Some entry → entry.cell ≡ own
cell_by cpu own entry None h = absurd (none-some entry h)
cell_by cpu own entry (Some act) h = ap (λ (e : Entry). e.cell) (sym (same_Some (entry_by cpu own act) entry h))

-- the board has its CPU, it is made in the name of the CPU's owner, and its act is what the CPU does next
pub record IsNext (image : Image) (f : Facts) (entry : Entry) : Type 0 where
  pub board : is_on_board image entry.cpu ≡ true
  pub cell : entry.cell ≡ (f.cpu entry.cpu).owner
  pub act : next_act image f (f.cpu entry.cpu) entry.cpu ≡ Some entry.act

next_by : (image : Image) (f : Facts) (entry : Entry) (b : Bool) → is_on_board image entry.cpu ≡ b → cond b (entry_of image f (f.cpu entry.cpu) entry.cpu) None ≡ Some entry → IsNext image f entry
next_by image f entry true on h = record {
  board = on;
  cell = cell_by entry.cpu (f.cpu entry.cpu).owner entry (next_act image f (f.cpu entry.cpu) entry.cpu) h;
  act = act_by entry.cpu (f.cpu entry.cpu).owner entry (next_act image f (f.cpu entry.cpu) entry.cpu) h;
}
next_by image f entry false on h = absurd (none-some entry h)

pub next_from_due : (image : Image) (f : Facts) (entry : Entry) → due_at image f entry.cpu ≡ Some entry → IsNext image f entry
unfolding due_at
next_from_due image f entry due = next_by image f entry (is_on_board image entry.cpu) refl due

-- ---- of a CPU that has no call open

-- what an operation of the cell comes to: a management call is one of root's
abbrev pub IsOutcomeOf : Image → ℕ → Op → Act → Type 0
IsOutcomeOf image cell op (Read width at got) = Unit {0}
IsOutcomeOf image cell op (Write width at value ok) = Unit {0}
IsOutcomeOf image cell op (Fetch at got) = Unit {0}
IsOutcomeOf image cell op (Await width at value ok) = Unit {0}
IsOutcomeOf image cell op (Irq device vector) = Unit {0}
IsOutcomeOf image cell op (Hvc code a b answer) = Unit {0}
IsOutcomeOf image cell op (Begin code a b) = (op ≡ HvcOp code a b) × (cell ≡ image.system.root.id) × (is_management (decoded code a b) ≡ true)
IsOutcomeOf image cell op Stop = ⊥
IsOutcomeOf image cell op (Decide refused) = ⊥
IsOutcomeOf image cell op (Settle how) = ⊥
IsOutcomeOf image cell op Commit = ⊥
IsOutcomeOf image cell op (Note id) = ⊥
IsOutcomeOf image cell op (Noted id how) = ⊥
IsOutcomeOf image cell op (Finish answer) = ⊥

await_comes : (image : Image) (cell : ℕ) (op : Op) (width at value : ℕ) (o : Option ℕ) → IfSome (await_of width at value o) (IsOutcomeOf image cell op)
await_comes image cell op width at value None = tt
await_comes image cell op width at value (Some got) =
    cond_both (eqb got value) (Some (Await width at value true)) None (λ (o : Option Act). IfSome o (IsOutcomeOf image cell op)) (λ _. tt) (λ _. tt)

irq_comes : (image : Image) (cell : ℕ) (o : Option (ℕ × ℕ)) → IfSome (option_map (λ (next : ℕ × ℕ). Irq next.0 next.1) o) (IsOutcomeOf image cell IrqOp)
irq_comes image cell None = tt
irq_comes image cell (Some next) = tt

act_comes : (image : Image) (f : Facts) (cell : ℕ) (op : Op) → IfSome (act_of image f cell op) (IsOutcomeOf image cell op)
act_comes image f cell (ReadOp width at) = tt
act_comes image f cell (WriteOp width at value) = tt
act_comes image f cell (FetchOp at) = tt
act_comes image f cell (AwaitOp width at value) = await_comes image cell (AwaitOp width at value) width at value (got_by image f cell ToRead at width)
act_comes image f cell IrqOp = irq_comes image cell (pending_of cell f.endpoints)
act_comes image f cell (HvcOp code a b) =
    cond_both (eqb cell image.system.root.id && is_management (decoded code a b)) (Begin code a b)
    (Hvc code a b (answered image f cell (call_in f.form (decoded code a b))))
    (IsOutcomeOf image cell (HvcOp code a b))
    (λ yes. let parts = and_parts (eqb cell image.system.root.id) (is_management (decoded code a b)) yes in (refl, eqb-true cell image.system.root.id parts.0, parts.1))
    (λ _. tt)

comes_by : (image : Image) (cell : ℕ) (op : Op) (act : Act) (o : Option Act) → IfSome o (IsOutcomeOf image cell op) → o ≡ Some act → IsOutcomeOf image cell op act
comes_by image cell op act None h e = absurd (none-some act e)
comes_by image cell op act (Some other) h e = let P : Act → Type 0 = IsOutcomeOf image cell op in subst P (same_Some other act e) h

-- the CPU in the state goes on with its program, and comes to the act
pub record IsOfProgram (image : Image) (f : Facts) (state : Cpu) (cpu : ℕ) (act : Act) : Type 0 where
  pub goes : goes_on state ≡ true
  pub op : Op
  pub at : op_at image f state cpu ≡ Some op
  pub is : act_of image f state.owner op ≡ Some act
  pub comes : IsOutcomeOf image state.owner op act

program_at : (image : Image) (f : Facts) (state : Cpu) (cpu : ℕ) (act : Act) (o : Option Op) → goes_on state ≡ true → op_at image f state cpu ≡ o → option_and_then (act_of image f state.owner) o ≡ Some act → IsOfProgram image f state cpu act
program_at image f state cpu act None goes at h = absurd (none-some act h)
program_at image f state cpu act (Some op) goes at h = record {
  goes = goes;
  op = op;
  at = at;
  is = h;
  comes = comes_by image state.owner op act (act_of image f state.owner op) (act_comes image f state.owner op) h;
}

program_by : (image : Image) (f : Facts) (state : Cpu) (cpu : ℕ) (act : Act) (b : Bool) → goes_on state ≡ b → option_and_then (act_of image f state.owner) (cond b (op_at image f state cpu) None) ≡ Some act → IsOfProgram image f state cpu act
program_by image f state cpu act true goes h = program_at image f state cpu act (op_at image f state cpu) goes refl h
program_by image f state cpu act false goes h = absurd (none-some act h)

-- a CPU without a call stops where it is asked to, and else goes on
abbrev pub IsOfState : Image → Facts → Cpu → ℕ → Act → Type 0
IsOfState image f state cpu act = ((state.asked ≡ true) × (Stop ≡ act)) ⊎ IsOfProgram image f state cpu act

state_by : (image : Image) (f : Facts) (state : Cpu) (cpu : ℕ) (act : Act) (b : Bool) → state.asked ≡ b → cond b (Some Stop) (option_and_then (act_of image f state.owner) (pending_op image f state cpu)) ≡ Some act → IsOfState image f state cpu act
state_by image f state cpu act true asked h = inl (asked, same_Some Stop act h)
state_by image f state cpu act false asked h = inr (program_by image f state cpu act (goes_on state) refl h)

pub state_parts : (image : Image) (f : Facts) (state : Cpu) (cpu : ℕ) (act : Act) → state_act image f state cpu ≡ Some act → IsOfState image f state cpu act
state_parts image f state cpu act h = state_by image f state cpu act state.asked refl h

-- ---- of the caller

-- the caller of a call makes its phases
pub caller_phase : (image : Image) (f : Facts) (o : OpenCall) (act : Act) (state : Cpu) → IsCaller image o.caller o.call state → caller_act image f state o ≡ Some act
    → phase_act image f (is_idle_but image f o.caller) o.caller o.call o.phase ≡ Some act
caller_phase image f o act state caller h =
    let e : caller_act image f state o ≡ phase_act image f (is_idle_but image f o.caller) o.caller o.call o.phase = rw (caller.calm.asked, caller.calm.stopped, caller.running) refl in
    sym e ∙ h

-- where a call is open, a CPU's act is a phase of it where the CPU made it, and else what its state says
abbrev pub IsOfCall : Image → Facts → OpenCall → ℕ → Act → Type 0
IsOfCall image f o cpu act =
    ((o.caller ≡ cpu) × (phase_act image f (is_idle_but image f o.caller) o.caller o.call o.phase ≡ Some act))
    ⊎ ((cpu ≢ o.caller) × IsOfState image f (f.cpu cpu) cpu act)

-- by whether the CPU made the call
call_by : (image : Image) (f : Facts) (o : OpenCall) (cpu : ℕ) (act : Act) (b : Bool) → eqb o.caller cpu ≡ b → IsCaller image o.caller o.call (f.cpu o.caller)
    → option_map_or (caller_act image f (f.cpu cpu)) (cond b (Some o) None) (state_act image f (f.cpu cpu) cpu) ≡ Some act → IsOfCall image f o cpu act
call_by image f o cpu act true own caller h =
    let is : o.caller ≡ cpu = eqb-true o.caller cpu own in
    let P : ℕ → Type 0 = λ k. IsCaller image o.caller o.call (f.cpu k) in
    inl (is, caller_phase image f o act (f.cpu cpu) (subst P is caller) h)
call_by image f o cpu act false own caller h = inr (λ e. both_ways (eqb o.caller cpu) own (eq-eqb o.caller cpu (sym e)), state_parts image f (f.cpu cpu) cpu act h)

pub call_parts : (image : Image) (f : Facts) (o : OpenCall) (cpu : ℕ) (act : Act) → IsCaller image o.caller o.call (f.cpu o.caller)
    → option_map_or (caller_act image f (f.cpu cpu)) (cond (eqb o.caller cpu) (Some o) None) (state_act image f (f.cpu cpu) cpu) ≡ Some act → IsOfCall image f o cpu act
call_parts image f o cpu act caller h = call_by image f o cpu act (eqb o.caller cpu) refl caller h
