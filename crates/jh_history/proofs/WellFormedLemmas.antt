-- In a legal journal of an admitted image each act has a width that an access may have.
use Rattle.std.proofs.Common.{◌≡◌, ℕ, zero, suc, List, [], ◌∷◌, Bool, true, false, cond, Option, Some, None, subst, eqb, sym, ◌∙◌, refl}
use Rattle.std.specs.Prelude.{ℤ, ◌&&◌, option_map, option_and_then, slice_get, IfSome}
use Rattle.std.specs.List.{AllByRecursion}
use Rattle.std.specs.Option.{option_map_or}
use Rattle.jh_cellcfg.specs.declared.config.CellConfig.{CellConfig}
use Rattle.jh_cellcfg.specs.declared.live.Live.{Live}
use Rattle.std.proofs.lemmas.List.Elements.{recursion_from_All}
use Rattle.std.proofs.lemmas.Option.{none-some, same_Some}
use Rattle.jh_script.specs.declared.image.Image.{Image}
use Rattle.jh_script.specs.declared.op.Op.{Op}
use Rattle.jh_script.specs.declared.op.Op.TheVariants.{Read, Write, Fetch, Await, Irq, Hvc}
use Rattle.jh_history.specs.declared.access.Access.TheVariants.{Read as ToRead}
use Rattle.jh_history.specs.declared.entry.Entry.{Entry}
use Rattle.jh_history.specs.declared.entry.Act.{Act}
use Rattle.jh_history.specs.declared.entry.Act.TheVariants.{Await as AwaitAct, Irq as IrqAct, Stop, Hvc as HvcAct, Begin, Decide, Settle, Commit, Noted}
use Rattle.jh_history.specs.declared.entry.Settled.{Settled}
use Rattle.jh_history.specs.declared.entry.Heard.{Heard}
use Rattle.jh_history.specs.declared.call.OpenCall.{OpenCall}
use Rattle.jh_history.specs.declared.call.Phase.{Phase}
use Rattle.jh_history.specs.declared.call.Phase.TheVariants.{ToDecide, ToSettle, ToCreate, ToCommit, ToNote, ToNoted, ToFinish}
use Rattle.jh_call.specs.declared.call.Call.{Call}
use Rattle.jh_call.specs.Calls.{decoded, is_management}
use Rattle.jh_num.specs.Below.{any_below}
use Rattle.jh_history.specs.Hypercalls.{call_in, answered}
use Rattle.jh_history.specs.Phases.{keeps_decide, keeps_commit, decision, settled_of, heard_of, phase_act}
use Rattle.jh_cpu.specs.declared.cpu.Cpu.{Cpu}
use Rattle.jh_ivshmem.specs.Links.{pending_of}
use Rattle.jh_cellcfg.specs.Cells.{name_of}
use Rattle.jh_history.specs.Lives.{is_on_board, program_ops, cell_in, ops_in, op_at}
use Rattle.jh_history.specs.Facts.{Facts}
use Rattle.jh_history.specs.Wants.{pending_op, goes_on}
use Rattle.jh_history.specs.Due.{due_at, call_of, is_idle_but, caller_act, state_act, next_act, act_of, await_of, got_by, entry_by}
use Rattle.jh_script.specs.Operations.{IsWellFormed}
use Rattle.jh_history.specs.Admitted.{IsAdmitted, IsWellFormedAct}
use Rattle.jh_history.specs.Private.PlainView.{IsWellFormedEntry}
use Rattle.jh_history.proofs.AdmittedLemmas.{program_ops_well_formed, width_le}
use Rattle.jh_history.proofs.DueLemmas.{due_at_absent, due_at_present}

ops_by : (image : Image) (cpu : ℕ) (cell : Option CellConfig) → IsAdmitted image
    → AllByRecursion IsWellFormed (option_map_or (λ (c : CellConfig). program_ops image (name_of c) cpu) cell [])
ops_by image cpu (Some c) admitted = recursion_from_All IsWellFormed (program_ops image (name_of c) cpu) (program_ops_well_formed image (name_of c) cpu admitted)
ops_by image cpu None admitted = tt

pub ops_in_well_formed : (image : Image) (cells : List Live) (id cpu : ℕ) → IsAdmitted image → AllByRecursion IsWellFormed (ops_in image cells id cpu)
ops_in_well_formed image cells id cpu admitted = ops_by image cpu (cell_in image cells id) admitted

pub at_place : (ops : List Op) (i : ℕ) → AllByRecursion IsWellFormed ops → IfSome (slice_get ops i) IsWellFormed
at_place [] i all = tt
at_place (op ∷ ops) zero all = all.0
at_place (op ∷ ops) (suc i) all = at_place ops i all.1

well_formed_if : (b : Bool) (o : Option Act) → IfSome o IsWellFormedAct → IfSome (cond b o None) IsWellFormedAct
well_formed_if true o plain = plain
well_formed_if false o plain = tt

well_formed_await : (width at value : ℕ) (o : Option ℕ) → IfSome (await_of width at value o) IsWellFormedAct
well_formed_await width at value None = tt
well_formed_await width at value (Some got) = well_formed_if (eqb got value) (Some (AwaitAct width at value true)) tt

well_formed_irq : (o : Option (ℕ × ℕ)) → IfSome (option_map (λ (next : ℕ × ℕ). IrqAct next.0 next.1) o) IsWellFormedAct
well_formed_irq None = tt
well_formed_irq (Some next) = tt

well_formed_hvc : (code a b : ℕ) (answer : ℤ) (begins : Bool) → IsWellFormedAct (cond begins (Begin code a b) (HvcAct code a b answer))
well_formed_hvc code a b answer true = tt
well_formed_hvc code a b answer false = tt

well_formed_act : (image : Image) (f : Facts) (cell : ℕ) (op : Op) → IsWellFormed op → IfSome (act_of image f cell op) IsWellFormedAct
well_formed_act image f cell (Read width at) plain = width_le width plain
well_formed_act image f cell (Write width at value) plain = width_le width plain.0
well_formed_act image f cell (Fetch at) plain = tt
well_formed_act image f cell (Await width at value) plain = well_formed_await width at value (got_by image f cell ToRead at width)
well_formed_act image f cell Irq plain = well_formed_irq (pending_of cell f.endpoints)
well_formed_act image f cell (Hvc code a b) plain = well_formed_hvc code a b (answered image f cell (call_in f.form (decoded code a b))) ((eqb cell image.system.root.id) && is_management (decoded code a b))

well_formed_op : (image : Image) (f : Facts) (cell : ℕ) (o : Option Op) → IfSome o IsWellFormed → IfSome (option_and_then (act_of image f cell) o) IsWellFormedAct
well_formed_op image f cell None plain = tt
well_formed_op image f cell (Some op) plain = well_formed_act image f cell op plain

well_formed_pending : (image : Image) (f : Facts) (state : Cpu) (cpu : ℕ) (b : Bool) → IsAdmitted image → IfSome (cond b (op_at image f state cpu) None) IsWellFormed
well_formed_pending image f state cpu true admitted = at_place (ops_in image f.cells state.owner cpu) state.position (ops_in_well_formed image f.cells state.owner cpu admitted)
well_formed_pending image f state cpu false admitted = tt

well_formed_state : (image : Image) (f : Facts) (state : Cpu) (cpu : ℕ) (asked : Bool) → IsAdmitted image
    → IfSome (cond asked (Some Stop) (option_and_then (act_of image f state.owner) (pending_op image f state cpu))) IsWellFormedAct
well_formed_state image f state cpu true admitted = tt
well_formed_state image f state cpu false admitted = well_formed_op image f state.owner (pending_op image f state cpu) (well_formed_pending image f state cpu (goes_on state) admitted)

well_formed_unless : (b : Bool) (act : Act) → IsWellFormedAct act → IfSome (cond b None (Some act)) IsWellFormedAct
well_formed_unless true act plain = tt
well_formed_unless false act plain = plain

well_formed_settle : (o : Option Settled) → IfSome (option_map (λ (how : Settled). Settle how) o) IsWellFormedAct
well_formed_settle None = tt
well_formed_settle (Some how) = tt

well_formed_noted : (id : ℕ) (o : Option Heard) → IfSome (option_map (λ (how : Heard). Noted id how) o) IsWellFormedAct
well_formed_noted id None = tt
well_formed_noted id (Some how) = tt

well_formed_phase : (image : Image) (f : Facts) (idle : Bool) (caller : ℕ) (call : Call) (phase : Phase) → IfSome (phase_act image f idle caller call phase) IsWellFormedAct
well_formed_phase image f idle caller call ToDecide = well_formed_unless (any_below (λ i. keeps_decide image caller i (f.cpu i)) 16) (Decide (decision image f caller call)) tt
well_formed_phase image f idle caller call (ToSettle waited) = well_formed_settle (settled_of f idle call waited)
well_formed_phase image f idle caller call (ToCreate config) = tt
well_formed_phase image f idle caller call ToCommit = well_formed_unless (any_below (λ i. keeps_commit image call i (f.cpu i)) 16) Commit tt
well_formed_phase image f idle caller call (ToNote id about answer) = tt
well_formed_phase image f idle caller call (ToNoted id about answer waited) = well_formed_noted id (heard_of f idle id waited)
well_formed_phase image f idle caller call (ToFinish answer) = tt

well_formed_caller : (asked : Bool) (goes : Bool) (o : Option Act) → IfSome o IsWellFormedAct → IfSome (cond asked (Some Stop) (cond goes o None)) IsWellFormedAct
well_formed_caller true goes o plain = tt
well_formed_caller false goes o plain = well_formed_if goes o plain

well_formed_call : (image : Image) (f : Facts) (state : Cpu) (cpu : ℕ) (begun : Option OpenCall) → IsAdmitted image
    → IfSome (option_map_or (caller_act image f state) begun (state_act image f state cpu)) IsWellFormedAct
well_formed_call image f state cpu None admitted = well_formed_state image f state cpu state.asked admitted
well_formed_call image f state cpu (Some o) admitted = well_formed_caller state.asked (goes_on state) (phase_act image f (is_idle_but image f o.caller) o.caller o.call o.phase) (well_formed_phase image f (is_idle_but image f o.caller) o.caller o.call o.phase)

entry_well_formed : (cpu cell : ℕ) (entry : Entry) (o : Option Act) → IfSome o IsWellFormedAct → option_map (entry_by cpu cell) o ≡ Some entry → IsWellFormedEntry entry
entry_well_formed cpu cell entry None plain h = absurd (none-some entry h)
entry_well_formed cpu cell entry (Some act) plain h = let P : Entry → Type 0 = IsWellFormedEntry in subst P (same_Some (entry_by cpu cell act) entry h) plain

at_board : (image : Image) (f : Facts) (cpu : ℕ) (entry : Entry) (b : Bool) → IsAdmitted image → is_on_board image cpu ≡ b → due_at image f cpu ≡ Some entry → IsWellFormedEntry entry
at_board image f cpu entry true admitted e h =
    entry_well_formed cpu (f.cpu cpu).owner entry (next_act image f (f.cpu cpu) cpu) (well_formed_call image f (f.cpu cpu) cpu (call_of f cpu) admitted) (sym (due_at_present image f cpu e) ∙ h)
at_board image f cpu entry false admitted e h = absurd (none-some entry (sym (due_at_absent image f cpu e) ∙ h))

pub due_at_well_formed : (image : Image) (f : Facts) (cpu : ℕ) (entry : Entry) → IsAdmitted image → due_at image f cpu ≡ Some entry → IsWellFormedEntry entry
due_at_well_formed image f cpu entry admitted h = at_board image f cpu entry (is_on_board image cpu) admitted refl h
