-- What an entry says of its CPU: its cell, and the operation that it was at.
use Rattle.std.proofs.Common.{◌≡◌, ℕ, List, [], ◌∷◌, ◌++◌, true, false, ◌&&◌, eqb, Option, Some, None, refl, sym, ap, subst, ◌∙◌}
use Rattle.std.specs.Prelude.{IfSome, option_map, slice_get}
use Rattle.std.specs.Option.{option_map_or}
use Rattle.std.proofs.lemmas.Bool.{both_ways, cond_both, false≢true}
use Rattle.std.proofs.lemmas.Option.{none-some, same_Some}
use Rattle.jh_cellcfg.specs.declared.config.CellConfig.{CellConfig}
use Rattle.jh_cellcfg.specs.Cells.{name_of}
use Rattle.jh_cpu.specs.declared.cpu.Mode.TheVariants.{Running}
use Rattle.jh_call.specs.Calls.{decoded, is_management}
use Rattle.jh_ivshmem.specs.Links.{pending_of}
use Rattle.jh_script.specs.declared.image.Image.{Image}
use Rattle.jh_history.specs.declared.form.Form.{Form}
use Rattle.jh_script.specs.declared.op.Op.{Op}
use Rattle.jh_script.specs.declared.op.Op.TheVariants.{Read as ReadOp, Write as WriteOp, Fetch as FetchOp, Await as AwaitOp, Irq as IrqOp, Hvc as HvcOp}
use Rattle.jh_history.specs.declared.access.Access.TheVariants.{Read as ToRead}
use Rattle.jh_history.specs.declared.entry.Entry.{Entry}
use Rattle.jh_history.specs.declared.entry.Act.{Act}
use Rattle.jh_history.specs.declared.entry.Act.TheVariants.{Await, Irq, Hvc, Begin, Decide, Settle, Commit, Note, Noted, Finish}
use Rattle.jh_history.specs.Facts.{Facts}
use Rattle.jh_history.specs.Lives.{is_on_board, program_ops, cell_in}
use Rattle.jh_history.specs.Hypercalls.{call_in, answered}
use Rattle.jh_history.specs.History.{facts}
use Rattle.jh_history.specs.Due.{due_at, act_of, await_of, got_by, IsLegal}
use Rattle.jh_history.specs.Admitted.{IsAdmitted}
use Rattle.jh_history.proofs.Public.{due_split, IsLegal_begin, goes_calm, goes_running, running_mode, next_from_due, legal_sound, call_open}
use Rattle.jh_history.specs.Sound.{IsCalm, IsSound}
use Rattle.jh_laws.specs.Ways.{is_phase}
use Rattle.jh_laws.specs.Held.{IsRootOrLive}
use Rattle.jh_laws.specs.Operations.{op_of_act}
use Rattle.jh_laws.specs.States.{is_stop_act}
use Rattle.jh_laws.proofs.CallLemmas.{IsMadeBy, Stopping, Running as Runs, Calling, made_by, phase_of_due}
use Rattle.jh_laws.proofs.HeldLemmas.{cell_live}

-- ---- the operation

abbrev IsOfOp : Op → Act → Type 0
IsOfOp op act = op_of_act act ≡ Some op

await_of_op : (op : Op) (width at value : ℕ) (o : Option ℕ) → op ≡ AwaitOp width at value → IfSome (await_of width at value o) (IsOfOp op)
await_of_op op width at value None is = ap Some (sym is)
await_of_op op width at value (Some got) is = cond_both (eqb got value) (Some (Await width at value true)) None (λ (o : Option Act). IfSome o (IsOfOp op)) (λ _. ap Some (sym is)) (λ _. tt)

irq_of_op : (o : Option (ℕ × ℕ)) → IfSome (option_map (λ (next : ℕ × ℕ). Irq next.0 next.1) o) (IsOfOp IrqOp)
irq_of_op None = tt
irq_of_op (Some next) = refl

act_of_op : (image : Image) (f : Facts) (cell : ℕ) (op : Op) → IfSome (act_of image f cell op) (IsOfOp op)
act_of_op image f cell (ReadOp width at) = refl
act_of_op image f cell (WriteOp width at value) = refl
act_of_op image f cell (FetchOp at) = refl
act_of_op image f cell (AwaitOp width at value) = await_of_op (AwaitOp width at value) width at value (got_by image f cell ToRead at width) refl
act_of_op image f cell IrqOp = irq_of_op (pending_of cell f.endpoints)
act_of_op image f cell (HvcOp code a b) =
    cond_both (eqb cell image.system.root.id && is_management (decoded code a b)) (Begin code a b) (Hvc code a b (answered image f cell (call_in f.form (decoded code a b)))) (IsOfOp (HvcOp code a b)) (λ _. refl) (λ _. refl)

op_by : (op : Op) (act : Act) (o : Option Act) → IfSome o (IsOfOp op) → o ≡ Some act → op_of_act act ≡ Some op
op_by op act None h is = absurd (none-some act is)
op_by op act (Some other) h is = let P : Act → Type 0 = IsOfOp op in subst P (same_Some other act is) h

phase_none : (act : Act) → is_phase act ≡ true → op_of_act act ≡ None
phase_none (Decide refused) h = refl
phase_none (Settle how) h = refl
phase_none Commit h = refl
phase_none (Note id) h = refl
phase_none (Noted id how) h = refl
phase_none (Finish answer) h = refl
phase_none _ h = absurd (false≢true h)

-- the operation of a live cell's program
abbrev pub IsOperationOf : Image → Facts → ℕ → ℕ → Op → Type 0
IsOperationOf image f id cpu op =
    (cell : CellConfig) × IsRootOrLive image f.cells cell × (cell.id ≡ id) × (slice_get (program_ops image (name_of cell) cpu) (f.cpu cpu).position ≡ Some op)

cell_of_op : (image : Image) (f : Facts) (id cpu : ℕ) (op : Op) (o : Option CellConfig) → cell_in image f.cells id ≡ o → slice_get (option_map_or (λ (c : CellConfig). program_ops image (name_of c) cpu) o []) (f.cpu cpu).position ≡ Some op → IsOperationOf image f id cpu op
cell_of_op image f id cpu op None is h = absurd (none-some op h)
cell_of_op image f id cpu op (Some cell) is h = let live = cell_live image f.cells id cell is in (cell, live.0, live.1, h)

operation_by : (image : Image) (f : Facts) (entry : Entry) (op : Op) → op_of_act entry.act ≡ Some op → IsMadeBy image f entry → IsOperationOf image f (f.cpu entry.cpu).owner entry.cpu op
operation_by image f entry op is (Stopping stops) = absurd (none-some op (ap op_of_act stops ∙ is))
operation_by image f entry op is (Calling phase) = absurd (none-some op (sym (phase_none entry.act phase) ∙ is))
operation_by image f entry op is (Runs program) =
    let owner : ℕ = (f.cpu entry.cpu).owner in
    let same : program.op ≡ op = same_Some program.op op (sym (op_by program.op entry.act (act_of image f owner program.op) (act_of_op image f owner program.op) program.is) ∙ is) in
    cell_of_op image f owner entry.cpu op (cell_in image f.cells owner) refl (program.at ∙ ap Some same)

pub operation_at : (image : Image) (form : Form) (before rest : List Entry) (entry : Entry) (op : Op) → IsAdmitted image → IsLegal image form (before ++ entry ∷ rest) → op_of_act entry.act ≡ Some op → IsOperationOf image (facts image form before) entry.cell entry.cpu op
operation_at image form before rest entry op admitted legal is =
    let f : Facts = facts image form before in
    let sound = legal_sound image form before admitted (IsLegal_begin image form before (entry ∷ rest) legal) in
    let due : due_at image f entry.cpu ≡ Some entry = due_split image form before rest entry legal in
    let P : ℕ → Type 0 = λ id. IsOperationOf image f id entry.cpu op in
    subst P (sym (next_from_due image f entry due).cell) (operation_by image f entry op is (made_by image f entry sound due))

pub cell_at : (image : Image) (form : Form) (before rest : List Entry) (entry : Entry) → IsLegal image form (before ++ entry ∷ rest) → (is_on_board image entry.cpu ≡ true) × (entry.cell ≡ ((facts image form before).cpu entry.cpu).owner)
cell_at image form before rest entry legal = let next = next_from_due image (facts image form before) entry (due_split image form before rest entry legal) in (next.board, next.cell)

-- ---- whether it runs

runs_by : (image : Image) (f : Facts) (entry : Entry) → IsSound image f → due_at image f entry.cpu ≡ Some entry → is_stop_act entry.act ≡ false → IsMadeBy image f entry → IsCalm (f.cpu entry.cpu) × ((f.cpu entry.cpu).mode ≡ Running)
runs_by image f entry sound due other (Stopping stops) = absurd (both_ways (is_stop_act entry.act) other (ap is_stop_act (sym stops)))
runs_by image f entry sound due other (Runs program) = (goes_calm (f.cpu entry.cpu) program.goes, running_mode (f.cpu entry.cpu) (goes_running (f.cpu entry.cpu) program.goes))
runs_by image f entry sound due other (Calling phase) =
    let of = phase_of_due image f entry sound due phase in
    let caller = (call_open image f of.o sound of.opens).caller in
    let P : ℕ → Type 0 = λ k. IsCalm (f.cpu k) × ((f.cpu k).mode ≡ Running) in
    subst P of.caller (caller.calm, caller.running)

pub runs_at : (image : Image) (form : Form) (before rest : List Entry) (entry : Entry) → IsAdmitted image → IsLegal image form (before ++ entry ∷ rest) → is_stop_act entry.act ≡ false → IsCalm ((facts image form before).cpu entry.cpu) × (((facts image form before).cpu entry.cpu).mode ≡ Running)
runs_at image form before rest entry admitted legal other =
    let f : Facts = facts image form before in
    let sound = legal_sound image form before admitted (IsLegal_begin image form before (entry ∷ rest) legal) in
    let due : due_at image f entry.cpu ≡ Some entry = due_split image form before rest entry legal in
    runs_by image f entry sound due other (made_by image f entry sound due)
