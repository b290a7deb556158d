-- Root lives alone where no program has a hypercall: no entry that is due is a phase of a management call, so none
-- makes another cell.
use Rattle.std.proofs.Common.{◌≡◌, ℕ, zero, suc, List, [], ◌∷◌, ◌++◌, Bool, true, false, cond, eqb, Option, Some, None, refl, sym, ap, subst, ◌∙◌}
use Rattle.std.specs.Prelude.{option_map, option_and_then, IfSome, slice_get}
use Rattle.std.specs.List.{fold, AllByRecursion}
use Rattle.std.specs.Option.{option_map_or}
use Rattle.std.proofs.lemmas.List.Elements.{recursion_from_All}
use Rattle.jh_cellcfg.specs.Cells.{name_of}
use Rattle.std.proofs.lemmas.Bool.{both_ways}
use Rattle.std.proofs.lemmas.Option.{none-some, same_Some}
use Rattle.jh_cellcfg.specs.declared.config.CellConfig.{CellConfig}
use Rattle.jh_cellcfg.specs.declared.live.Live.{Live}
use Rattle.jh_cpu.specs.declared.cpu.Cpu.{Cpu}
use Rattle.jh_call.specs.Calls.{decoded}
use Rattle.jh_script.specs.declared.image.Image.{Image}
use Rattle.jh_history.specs.declared.form.Form.{Form}
use Rattle.jh_script.specs.declared.op.Op.{Op}
use Rattle.jh_script.specs.declared.op.Op.TheVariants.{Read as ReadOp, Write as WriteOp, Fetch as FetchOp, Await as AwaitOp, Irq as IrqOp, Hvc as HvcOp}
use Rattle.jh_history.specs.declared.access.Access.TheVariants.{Read as ToRead}
use Rattle.jh_history.specs.declared.call.OpenCall.{OpenCall}
use Rattle.jh_history.specs.declared.change.Change.{Change}
use Rattle.jh_history.specs.declared.entry.Entry.{Entry}
use Rattle.jh_history.specs.declared.entry.Act.{Act}
use Rattle.jh_history.specs.declared.entry.Act.TheVariants.{Read, Write, Fetch, Await, Irq, Hvc, Begin, Stop, Decide, Settle, Commit, Note, Noted, Finish}
use Rattle.jh_history.specs.Facts.{Facts}
use Rattle.jh_history.specs.Lives.{is_on_board, cell_in, program_ops, ops_in, op_at}
use Rattle.jh_history.specs.Cpus.{change_of, changed, acted, switches, runs_by_start}
use Rattle.jh_history.specs.Calls.{call_by, is_of_call}
use Rattle.jh_history.specs.Commits.{cells_by}
use Rattle.jh_ivshmem.specs.Links.{pending_of}
use Rattle.jh_history.specs.History.{start, after, facts, coming_of}
use Rattle.jh_history.specs.Wants.{pending_op, goes_on}
use Rattle.jh_history.specs.Admitted.{HasNoHypercall, IsNoHypercall}
use Rattle.jh_history.specs.Due.{due_at, state_act, next_act, act_of, await_of, got_by, entry_by, IsLegal, IsLegalFrom}
use Rattle.jh_history.specs.Alone.{IsAlone, IsByRoot}
use Rattle.jh_history.proofs.AdmittedLemmas.{program_ops_all}
use Rattle.jh_history.proofs.DueLemmas.{due_at_absent, due_at_present}
use Rattle.jh_history.proofs.LegalLemmas.{due_split, IsLegal_begin}
use Rattle.jh_history.proofs.SoundCallsLemmas.{called_none, called_owner}
use Rattle.jh_history.proofs.SoundCpusLemmas.{changed_owner}

-- at opening
pub alone_start : (image : Image) (form : Form) → IsAlone image (start image form)
alone_start image form = record { cells = refl; call = refl; owners = λ cpu. refl }

-- what is due is no phase
abbrev IsNoPhase : Act → Type 0
IsNoPhase act = is_of_call act ≡ false

own_if : (b : Bool) (o : Option Act) → IfSome o IsNoPhase → IfSome (cond b o None) IsNoPhase
own_if true o own = own
own_if false o own = tt

own_await : (width at value : ℕ) (o : Option ℕ) → IfSome (await_of width at value o) IsNoPhase
own_await width at value None = refl
own_await width at value (Some got) = own_if (eqb got value) (Some (Await width at value true)) refl

own_irq : (next : Option (ℕ × ℕ)) → IfSome (option_map (λ (n : ℕ × ℕ). Irq n.0 n.1) next) IsNoPhase
own_irq None = tt
own_irq (Some n) = refl

own_act : (image : Image) (f : Facts) (cell : ℕ) (op : Op) → IsNoHypercall op → IfSome (act_of image f cell op) IsNoPhase
own_act image f cell (ReadOp width at) no_call = refl
own_act image f cell (WriteOp width at value) no_call = refl
own_act image f cell (FetchOp at) no_call = refl
own_act image f cell (AwaitOp width at value) no_call = own_await width at value (got_by image f cell ToRead at width)
own_act image f cell IrqOp no_call = own_irq (pending_of cell f.endpoints)
own_act image f cell (HvcOp code a b) no_call = absurd no_call

own_op : (image : Image) (f : Facts) (cell : ℕ) (o : Option Op) → IfSome o IsNoHypercall → IfSome (option_and_then (act_of image f cell) o) IsNoPhase
own_op image f cell None no_call = tt
own_op image f cell (Some op) no_call = own_act image f cell op no_call

-- no program of such an image has a hypercall
no_call_at : (ops : List Op) (i : ℕ) → AllByRecursion IsNoHypercall ops → IfSome (slice_get ops i) IsNoHypercall
no_call_at [] i all = tt
no_call_at (op ∷ ops) zero all = all.0
no_call_at (op ∷ ops) (suc i) all = no_call_at ops i all.1

no_calls_by : (image : Image) (cpu : ℕ) (cell : Option CellConfig) → HasNoHypercall image
    → AllByRecursion IsNoHypercall (option_map_or (λ (c : CellConfig). program_ops image (name_of c) cpu) cell [])
no_calls_by image cpu (Some c) silent = recursion_from_All IsNoHypercall (program_ops image (name_of c) cpu) (program_ops_all IsNoHypercall image (name_of c) cpu silent)
no_calls_by image cpu None silent = tt

no_call_pending : (image : Image) (f : Facts) (state : Cpu) (cpu : ℕ) (b : Bool) → HasNoHypercall image → IfSome (cond b (op_at image f state cpu) None) IsNoHypercall
no_call_pending image f state cpu true silent = no_call_at (ops_in image f.cells state.owner cpu) state.position (no_calls_by image cpu (cell_in image f.cells state.owner) silent)
no_call_pending image f state cpu false silent = tt

own_state : (image : Image) (f : Facts) (state : Cpu) (cpu : ℕ) (asked : Bool) → HasNoHypercall image → IfSome (cond asked (Some Stop) (option_and_then (act_of image f state.owner) (pending_op image f state cpu))) IsNoPhase
own_state image f state cpu true silent = refl
own_state image f state cpu false silent = own_op image f state.owner (pending_op image f state cpu) (no_call_pending image f state cpu (goes_on state) silent)

-- no CPU is the caller of a call where none is open
pub next_act_alone : (image : Image) (f : Facts) (state : Cpu) (cpu : ℕ) → f.call ≡ None → next_act image f state cpu ≡ state_act image f state cpu
next_act_alone image f state cpu none = rw none refl

own_next : (image : Image) (f : Facts) (state : Cpu) (cpu : ℕ) → HasNoHypercall image → f.call ≡ None → IfSome (next_act image f state cpu) IsNoPhase
own_next image f state cpu silent none =
    let P : Option Act → Type 0 = λ o. IfSome o IsNoPhase in
    subst P (sym (next_act_alone image f state cpu none)) (own_state image f state cpu state.asked silent)

roots_entry : (image : Image) (cpu cell : ℕ) (entry : Entry) (o : Option Act) → IfSome o IsNoPhase → cell ≡ image.system.root.id → option_map (entry_by cpu cell) o ≡ Some entry → IsByRoot image entry
roots_entry image cpu cell entry None own is h = absurd (none-some entry h)
roots_entry image cpu cell entry (Some act) own is h =
    let P : Entry → Type 0 = IsByRoot image in
    subst P (same_Some (entry_by cpu cell act) entry h) (record { cell = is; act = own })

roots_at : (image : Image) (f : Facts) (cpu : ℕ) (entry : Entry) (b : Bool) → HasNoHypercall image → IsAlone image f → is_on_board image cpu ≡ b → due_at image f cpu ≡ Some entry → IsByRoot image entry
roots_at image f cpu entry true silent alone e h =
    roots_entry image cpu (f.cpu cpu).owner entry (next_act image f (f.cpu cpu) cpu) (own_next image f (f.cpu cpu) cpu silent alone.call) (alone.owners cpu) (sym (due_at_present image f cpu e) ∙ h)
roots_at image f cpu entry false silent alone e h = absurd (none-some entry (sym (due_at_absent image f cpu e) ∙ h))

-- where root is alone, an entry that is due is root's
pub due_at_roots : (image : Image) (f : Facts) (cpu : ℕ) (entry : Entry) → HasNoHypercall image → IsAlone image f → due_at image f cpu ≡ Some entry → IsByRoot image entry
due_at_roots image f cpu entry silent alone h = roots_at image f cpu entry (is_on_board image cpu) silent alone refl h

-- what such an entry does
cells_kept : (call : Option OpenCall) (cells : List Live) (act : Act) → is_of_call act ≡ false → cells_by call cells act ≡ cells
cells_kept call cells (Read width at got) own = refl
cells_kept call cells (Write width at value ok) own = refl
cells_kept call cells (Fetch at got) own = refl
cells_kept call cells (Await width at value ok) own = refl
cells_kept call cells (Irq device vector) own = refl
cells_kept call cells (Hvc code a b answer) own = refl
cells_kept call cells Stop own = refl
cells_kept call cells (Begin code a b) own = absurd (both_ways true own refl)
cells_kept call cells (Decide refused) own = absurd (both_ways true own refl)
cells_kept call cells (Settle how) own = absurd (both_ways true own refl)
cells_kept call cells Commit own = absurd (both_ways true own refl)
cells_kept call cells (Note id) own = absurd (both_ways true own refl)
cells_kept call cells (Noted id how) own = absurd (both_ways true own refl)
cells_kept call cells (Finish answer) own = absurd (both_ways true own refl)

call_kept : (cells : List Live) (coming : Option CellConfig) (entry : Entry) (act : Act) → is_of_call act ≡ false → call_by cells coming None entry act ≡ None
call_kept cells coming entry (Read width at got) own = refl
call_kept cells coming entry (Write width at value ok) own = refl
call_kept cells coming entry (Fetch at got) own = refl
call_kept cells coming entry (Await width at value ok) own = refl
call_kept cells coming entry (Irq device vector) own = refl
call_kept cells coming entry (Hvc code a b answer) own = refl
call_kept cells coming entry Stop own = refl
call_kept cells coming entry (Begin code a b) own = absurd (both_ways true own refl)
call_kept cells coming entry (Decide refused) own = absurd (both_ways true own refl)
call_kept cells coming entry (Settle how) own = absurd (both_ways true own refl)
call_kept cells coming entry Commit own = absurd (both_ways true own refl)
call_kept cells coming entry (Note id) own = absurd (both_ways true own refl)
call_kept cells coming entry (Noted id how) own = absurd (both_ways true own refl)
call_kept cells coming entry (Finish answer) own = absurd (both_ways true own refl)

-- it changes its own CPU alone, unless it switches one on or off
pub acted_own : (image : Image) (runs : Bool) (call : Option OpenCall) (act : Act) (own i : ℕ) (cpu : Cpu) → is_of_call act ≡ false → switches act ≡ false → acted image runs call act own i cpu ≡ cond (eqb i own) (changed (change_of act) cpu) cpu
acted_own image runs call (Read width at got) own i cpu h k = refl
acted_own image runs call (Write width at value ok) own i cpu h k = refl
acted_own image runs call (Fetch at got) own i cpu h k = refl
acted_own image runs call (Await width at value ok) own i cpu h k = refl
acted_own image runs call (Irq device vector) own i cpu h k = refl
acted_own image runs call (Hvc code a b answer) own i cpu h k = called_none (decoded code a b) answer own i cpu k
acted_own image runs call Stop own i cpu h k = refl
acted_own image runs call (Begin code a b) own i cpu h k = absurd (both_ways true h refl)
acted_own image runs call (Decide refused) own i cpu h k = absurd (both_ways true h refl)
acted_own image runs call (Settle how) own i cpu h k = absurd (both_ways true h refl)
acted_own image runs call Commit own i cpu h k = absurd (both_ways true h refl)
acted_own image runs call (Note id) own i cpu h k = absurd (both_ways true h refl)
acted_own image runs call (Noted id how) own i cpu h k = absurd (both_ways true h refl)
acted_own image runs call (Finish answer) own i cpu h k = absurd (both_ways true h refl)

owner_if : (b : Bool) (change : Change) (cpu : Cpu) → (cond b (changed change cpu) cpu).owner ≡ cpu.owner
owner_if true change cpu = changed_owner change cpu
owner_if false change cpu = refl

-- it changes no owner
acted_owner : (image : Image) (runs : Bool) (call : Option OpenCall) (act : Act) (own i : ℕ) (cpu : Cpu) → is_of_call act ≡ false → (acted image runs call act own i cpu).owner ≡ cpu.owner
acted_owner image runs call (Read width at got) own i cpu h = owner_if (eqb i own) (change_of (Read width at got)) cpu
acted_owner image runs call (Write width at value ok) own i cpu h = owner_if (eqb i own) (change_of (Write width at value ok)) cpu
acted_owner image runs call (Fetch at got) own i cpu h = owner_if (eqb i own) (change_of (Fetch at got)) cpu
acted_owner image runs call (Await width at value ok) own i cpu h = owner_if (eqb i own) (change_of (Await width at value ok)) cpu
acted_owner image runs call (Irq device vector) own i cpu h = owner_if (eqb i own) (change_of (Irq device vector)) cpu
acted_owner image runs call (Hvc code a b answer) own i cpu h = called_owner (decoded code a b) answer own i cpu
acted_owner image runs call Stop own i cpu h = owner_if (eqb i own) (change_of Stop) cpu
acted_owner image runs call (Begin code a b) own i cpu h = absurd (both_ways true h refl)
acted_owner image runs call (Decide refused) own i cpu h = absurd (both_ways true h refl)
acted_owner image runs call (Settle how) own i cpu h = absurd (both_ways true h refl)
acted_owner image runs call Commit own i cpu h = absurd (both_ways true h refl)
acted_owner image runs call (Note id) own i cpu h = absurd (both_ways true h refl)
acted_owner image runs call (Noted id how) own i cpu h = absurd (both_ways true h refl)
acted_owner image runs call (Finish answer) own i cpu h = absurd (both_ways true h refl)

-- and root is alone behind it
pub alone_after : (image : Image) (f : Facts) (entry : Entry) → IsAlone image f → IsByRoot image entry → IsAlone image (after image f entry)
unfolding after
alone_after image f entry alone own = record {
  cells = cells_kept f.call f.cells entry.act own.act ∙ alone.cells;
  call = rw alone.call (call_kept f.cells (coming_of image f) entry entry.act own.act);
  owners = λ i. acted_owner image (runs_by_start f i) f.call entry.act entry.cpu i (f.cpu i) own.act ∙ alone.owners i;
}

alone_from : (image : Image) (f : Facts) (entries : List Entry) → HasNoHypercall image → IsAlone image f → IsLegalFrom image f entries → IsAlone image (fold (after image) f entries)
alone_from image f [] silent alone legal = alone
alone_from image f (entry ∷ entries) silent alone legal =
    alone_from image (after image f entry) entries silent (alone_after image f entry alone (due_at_roots image f entry.cpu entry silent alone legal.0)) legal.1

-- root is alone after each legal journal
pub legal_alone : (image : Image) (form : Form) (entries : List Entry) → HasNoHypercall image → IsLegal image form entries → IsAlone image (facts image form entries)
unfolding IsLegal facts
legal_alone image form entries silent legal = alone_from image (start image form) entries silent (alone_start image form) legal

-- and each of its entries is root's
pub legal_roots : (image : Image) (form : Form) (before rest : List Entry) (entry : Entry) → HasNoHypercall image → IsLegal image form (before ++ entry ∷ rest) → IsByRoot image entry
legal_roots image form before rest entry silent legal =
    due_at_roots image (facts image form before) entry.cpu entry silent (legal_alone image form before silent (IsLegal_begin image form before (entry ∷ rest) legal)) (due_split image form before rest entry legal)
