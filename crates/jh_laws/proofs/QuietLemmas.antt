-- In a call that is open something is always due: to its caller, or to a CPU that it waits for.
use Rattle.std.proofs.Common.{◌≡◌, ◌≢◌, ℕ, List, Bool, true, false, cond, not, ◌&&◌, ◌||◌, eqb, Option, Some, None, is_some, refl, sym, ap, subst, ◌∙◌, ⊎_elim}
use Rattle.std.specs.Prelude.{Contains, option_map, option_and_then, nat_le}
use Rattle.std.proofs.lemmas.Bool.{both_ways, and_parts, eq-eqb, eqb-true, ne_eqb, not-true, false_from_ne_true, or_right}
use Rattle.std.proofs.lemmas.Option.{none-some}
use Rattle.jh_num.proofs.Public.{same_number, find_some, Contains_from_map, below_of}
use Rattle.jh_cellcfg.specs.declared.config.CellConfig.{CellConfig}
use Rattle.jh_cellcfg.specs.declared.live.Live.{Live}
use Rattle.jh_cellcfg.specs.Lives.{has_id}
use Rattle.jh_cellcfg.specs.Cells.{is_passive}
use Rattle.jh_num.specs.Below.{any_below}
use Rattle.jh_comm.specs.declared.words.TheConstants.{REPLY_REQUEST_APPROVED, REPLY_RECEIVED}
use Rattle.jh_call.specs.declared.call.Call.{Call}
use Rattle.jh_call.specs.declared.call.Call.TheVariants.{Start, Loadable, Destroy}
use Rattle.jh_script.specs.declared.image.Image.{Image}
use Rattle.jh_history.specs.declared.form.Form.{Form}
use Rattle.jh_history.specs.declared.call.OpenCall.{OpenCall}
use Rattle.jh_history.specs.declared.call.Phase.{Phase}
use Rattle.jh_history.specs.declared.call.Phase.TheVariants.{ToDecide, ToSettle, ToCreate, ToCommit, ToNote, ToNoted, ToFinish}
use Rattle.jh_history.specs.declared.entry.Entry.{Entry}
use Rattle.jh_history.specs.declared.entry.Settled.{Settled}
use Rattle.jh_history.specs.declared.entry.Settled.TheVariants.{Agreed, Denied, Timeout}
use Rattle.jh_history.specs.declared.entry.Heard.{Heard}
use Rattle.jh_history.specs.declared.entry.Heard.TheVariants.{Received, Down, Other, Timeout as Unheard}
use Rattle.jh_history.specs.declared.entry.Act.{Act}
use Rattle.jh_history.specs.declared.entry.Act.TheVariants.{Stop, Decide, Settle, Commit, Note, Noted, Finish}
use Rattle.jh_history.specs.Facts.{Facts}
use Rattle.jh_history.specs.Lives.{is_on_board, live_in}
use Rattle.jh_history.specs.Calls.{is_named}
use Rattle.jh_history.specs.Cpus.{is_running}
use Rattle.jh_history.specs.Pages.{named_cell}
use Rattle.jh_history.specs.History.{facts}
use Rattle.jh_history.specs.Phases.{phase_act, keeps_decide, keeps_commit, decision, is_down, is_over, settled_by, settled_of, heard_by, heard_of, state_word, reply_word}
use Rattle.jh_shape.specs.Lives.{configs_of}
use Rattle.jh_history.specs.Due.{due_at, entry_of, entry_by, next_act, state_act, caller_act, is_idle_but, IsLegal, IsQuiet}
use Rattle.jh_history.specs.Admitted.{IsAdmitted}
use Rattle.jh_history.specs.Sound.{IsHalted, IsAsked, IsHalting, IsAboutLive, IsNoteRecipient, IsCaller, IsOpen, IsSound}
use Rattle.jh_history.proofs.Public.{root_unnamed, legal_sound}
use Rattle.jh_laws.proofs.DueCpusLemmas.{some_later, keeps_a_decide, keeps_a_commit}

-- nothing is due to a CPU
not_made : (cpu cell : ℕ) (o : Option Act) → option_map (entry_by cpu cell) o ≡ None → o ≡ None
not_made cpu cell None h = refl
not_made cpu cell (Some act) h = absurd (none-some (entry_by cpu cell act) (sym h))

none_next : (image : Image) (f : Facts) (cpu : ℕ) → is_on_board image cpu ≡ true → due_at image f cpu ≡ None → next_act image f (f.cpu cpu) cpu ≡ None
unfolding due_at
none_next image f cpu on none =
    let here : cond (is_on_board image cpu) (entry_of image f (f.cpu cpu) cpu) None ≡ entry_of image f (f.cpu cpu) cpu = rw on refl in
    not_made cpu (f.cpu cpu).owner (next_act image f (f.cpu cpu) cpu) (sym here ∙ none)

abbrev with_call : Facts → OpenCall → Facts
with_call f o = record f { call = Some o }

-- to another CPU than the caller
none_other : (image : Image) (f : Facts) (o : OpenCall) (cpu : ℕ) → is_on_board image cpu ≡ true → cpu ≢ o.caller → due_at image (with_call f o) cpu ≡ None → state_act image (with_call f o) (f.cpu cpu) cpu ≡ None
none_other image f o cpu on other none =
    let g : Facts = with_call f o in
    let apart : eqb o.caller cpu ≡ false = ne_eqb o.caller cpu (λ e. other (sym e)) in
    let e : next_act image g (f.cpu cpu) cpu ≡ state_act image g (f.cpu cpu) cpu = rw apart refl in
    sym e ∙ none_next image g cpu on none

-- to the caller
none_caller : (image : Image) (f : Facts) (o : OpenCall) → IsCaller image o.caller o.call (f.cpu o.caller) → due_at image (with_call f o) o.caller ≡ None
    → phase_act image (with_call f o) (is_idle_but image (with_call f o) o.caller) o.caller o.call o.phase ≡ None
none_caller image f o caller none =
    let g : Facts = with_call f o in
    let idle : Bool = is_idle_but image g o.caller in
    let own : next_act image g (f.cpu o.caller) o.caller ≡ caller_act image g (f.cpu o.caller) o = rw (same_number o.caller) refl in
    let goes : caller_act image g (f.cpu o.caller) o ≡ phase_act image g idle o.caller o.call o.phase = rw (caller.calm.asked, caller.calm.stopped, caller.running) refl in
    sym goes ∙ sym own ∙ none_next image g o.caller caller.board none

-- a CPU that is asked to stop has its stop due
not_asked : (image : Image) (f : Facts) (o : OpenCall) (cpu : ℕ) → is_on_board image cpu ≡ true → cpu ≢ o.caller → due_at image (with_call f o) cpu ≡ None → (f.cpu cpu).asked ≡ true → ⊥
not_asked image f o cpu on other none asked =
    let e : state_act image (with_call f o) (f.cpu cpu) cpu ≡ Some Stop = rw asked refl in
    none-some Stop (sym (none_other image f o cpu on other none) ∙ e)

-- so none that would run is left unstopped
not_running : (image : Image) (f : Facts) (o : OpenCall) (cpu : ℕ) → is_on_board image cpu ≡ true → cpu ≢ o.caller → due_at image (with_call f o) cpu ≡ None → IsHalting (f.cpu cpu) → is_running (f.cpu cpu).mode ≡ true → (f.cpu cpu).stopped ≡ false → ⊥
not_running image f o cpu on other none h runs stopped =
    ⊎_elim
    (λ (asked : IsAsked (f.cpu cpu)). not_asked image f o cpu on other none asked.asked)
    (λ (halted : IsHalted (f.cpu cpu)). both_ways (f.cpu cpu).stopped stopped (halted.stopped ∙ runs))
    h

-- nothing is due to any other
idle_but : (image : Image) (f : Facts) (o : OpenCall) → ((cpu : ℕ) → due_at image (with_call f o) cpu ≡ None) → is_idle_but image (with_call f o) o.caller ≡ true
idle_but image f o none =
    let g : Facts = with_call f o in
    let waits : ℕ → Bool = λ i. is_on_board image i && not (eqb i o.caller) && is_some (state_act image g (f.cpu i) i) in
    let fails : any_below waits 16 ≡ false =
    false_from_ne_true (any_below waits 16)
    (λ some.
    let found = below_of waits 16 some in
    let i : ℕ = found.0 in
    let parts = and_parts (is_on_board image i && not (eqb i o.caller)) (is_some (state_act image g (f.cpu i) i)) found.2 in
    let first = and_parts (is_on_board image i) (not (eqb i o.caller)) parts.0 in
    let other : i ≢ o.caller = λ e. both_ways (eqb i o.caller) (not-true (eqb i o.caller) first.1) (eq-eqb i o.caller e) in
    both_ways (is_some (state_act image g (f.cpu i) i)) (ap (λ (a : Option Act). is_some a) (none_other image f o i first.0 other (none i))) parts.1) in
    ap not fails

-- a test that lets pass never fails
over_idle : (timeout waited : ℕ) → is_over timeout waited true ≡ true
over_idle timeout waited = or_right (not (eqb timeout 0) && nat_le timeout waited) true refl

settled_idle : (passive : Bool) (state reply : ℕ) → is_some (settled_by passive state reply true) ≡ true
settled_idle passive state reply =
    some_later (passive || is_down state) Agreed (cond (eqb reply REPLY_REQUEST_APPROVED) (Some Agreed) (cond (not (eqb reply 0)) (Some Denied) (Some Timeout)))
    (some_later (eqb reply REPLY_REQUEST_APPROVED) Agreed (cond (not (eqb reply 0)) (Some Denied) (Some Timeout))
    (some_later (not (eqb reply 0)) Denied (Some Timeout) refl))

heard_idle : (state reply : ℕ) → is_some (heard_by state reply true) ≡ true
heard_idle state reply =
    some_later (is_down state) Down (cond (eqb reply REPLY_RECEIVED) (Some Received) (cond (not (eqb reply 0)) (Some Other) (Some Unheard)))
    (some_later (eqb reply REPLY_RECEIVED) Received (cond (not (eqb reply 0)) (Some Other) (Some Unheard))
    (some_later (not (eqb reply 0)) Other (Some Unheard) refl))

-- the cell that lives is found
live_some : (cells : List Live) (config : CellConfig) (id : ℕ) → Contains (configs_of cells) config → config.id ≡ id → (c : CellConfig) × (live_in cells id ≡ Some c)
live_some cells config id held is =
    let live = Contains_from_map (λ (l : Live). l.config) cells config held in
    let some = find_some (has_id id) cells live.0 live.1 (eq-eqb live.0.config.id id (ap (λ (c : CellConfig). c.id) live.2 ∙ is)) in
    (some.0.config, ap (option_map (λ (l : Live). l.config)) some.1)

named_some : (cells : List Live) (call : Call) → IsAboutLive (configs_of cells) call → (c : CellConfig) × (named_cell cells call ≡ Some c)
named_some cells (Start id) about = live_some cells about.0 id about.1 (sym (eqb-true id about.0.id about.2))
named_some cells (Loadable id) about = live_some cells about.0 id about.1 (sym (eqb-true id about.0.id about.2))
named_some cells (Destroy id) about = live_some cells about.0 id about.1 (sym (eqb-true id about.0.id about.2))
named_some cells _ about = absurd (both_ways false refl about.2)

-- so its answer is waited for no longer
settles : (f : Facts) (call : Call) (waited : ℕ) → IsAboutLive (configs_of f.cells) call → is_some (settled_of f true call waited) ≡ true
settles f call waited about =
    let named = named_some f.cells call about in
    let by : CellConfig → Bool → Option Settled = λ c over. settled_by (is_passive c) (state_word f c.id) (reply_word f c.id) over in
    let e : settled_of f true call waited ≡ by named.0 (is_over named.0.msg_reply_timeout waited true) =
    ap (option_and_then (λ (c : CellConfig). by c (is_over c.msg_reply_timeout waited true))) named.1 in
    ap (λ (s : Option Settled). is_some s) (e ∙ ap (by named.0) (over_idle named.0.msg_reply_timeout waited))
    ∙ settled_idle (is_passive named.0) (state_word f named.0.id) (reply_word f named.0.id)

hears : (f : Facts) (id about waited : ℕ) → IsNoteRecipient (configs_of f.cells) id about → is_some (heard_of f true id waited) ≡ true
hears f id about waited told =
    let live = live_some f.cells told.config id told.among told.named in
    let by : Bool → Option Heard = λ over. heard_by (state_word f id) (reply_word f id) over in
    let e : heard_of f true id waited ≡ by (is_over live.0.msg_reply_timeout waited true) =
    ap (option_and_then (λ (c : CellConfig). by (is_over c.msg_reply_timeout waited true))) live.1 in
    ap (λ (s : Option Heard). is_some s) (e ∙ ap by (over_idle live.0.msg_reply_timeout waited)) ∙ heard_idle (state_word f id) (reply_word f id)

not_none : {X Y : Type 0} (g : X → Y) (o : Option X) → is_some o ≡ true → option_map g o ≡ None → ⊥
not_none g None some h = both_ways false refl some
not_none g (Some x) some h = none-some (g x) (sym h)

-- nothing due to the caller before the Decide: a CPU that it waits for has its stop due
decide_waits : (image : Image) (f : Facts) (o : OpenCall) → ((cpu : ℕ) → due_at image (with_call f o) cpu ≡ None)
    → ((i : ℕ) → is_on_board image i ≡ true → i ≢ o.caller → (f.cpu i).owner ≡ image.system.root.id → IsHalting (f.cpu i))
    → any_below (λ i. keeps_decide image o.caller i (f.cpu i)) 16 ≡ true → ⊥
decide_waits image f o none come some =
    let found = keeps_a_decide image f o.caller some in
    let i : ℕ = found.0 in
    let k = found.1 in
    not_running image f o i k.on_board k.other (none i) (come i k.on_board k.other k.of_root) k.runs k.goes_on

commit_waits : (image : Image) (f : Facts) (caller : ℕ) (call : Call) → ((cpu : ℕ) → due_at image (with_call f (record { caller = caller; call = call; phase = ToCommit })) cpu ≡ None)
    → IsSound image (with_call f (record { caller = caller; call = call; phase = ToCommit }))
    → any_below (λ i. keeps_commit image call i (f.cpu i)) 16 ≡ true → ⊥
commit_waits image f caller call none sound some =
    let o : OpenCall = record { caller = caller; call = call; phase = ToCommit } in
    let opens : IsOpen image (configs_of f.cells) f.cpu o = sound.call in
    let found = keeps_a_commit image f call some in
    let i : ℕ = found.0 in
    let k = found.1 in
    let root : ℕ = image.system.root.id in
    let unnamed = root_unnamed image.system (configs_of f.cells) call sound.cells opens.phase in
    let apart : (f.cpu i).owner ≢ root = λ e. both_ways (is_named call (f.cpu i).owner) (ap (is_named call) e ∙ unnamed) k.named in
    let P : ℕ → Type 0 = λ n. (f.cpu n).owner ≡ root in
    let other : i ≢ caller = λ e. apart (subst P (sym e) opens.caller.owner) in
    not_running image f o i k.on_board other (none i) ((opens.cells i apart).0 k.named) k.runs k.goes_on

unless_none : (b : Bool) (act : Act) → cond b None (Some act) ≡ None → b ≡ true
unless_none true act h = refl
unless_none false act h = absurd (none-some act (sym h))

-- in each phase
phase_waits : (image : Image) (f : Facts) (caller : ℕ) (call : Call) (phase : Phase) → IsSound image (with_call f (record { caller = caller; call = call; phase = phase }))
    → ((cpu : ℕ) → due_at image (with_call f (record { caller = caller; call = call; phase = phase })) cpu ≡ None)
    → phase_act image (with_call f (record { caller = caller; call = call; phase = phase })) true caller call phase ≡ None → ⊥
phase_waits image f caller call ToDecide sound none h =
    let o : OpenCall = record { caller = caller; call = call; phase = ToDecide } in
    decide_waits image f o none sound.call.roots (unless_none (any_below (λ i. keeps_decide image caller i (f.cpu i)) 16) (Decide (decision image (with_call f o) caller call)) h)
phase_waits image f caller call (ToSettle waited) sound none h =
    let o : OpenCall = record { caller = caller; call = call; phase = ToSettle waited } in
    not_none (λ (how : Settled). Settle how) (settled_of (with_call f o) true call waited) (settles (with_call f o) call waited sound.call.phase) h
phase_waits image f caller call (ToCreate config) sound none h = none-some Commit (sym h)
phase_waits image f caller call ToCommit sound none h = commit_waits image f caller call none sound (unless_none (any_below (λ i. keeps_commit image call i (f.cpu i)) 16) Commit h)
phase_waits image f caller call (ToNote id about answer) sound none h = none-some (Note id) (sym h)
phase_waits image f caller call (ToNoted id about answer waited) sound none h =
    let o : OpenCall = record { caller = caller; call = call; phase = ToNoted id about answer waited } in
    not_none (λ (how : Heard). Noted id how) (heard_of (with_call f o) true id waited) (hears (with_call f o) id about waited sound.call.phase.0) h
phase_waits image f caller call (ToFinish answer) sound none h = none-some (Finish answer) (sym h)

open_waits : (image : Image) (f : Facts) (o : OpenCall) → IsSound image (with_call f o) → ((cpu : ℕ) → due_at image (with_call f o) cpu ≡ None) → ⊥
open_waits image f o sound none =
    let g : Facts = with_call f o in
    let P : Bool → Type 0 = λ idle. phase_act image g idle o.caller o.call o.phase ≡ None in
    phase_waits image f o.caller o.call o.phase sound none (subst P (idle_but image f o none) (none_caller image f o sound.call.caller (none o.caller)))

none_open : (image : Image) (f : Facts) (call : Option OpenCall) → f.call ≡ call → IsSound image f → ((cpu : ℕ) → due_at image f cpu ≡ None) → f.call ≡ None
none_open image f None is sound none = is
none_open image f (Some o) is sound none =
    let P : Option OpenCall → Type 0 = λ c. IsSound image (record f { call = c }) → ((cpu : ℕ) → due_at image (record f { call = c }) cpu ≡ None) → ⊥ in
    absurd (subst P (sym is) (open_waits image f o) sound none)

-- where nothing is due no call is open
pub quiet_closed : (image : Image) (form : Form) (entries : List Entry) → IsAdmitted image → IsLegal image form entries → IsQuiet image form entries → (facts image form entries).call ≡ None
quiet_closed image form entries admitted legal quiet = none_open image (facts image form entries) (facts image form entries).call refl (legal_sound image form entries admitted legal) quiet
