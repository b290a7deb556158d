-- Calls over the entries of a legal journal: which is open, who is suspended by it, and what follows what in it.
use Rattle.std.proofs.Common.{◌≡◌, ◌≢◌, ℕ, ℤ, pos, List, [], ◌∷◌, ◌++◌, Bool, true, false, eqb, Option, Some, None, refl, sym, ap, subst, ◌∙◌, inl, inr, ◌⊎◌, ⊎_elim, All}
use Rattle.std.specs.Prelude.{option_map, option_and_then}
use Rattle.std.specs.List.{fold}
use Rattle.std.proofs.lemmas.Bool.{both_ways, cond_both, eqb-true, eq-eqb, cases_Bool}
use Rattle.std.proofs.lemmas.List.Elements.{All-head, All-tail}
use Rattle.std.proofs.lemmas.Option.{none-some, same_Some}
use Rattle.jh_num.specs.declared.error.TheConstants.{EPERM}
use Rattle.jh_cellcfg.specs.declared.config.CellConfig.{CellConfig}
use Rattle.jh_cellcfg.specs.declared.live.Live.{Live}
use Rattle.jh_cpu.specs.declared.cpu.Cpu.{Cpu}
use Rattle.jh_call.specs.declared.call.Call.{Call}
use Rattle.jh_call.specs.declared.call.Call.TheVariants.{Create, Start, Loadable, Destroy}
use Rattle.jh_call.specs.Calls.{decoded}
use Rattle.jh_num.specs.Below.{any_below}
use Rattle.jh_script.specs.declared.image.Image.{Image}
use Rattle.jh_history.specs.declared.form.Form.{Form}
use Rattle.jh_script.specs.declared.op.Op.{Op}
use Rattle.jh_history.specs.Admitted.{IsAdmitted}
use Rattle.jh_history.specs.declared.call.OpenCall.{OpenCall}
use Rattle.jh_history.specs.declared.call.Phase.{Phase}
use Rattle.jh_history.specs.declared.call.Phase.TheVariants.{ToDecide, ToSettle, ToCreate, ToCommit, ToNote, ToNoted, ToFinish}
use Rattle.jh_history.specs.declared.entry.Entry.{Entry}
use Rattle.jh_history.specs.declared.entry.Settled.{Settled}
use Rattle.jh_history.specs.declared.entry.Settled.TheVariants.{Agreed, Denied, Timeout}
use Rattle.jh_history.specs.declared.entry.Heard.{Heard}
use Rattle.jh_history.specs.declared.entry.Act.{Act}
use Rattle.jh_history.specs.declared.entry.Act.TheVariants.{Read, Write, Fetch, Await, Irq, Hvc, Begin, Stop, Decide, Settle, Commit, Note, Noted, Finish}
use Rattle.jh_history.specs.Facts.{Facts}
use Rattle.jh_history.specs.Calls.{is_named, counted, telling, first_recipient, listed_behind, after_decide, after_settle, after_commit, phase_after, call_by, is_of_call}
use Rattle.jh_num.specs.Numbers.{counted_up}
use Rattle.jh_history.specs.declared.reading.ReadCell.{ReadCell}
use Rattle.jh_history.specs.Configs.{config_read}
use Rattle.jh_history.specs.History.{start, after, facts, coming_of, coming_by}
use Rattle.jh_history.specs.Phases.{phase_act, settled_of, heard_of, decision, keeps_decide, keeps_commit}
use Rattle.jh_shape.specs.Lives.{configs_of}
use Rattle.jh_history.specs.Due.{due_at, due, is_idle_but, IsLegal, IsLegalFrom}
use Rattle.jh_history.proofs.Public.{facts_push, due_split, IsLegal_begin, come_rests, halting_rests, root_unnamed, IsNext, next_from_due, IsOutcomeOf, IsOfProgram, state_parts, IsOfCall, call_parts, coming_from_decision, sound_after, legal_sound, noted_act, settle_act, unless, after_call, call_open}
use Rattle.jh_history.specs.Sound.{HaltsForCall, IsAboutLive, IsCreate, IsNews, IsOpen, IsSound}
use Rattle.jh_laws.specs.Ways.{is_phase, is_decide, is_finish, is_undenied_settle, call_of_begin, begun_by, begun, begun_call, IsBegun, IsNoteOr, IsNoteOrEnd, IsBehindGo, IsBehindCommit, MayFollow}
use Rattle.jh_laws.proofs.LegalLemmas.{IsLegal_rest}
use Rattle.jh_history.specs.Commits.{is_commit}

-- ---- an entry beside a call

-- where a call is open, an entry is a phase of it by its caller, or one of another CPU and of no call: a stop of a
-- CPU that was asked to, or one of a cell besides root
pub record IsBeside (image : Image) (f : Facts) (o : OpenCall) (entry : Entry) : Type 0 where
  pub other : entry.cpu ≢ o.caller
  pub act : is_of_call entry.act ≡ false
  pub who : (((f.cpu entry.cpu).asked ≡ true) × (Stop ≡ entry.act)) ⊎ (IsOfProgram image f (f.cpu entry.cpu) entry.cpu entry.act × ((f.cpu entry.cpu).owner ≢ image.system.root.id))

abbrev pub IsEntryOf : Image → Facts → OpenCall → Entry → Type 0
IsEntryOf image f o entry =
    ((o.caller ≡ entry.cpu) × (phase_act image f (is_idle_but image f o.caller) o.caller o.call o.phase ≡ Some entry.act))
    ⊎ IsBeside image f o entry

no_call : (image : Image) (cell : ℕ) (op : Op) (act : Act) → cell ≢ image.system.root.id → IsOutcomeOf image cell op act → is_of_call act ≡ false
no_call image cell op (Read width at got) other comes = refl
no_call image cell op (Write width at value ok) other comes = refl
no_call image cell op (Fetch at got) other comes = refl
no_call image cell op (Await width at value ok) other comes = refl
no_call image cell op (Irq device vector) other comes = refl
no_call image cell op (Hvc code a b answer) other comes = refl
no_call image cell op (Begin code a b) other comes = absurd (other comes.1)
no_call image cell op _ other comes = absurd comes

-- with the call in the facts' place
entry_of_parts : (image : Image) (f : Facts) (o : OpenCall) (entry : Entry) → IsOpen image (configs_of f.cells) f.cpu o → IsNext image f entry → IsOfCall image f o entry.cpu entry.act → IsEntryOf image f o entry
entry_of_parts image f o entry opens next h =
    ⊎_elim
    (λ made. inl made)
    (λ other.
    ⊎_elim
    (λ stops. inr (record { other = other.0; act = ap is_of_call (sym stops.1); who = inl stops }))
    (λ (program : IsOfProgram image f (f.cpu entry.cpu) entry.cpu entry.act).
    let apart : (f.cpu entry.cpu).owner ≢ image.system.root.id = λ is. come_rests o.phase (f.cpu entry.cpu) (opens.roots entry.cpu next.board other.0 is) program.goes in
    inr (record { other = other.0; act = no_call image (f.cpu entry.cpu).owner program.op entry.act apart program.comes; who = inr (program, apart) }))
    other.1)
    h

-- the facts with a call that is known to be open
abbrev with_call : Facts → Option OpenCall → Facts
with_call f call = record f { call = call }

entry_by_call : (image : Image) (f : Facts) (o : OpenCall) (entry : Entry) → IsSound image (with_call f (Some o)) → due_at image (with_call f (Some o)) entry.cpu ≡ Some entry → IsEntryOf image (with_call f (Some o)) o entry
entry_by_call image f o entry sound due =
    let next = next_from_due image (with_call f (Some o)) entry due in
    entry_of_parts image (with_call f (Some o)) o entry sound.call next (call_parts image (with_call f (Some o)) o entry.cpu entry.act sound.call.caller next.act)

pub entry_of_call : (image : Image) (f : Facts) (o : OpenCall) (entry : Entry) → IsSound image f → f.call ≡ Some o → due_at image f entry.cpu ≡ Some entry → IsEntryOf image f o entry
entry_of_call image f o entry sound is due =
    let P : Option OpenCall → Type 0 = λ c. IsSound image (with_call f c) → due_at image (with_call f c) entry.cpu ≡ Some entry → IsEntryOf image (with_call f c) o entry in
    subst P (sym is) (entry_by_call image f o entry) sound due

-- it leaves the call open, and counts at most
counted_act : (cells : List Live) (coming : Option CellConfig) (o : OpenCall) (entry : Entry) (act : Act) → is_of_call act ≡ false
    → call_by cells coming (Some o) entry act ≡ Some (record { caller = o.caller; call = o.call; phase = counted entry.cell o.call o.phase })
counted_act cells coming o entry (Begin code a b) own = absurd (both_ways true own refl)
counted_act cells coming o entry (Decide refused) own = absurd (both_ways true own refl)
counted_act cells coming o entry (Settle how) own = absurd (both_ways true own refl)
counted_act cells coming o entry Commit own = absurd (both_ways true own refl)
counted_act cells coming o entry (Note id) own = absurd (both_ways true own refl)
counted_act cells coming o entry (Noted id how) own = absurd (both_ways true own refl)
counted_act cells coming o entry (Finish answer) own = absurd (both_ways true own refl)
counted_act cells coming o entry _ own = refl

pub call_counted : (image : Image) (f : Facts) (o : OpenCall) (entry : Entry) → f.call ≡ Some o → is_of_call entry.act ≡ false
    → (after image f entry).call ≡ Some (record { caller = o.caller; call = o.call; phase = counted entry.cell o.call o.phase })
call_counted image f o entry is own =
    after_call image f entry
    ∙ ap (λ (c : Option OpenCall). call_by f.cells (coming_of image f) c entry entry.act) is
    ∙ counted_act f.cells (coming_of image f) o entry entry.act own

-- ---- what is expected in a phase

abbrev pub Expects : Phase → Act → Type 0
Expects ToDecide next = (refused : Option ℤ) × (next ≡ Decide refused)
Expects (ToSettle waited) next = (how : Settled) × (next ≡ Settle how)
Expects (ToCreate config) next = next ≡ Commit
Expects ToCommit next = next ≡ Commit
Expects (ToNote id about answer) next = next ≡ Note id
Expects (ToNoted id about answer waited) next = (how : Heard) × (next ≡ Noted id how)
Expects (ToFinish answer) next = next ≡ Finish answer

pub phase_expects : (image : Image) (f : Facts) (idle : Bool) (caller : ℕ) (call : Call) (phase : Phase) (act : Act) → phase_act image f idle caller call phase ≡ Some act → Expects phase act
phase_expects image f idle caller call ToDecide act h = (decision image f caller call, unless (any_below (λ i. keeps_decide image caller i (f.cpu i)) 16) (Decide (decision image f caller call)) act h)
phase_expects image f idle caller call (ToSettle waited) act h = settle_act (settled_of f idle call waited) act h
phase_expects image f idle caller call (ToCreate config) act h = sym (same_Some Commit act h)
phase_expects image f idle caller call ToCommit act h = unless (any_below (λ i. keeps_commit image call i (f.cpu i)) 16) Commit act h
phase_expects image f idle caller call (ToNote id about answer) act h = sym (same_Some (Note id) act h)
phase_expects image f idle caller call (ToNoted id about answer waited) act h = noted_act id (heard_of f idle id waited) act h
phase_expects image f idle caller call (ToFinish answer) act h = sym (same_Some (Finish answer) act h)

-- counting changes nothing of it
pub expects_counted : (cell : ℕ) (call : Call) (phase : Phase) (act : Act) → Expects (counted cell call phase) act → Expects phase act
expects_counted cell call (ToSettle waited) act h =
    cond_both (is_named call cell) (ToSettle (counted_up waited)) (ToSettle waited) (λ (p : Phase). Expects p act → (how : Settled) × (act ≡ Settle how)) (λ _ k. k) (λ _ k. k) h
expects_counted cell call (ToNoted id about answer waited) act h =
    cond_both (eqb cell id) (ToNoted id about answer (counted_up waited)) (ToNoted id about answer waited) (λ (p : Phase). Expects p act → (how : Heard) × (act ≡ Noted id how)) (λ _ k. k) (λ _ k. k) h
expects_counted cell call _ act h = h

-- ---- what follows an act of a call

-- the call is open behind the act, which is its caller's, and what is expected then may follow
abbrev pub GoesOnWith : Option OpenCall → ℕ → Act → Type 0
GoesOnWith call cpu act = (o : OpenCall) × (call ≡ Some o) × (o.caller ≡ cpu) × ((next : Act) → Expects o.phase next → MayFollow o.call act next)

telling_follows : (about : ℕ) (answer : ℤ) (answers : ℤ → Type 0) (o : Option ℕ) (next : Act) → answers answer → Expects (telling about answer o) next → IsNoteOr answers next
telling_follows about answer answers None next is h = inr (answer, is, h)
telling_follows about answer answers (Some id) next is h = inl (id, h)

-- the Decide
decide_follows : (image : Image) (f : Facts) (caller : ℕ) (call : Call) (o : Option ℤ) (next : Act) → decision image f caller call ≡ o → Expects (after_decide call (coming_by image f call) o) next → MayFollow call (Decide o) next
decide_follows image f caller (Create at) None next is h =
    let coming = coming_from_decision image f caller at is in
    let P : ReadCell → Type 0 = λ r. Expects (after_decide (Create at) (config_read r) None) next → next ≡ Commit in
    subst P (sym coming.reads) (λ k. k) h
decide_follows image f caller _ (Some number) next is h = h
decide_follows image f caller _ None next is h = h

settle_follows : (call : Call) (how : Settled) (next : Act) → Expects (after_settle how) next → MayFollow call (Settle how) next
settle_follows call Agreed next h = h
settle_follows call Denied next h = h
settle_follows call Timeout next h = h

create_follows : (call : Call) (config : CellConfig) (cells : List Live) (next : Act) → IsCreate call → Expects (after_commit call (ToCreate config) cells) next → MayFollow call Commit next
create_follows (Create at) config cells next is h = telling_follows config.id (pos config.id) (λ (answer : ℤ). (id : ℕ) × (answer ≡ pos id)) (first_recipient config.id cells) next (config.id, refl) h
create_follows _ config cells next is h = absurd is

commit_follows : (call : Call) (configs : List CellConfig) (cells : List Live) (next : Act) → IsAboutLive configs call → Expects (after_commit call ToCommit cells) next → MayFollow call Commit next
commit_follows (Start id) configs cells next about h = h
commit_follows (Loadable id) configs cells next about h = h
commit_follows (Destroy id) configs cells next about h = telling_follows id (pos 0) (λ (answer : ℤ). answer ≡ pos 0) (first_recipient id cells) next refl h
commit_follows _ configs cells next about h = absurd (both_ways false refl about.2)

noted_follows : (call : Call) (configs : List CellConfig) (id about : ℕ) (how : Heard) (answer : ℤ) (o : Option ℕ) (next : Act) → IsNews configs call about answer → Expects (telling about answer o) next → MayFollow call (Noted id how) next
noted_follows (Create at) configs id about how answer o next news h = telling_follows about answer (λ (x : ℤ). (k : ℕ) × (x ≡ pos k)) o next (about, news.3) h
noted_follows (Destroy gone) configs id about how answer o next news h = telling_follows about answer (λ (x : ℤ). x ≡ pos 0) o next news.2 h
noted_follows _ configs id about how answer o next news h = absurd news

-- each phase
phase_follows : (image : Image) (f : Facts) (entry : Entry) (caller : ℕ) (call : Call) (phase : Phase) (idle : Bool) → IsOpen image (configs_of f.cells) f.cpu (record { caller = caller; call = call; phase = phase })
    → phase_act image f idle caller call phase ≡ Some entry.act → is_finish entry.act ≡ false
    → GoesOnWith (call_by f.cells (coming_by image f call) (Some (record { caller = caller; call = call; phase = phase })) entry entry.act) caller entry.act
phase_follows image f entry caller call ToDecide idle opens h more =
    let o : OpenCall = record { caller = caller; call = call; phase = ToDecide } in
    let refused : Option ℤ = decision image f caller call in
    let P : Act → Type 0 = λ act. GoesOnWith (call_by f.cells (coming_by image f call) (Some o) entry act) caller act in
    let is : entry.act ≡ Decide refused = unless (any_below (λ i. keeps_decide image caller i (f.cpu i)) 16) (Decide refused) entry.act h in
    subst P (sym is) (record { caller = caller; call = call; phase = after_decide call (coming_by image f call) refused }, refl, refl, λ next e. decide_follows image f caller call refused next refl e)
phase_follows image f entry caller call (ToSettle waited) idle opens h more =
    let o : OpenCall = record { caller = caller; call = call; phase = ToSettle waited } in
    let P : Act → Type 0 = λ act. GoesOnWith (call_by f.cells (coming_by image f call) (Some o) entry act) caller act in
    let how = settle_act (settled_of f idle call waited) entry.act h in
    subst P (sym how.1) (record { caller = caller; call = call; phase = after_settle how.0 }, refl, refl, λ next e. settle_follows call how.0 next e)
phase_follows image f entry caller call (ToCreate config) idle opens h more =
    let o : OpenCall = record { caller = caller; call = call; phase = ToCreate config } in
    let P : Act → Type 0 = λ act. GoesOnWith (call_by f.cells (coming_by image f call) (Some o) entry act) caller act in
    subst P (same_Some Commit entry.act h) (record { caller = caller; call = call; phase = after_commit call (ToCreate config) f.cells }, refl, refl, λ next e. create_follows call config f.cells next opens.phase.0 e)
phase_follows image f entry caller call ToCommit idle opens h more =
    let o : OpenCall = record { caller = caller; call = call; phase = ToCommit } in
    let P : Act → Type 0 = λ act. GoesOnWith (call_by f.cells (coming_by image f call) (Some o) entry act) caller act in
    let is : entry.act ≡ Commit = unless (any_below (λ i. keeps_commit image call i (f.cpu i)) 16) Commit entry.act h in
    subst P (sym is) (record { caller = caller; call = call; phase = after_commit call ToCommit f.cells }, refl, refl, λ next e. commit_follows call (configs_of f.cells) f.cells next opens.phase e)
phase_follows image f entry caller call (ToNote id about answer) idle opens h more =
    let o : OpenCall = record { caller = caller; call = call; phase = ToNote id about answer } in
    let P : Act → Type 0 = λ act. GoesOnWith (call_by f.cells (coming_by image f call) (Some o) entry act) caller act in
    subst P (same_Some (Note id) entry.act h) (record { caller = caller; call = call; phase = ToNoted id about answer 0 }, refl, refl, λ next e. e)
phase_follows image f entry caller call (ToNoted id about answer waited) idle opens h more =
    let o : OpenCall = record { caller = caller; call = call; phase = ToNoted id about answer waited } in
    let P : Act → Type 0 = λ act. GoesOnWith (call_by f.cells (coming_by image f call) (Some o) entry act) caller act in
    let how = noted_act id (heard_of f idle id waited) entry.act h in
    let told : Option ℕ = first_recipient about (listed_behind id f.cells) in
    subst P (sym how.1) (record { caller = caller; call = call; phase = telling about answer told }, refl, refl, λ next e. noted_follows call (configs_of f.cells) id about how.0 answer told next opens.phase.1 e)
phase_follows image f entry caller call (ToFinish answer) idle opens h more =
    absurd (both_ways (is_finish entry.act) more (ap is_finish (sym (same_Some (Finish answer) entry.act h))))

-- where no call is open, an entry begins one or is none of a call
none_act : (image : Image) (cell : ℕ) (op : Op) (act : Act) → IsOutcomeOf image cell op act → is_phase act ≡ false
none_act image cell op Stop comes = absurd comes
none_act image cell op (Decide refused) comes = absurd comes
none_act image cell op (Settle how) comes = absurd comes
none_act image cell op Commit comes = absurd comes
none_act image cell op (Note id) comes = absurd comes
none_act image cell op (Noted id how) comes = absurd comes
none_act image cell op (Finish answer) comes = absurd comes
none_act image cell op _ comes = refl

none_by_call : (image : Image) (f : Facts) (entry : Entry) → IsSound image (with_call f None) → due_at image (with_call f None) entry.cpu ≡ Some entry → is_phase entry.act ≡ false
none_by_call image f entry sound due =
    let next = next_from_due image (with_call f None) entry due in
    ⊎_elim
    (λ stops. ap is_phase (sym stops.1))
    (λ (program : IsOfProgram image (with_call f None) (f.cpu entry.cpu) entry.cpu entry.act). none_act image (f.cpu entry.cpu).owner program.op entry.act program.comes)
    (state_parts image (with_call f None) (f.cpu entry.cpu) entry.cpu entry.act next.act)

pub entry_of_none : (image : Image) (f : Facts) (entry : Entry) → IsSound image f → f.call ≡ None → due_at image f entry.cpu ≡ Some entry → is_phase entry.act ≡ false
entry_of_none image f entry sound is due =
    let P : Option OpenCall → Type 0 = λ c. IsSound image (with_call f c) → due_at image (with_call f c) entry.cpu ≡ Some entry → is_phase entry.act ≡ false in
    subst P (sym is) (none_by_call image f entry) sound due

-- a phase is one of the call that is open, by its caller
pub record IsPhaseOf (image : Image) (f : Facts) (entry : Entry) : Type 0 where
  pub o : OpenCall
  pub opens : f.call ≡ Some o
  pub caller : o.caller ≡ entry.cpu
  pub act : phase_act image f (is_idle_but image f o.caller) o.caller o.call o.phase ≡ Some entry.act

pub phase_call : (act : Act) → is_phase act ≡ true → is_of_call act ≡ true
phase_call (Begin code a b) h = refl
phase_call _ h = h

phase_by : (image : Image) (f : Facts) (entry : Entry) (call : Option OpenCall) → IsSound image f → f.call ≡ call → due_at image f entry.cpu ≡ Some entry → is_phase entry.act ≡ true → IsPhaseOf image f entry
phase_by image f entry None sound is due phase = absurd (both_ways (is_phase entry.act) (entry_of_none image f entry sound is due) phase)
phase_by image f entry (Some o) sound is due phase =
    ⊎_elim
    (λ made. record { o = o; opens = is; caller = made.0; act = made.1 })
    (λ (beside : IsBeside image f o entry). absurd (both_ways (is_of_call entry.act) beside.act (phase_call entry.act phase)))
    (entry_of_call image f o entry sound is due)

pub phase_of_due : (image : Image) (f : Facts) (entry : Entry) → IsSound image f → due_at image f entry.cpu ≡ Some entry → is_phase entry.act ≡ true → IsPhaseOf image f entry
phase_of_due image f entry sound due phase = phase_by image f entry f.call sound refl due phase

-- behind a phase that isn't the last
pub phase_goes : (image : Image) (f : Facts) (entry : Entry) → IsSound image f → due_at image f entry.cpu ≡ Some entry → is_phase entry.act ≡ true → is_finish entry.act ≡ false → GoesOnWith (after image f entry).call entry.cpu entry.act
phase_goes image f entry sound due phase more =
    let of = phase_of_due image f entry sound due phase in
    let o : OpenCall = of.o in
    let next = phase_follows image f entry o.caller o.call o.phase (is_idle_but image f o.caller) (call_open image f o sound of.opens) of.act more in
    let coming : coming_of image f ≡ coming_by image f o.call = ap (option_and_then (λ (c : OpenCall). coming_by image f c.call)) of.opens in
    let behind_it : (after image f entry).call ≡ call_by f.cells (coming_by image f o.call) (Some o) entry entry.act =
    after_call image f entry
    ∙ ap (λ (c : Option OpenCall). call_by f.cells (coming_of image f) c entry entry.act) of.opens
    ∙ ap (λ (k : Option CellConfig). call_by f.cells k (Some o) entry entry.act) coming in
    (next.0, behind_it ∙ next.1, next.2 ∙ of.caller, next.3)

-- behind a beginning
begin_goes : (image : Image) (f : Facts) (entry : Entry) (code a b : ℕ) → entry.act ≡ Begin code a b → GoesOnWith (after image f entry).call entry.cpu entry.act
begin_goes image f entry code a b is =
    let P : Act → Type 0 = λ act. GoesOnWith (call_by f.cells (coming_of image f) f.call entry act) entry.cpu act in
    let Q : Option OpenCall → Type 0 = λ c. GoesOnWith c entry.cpu entry.act in
    subst Q (sym (after_call image f entry))
    (subst P (sym is) (record { caller = entry.cpu; call = decoded code a b; phase = ToDecide }, refl, refl, λ next e. e))

pub call_goes : (image : Image) (f : Facts) (entry : Entry) (act : Act) → entry.act ≡ act → IsSound image f → due_at image f entry.cpu ≡ Some entry → is_of_call act ≡ true → is_finish act ≡ false → GoesOnWith (after image f entry).call entry.cpu entry.act
call_goes image f entry (Begin code a b) is sound due call more = begin_goes image f entry code a b is
call_goes image f entry (Decide refused) is sound due call more = phase_goes image f entry sound due (ap is_phase is) (ap is_finish is)
call_goes image f entry (Settle how) is sound due call more = phase_goes image f entry sound due (ap is_phase is) (ap is_finish is)
call_goes image f entry Commit is sound due call more = phase_goes image f entry sound due (ap is_phase is) (ap is_finish is)
call_goes image f entry (Note id) is sound due call more = phase_goes image f entry sound due (ap is_phase is) (ap is_finish is)
call_goes image f entry (Noted id how) is sound due call more = phase_goes image f entry sound due (ap is_phase is) (ap is_finish is)
call_goes image f entry (Finish answer) is sound due call more = absurd (both_ways true more refl)
call_goes image f entry _ is sound due call more = absurd (both_ways false refl call)

-- ---- along a journal

-- what each entry of a stretch keeps holds behind it
pub along : (image : Image) (P : Facts → Type 0) (Q : Entry → Type 0) → ((f : Facts) (entry : Entry) → IsSound image f → P f → due_at image f entry.cpu ≡ Some entry → Q entry → P (after image f entry))
    → (f : Facts) (entries : List Entry) → IsSound image f → P f → IsLegalFrom image f entries → All Q entries
    → IsSound image (fold (after image) f entries) × P (fold (after image) f entries)
along image P Q step f [] sound holds legal each = (sound, holds)
along image P Q step f (entry ∷ entries) sound holds legal each =
    along image P Q step (after image f entry) entries (sound_after image f entry sound legal.0)
    (step f entry sound holds legal.0 (All-head Q entry entries each)) legal.1 (All-tail Q entry entries each)

split_from : (image : Image) (f : Facts) (entries : List Entry) (last : Entry) (rest : List Entry) → IsLegalFrom image f (entries ++ last ∷ rest)
    → IsLegalFrom image f entries × (due_at image (fold (after image) f entries) last.cpu ≡ Some last)
split_from image f [] last rest legal = (tt, legal.0)
split_from image f (entry ∷ entries) last rest legal =
    let more = split_from image (after image f entry) entries last rest legal.1 in
    ((legal.0, more.0), more.1)

-- two entries of a journal, with those between them
pub record IsStretch (image : Image) (form : Form) (before middle : List Entry) (first last : Entry) : Type 0 where
  pub sound : IsSound image (facts image form before)
  pub first_due : due_at image (facts image form before) first.cpu ≡ Some first
  pub between : IsLegalFrom image (after image (facts image form before) first) middle
  pub last_due : due_at image (fold (after image) (after image (facts image form before) first) middle) last.cpu ≡ Some last

pub stretch : (image : Image) (form : Form) (before middle rest : List Entry) (first last : Entry) → IsAdmitted image → IsLegal image form (before ++ first ∷ (middle ++ last ∷ rest)) → IsStretch image form before middle first last
stretch image form before middle rest first last admitted legal =
    let from : IsLegalFrom image (facts image form before) (first ∷ (middle ++ last ∷ rest)) = IsLegal_rest image form before (first ∷ (middle ++ last ∷ rest)) legal in
    let more = split_from image (after image (facts image form before) first) middle last rest from.1 in
    record {
      sound = legal_sound image form before admitted (IsLegal_begin image form before (first ∷ (middle ++ last ∷ rest)) legal);
      first_due = from.0;
      between = more.0;
      last_due = more.1;
    }

-- ---- what may follow what

-- the call of a caller is open, and what is expected may follow
abbrev IsWaiting : ℕ → Call → Act → Facts → Type 0
IsWaiting caller call act f = (o : OpenCall) × (f.call ≡ Some o) × (o.caller ≡ caller) × (o.call ≡ call) × ((next : Act) → Expects o.phase next → MayFollow call act next)

waiting_kept : (image : Image) (caller : ℕ) (call : Call) (act : Act) (f : Facts) (entry : Entry) → IsSound image f → IsWaiting caller call act f → due_at image f entry.cpu ≡ Some entry → entry.cpu ≢ caller → IsWaiting caller call act (after image f entry)
waiting_kept image caller call act f entry sound waiting due other =
    let o : OpenCall = waiting.0 in
    ⊎_elim
    (λ made. absurd (other (sym made.0 ∙ waiting.2)))
    (λ (beside : IsBeside image f o entry). (
      record { caller = o.caller; call = o.call; phase = counted entry.cell o.call o.phase },
      call_counted image f o entry waiting.1 beside.act,
      waiting.2,
      waiting.3,
      λ next h. waiting.4 next (expects_counted entry.cell o.call o.phase next h),
    ))
    (entry_of_call image f o entry sound waiting.1 due)

waiting_next : (image : Image) (caller : ℕ) (call : Call) (act : Act) (f : Facts) (entry : Entry) → IsSound image f → IsWaiting caller call act f → due_at image f entry.cpu ≡ Some entry → entry.cpu ≡ caller → MayFollow call act entry.act
waiting_next image caller call act f entry sound waiting due own =
    let o : OpenCall = waiting.0 in
    ⊎_elim
    (λ made. waiting.4 entry.act (phase_expects image f (is_idle_but image f o.caller) o.caller o.call o.phase entry.act made.1))
    (λ (beside : IsBeside image f o entry). absurd (beside.other (own ∙ sym waiting.2)))
    (entry_of_call image f o entry sound waiting.1 due)

-- an entry of a call, and the next one of the same CPU
pub follows : (image : Image) (form : Form) (before middle rest : List Entry) (first last : Entry) → IsAdmitted image → IsLegal image form (before ++ first ∷ (middle ++ last ∷ rest))
    → is_of_call first.act ≡ true → is_finish first.act ≡ false → All (λ (e : Entry). e.cpu ≢ first.cpu) middle → last.cpu ≡ first.cpu
    → (o : OpenCall) × ((after image (facts image form before) first).call ≡ Some o) × MayFollow o.call first.act last.act
follows image form before middle rest first last admitted legal call more others own =
    let s = stretch image form before middle rest first last admitted legal in
    let f : Facts = after image (facts image form before) first in
    let goes = call_goes image (facts image form before) first first.act refl s.sound s.first_due call more in
    let o : OpenCall = goes.0 in
    let waiting : IsWaiting first.cpu o.call first.act f = (o, goes.1, goes.2, refl, goes.3) in
    let end = along image (IsWaiting first.cpu o.call first.act) (λ (e : Entry). e.cpu ≢ first.cpu) (waiting_kept image first.cpu o.call first.act) f middle
    (sound_after image (facts image form before) first s.sound s.first_due) waiting s.between others in
    (o, goes.1, waiting_next image first.cpu o.call first.act (fold (after image) f middle) last end.0 end.1 s.last_due own)

-- ---- suspension

-- the caller's call is past its Decide
abbrev pub IsPast : Phase → Type 0
IsPast ToDecide = ⊥
IsPast _ = Unit {0}

abbrev IsSuspending : ℕ → Facts → Type 0
IsSuspending caller f = (o : OpenCall) × (f.call ≡ Some o) × (o.caller ≡ caller) × IsPast o.phase

halted_past : (phase : Phase) (cpu : Cpu) → IsPast phase → HaltsForCall phase cpu → cpu.asked ≡ false
halted_past ToDecide cpu past h = absurd past
halted_past _ cpu past h = h.asked

-- past the Decide an entry of another CPU isn't root's
pub past_other : (image : Image) (f : Facts) (o : OpenCall) (entry : Entry) → IsSound image f → f.call ≡ Some o → IsPast o.phase → due_at image f entry.cpu ≡ Some entry → entry.cpu ≢ o.caller → entry.cell ≢ image.system.root.id
past_other image f o entry sound is past due other root =
    let next = next_from_due image f entry due in
    let opens = call_open image f o sound is in
    let come : HaltsForCall o.phase (f.cpu entry.cpu) = opens.roots entry.cpu next.board other (sym next.cell ∙ root) in
    ⊎_elim
    (λ made. other (sym made.0))
    (λ (beside : IsBeside image f o entry).
    ⊎_elim
    (λ stops. both_ways (f.cpu entry.cpu).asked (halted_past o.phase (f.cpu entry.cpu) past come) stops.0)
    (λ goes. goes.1 (sym next.cell ∙ root))
    beside.who)
    (entry_of_call image f o entry sound is due)

-- two acts that a test tells apart
pub not_same : (test : Act → Bool) (one other : Act) → test one ≡ true → test other ≡ false → one ≡ other → ⊥
not_same test one other passes fails same = both_ways (test other) fails (sym (ap test same) ∙ passes)

never_behind_go : (call : Call) → IsBehindGo call (Decide None) → ⊥
never_behind_go (Create at) h = not_same is_decide (Decide None) Commit refl refl h
never_behind_go _ h = not_same is_decide (Decide None) (Settle h.0) refl refl h.1

never_note : (answers : ℤ → Type 0) → IsNoteOr answers (Decide None) → ⊥
never_note answers h = ⊎_elim (λ note. not_same is_decide (Decide None) (Note note.0) refl refl note.1) (λ ends. not_same is_decide (Decide None) (Finish ends.0) refl refl ends.2) h

never_telling : (call : Call) → IsNoteOrEnd call (Decide None) → ⊥
never_telling (Create at) h = never_note (λ (answer : ℤ). (id : ℕ) × (answer ≡ pos id)) h
never_telling (Destroy id) h = never_note (λ (answer : ℤ). answer ≡ pos 0) h
never_telling _ h = h

never_behind_commit : (call : Call) → IsBehindCommit call (Decide None) → ⊥
never_behind_commit (Start id) h = not_same is_decide (Decide None) (Finish (pos 0)) refl refl h
never_behind_commit (Loadable id) h = not_same is_decide (Decide None) (Finish (pos 0)) refl refl h
never_behind_commit call h = never_telling call h

-- a Decide follows the beginning alone
never_decide : (call : Call) (act : Act) → is_phase act ≡ true → MayFollow call act (Decide None) → ⊥
never_decide call (Decide (Some number)) phase h = not_same is_decide (Decide None) (Finish number) refl refl h
never_decide call (Decide None) phase h = never_behind_go call h
never_decide call (Settle Agreed) phase h = not_same is_decide (Decide None) Commit refl refl h
never_decide call (Settle Timeout) phase h = not_same is_decide (Decide None) Commit refl refl h
never_decide call (Settle Denied) phase h = not_same is_decide (Decide None) (Finish EPERM) refl refl h
never_decide call Commit phase h = never_behind_commit call h
never_decide call (Note id) phase h = not_same is_decide (Decide None) (Noted id h.0) refl refl h.1
never_decide call (Noted id how) phase h = never_telling call h
never_decide call (Begin code a b) phase h = both_ways false refl phase
never_decide call _ phase h = h

-- so behind each phase the call is past it
pub past_from : (call : Call) (act : Act) (phase : Phase) → is_phase act ≡ true → ((next : Act) → Expects phase next → MayFollow call act next) → IsPast phase
past_from call act ToDecide is h = never_decide call act is (h (Decide None) (None, refl))
past_from call act _ is h = tt

past_counted : (cell : ℕ) (call : Call) (phase : Phase) → IsPast phase → IsPast (counted cell call phase)
past_counted cell call ToDecide past = absurd past
past_counted cell call (ToSettle waited) past = cond_both (is_named call cell) (ToSettle (counted_up waited)) (ToSettle waited) IsPast (λ _. tt) (λ _. tt)
past_counted cell call (ToNoted id about answer waited) past = cond_both (eqb cell id) (ToNoted id about answer (counted_up waited)) (ToNoted id about answer waited) IsPast (λ _. tt) (λ _. tt)
past_counted cell call _ past = tt

pub phase_expected : (phase : Phase) (act : Act) → Expects phase act → is_phase act ≡ true
phase_expected ToDecide act h = ap is_phase h.1
phase_expected (ToSettle waited) act h = ap is_phase h.1
phase_expected (ToNoted id about answer waited) act h = ap is_phase h.1
phase_expected _ act h = ap is_phase h

suspending_kept : (image : Image) (caller : ℕ) (f : Facts) (entry : Entry) → IsSound image f → IsSuspending caller f → due_at image f entry.cpu ≡ Some entry → is_finish entry.act ≡ false → IsSuspending caller (after image f entry)
suspending_kept image caller f entry sound suspending due more =
    let o : OpenCall = suspending.0 in
    ⊎_elim
    (λ made.
    let phase : is_phase entry.act ≡ true = phase_expected o.phase entry.act (phase_expects image f (is_idle_but image f o.caller) o.caller o.call o.phase entry.act made.1) in
    let goes = phase_goes image f entry sound due phase more in
    (goes.0, goes.1, goes.2 ∙ sym made.0 ∙ suspending.2, past_from goes.0.call entry.act goes.0.phase phase goes.3))
    (λ (beside : IsBeside image f o entry). (
      record { caller = o.caller; call = o.call; phase = counted entry.cell o.call o.phase },
      call_counted image f o entry suspending.1 beside.act,
      suspending.2,
      past_counted entry.cell o.call o.phase suspending.3,
    ))
    (entry_of_call image f o entry sound suspending.1 due)

decide_phase : (act : Act) → is_decide act ≡ true → (is_phase act ≡ true) × (is_finish act ≡ false)
decide_phase (Decide refused) h = (refl, refl)
decide_phase _ h = absurd (both_ways false refl h)

-- from a Decide to the end of its call an entry of root is its caller's
pub suspended_roots : (image : Image) (form : Form) (before middle rest : List Entry) (first last : Entry) → IsAdmitted image → IsLegal image form (before ++ first ∷ (middle ++ last ∷ rest))
    → is_decide first.act ≡ true → All (λ (e : Entry). is_finish e.act ≡ false) middle → last.cell ≡ image.system.root.id → last.cpu ≡ first.cpu
suspended_roots image form before middle rest first last admitted legal decides others root =
    let s = stretch image form before middle rest first last admitted legal in
    let f : Facts = after image (facts image form before) first in
    let act = decide_phase first.act decides in
    let goes = phase_goes image (facts image form before) first s.sound s.first_due act.0 act.1 in
    let start_at : IsSuspending first.cpu f = (goes.0, goes.1, goes.2, past_from goes.0.call first.act goes.0.phase act.0 goes.3) in
    let end = along image (IsSuspending first.cpu) (λ (e : Entry). is_finish e.act ≡ false) (suspending_kept image first.cpu) f middle
    (sound_after image (facts image form before) first s.sound s.first_due) start_at s.between others in
    let there : Facts = fold (after image) f middle in
    ⊎_elim
    (λ (same : eqb last.cpu first.cpu ≡ true). eqb-true last.cpu first.cpu same)
    (λ (apart : eqb last.cpu first.cpu ≡ false).
    absurd (past_other image there end.1.0 last end.0 end.1.1 end.1.3 s.last_due (λ e. both_ways (eqb last.cpu first.cpu) apart (eq-eqb last.cpu first.cpu (e ∙ end.1.2))) root))
    (cases_Bool (eqb last.cpu first.cpu))

-- the call is about to be committed
abbrev IsCommitting : Call → Facts → Type 0
IsCommitting call f = (caller : ℕ) × (f.call ≡ Some (record { caller = caller; call = call; phase = ToCommit }))

committing_kept : (image : Image) (call : Call) (f : Facts) (entry : Entry) → IsSound image f → IsCommitting call f → due_at image f entry.cpu ≡ Some entry → is_commit entry.act ≡ false → IsCommitting call (after image f entry)
committing_kept image call f entry sound committing due more =
    let o : OpenCall = record { caller = committing.0; call = call; phase = ToCommit } in
    ⊎_elim
    (λ made. absurd (both_ways (is_commit entry.act) more (ap is_commit (phase_expects image f (is_idle_but image f o.caller) o.caller call ToCommit entry.act made.1))))
    (λ (beside : IsBeside image f o entry). (committing.0, call_counted image f o entry committing.1 beside.act))
    (entry_of_call image f o entry sound committing.1 due)

committing_stops : (image : Image) (call : Call) (f : Facts) (entry : Entry) → IsSound image f → IsCommitting call f → due_at image f entry.cpu ≡ Some entry → is_named call entry.cell ≡ true → entry.act ≡ Stop
committing_stops image call f entry sound committing due named =
    let o : OpenCall = record { caller = committing.0; call = call; phase = ToCommit } in
    let opens = call_open image f o sound committing.1 in
    let next = next_from_due image f entry due in
    let unnamed = root_unnamed image.system (configs_of f.cells) call sound.cells opens.phase in
    let P : ℕ → Type 0 = λ k. (f.cpu k).owner ≡ image.system.root.id in
    let apart : (f.cpu entry.cpu).owner ≢ image.system.root.id = λ root. both_ways (is_named call entry.cell) (ap (is_named call) (next.cell ∙ root) ∙ unnamed) named in
    ⊎_elim
    (λ made. absurd (apart (subst P made.0 opens.caller.owner)))
    (λ (beside : IsBeside image f o entry).
    ⊎_elim
    (λ stops. sym stops.1)
    (λ goes. absurd (halting_rests (f.cpu entry.cpu) ((opens.cells entry.cpu apart).0 (ap (is_named call) (sym next.cell) ∙ named)) goes.0.goes))
    beside.who)
    (entry_of_call image f o entry sound committing.1 due)

agreement_settles : (act : Act) → is_undenied_settle act ≡ true → (how : Settled) × (act ≡ Settle how) × (after_settle how ≡ ToCommit) × (is_phase act ≡ true)
agreement_settles (Settle Agreed) h = (Agreed, refl, refl, refl)
agreement_settles (Settle Timeout) h = (Timeout, refl, refl, refl)
agreement_settles _ h = absurd (both_ways false refl h)

settled_call : (image : Image) (f : Facts) (o : OpenCall) (entry : Entry) (how : Settled) → f.call ≡ Some o → entry.act ≡ Settle how → after_settle how ≡ ToCommit
    → (after image f entry).call ≡ Some (record { caller = o.caller; call = o.call; phase = ToCommit })
settled_call image f o entry how opens act commits =
    after_call image f entry
    ∙ ap (λ (c : Option OpenCall). call_by f.cells (coming_of image f) c entry entry.act) opens
    ∙ ap (λ (x : Act). call_by f.cells (coming_of image f) (Some o) entry x) act
    ∙ ap (λ (p : Phase). Some (record { caller = o.caller; call = o.call; phase = p })) commits

-- ---- the call that was begun

begun_kept : (b : Option Entry) (call : Option OpenCall) (g : OpenCall → Phase) → IsBegun b call → IsBegun b (option_map (λ (o : OpenCall). record { caller = o.caller; call = o.call; phase = g o }) call)
begun_kept None None g h = h
begun_kept None (Some o) g h = absurd h
begun_kept (Some entry) None g h = absurd h
begun_kept (Some entry) (Some o) g h = h

begun_act : (cells : List Live) (coming : Option CellConfig) (b : Option Entry) (call : Option OpenCall) (entry : Entry) (act : Act) → entry.act ≡ act → IsBegun b call → IsBegun (begun_by b entry act) (call_by cells coming call entry act)
begun_act cells coming b call entry (Begin code a c) is h = (refl, sym (ap call_of_begin is))
begun_act cells coming b call entry (Finish answer) is h = tt
begun_act cells coming b call entry act is h = begun_kept b call (λ (o : OpenCall). phase_after cells coming entry.cell o.call o.phase act) h

begun_from : (image : Image) (f : Facts) (b : Option Entry) (entries : List Entry) → IsBegun b f.call → IsBegun (fold (λ (x : Option Entry) (entry : Entry). begun_by x entry entry.act) b entries) (fold (after image) f entries).call
begun_from image f b [] h = h
begun_from image f b (entry ∷ entries) h =
    let P : Option OpenCall → Type 0 = IsBegun (begun_by b entry entry.act) in
    begun_from image (after image f entry) (begun_by b entry entry.act) entries
    (subst P (sym (after_call image f entry)) (begun_act f.cells (coming_of image f) b f.call entry entry.act refl h))

pub open_call_begun : (image : Image) (form : Form) (entries : List Entry) → IsBegun (begun entries) (facts image form entries).call
unfolding facts
open_call_begun image form entries = begun_from image (start image form) None entries tt

begun_none : (b : Option Entry) (call : Option OpenCall) → call ≡ None → IsBegun b call → b ≡ None
begun_none None call is h = refl
begun_none (Some entry) None is h = absurd h
begun_none (Some entry) (Some o) is h = absurd (none-some o (sym is))

begun_some : (b : Option Entry) (call : Option OpenCall) (o : OpenCall) → call ≡ Some o → IsBegun b call → (first : Entry) × (b ≡ Some first) × (o.caller ≡ first.cpu) × (o.call ≡ call_of_begin first.act)
begun_some None None o is h = absurd (none-some o is)
begun_some None (Some p) o is h = absurd h
begun_some (Some entry) None o is h = absurd h
begun_some (Some entry) (Some p) o is h =
    let e : p ≡ o = same_Some p o is in
    (entry, refl, sym (ap (λ (x : OpenCall). x.caller) e) ∙ h.0, sym (ap (λ (x : OpenCall). x.call) e) ∙ h.1)

-- what the call that is open says of the one that was begun
pub begun_of : (image : Image) (form : Form) (entries : List Entry) (o : OpenCall) → (facts image form entries).call ≡ Some o → (first : Entry) × (begun entries ≡ Some first) × (o.caller ≡ first.cpu) × (o.call ≡ call_of_begin first.act)
begun_of image form entries o is = begun_some (begun entries) (facts image form entries).call o is (open_call_begun image form entries)

-- it is that one
pub call_of_open : (image : Image) (form : Form) (entries : List Entry) (o : OpenCall) → (facts image form entries).call ≡ Some o → begun_call entries ≡ Some o.call
call_of_open image form entries o is =
    let first = begun_of image form entries o is in
    ap (option_map (λ (opening : Entry). call_of_begin opening.act)) first.1 ∙ ap (λ (call : Call). Some call) (sym first.3)

pub same_call : (image : Image) (form : Form) (entries : List Entry) (o : OpenCall) (call : Call) → (facts image form entries).call ≡ Some o → begun_call entries ≡ Some call → o.call ≡ call
same_call image form entries o call opens is = same_Some o.call call (sym (call_of_open image form entries o opens) ∙ is)

begin_none_by : (image : Image) (f : Facts) (entry : Entry) (code a b : ℕ) (call : Option OpenCall) → entry.act ≡ Begin code a b → IsSound image f → f.call ≡ call → due_at image f entry.cpu ≡ Some entry → f.call ≡ None
begin_none_by image f entry code a b None act sound is due = is
begin_none_by image f entry code a b (Some o) act sound is due =
    ⊎_elim
    (λ made. absurd (both_ways (is_phase entry.act) (ap is_phase act) (phase_expected o.phase entry.act (phase_expects image f (is_idle_but image f o.caller) o.caller o.call o.phase entry.act made.1))))
    (λ (beside : IsBeside image f o entry). absurd (both_ways (is_of_call entry.act) beside.act (ap is_of_call act)))
    (entry_of_call image f o entry sound is due)

-- none begins while another is open
pub begins_alone : (image : Image) (form : Form) (before rest : List Entry) (entry : Entry) (code a b : ℕ) → IsAdmitted image → IsLegal image form (before ++ entry ∷ rest) → entry.act ≡ Begin code a b → begun before ≡ None
begins_alone image form before rest entry code a b admitted legal act =
    let f : Facts = facts image form before in
    let sound = legal_sound image form before admitted (IsLegal_begin image form before (entry ∷ rest) legal) in
    begun_none (begun before) f.call (begin_none_by image f entry code a b f.call act sound refl (due_split image form before rest entry legal)) (open_call_begun image form before)

-- a phase is the caller's
pub phases_own : (image : Image) (form : Form) (before rest : List Entry) (entry : Entry) → IsAdmitted image → IsLegal image form (before ++ entry ∷ rest) → is_phase entry.act ≡ true → (first : Entry) × (begun before ≡ Some first) × (first.cpu ≡ entry.cpu)
phases_own image form before rest entry admitted legal phase =
    let f : Facts = facts image form before in
    let sound = legal_sound image form before admitted (IsLegal_begin image form before (entry ∷ rest) legal) in
    let of = phase_of_due image f entry sound (due_split image form before rest entry legal) phase in
    let first = begun_of image form before of.o of.opens in
    (first.0, first.1, sym first.2 ∙ of.caller)

-- what may follow, by the call that was begun
pub follows_call : (image : Image) (form : Form) (before middle rest : List Entry) (one next : Entry) → IsAdmitted image → IsLegal image form (before ++ one ∷ (middle ++ next ∷ rest))
    → is_of_call one.act ≡ true → is_finish one.act ≡ false → All (λ (e : Entry). e.cpu ≢ one.cpu) middle → next.cpu ≡ one.cpu
    → (k : Call) × (begun_call (before ++ one ∷ []) ≡ Some k) × MayFollow k one.act next.act
follows_call image form before middle rest one next admitted legal call more others own =
    let h = follows image form before middle rest one next admitted legal call more others own in
    (h.0.call, call_of_open image form (before ++ one ∷ []) h.0 (ap (λ (f : Facts). f.call) (facts_push image form before one) ∙ h.1), h.2)

-- from a Settle that isn't denied to the Commit the CPUs of the cell stop
pub suspended_cells : (image : Image) (form : Form) (before middle rest : List Entry) (settle last : Entry) (call : Call) → IsAdmitted image → IsLegal image form (before ++ settle ∷ (middle ++ last ∷ rest))
    → begun_call before ≡ Some call → is_undenied_settle settle.act ≡ true → All (λ (e : Entry). is_commit e.act ≡ false) middle → is_named call last.cell ≡ true → last.act ≡ Stop
suspended_cells image form before middle rest settle last call admitted legal is agreed others named =
    let s = stretch image form before middle rest settle last admitted legal in
    let f0 : Facts = facts image form before in
    let f : Facts = after image f0 settle in
    let how = agreement_settles settle.act agreed in
    let of = phase_of_due image f0 settle s.sound s.first_due how.3 in
    let o : OpenCall = of.o in
    let same : o.call ≡ call = same_call image form before o call of.opens is in
    let end = along image (IsCommitting o.call) (λ (e : Entry). is_commit e.act ≡ false) (committing_kept image o.call) f middle
    (sound_after image f0 settle s.sound s.first_due) (o.caller, settled_call image f0 o settle how.0 of.opens how.1 how.2) s.between others in
    committing_stops image o.call (fold (after image) f middle) last end.0 end.1 s.last_due (ap (λ (k : Call). is_named k last.cell) same ∙ named)

-- ---- what an entry is

-- an entry that is due is a stop, an operation of its CPU's program, or a phase of a call
pub data IsMadeBy (image : Image) (f : Facts) (entry : Entry) : Type 0 where
  Stopping : Stop ≡ entry.act → IsMadeBy image f entry
  Running : IsOfProgram image f (f.cpu entry.cpu) entry.cpu entry.act → IsMadeBy image f entry
  Calling : is_phase entry.act ≡ true → IsMadeBy image f entry

made_none : (image : Image) (f : Facts) (entry : Entry) → due_at image (with_call f None) entry.cpu ≡ Some entry → IsMadeBy image (with_call f None) entry
made_none image f entry due =
    let next = next_from_due image (with_call f None) entry due in
    ⊎_elim
    (λ stops. Stopping stops.1)
    (λ (program : IsOfProgram image (with_call f None) (f.cpu entry.cpu) entry.cpu entry.act). Running program)
    (state_parts image (with_call f None) (f.cpu entry.cpu) entry.cpu entry.act next.act)

made_some : (image : Image) (f : Facts) (o : OpenCall) (entry : Entry) → IsSound image f → f.call ≡ Some o → due_at image f entry.cpu ≡ Some entry → IsMadeBy image f entry
made_some image f o entry sound is due =
    ⊎_elim
    (λ made. Calling (phase_expected o.phase entry.act (phase_expects image f (is_idle_but image f o.caller) o.caller o.call o.phase entry.act made.1)))
    (λ (beside : IsBeside image f o entry). ⊎_elim (λ stops. Stopping stops.1) (λ goes. Running goes.0) beside.who)
    (entry_of_call image f o entry sound is due)

made_by_call : (image : Image) (f : Facts) (entry : Entry) (call : Option OpenCall) → IsSound image f → f.call ≡ call → due_at image f entry.cpu ≡ Some entry → IsMadeBy image f entry
made_by_call image f entry None sound is due =
    let P : Option OpenCall → Type 0 = λ c. due_at image (with_call f c) entry.cpu ≡ Some entry → IsMadeBy image (with_call f c) entry in
    subst P (sym is) (made_none image f entry) due
made_by_call image f entry (Some o) sound is due = made_some image f o entry sound is due

pub made_by : (image : Image) (f : Facts) (entry : Entry) → IsSound image f → due_at image f entry.cpu ≡ Some entry → IsMadeBy image f entry
made_by image f entry sound due = made_by_call image f entry f.call sound refl due
