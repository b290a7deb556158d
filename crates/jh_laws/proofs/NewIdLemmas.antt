-- With what a create ends whose Commit was made: from the Commit on the call carries the new cell's id.
use Rattle.std.proofs.Common.{◌≡◌, ℕ, ℤ, pos, List, [], ◌∷◌, ◌++◌, false, eqb, Option, Some, None, refl, sym, ap, subst, ◌∙◌, ⊎_elim, All}
use Rattle.std.specs.List.{fold}
use Rattle.std.proofs.lemmas.Bool.{both_ways, cond_both}
use Rattle.std.proofs.lemmas.List.{append_cancel_left}
use Rattle.jh_cellcfg.specs.declared.config.CellConfig.{CellConfig}
use Rattle.jh_cellcfg.specs.declared.live.Live.{Live}
use Rattle.jh_cpu.specs.declared.cpu.Cpu.{Cpu}
use Rattle.jh_call.specs.declared.call.Call.{Call}
use Rattle.jh_call.specs.declared.call.Call.TheVariants.{Create}
use Rattle.jh_script.specs.declared.image.Image.{Image}
use Rattle.jh_history.specs.declared.form.Form.{Form}
use Rattle.jh_history.specs.declared.call.OpenCall.{OpenCall}
use Rattle.jh_history.specs.declared.call.Phase.{Phase}
use Rattle.jh_history.specs.declared.call.Phase.TheVariants.{ToDecide, ToSettle, ToCreate, ToCommit, ToNote, ToNoted, ToFinish}
use Rattle.jh_history.specs.declared.entry.Entry.{Entry}
use Rattle.jh_history.specs.declared.entry.Act.{Act}
use Rattle.jh_history.specs.declared.entry.Act.TheVariants.{Decide, Settle, Commit, Note, Noted, Finish}
use Rattle.jh_history.specs.Admitted.{IsAdmitted}
use Rattle.jh_history.specs.Calls.{counted, telling, first_recipient, listed_behind, call_by, is_of_call}
use Rattle.jh_num.specs.Numbers.{counted_up}
use Rattle.jh_history.specs.Commits.{committed_cells, cells_by, is_commit}
use Rattle.jh_history.specs.Due.{due_at, is_idle_but, IsLegal}
use Rattle.jh_history.specs.Facts.{Facts}
use Rattle.jh_history.specs.History.{after, facts, coming_of}
use Rattle.jh_shape.specs.Lives.{configs_of}
use Rattle.jh_history.specs.Sound.{IsInPhase, IsSound}
use Rattle.jh_history.proofs.Public.{facts_push, after_call, sound_after, call_open}
use Rattle.jh_laws.specs.Ways.{is_phase, is_finish, begun_call}
use Rattle.jh_laws.proofs.CallLemmas.{Expects, IsBeside, along, call_counted, entry_of_call, not_same, phase_expects, phase_of_due, same_call, stretch}

-- the phase leads to the end with the answer
abbrev Answers : ℤ → Phase → Type 0
Answers answer (ToNote id about a) = a ≡ answer
Answers answer (ToNoted id about a waited) = a ≡ answer
Answers answer (ToFinish a) = a ≡ answer
Answers answer _ = ⊥

-- the open call does
abbrev WillAnswer : ℤ → Option OpenCall → Type 0
WillAnswer answer call = (o : OpenCall) × (call ≡ Some o) × Answers answer o.phase

answers_telling : (answer a : ℤ) (about : ℕ) (o : Option ℕ) → a ≡ answer → Answers answer (telling about a o)
answers_telling answer a about None h = h
answers_telling answer a about (Some id) h = h

answers_counted : (answer : ℤ) (cell : ℕ) (call : Call) (phase : Phase) → Answers answer phase → Answers answer (counted cell call phase)
answers_counted answer cell call (ToNote id about a) h = h
answers_counted answer cell call (ToNoted id about a waited) h =
    cond_both (eqb cell id) (ToNoted id about a (counted_up waited)) (ToNoted id about a waited) (Answers answer) (λ _. h) (λ _. h)
answers_counted answer cell call (ToFinish a) h = h
answers_counted answer cell call _ h = absurd h

-- a phase behind the Commit that isn't the last leads on
answers_next : (answer : ℤ) (cells : List Live) (coming : Option CellConfig) (entry : Entry) (caller : ℕ) (call : Call) (phase : Phase) (act : Act) → Answers answer phase → Expects phase act → is_finish act ≡ false
    → WillAnswer answer (call_by cells coming (Some (record { caller = caller; call = call; phase = phase })) entry act)
answers_next answer cells coming entry caller call (ToNote id about a) act h e more =
    let P : Act → Type 0 = λ x. WillAnswer answer (call_by cells coming (Some (record { caller = caller; call = call; phase = ToNote id about a })) entry x) in
    subst P (sym e) (record { caller = caller; call = call; phase = ToNoted id about a 0 }, refl, h)
answers_next answer cells coming entry caller call (ToNoted id about a waited) act h e more =
    let P : Act → Type 0 = λ x. WillAnswer answer (call_by cells coming (Some (record { caller = caller; call = call; phase = ToNoted id about a waited })) entry x) in
    let told : Option ℕ = first_recipient about (listed_behind id cells) in
    subst P (sym e.1) (record { caller = caller; call = call; phase = telling about a told }, refl, answers_telling answer a about told h)
answers_next answer cells coming entry caller call (ToFinish a) act h e more = absurd (both_ways (is_finish act) more (ap is_finish e))
answers_next answer cells coming entry caller call _ act h e more = absurd h

call_behind : (image : Image) (f : Facts) (entry : Entry) (o : OpenCall) → f.call ≡ Some o → (after image f entry).call ≡ call_by f.cells (coming_of image f) (Some o) entry entry.act
call_behind image f entry o is = after_call image f entry ∙ ap (λ (c : Option OpenCall). call_by f.cells (coming_of image f) c entry entry.act) is

answers_on : (image : Image) (answer : ℤ) (f : Facts) (entry : Entry) → IsSound image f → WillAnswer answer f.call → due_at image f entry.cpu ≡ Some entry → is_finish entry.act ≡ false → WillAnswer answer (after image f entry).call
answers_on image answer f entry sound will due more =
    let o : OpenCall = will.0 in
    ⊎_elim
    (λ made.
    let expects = phase_expects image f (is_idle_but image f o.caller) o.caller o.call o.phase entry.act made.1 in
    let next = answers_next answer f.cells (coming_of image f) entry o.caller o.call o.phase entry.act will.2 expects more in
    (next.0, call_behind image f entry o will.1 ∙ next.1, next.2))
    (λ (beside : IsBeside image f o entry). (
      record { caller = o.caller; call = o.call; phase = counted entry.cell o.call o.phase },
      call_counted image f o entry will.1 beside.act,
      answers_counted answer entry.cell o.call o.phase will.2,
    ))
    (entry_of_call image f o entry sound will.1 due)

abbrev first_id : List Live → ℕ
first_id [] = 0
first_id (live ∷ lives) = live.config.id

-- by the Commit of a create that makes the cell
answers_from : (image : Image) (configs : List CellConfig) (cpu : ℕ → Cpu) (cells : List Live) (coming : Option CellConfig) (entry : Entry) (caller at : ℕ) (phase : Phase) (live : Live) → Expects phase Commit
    → IsInPhase image configs cpu caller (Create at) phase → committed_cells (Create at) phase cells ≡ cells ++ live ∷ []
    → WillAnswer (pos live.config.id) (call_by cells coming (Some (record { caller = caller; call = Create at; phase = phase })) entry Commit)
answers_from image configs cpu cells coming entry caller at ToDecide live e holds made = absurd (not_same is_commit Commit (Decide e.0) refl refl e.1)
answers_from image configs cpu cells coming entry caller at (ToSettle waited) live e holds made = absurd (not_same is_commit Commit (Settle e.0) refl refl e.1)
answers_from image configs cpu cells coming entry caller at (ToCreate config) live e holds made =
    let one : Live = record { config = config; loadable = false } in
    let same : config.id ≡ live.config.id = ap first_id (append_cancel_left cells (one ∷ []) (live ∷ []) made) in
    let told : Option ℕ = first_recipient config.id cells in (
      record { caller = caller; call = Create at; phase = telling config.id (pos config.id) told },
      refl,
      answers_telling (pos live.config.id) (pos config.id) config.id told (ap pos same),
    )
answers_from image configs cpu cells coming entry caller at ToCommit live e holds made = absurd (both_ways false refl holds.2)
answers_from image configs cpu cells coming entry caller at (ToNote id about a) live e holds made = absurd (not_same is_commit Commit (Note id) refl refl e)
answers_from image configs cpu cells coming entry caller at (ToNoted id about a waited) live e holds made = absurd (not_same is_commit Commit (Noted id e.0) refl refl e.1)
answers_from image configs cpu cells coming entry caller at (ToFinish a) live e holds made = absurd (not_same is_commit Commit (Finish a) refl refl e)

answers_commit : (image : Image) (f : Facts) (entry : Entry) (o : OpenCall) (at : ℕ) (live : Live) → IsSound image f → f.call ≡ Some o → o.call ≡ Create at → Expects o.phase Commit → entry.act ≡ Commit
    → cells_by f.call f.cells Commit ≡ f.cells ++ live ∷ [] → WillAnswer (pos live.config.id) (after image f entry).call
answers_commit image f entry o at live sound is create expects act made =
    let opens = call_open image f o sound is in
    let holds = subst (λ (k : Call). IsInPhase image (configs_of f.cells) f.cpu o.caller k o.phase) create opens.phase in
    let here = subst (λ (k : Call). committed_cells k o.phase f.cells ≡ f.cells ++ live ∷ []) create (subst (λ (c : Option OpenCall). cells_by c f.cells Commit ≡ f.cells ++ live ∷ []) is made) in
    let will = answers_from image (configs_of f.cells) f.cpu f.cells (coming_of image f) entry o.caller at o.phase live expects holds here in
    let P : Call → Type 0 = λ k. WillAnswer (pos live.config.id) (call_by f.cells (coming_of image f) (Some (record { caller = o.caller; call = k; phase = o.phase })) entry Commit) in
    let Q : Act → Type 0 = λ x. WillAnswer (pos live.config.id) (call_by f.cells (coming_of image f) (Some o) entry x) in
    let R : Option OpenCall → Type 0 = WillAnswer (pos live.config.id) in
    subst R (sym (call_behind image f entry o is)) (subst Q (sym act) (subst P (sym create) will))

abbrev answer_in : Act → ℤ
answer_in (Finish answer) = answer
answer_in _ = pos 0

finishes_with : (phase : Phase) (answer a : ℤ) → Answers a phase → Expects phase (Finish answer) → answer ≡ a
finishes_with (ToNote id about b) answer a h e = absurd (not_same is_finish (Finish answer) (Note id) refl refl e)
finishes_with (ToNoted id about b waited) answer a h e = absurd (not_same is_finish (Finish answer) (Noted id e.0) refl refl e.1)
finishes_with (ToFinish b) answer a h e = ap answer_in e ∙ h
finishes_with _ answer a h e = absurd h

finish_is : (image : Image) (f : Facts) (entry : Entry) (answer a : ℤ) → IsSound image f → WillAnswer a f.call → due_at image f entry.cpu ≡ Some entry → entry.act ≡ Finish answer → answer ≡ a
finish_is image f entry answer a sound will due act =
    let o : OpenCall = will.0 in
    ⊎_elim
    (λ made. finishes_with o.phase answer a will.2 (subst (Expects o.phase) act (phase_expects image f (is_idle_but image f o.caller) o.caller o.call o.phase entry.act made.1)))
    (λ (beside : IsBeside image f o entry). absurd (both_ways (is_of_call entry.act) beside.act (ap is_of_call act)))
    (entry_of_call image f o entry sound will.1 due)

pub cells_behind : (image : Image) (form : Form) (before : List Entry) (entry : Entry) → (facts image form (before ++ entry ∷ [])).cells ≡ cells_by (facts image form before).call (facts image form before).cells entry.act
unfolding after
cells_behind image form before entry = ap (λ (f : Facts). f.cells) (facts_push image form before entry)

pub new_id : (image : Image) (form : Form) (before middle rest : List Entry) (commit last : Entry) (at : ℕ) (live : Live) (answer : ℤ) → IsAdmitted image → IsLegal image form (before ++ commit ∷ (middle ++ last ∷ rest))
    → begun_call before ≡ Some (Create at) → commit.act ≡ Commit → (facts image form (before ++ commit ∷ [])).cells ≡ (facts image form before).cells ++ live ∷ []
    → All (λ (e : Entry). is_finish e.act ≡ false) middle → last.act ≡ Finish answer → answer ≡ pos live.config.id
new_id image form before middle rest commit last at live answer admitted legal is act made more ends =
    let s = stretch image form before middle rest commit last admitted legal in
    let f : Facts = facts image form before in
    let of = phase_of_due image f commit s.sound s.first_due (ap is_phase act) in
    let call : of.o.call ≡ Create at = same_call image form before of.o (Create at) of.opens is in
    let expects = subst (Expects of.o.phase) act (phase_expects image f (is_idle_but image f of.o.caller) of.o.caller of.o.call of.o.phase commit.act of.act) in
    let cells = subst (λ (x : Act). cells_by f.call f.cells x ≡ f.cells ++ live ∷ []) act (sym (cells_behind image form before commit) ∙ made) in
    let will = answers_commit image f commit of.o at live s.sound of.opens call expects act cells in
    let end = along image (λ (g : Facts). WillAnswer (pos live.config.id) g.call) (λ (e : Entry). is_finish e.act ≡ false) (answers_on image (pos live.config.id)) (after image f commit) middle (sound_after image f commit s.sound s.first_due) will s.between more in
    finish_is image (fold (after image) (after image f commit) middle) last answer (pos live.config.id) end.0 end.1 s.last_due ends
