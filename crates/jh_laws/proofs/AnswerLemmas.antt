-- What a Settle and a Noted of a legal journal say.
use Rattle.std.proofs.Common.{◌≡◌, ◌≢◌, ℕ, ◌+◌, ◌-◌, ◌^◌, min, List, [], ◌∷◌, ◌++◌, ℤ, Bool, true, false, Option, Some, None, All, count_by, refl, sym, ap, subst, ◌∙◌, ⊎_elim, eqb, arith}
use Rattle.std.specs.Prelude.{Contains, find, option_map, option_and_then}
use Rattle.std.specs.List.{fold}
use Rattle.std.proofs.lemmas.Option.{none-some, same_Some}
use Rattle.jh_cellcfg.specs.declared.config.CellConfig.{CellConfig}
use Rattle.jh_cellcfg.specs.Lives.{has_id}
use Rattle.jh_call.specs.declared.call.Call.{Call}
use Rattle.jh_call.specs.declared.call.Call.TheVariants.{Create}
use Rattle.jh_script.specs.declared.image.Image.{Image}
use Rattle.jh_history.specs.declared.form.Form.{Form}
use Rattle.jh_history.specs.declared.call.OpenCall.{OpenCall}
use Rattle.jh_history.specs.declared.call.Phase.{Phase}
use Rattle.jh_history.specs.declared.call.Phase.TheVariants.{ToDecide, ToSettle, ToCreate, ToCommit, ToNote, ToNoted, ToFinish}
use Rattle.jh_history.specs.declared.entry.Entry.{Entry}
use Rattle.jh_history.specs.declared.entry.Settled.{Settled}
use Rattle.jh_history.specs.declared.entry.Settled.TheVariants.{Agreed}
use Rattle.jh_history.specs.declared.entry.Heard.{Heard}
use Rattle.jh_history.specs.declared.entry.Heard.TheVariants.{Received}
use Rattle.jh_history.specs.declared.entry.Act.{Act}
use Rattle.jh_history.specs.declared.entry.Act.TheVariants.{Decide, Settle, Commit, Note, Noted, Finish}
use Rattle.jh_history.specs.Facts.{Facts}
use Rattle.jh_history.specs.Lives.{live_in}
use Rattle.jh_history.specs.Calls.{is_named, counted, after_decide, after_note, call_by}
use Rattle.jh_history.specs.Pages.{named_cell}
use Rattle.jh_history.specs.Phases.{phase_act, settled_of, heard_of}
use Rattle.jh_shape.specs.Lives.{configs_of}
use Rattle.jh_history.specs.History.{after, facts, coming_of, coming_by}
use Rattle.jh_history.specs.Due.{due_at, is_idle_but, IsLegal}
use Rattle.jh_history.specs.Admitted.{IsAdmitted}
use Rattle.jh_history.specs.Sound.{IsSound}
use Rattle.jh_laws.specs.Ways.{is_phase, is_decide, begun_call}
use Rattle.jh_laws.specs.Exchanges.{made_by_named, made_by_cell, IsSettledBy, IsHeardBy}
use Rattle.jh_history.proofs.Public.{sound_after, after_call}
use Rattle.jh_history.specs.Commits.{is_commit}
use Rattle.jh_laws.proofs.CallLemmas.{Expects, phase_expects, expects_counted, phase_of_due, same_call, stretch, IsBeside, entry_of_call, not_same}
use Rattle.jh_laws.proofs.DueCpusLemmas.{named_of, settled_with, heard_with}
use Rattle.jh_laws.proofs.ExchangeLemmas.{counted_over, waits_over, settle_counts, noted_counts, settled_as, heard_as}
use Rattle.jh_laws.proofs.HeldLemmas.{live_found}
use Rattle.jh_laws.proofs.FactsLemmas.{facts_append}

-- ---- the phase that is waited in

expects_over : (call : Call) (phase : Phase) (entries : List Entry) (act : Act) → Expects (counted_over call phase entries) act → Expects phase act
expects_over call phase [] act h = h
expects_over call phase (entry ∷ entries) act h = expects_counted entry.cell call phase act (expects_over call (counted entry.cell call phase) entries act h)

-- behind a Decide that goes on, a Settle is expected in one phase alone
decided_settle : (call : Call) (coming : Option CellConfig) (how : Settled) → Expects (after_decide call coming None) (Settle how) → after_decide call coming None ≡ ToSettle 0
decided_settle (Create at) None how h = absurd (not_same is_decide (Decide h.0) (Settle how) refl refl (sym h.1))
decided_settle (Create at) (Some config) how h = absurd (not_same is_commit Commit (Settle how) refl refl (sym h))
decided_settle _ coming how h = refl

abbrev is_note : Act → Bool
is_note (Note id) = true
is_note _ = false

abbrev note_id : Act → ℕ
note_id (Note id) = id
note_id _ = 0

abbrev settled_how : Act → Settled
settled_how (Settle how) = how
settled_how _ = Agreed

abbrev heard_how : Act → Heard
heard_how (Noted id how) = how
heard_how _ = Received

abbrev noted_id : Act → ℕ
noted_id (Noted id how) = id
noted_id _ = 0

-- a note is one of its phase
pub note_phase : (phase : Phase) (id : ℕ) → Expects phase (Note id) → (about : ℕ) × (answer : ℤ) × (phase ≡ ToNote id about answer)
note_phase ToDecide id h = absurd (not_same is_note (Note id) (Decide h.0) refl refl h.1)
note_phase (ToSettle waited) id h = absurd (not_same is_note (Note id) (Settle h.0) refl refl h.1)
note_phase (ToCreate config) id h = absurd (not_same is_note (Note id) Commit refl refl h)
note_phase ToCommit id h = absurd (not_same is_note (Note id) Commit refl refl h)
note_phase (ToNote k about answer) id h = (about, answer, ap (λ (n : ℕ). ToNote n about answer) (sym (ap note_id h)))
note_phase (ToNoted k about answer waited) id h = absurd (not_same is_note (Note id) (Noted k h.0) refl refl h.1)
note_phase (ToFinish answer) id h = absurd (not_same is_note (Note id) (Finish answer) refl refl h)

-- ---- the entry

settle_in : (o : Option Settled) (how : Settled) → option_map (λ (s : Settled). Settle s) o ≡ Some (Settle how) → o ≡ Some how
settle_in None how h = absurd (none-some (Settle how) h)
settle_in (Some other) how h = ap Some (ap settled_how (same_Some (Settle other) (Settle how) h))

heard_in : (id other_id : ℕ) (o : Option Heard) (how : Heard) → option_map (λ (s : Heard). Noted id s) o ≡ Some (Noted other_id how) → (o ≡ Some how) × (other_id ≡ id)
heard_in id other_id None how h = absurd (none-some (Noted other_id how) h)
heard_in id other_id (Some other) how h =
    let e = same_Some (Noted id other) (Noted other_id how) h in
    (ap Some (ap heard_how e), sym (ap noted_id e))

some_value : {X Y : Type 0} (g : X → Option Y) (o : Option X) (y : Y) → option_and_then g o ≡ Some y → (x : X) × (o ≡ Some x) × (g x ≡ Some y)
some_value g None y h = absurd (none-some y h)
some_value g (Some x) y h = (x, refl, h)

settles_by : (image : Image) (f : Facts) (caller waited : ℕ) (call : Call) (how : Settled) → IsSound image f → f.call ≡ Some (record { caller = caller; call = call; phase = ToSettle waited }) → phase_act image f (is_idle_but image f caller) caller call (ToSettle waited) ≡ Some (Settle how)
    → (config : CellConfig) × Contains (configs_of f.cells) config × (is_named call config.id ≡ true) × IsSettledBy image f caller config waited how
settles_by image f caller waited call how sound is h =
    let o : OpenCall = record { caller = caller; call = call; phase = ToSettle waited } in
    let idle : Bool = is_idle_but image f caller in
    let found = some_value (settled_with f idle waited) (named_cell f.cells call) how (settle_in (settled_of f idle call waited) how h) in
    let live = named_of f.cells call found.0 found.1 in
    (found.0, live.0, live.1, settled_as image f o found.0 waited how sound.cells is found.2)

-- at the entry itself
settles_there : (image : Image) (f : Facts) (caller : ℕ) (call : Call) (middle : List Entry) (phase : Phase) (settle : Entry) (how : Settled) → phase ≡ ToSettle 0 → IsSound image f
    → f.call ≡ Some (record { caller = caller; call = call; phase = counted_over call phase middle }) → phase_act image f (is_idle_but image f caller) caller call (counted_over call phase middle) ≡ Some (Settle how)
    → (config : CellConfig) × Contains (configs_of f.cells) config × (is_named call config.id ≡ true) × IsSettledBy image f caller config (made_by_named call middle) how
settles_there image f caller call middle phase settle how zero_is sound is h =
    let n : ℕ = count_by (λ (e : Entry). is_named call e.cell) middle in
    let e : min (0 + n) (2 ^ 64 - 1) ≡ min n (2 ^ 64 - 1) = omega arith in
    let counts : counted_over call phase middle ≡ ToSettle (made_by_named call middle) =
    ap (λ (p : Phase). counted_over call p middle) zero_is ∙ settle_counts call 0 middle (omega arith) ∙ ap ToSettle e in
    let P : Phase → Type 0 = λ p. f.call ≡ Some (record { caller = caller; call = call; phase = p }) in
    let Q : Phase → Type 0 = λ p. phase_act image f (is_idle_but image f caller) caller call p ≡ Some (Settle how) in
    settles_by image f caller (made_by_named call middle) call how sound (subst P counts is) (subst Q counts h)

-- what the caller makes where its call is open
own_act : (image : Image) (f : Facts) (o : OpenCall) (entry : Entry) (act : Act) → IsSound image f → f.call ≡ Some o → due_at image f entry.cpu ≡ Some entry → entry.cpu ≡ o.caller → entry.act ≡ act → phase_act image f (is_idle_but image f o.caller) o.caller o.call o.phase ≡ Some act
own_act image f o entry act sound is due own act_is =
    ⊎_elim
    (λ made. made.1 ∙ ap Some act_is)
    (λ (beside : IsBeside image f o entry). absurd (beside.other own))
    (entry_of_call image f o entry sound is due)

-- the call behind a Decide that goes on, and behind a note
pub decided_call : (image : Image) (f : Facts) (entry : Entry) (o : OpenCall) (call : Call) → f.call ≡ Some o → o.caller ≡ entry.cpu → o.call ≡ call → entry.act ≡ Decide None
    → (after image f entry).call ≡ Some (record { caller = entry.cpu; call = call; phase = after_decide call (coming_by image f call) None })
decided_call image f entry o call opens caller same act =
    after_call image f entry
    ∙ ap (λ (c : Option OpenCall). call_by f.cells (option_and_then (λ (x : OpenCall). coming_by image f x.call) c) c entry entry.act) opens
    ∙ ap (call_by f.cells (coming_by image f o.call) (Some o) entry) act
    ∙ ap (λ (k : Call). Some (record { caller = o.caller; call = k; phase = after_decide k (coming_by image f k) None })) same
    ∙ ap (λ (k : ℕ). Some (record { caller = k; call = call; phase = after_decide call (coming_by image f call) None })) caller

pub noted_call : (image : Image) (f : Facts) (entry : Entry) (o : OpenCall) (id about : ℕ) (answer : ℤ) → f.call ≡ Some o → o.caller ≡ entry.cpu → o.phase ≡ ToNote id about answer → entry.act ≡ Note id
    → (after image f entry).call ≡ Some (record { caller = entry.cpu; call = o.call; phase = ToNoted id about answer 0 })
noted_call image f entry o id about answer opens caller phase act =
    after_call image f entry
    ∙ ap (λ (c : Option OpenCall). call_by f.cells (coming_of image f) c entry entry.act) opens
    ∙ ap (call_by f.cells (coming_of image f) (Some o) entry) act
    ∙ ap (λ (p : Phase). Some (record { caller = o.caller; call = o.call; phase = after_note p })) phase
    ∙ ap (λ (k : ℕ). Some (record { caller = k; call = o.call; phase = ToNoted id about answer 0 })) caller

pub settles_at : (image : Image) (form : Form) (before middle rest : List Entry) (decide settle : Entry) (call : Call) (how : Settled) → IsAdmitted image → IsLegal image form (before ++ decide ∷ (middle ++ settle ∷ rest)) → begun_call before ≡ Some call
    → decide.act ≡ Decide None → All (λ (e : Entry). e.cpu ≢ decide.cpu) middle → settle.cpu ≡ decide.cpu → settle.act ≡ Settle how
    → (config : CellConfig) × Contains (configs_of (facts image form (before ++ decide ∷ middle)).cells) config × (is_named call config.id ≡ true)
    × IsSettledBy image (facts image form (before ++ decide ∷ middle)) decide.cpu config (made_by_named call middle) how
settles_at image form before middle rest decide settle call how admitted legal is act others own settles =
    let s = stretch image form before middle rest decide settle admitted legal in
    let f0 : Facts = facts image form before in
    let f1 : Facts = after image f0 decide in
    let f : Facts = fold (after image) f1 middle in
    let of = phase_of_due image f0 decide s.sound s.first_due (ap is_phase act) in
    let o : OpenCall = of.o in
    let same : o.call ≡ call = same_call image form before o call of.opens is in
    let caller : ℕ = decide.cpu in
    let coming : Option CellConfig = coming_by image f0 call in
    let made = decided_call image f0 decide o call of.opens of.caller same act in
    let waits = waits_over image caller call (after_decide call coming None) f1 middle (sound_after image f0 decide s.sound s.first_due) made s.between others in
    let open_there : OpenCall = record { caller = caller; call = call; phase = counted_over call (after_decide call coming None) middle } in
    let acts = own_act image f open_there settle (Settle how) waits.0 waits.1 s.last_due own settles in
    let expected = expects_over call (after_decide call coming None) middle (Settle how) (phase_expects image f (is_idle_but image f caller) caller call (counted_over call (after_decide call coming None) middle) (Settle how) acts) in
    let says = settles_there image f caller call middle (after_decide call coming None) settle how (decided_settle call coming how expected) waits.0 waits.1 acts in
    let P : Facts → Type 0 = λ g. (config : CellConfig) × Contains (configs_of g.cells) config × (is_named call config.id ≡ true) × IsSettledBy image g caller config (made_by_named call middle) how in
    subst P (sym (facts_append image form before (decide ∷ middle))) says

hears_by : (image : Image) (f : Facts) (caller id about waited other : ℕ) (answer : ℤ) (call : Call) (how : Heard) → IsSound image f → f.call ≡ Some (record { caller = caller; call = call; phase = ToNoted id about answer waited })
    → phase_act image f (is_idle_but image f caller) caller call (ToNoted id about answer waited) ≡ Some (Noted other how)
    → (other ≡ id) × ((config : CellConfig) × Contains (configs_of f.cells) config × (config.id ≡ id) × IsHeardBy image f caller config waited how)
hears_by image f caller id about waited other answer call how sound is h =
    let o : OpenCall = record { caller = caller; call = call; phase = ToNoted id about answer waited } in
    let idle : Bool = is_idle_but image f caller in
    let told = heard_in id other (heard_of f idle id waited) how h in
    let found = some_value (heard_with f idle id waited) (live_in f.cells id) how told.0 in
    let c : CellConfig = found.0 in
    let live = live_found f.cells id (find (has_id id) f.cells) c refl found.1 in
    let P : ℕ → Type 0 = λ k. heard_with f idle k waited c ≡ Some how in
    (told.1, (c, live.0, live.1, heard_as image f o c waited how sound.cells is (subst P (sym live.1) found.2)))

pub hears_at : (image : Image) (form : Form) (before middle rest : List Entry) (note noted : Entry) (id other : ℕ) (how : Heard) → IsAdmitted image → IsLegal image form (before ++ note ∷ (middle ++ noted ∷ rest))
    → note.act ≡ Note id → All (λ (e : Entry). e.cpu ≢ note.cpu) middle → noted.cpu ≡ note.cpu → noted.act ≡ Noted other how
    → (other ≡ id) × ((config : CellConfig) × Contains (configs_of (facts image form (before ++ note ∷ middle)).cells) config × (config.id ≡ id) × IsHeardBy image (facts image form (before ++ note ∷ middle)) note.cpu config (made_by_cell id middle) how)
hears_at image form before middle rest note noted id other how admitted legal act others own hears =
    let s = stretch image form before middle rest note noted admitted legal in
    let f0 : Facts = facts image form before in
    let f1 : Facts = after image f0 note in
    let f : Facts = fold (after image) f1 middle in
    let of = phase_of_due image f0 note s.sound s.first_due (ap is_phase act) in
    let o : OpenCall = of.o in
    let caller : ℕ = note.cpu in
    let E : Act → Type 0 = Expects o.phase in
    let told = note_phase o.phase id (subst E act (phase_expects image f0 (is_idle_but image f0 o.caller) o.caller o.call o.phase note.act of.act)) in
    let about : ℕ = told.0 in
    let answer : ℤ = told.1 in
    let made = noted_call image f0 note o id about answer of.opens of.caller told.2 act in
    let waits = waits_over image caller o.call (ToNoted id about answer 0) f1 middle (sound_after image f0 note s.sound s.first_due) made s.between others in
    let n : ℕ = count_by (λ (e : Entry). eqb e.cell id) middle in
    let e : min (0 + n) (2 ^ 64 - 1) ≡ min n (2 ^ 64 - 1) = omega arith in
    let counts : counted_over o.call (ToNoted id about answer 0) middle ≡ ToNoted id about answer (made_by_cell id middle) = noted_counts o.call id about 0 answer middle (omega arith) ∙ ap (ToNoted id about answer) e in
    let acts = own_act image f (record { caller = caller; call = o.call; phase = counted_over o.call (ToNoted id about answer 0) middle }) noted (Noted other how) waits.0 waits.1 s.last_due own hears in
    let P : Phase → Type 0 = λ p. f.call ≡ Some (record { caller = caller; call = o.call; phase = p }) in
    let Q : Phase → Type 0 = λ p. phase_act image f (is_idle_but image f caller) caller o.call p ≡ Some (Noted other how) in
    let says = hears_by image f caller id about (made_by_cell id middle) other answer o.call how waits.0 (subst P counts waits.1) (subst Q counts acts) in
    let R : Facts → Type 0 = λ g. (config : CellConfig) × Contains (configs_of g.cells) config × (config.id ≡ id) × IsHeardBy image g caller config (made_by_cell id middle) how in
    (says.0, subst R (sym (facts_append image form before (note ∷ middle))) says.1)
