-- A violation writes nothing but its cell's state, and ends its CPU until a Commit.
use Rattle.std.proofs.Common.{◌≡◌, ◌≢◌, ℕ, List, [], ◌∷◌, ◌++◌, Bool, true, false, cond, ◌&&◌, eqb, Option, Some, None, is_some, All, refl, sym, ap, subst, ◌∙◌, ⊎_elim}
use Rattle.std.specs.List.{fold}
use Rattle.std.specs.Option.{option_map_or}
use Rattle.std.proofs.lemmas.Bool.{both_ways, and_right, cond_both, false≢true}
use Rattle.jh_cpu.specs.declared.cpu.Cpu.{Cpu}
use Rattle.jh_cpu.specs.declared.cpu.Mode.TheVariants.{Running, Failed}
use Rattle.jh_cpu.specs.Changes.{resumed, moved, asked_of}
use Rattle.jh_ivshmem.specs.declared.spec.EndpointSpec.{EndpointSpec}
use Rattle.jh_call.specs.Calls.{decoded}
use Rattle.jh_script.specs.declared.image.Image.{Image}
use Rattle.jh_history.specs.declared.form.Form.{Form}
use Rattle.jh_history.specs.declared.call.OpenCall.{OpenCall}
use Rattle.jh_history.specs.declared.entry.Entry.{Entry}
use Rattle.jh_history.specs.declared.entry.Settled.{Settled}
use Rattle.jh_history.specs.declared.entry.Act.{Act}
use Rattle.jh_history.specs.declared.entry.Act.TheVariants.{Read, Write, Fetch, Await, Hvc, Begin, Settle, Commit, Finish}
use Rattle.jh_history.specs.Facts.{Facts}
use Rattle.jh_history.specs.Calls.{is_named}
use Rattle.jh_history.specs.Cpus.{acted, cpu_by_settle, cpu_by_finish, resumed_of_root, runs_by_start, is_running, is_undenied}
use Rattle.jh_history.specs.Pages.{failing, page_write_by}
use Rattle.jh_history.specs.declared.place.Place.{Place}
use Rattle.jh_history.specs.declared.place.Place.TheVariants.{Physical}
use Rattle.jh_history.specs.Bytes.{byte_written}
use Rattle.jh_history.specs.Endpoints.{specs_changing, with_words}
use Rattle.jh_history.specs.History.{after, facts}
use Rattle.jh_history.specs.Due.{due_at, IsLegal}
use Rattle.jh_history.specs.Admitted.{IsAdmitted}
use Rattle.jh_history.proofs.Public.{facts_push, sound_after, call_open, called_spared}
use Rattle.jh_history.specs.Sound.{IsSound}
use Rattle.jh_laws.specs.Moves.{ended}
use Rattle.jh_laws.specs.Outcomes.{is_violation}
use Rattle.jh_laws.specs.Ready.{IsReadyAt, IsReadyCaller, IsReadyProgram}
use Rattle.jh_laws.proofs.CallLemmas.{along, stretch}
use Rattle.jh_laws.proofs.PowerLemmas.{Spares, spares_failed}
use Rattle.jh_laws.proofs.StatesLemmas.{others_by, begins, own_ends, violation_own}
use Rattle.jh_laws.proofs.PlacesHeldLemmas.{byte_behind, commit_or, physical_kept}
use Rattle.jh_laws.proofs.WordLemmas.{specs_none}
use Rattle.jh_laws.proofs.EntryLemmas.{runs_at}
use Rattle.jh_laws.proofs.DueCpusLemmas.{ready_from_due}
use Rattle.jh_laws.proofs.FactsLemmas.{cpu_after_holds}
use Rattle.jh_history.specs.Commits.{is_commit}

-- ---- what it writes

-- a violation is no write that succeeds
pub failing_of : (image : Image) (f : Facts) (entry : Entry) (act : Act) → is_violation act ≡ true → page_write_by image f entry act ≡ failing image f entry
failing_of image f entry (Read width at None) h = refl
failing_of image f entry (Fetch at None) h = refl
failing_of image f entry (Write width at value true) h = absurd (false≢true h)
failing_of image f entry (Write width at value false) h = refl
failing_of image f entry (Await width at value true) h = absurd (false≢true h)
failing_of image f entry (Await width at value false) h = refl
failing_of image f entry _ h = absurd (false≢true h)

-- ---- that it ends its CPU

-- the CPU has failed, and isn't asked to stop
abbrev IsFailed : ℕ → Facts → Type 0
IsFailed cpu f = ((f.cpu cpu).mode ≡ Failed) × ((f.cpu cpu).asked ≡ false)

failed_runs : (cpu : Cpu) {X : Type 0} → cpu.mode ≡ Failed → cpu.mode ≡ Running → X
failed_runs cpu one other = absurd (false≢true (ap is_running (sym one ∙ other)))

not_ready : (image : Image) (f : Facts) (cpu : ℕ) → IsSound image f → IsFailed cpu f → IsReadyAt image f cpu → ⊥
not_ready image f cpu sound failed ready =
    ⊎_elim
    (λ (asked : (f.cpu cpu).asked ≡ true). both_ways (f.cpu cpu).asked failed.1 asked)
    (λ rest.
    ⊎_elim
    (λ (caller : IsReadyCaller image f cpu).
    let made = (call_open image f caller.0 sound caller.1).caller in
    let P : ℕ → Type 0 = λ k. (f.cpu k).mode ≡ Running in
    failed_runs (f.cpu cpu) failed.0 (subst P caller.2 made.running))
    (λ (program : IsReadyProgram image f cpu). failed_runs (f.cpu cpu) failed.0 program.at.running)
    rest)
    ready.what

not_made : (image : Image) (f : Facts) (cpu : ℕ) (entry : Entry) → IsAdmitted image → IsSound image f → IsFailed cpu f → due_at image f entry.cpu ≡ Some entry → entry.cpu ≢ cpu
not_made image f cpu entry admitted sound failed due own =
    let P : ℕ → Type 0 = λ k. is_some (due_at image f k) ≡ true in
    not_ready image f cpu sound failed (ready_from_due image f cpu admitted sound (subst P own (ap (λ (o : Option Entry). is_some o) due)))

-- an entry of another CPU than this, but a Commit, leaves it so
settled_failed : (how : Settled) (call : Option OpenCall) (cpu : Cpu) → cpu.mode ≡ Failed → option_map_or (λ (o : OpenCall). cpu_by_settle (is_undenied how) o.call cpu) call cpu ≡ cpu
settled_failed how None cpu mode = refl
settled_failed how (Some o) cpu mode =
    let rests : is_running cpu.mode ≡ false = ap is_running mode in
    ap (λ (b : Bool). cond b (asked_of cpu) cpu) (and_right (is_undenied how && is_named o.call cpu.owner) (is_running cpu.mode) rests)

abbrev SameRest : Cpu → Cpu → Type 0
SameRest one other = (one.mode ≡ other.mode) × (one.asked ≡ other.asked)

finished_rest : (image : Image) (own i : ℕ) (cpu : Cpu) → SameRest (cpu_by_finish image own i cpu) cpu
finished_rest image own i cpu =
    let there : Cpu = resumed_of_root image.system.root.id cpu in
    let P : Cpu → Type 0 = λ c. SameRest c cpu in
    let rest : SameRest there cpu = cond_both (eqb cpu.owner image.system.root.id) (resumed cpu) cpu P (λ _. (refl, refl)) (λ _. (refl, refl)) in
    cond_both (eqb i own) (moved there) there P (λ _. rest) (λ _. rest)

acted_rest : (image : Image) (runs : Bool) (call : Option OpenCall) (act : Act) (own i : ℕ) (cpu : Cpu) → is_commit act ≡ false → i ≢ own → cpu.mode ≡ Failed → Spares i act → SameRest (acted image runs call act own i cpu) cpu
acted_rest image runs call (Begin code a b) own i cpu other apart mode spares =
    let e = (begins image own i cpu).rests (λ runs_is. failed_runs cpu mode runs_is) in (ap (λ (c : Cpu). c.mode) e, ap (λ (c : Cpu). c.asked) e)
acted_rest image runs call (Hvc code a b answer) own i cpu other apart mode spares =
    let e = called_spared (decoded code a b) answer own i cpu apart spares in (ap (λ (c : Cpu). c.mode) e, ap (λ (c : Cpu). c.asked) e)
acted_rest image runs call (Settle how) own i cpu other apart mode spares =
    let e = settled_failed how call cpu mode in (ap (λ (c : Cpu). c.mode) e, ap (λ (c : Cpu). c.asked) e)
acted_rest image runs call (Finish answer) own i cpu other apart mode spares = finished_rest image own i cpu
acted_rest image runs call Commit own i cpu other apart mode spares = absurd (false≢true (sym other))
acted_rest image runs call act own i cpu other apart mode spares = let e = others_by image runs call act own i cpu refl apart in (ap (λ (c : Cpu). c.mode) e, ap (λ (c : Cpu). c.asked) e)

failed_kept : (image : Image) (cpu : ℕ) → IsAdmitted image → (f : Facts) (entry : Entry) → IsSound image f → IsFailed cpu f → due_at image f entry.cpu ≡ Some entry → is_commit entry.act ≡ false → IsFailed cpu (after image f entry)
failed_kept image cpu admitted f entry sound failed due other =
    let apart : cpu ≢ entry.cpu = λ e. not_made image f cpu entry admitted sound failed due (sym e) in
    let same : (after image f entry).cpu cpu ≡ acted image (runs_by_start f cpu) f.call entry.act entry.cpu cpu (f.cpu cpu) = ap (λ (c : ℕ → Cpu). c cpu) (cpu_after_holds image f entry) in
    let rest = acted_rest image (runs_by_start f cpu) f.call entry.act entry.cpu cpu (f.cpu cpu) other apart failed.0 (spares_failed image f entry cpu sound due failed.0) in
    (ap (λ (c : Cpu). c.mode) same ∙ rest.0 ∙ failed.0, ap (λ (c : Cpu). c.asked) same ∙ rest.1 ∙ failed.1)

-- until a Commit it makes no entry
pub failed_rests : (image : Image) (form : Form) (before middle rest : List Entry) (first last : Entry) → IsAdmitted image → IsLegal image form (before ++ first ∷ (middle ++ last ∷ rest)) → is_violation first.act ≡ true
    → All (λ (e : Entry). is_commit e.act ≡ false) middle → last.cpu ≢ first.cpu
failed_rests image form before middle rest first last admitted legal violates others =
    let s = stretch image form before middle rest first last admitted legal in
    let f0 : Facts = facts image form before in
    let f1 : Facts = after image f0 first in
    let own = own_ends image form before (middle ++ last ∷ rest) first admitted legal violates in
    let behind : f1.cpu first.cpu ≡ ended (f0.cpu first.cpu) = ap (λ (f : Facts). f.cpu first.cpu) (sym (facts_push image form before first)) ∙ own in
    let calm = (runs_at image form before (middle ++ last ∷ rest) first admitted legal (violation_own first.act violates).1).0 in
    let failed : IsFailed first.cpu f1 = (ap (λ (c : Cpu). c.mode) behind, ap (λ (c : Cpu). c.asked) behind ∙ calm.asked) in
    let end = along image (IsFailed first.cpu) (λ (e : Entry). is_commit e.act ≡ false) (failed_kept image first.cpu admitted) f1 middle (sound_after image f0 first s.sound s.first_due) failed s.between others in
    not_made image (fold (after image) f1 middle) first.cpu last admitted end.0 end.1 s.last_due

-- it writes no memory
fails_quiet : (image : Image) (f : Facts) (cell : ℕ) (act : Act) → is_violation act ≡ true → byte_written image f cell act ≡ f.byte
fails_quiet image f cell (Write width at value true) h = absurd (false≢true h)
fails_quiet image f cell _ h = refl

-- it is no Commit
fails_commits : (act : Act) → is_violation act ≡ true → is_commit act ≡ false
fails_commits act violates =
    let P : Act → Type 0 = λ a. is_violation a ≡ true in
    ⊎_elim (λ (commits : act ≡ Commit). absurd (false≢true (subst P commits violates))) (λ (other : is_commit act ≡ false). other) (commit_or act)

pub memory_kept : (image : Image) (form : Form) (before : List Entry) (entry : Entry) (place : ℕ) → is_violation entry.act ≡ true → (facts image form (before ++ entry ∷ [])).byte (Physical place) ≡ (facts image form before).byte (Physical place)
memory_kept image form before entry place violates =
    let f : Facts = facts image form before in
    byte_behind image form before entry (Physical place)
    ∙ physical_kept (page_write_by image f entry entry.act) (with_words (specs_changing f entry.act) (byte_written image f entry.cell entry.act)) place
    ∙ ap (λ (specs : List EndpointSpec). with_words specs (byte_written image f entry.cell entry.act) (Physical place)) (specs_none f entry.act (fails_commits entry.act violates))
    ∙ ap (λ (b : Place → ℕ). b (Physical place)) (fails_quiet image f entry.cell entry.act violates)
