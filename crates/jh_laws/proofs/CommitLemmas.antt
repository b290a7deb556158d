-- Which cells live after an entry, and which configuration a new one has.
use Rattle.std.proofs.Common.{◌≡◌, ◌≢◌, ℕ, List, [], ◌∷◌, ◌++◌, true, false, map, Option, Some, None, All, refl, sym, ap, subst, ◌∙◌, ⊎_elim}
use Rattle.std.specs.Prelude.{filter, option_and_then}
use Rattle.std.specs.List.{fold}
use Rattle.std.proofs.lemmas.Bool.{both_ways}
use Rattle.std.proofs.lemmas.List.Sums.{fold-append}
use Rattle.std.proofs.lemmas.Option.{same_Some}
use Rattle.jh_cellcfg.specs.declared.config.CellConfig.{CellConfig}
use Rattle.jh_cellcfg.specs.declared.live.Live.{Live}
use Rattle.jh_cpu.specs.declared.cpu.Cpu.{Cpu}
use Rattle.jh_call.specs.declared.call.Call.{Call}
use Rattle.jh_call.specs.declared.call.Call.TheVariants.{Create, Start, Loadable, Destroy}
use Rattle.jh_script.specs.declared.image.Image.{Image}
use Rattle.jh_history.specs.declared.form.Form.{Form}
use Rattle.jh_history.specs.declared.call.OpenCall.{OpenCall}
use Rattle.jh_history.specs.declared.call.Phase.{Phase}
use Rattle.jh_history.specs.declared.call.Phase.TheVariants.{ToDecide, ToSettle, ToCreate, ToCommit, ToNote, ToNoted, ToFinish}
use Rattle.jh_history.specs.declared.entry.Entry.{Entry}
use Rattle.jh_history.specs.declared.entry.Act.{Act}
use Rattle.jh_history.specs.declared.entry.Act.TheVariants.{Decide, Settle, Commit, Note, Noted, Finish}
use Rattle.jh_history.specs.Facts.{Facts}
use Rattle.jh_history.specs.Calls.{call_by, after_decide}
use Rattle.jh_history.specs.Commits.{cells_by, committed_cells, is_other, is_commit}
use Rattle.jh_history.specs.Configs.{config_read, read_at}
use Rattle.jh_history.specs.History.{after, facts, coming_of, coming_by}
use Rattle.jh_shape.specs.Lives.{configs_of, marked, new_live}
use Rattle.jh_history.specs.Due.{due_at, is_idle_but, IsLegal}
use Rattle.jh_history.specs.Admitted.{IsAdmitted}
use Rattle.jh_history.proofs.Public.{facts_push, due_split, IsLegal_begin, sound_after, legal_sound, after_call, after_cells, uncommitted_cells, call_open}
use Rattle.jh_history.specs.Sound.{IsInPhase, IsOpen, IsSound}
use Rattle.jh_laws.specs.Ways.{is_phase, is_finish, begun_call}
use Rattle.jh_laws.proofs.CallLemmas.{Expects, phase_expects, phase_of_due, phase_goes, call_counted, IsBeside, entry_of_call, along, stretch, same_call, past_from, not_same, IsPast}
use Rattle.jh_laws.proofs.FactsLemmas.{facts_append}

pub cells_kept : (image : Image) (form : Form) (before : List Entry) (entry : Entry) → is_commit entry.act ≡ false → (facts image form (before ++ entry ∷ [])).cells ≡ (facts image form before).cells
cells_kept image form before entry h =
    let f : Facts = facts image form before in
    ap (λ (g : Facts). g.cells) (facts_push image form before entry) ∙ after_cells image f entry ∙ uncommitted_cells f.call f.cells entry.act h

-- a Commit is one of the call that was begun
pub record IsCommitOf (image : Image) (form : Form) (before : List Entry) (entry : Entry) (call : Call) : Type 0 where
  pub phase : Phase
  pub expects : Expects phase Commit
  pub holds : IsInPhase image (configs_of (facts image form before).cells) (facts image form before).cpu entry.cpu call phase
  pub cells : (facts image form (before ++ entry ∷ [])).cells ≡ committed_cells call phase (facts image form before).cells

pub commit_of : (image : Image) (form : Form) (before rest : List Entry) (entry : Entry) (call : Call) → IsAdmitted image → IsLegal image form (before ++ entry ∷ rest) → begun_call before ≡ Some call → entry.act ≡ Commit → IsCommitOf image form before entry call
commit_of image form before rest entry call admitted legal is act =
    let f : Facts = facts image form before in
    let sound = legal_sound image form before admitted (IsLegal_begin image form before (entry ∷ rest) legal) in
    let due : due_at image f entry.cpu ≡ Some entry = due_split image form before rest entry legal in
    let of = phase_of_due image f entry sound due (ap is_phase act) in
    let o : OpenCall = of.o in
    let opens : IsOpen image (configs_of f.cells) f.cpu o = call_open image f o sound of.opens in
    let same : o.call ≡ call = same_call image form before o call of.opens is in
    let P : Call → Type 0 = λ k. IsInPhase image (configs_of f.cells) f.cpu entry.cpu k o.phase in
    let Q : ℕ → Type 0 = λ k. IsInPhase image (configs_of f.cells) f.cpu k o.call o.phase in
    let E : Act → Type 0 = Expects o.phase in
    record {
      phase = o.phase;
      expects = subst E act (phase_expects image f (is_idle_but image f o.caller) o.caller o.call o.phase entry.act of.act);
      holds = subst P same (subst Q of.caller opens.phase);
      cells = ap (λ (g : Facts). g.cells) (facts_push image form before entry)
          ∙ after_cells image f entry
          ∙ ap (λ (c : Option OpenCall). cells_by c f.cells entry.act) of.opens
          ∙ ap (cells_by (Some o) f.cells) act
          ∙ ap (λ (k : Call). committed_cells k o.phase f.cells) same;
    }

pub commit_start : (image : Image) (form : Form) (before : List Entry) (entry : Entry) (id : ℕ) → IsCommitOf image form before entry (Start id) → (facts image form (before ++ entry ∷ [])).cells ≡ map (marked id false) (facts image form before).cells
commit_start image form before entry id h = h.cells

pub commit_loadable : (image : Image) (form : Form) (before : List Entry) (entry : Entry) (id : ℕ) → IsCommitOf image form before entry (Loadable id) → (facts image form (before ++ entry ∷ [])).cells ≡ map (marked id true) (facts image form before).cells
commit_loadable image form before entry id h = h.cells

pub commit_destroy : (image : Image) (form : Form) (before : List Entry) (entry : Entry) (id : ℕ) → IsCommitOf image form before entry (Destroy id) → (facts image form (before ++ entry ∷ [])).cells ≡ filter (is_other id) (facts image form before).cells
commit_destroy image form before entry id h = h.cells

created_by : (image : Image) (configs : List CellConfig) (cpu : ℕ → Cpu) (caller at : ℕ) (cells after : List Live) (phase : Phase) → Expects phase Commit → IsInPhase image configs cpu caller (Create at) phase → after ≡ committed_cells (Create at) phase cells
    → (config : CellConfig) × (after ≡ cells ++ new_live config ∷ [])
created_by image configs cpu caller at cells after ToDecide e h is = absurd (not_same is_commit Commit (Decide e.0) refl refl e.1)
created_by image configs cpu caller at cells after (ToSettle waited) e h is = absurd (not_same is_commit Commit (Settle e.0) refl refl e.1)
created_by image configs cpu caller at cells after (ToCreate config) e h is = (config, is)
created_by image configs cpu caller at cells after ToCommit e h is = absurd (both_ways false refl h.2)
created_by image configs cpu caller at cells after (ToNote id about answer) e h is = absurd (not_same is_commit Commit (Note id) refl refl e)
created_by image configs cpu caller at cells after (ToNoted id about answer waited) e h is = absurd (not_same is_commit Commit (Noted id e.0) refl refl e.1)
created_by image configs cpu caller at cells after (ToFinish answer) e h is = absurd (not_same is_commit Commit (Finish answer) refl refl e)

pub commit_create : (image : Image) (form : Form) (before : List Entry) (entry : Entry) (at : ℕ) → IsCommitOf image form before entry (Create at)
    → (config : CellConfig) × ((facts image form (before ++ entry ∷ [])).cells ≡ (facts image form before).cells ++ new_live config ∷ [])
commit_create image form before entry at h =
    created_by image (configs_of (facts image form before).cells) (facts image form before).cpu entry.cpu at (facts image form before).cells (facts image form (before ++ entry ∷ [])).cells h.phase h.expects h.holds h.cells

-- ---- the configuration of a create

-- the call is about to make the cell
abbrev creating : ℕ → ℕ → CellConfig → OpenCall
creating caller at config = record { caller = caller; call = Create at; phase = ToCreate config }

abbrev IsCreating : ℕ → ℕ → CellConfig → Facts → Type 0
IsCreating caller at config f = f.call ≡ Some (creating caller at config)

-- it keeps the configuration until its caller commits it
creating_kept : (image : Image) (caller at : ℕ) (config : CellConfig) (f : Facts) (entry : Entry) → IsSound image f → IsCreating caller at config f → due_at image f entry.cpu ≡ Some entry → entry.cpu ≢ caller → IsCreating caller at config (after image f entry)
creating_kept image caller at config f entry sound is due other =
    ⊎_elim
    (λ made. absurd (other (sym made.0)))
    (λ (beside : IsBeside image f (creating caller at config) entry). call_counted image f (creating caller at config) entry is beside.act)
    (entry_of_call image f (creating caller at config) entry sound is due)

creating_commits : (image : Image) (caller at : ℕ) (config : CellConfig) (f : Facts) (entry : Entry) → IsSound image f → IsCreating caller at config f → due_at image f entry.cpu ≡ Some entry → entry.cpu ≡ caller
    → (after image f entry).cells ≡ f.cells ++ new_live config ∷ []
creating_commits image caller at config f entry sound is due own =
    let o : OpenCall = creating caller at config in
    ⊎_elim
    (λ made.
    let act : entry.act ≡ Commit = phase_expects image f (is_idle_but image f caller) caller (Create at) (ToCreate config) entry.act made.1 in
    after_cells image f entry ∙ ap (λ (c : Option OpenCall). cells_by c f.cells entry.act) is ∙ ap (cells_by (Some o) f.cells) act)
    (λ (beside : IsBeside image f o entry). absurd (beside.other own))
    (entry_of_call image f o entry sound is due)

-- behind the Decide that goes on
decided_by : (caller at : ℕ) (call : Option OpenCall) (o : OpenCall) (coming : Option CellConfig) → call ≡ Some (record { caller = caller; call = Create at; phase = after_decide (Create at) coming None }) → call ≡ Some o → IsPast o.phase
    → (config : CellConfig) × (coming ≡ Some config) × (call ≡ Some (creating caller at config))
decided_by caller at call o None is opens past =
    let same : record { caller = caller; call = Create at; phase = ToDecide } ≡ o = same_Some (record { caller = caller; call = Create at; phase = ToDecide }) o (sym is ∙ opens) in
    let P : OpenCall → Type 0 = λ k. IsPast k.phase in
    absurd (subst P (sym same) past)
decided_by caller at call o (Some config) is opens past = (config, refl, is)

decided_call : (image : Image) (f : Facts) (entry : Entry) (at : ℕ) → IsSound image f → due_at image f entry.cpu ≡ Some entry → entry.act ≡ Decide None → (o : OpenCall) → f.call ≡ Some o → o.caller ≡ entry.cpu → o.call ≡ Create at
    → (config : CellConfig) × (config_read (read_at image f at) ≡ Some config) × IsCreating entry.cpu at config (after image f entry)
decided_call image f entry at sound due act o opens caller call =
    let phase : is_phase entry.act ≡ true = ap is_phase act in
    let goes = phase_goes image f entry sound due phase (ap is_finish act) in
    let coming : coming_of image f ≡ coming_by image f o.call = ap (option_and_then (λ (c : OpenCall). coming_by image f c.call)) opens in
    let made : (after image f entry).call ≡ Some (record { caller = entry.cpu; call = Create at; phase = after_decide (Create at) (config_read (read_at image f at)) None }) =
    after_call image f entry
    ∙ ap (λ (c : Option OpenCall). call_by f.cells (coming_of image f) c entry entry.act) opens
    ∙ ap (λ (k : Option CellConfig). call_by f.cells k (Some o) entry entry.act) coming
    ∙ ap (call_by f.cells (coming_by image f o.call) (Some o) entry) act
    ∙ ap (λ (k : Call). Some (record { caller = o.caller; call = k; phase = after_decide k (coming_by image f k) None })) call
    ∙ ap (λ (k : ℕ). Some (record { caller = k; call = Create at; phase = after_decide (Create at) (config_read (read_at image f at)) None })) caller in
    decided_by entry.cpu at (after image f entry).call goes.0 (config_read (read_at image f at)) made goes.1 (past_from goes.0.call entry.act goes.0.phase phase goes.3)

made_cells : (behind made there up_to : Facts) (config : CellConfig) → behind ≡ made → made.cells ≡ there.cells ++ new_live config ∷ [] → up_to ≡ there
    → behind.cells ≡ up_to.cells ++ new_live config ∷ []
made_cells behind made there up_to config same cells before =
    ap (λ (g : Facts). g.cells) same ∙ cells ∙ ap (λ (g : Facts). g.cells ++ new_live config ∷ []) (sym before)

-- what the Decide read is what the Commit makes
pub created_as_read : (image : Image) (form : Form) (before middle rest : List Entry) (decide commit : Entry) (at : ℕ) → IsAdmitted image → IsLegal image form (before ++ decide ∷ (middle ++ commit ∷ rest))
    → begun_call before ≡ Some (Create at) → decide.act ≡ Decide None → All (λ (e : Entry). e.cpu ≢ decide.cpu) middle → commit.cpu ≡ decide.cpu
    → (config : CellConfig) × (config_read (read_at image (facts image form before) at) ≡ Some config)
    × ((facts image form (before ++ decide ∷ (middle ++ commit ∷ []))).cells ≡ (facts image form (before ++ decide ∷ middle)).cells ++ new_live config ∷ [])
created_as_read image form before middle rest decide commit at admitted legal is act others own =
    let s = stretch image form before middle rest decide commit admitted legal in
    let f0 : Facts = facts image form before in
    let f : Facts = after image f0 decide in
    let there : Facts = fold (after image) f middle in
    let of = phase_of_due image f0 decide s.sound s.first_due (ap is_phase act) in
    let made = decided_call image f0 decide at s.sound s.first_due act of.o of.opens of.caller (same_call image form before of.o (Create at) of.opens is) in
    let config : CellConfig = made.0 in
    let end = along image (IsCreating decide.cpu at config) (λ (e : Entry). e.cpu ≢ decide.cpu) (creating_kept image decide.cpu at config) f middle
    (sound_after image f0 decide s.sound s.first_due) made.2 s.between others in
    let commits = creating_commits image decide.cpu at config there commit end.0 end.1 s.last_due own in
    let up_to : facts image form (before ++ decide ∷ middle) ≡ there = facts_append image form before (decide ∷ middle) in
    let behind : facts image form (before ++ decide ∷ (middle ++ commit ∷ [])) ≡ after image there commit =
    facts_append image form before (decide ∷ (middle ++ commit ∷ [])) ∙ fold-append (after image) f middle (commit ∷ []) in (
      config,
      made.1,
      made_cells (facts image form (before ++ decide ∷ (middle ++ commit ∷ []))) (after image there commit) there (facts image form (before ++ decide ∷ middle)) config behind commits up_to,
    )
