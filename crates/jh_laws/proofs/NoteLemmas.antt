-- Who is told of a create or a destroy, from its Commit to its end.
use Rattle.std.proofs.Common.{◌≡◌, ℕ, ℤ, pos, suc, ◌+◌, ◌≤◌, List, [], ◌∷◌, ◌++◌, true, false, eqb, length, Option, Some, None, All, refl, sym, ap, subst, ◌∙◌, ⊎_elim, append-nil, append_assoc, arith}
use Rattle.std.specs.Prelude.{filter, find, option_map}
use Rattle.std.specs.List.{fold}
use Rattle.std.proofs.lemmas.Bool.{both_ways, cond_both}
use Rattle.std.proofs.lemmas.List.{length-append}
use Rattle.std.proofs.lemmas.List.Elements.{All-head, All-tail}
use Rattle.std.proofs.lemmas.Option.{none-some}
use Rattle.jh_num.specs.Numbers.{counted_up}
use Rattle.jh_cellcfg.specs.declared.config.CellConfig.{CellConfig}
use Rattle.jh_cellcfg.specs.declared.live.Live.{Live}
use Rattle.jh_cellcfg.specs.Lives.{has_id}
use Rattle.jh_shape.specs.Lives.{configs_of, new_live}
use Rattle.jh_call.specs.declared.call.Call.{Call}
use Rattle.jh_call.specs.declared.call.Call.TheVariants.{Create, Destroy}
use Rattle.jh_script.specs.declared.image.Image.{Image}
use Rattle.jh_history.specs.declared.call.OpenCall.{OpenCall}
use Rattle.jh_history.specs.declared.call.Phase.{Phase}
use Rattle.jh_history.specs.declared.call.Phase.TheVariants.{ToCreate, ToNote, ToNoted, ToFinish}
use Rattle.jh_history.specs.declared.entry.Entry.{Entry}
use Rattle.jh_history.specs.declared.entry.Act.{Act}
use Rattle.jh_history.specs.declared.entry.Act.TheVariants.{Commit, Note, Noted, Finish}
use Rattle.jh_history.specs.Calls.{counted, telling, first_recipient, listed_behind, call_by, is_of_call}
use Rattle.jh_history.specs.Commits.{is_commit, is_other}
use Rattle.jh_history.specs.Due.{due_at, is_idle_but, IsLegal, IsLegalFrom}
use Rattle.jh_history.specs.Facts.{Facts}
use Rattle.jh_history.specs.History.{after, coming_of}
use Rattle.jh_history.specs.Sound.{IsMadeOfBytes, IsSound}
use Rattle.jh_history.proofs.Public.{facts_push, IsLegal_begin, sound_after, after_call, after_cells, uncommitted_cells}
use Rattle.jh_laws.specs.Moments.{AdmittedMoment, AdmittedSpan, NoneFinishesBetween, facts_before, facts_behind, call_before}
use Rattle.jh_laws.specs.Notes.{CommitsChangeOf, told_ids, noted_ids, with_note, at_first}
use Rattle.jh_laws.specs.Pages.{Creates}
use Rattle.jh_laws.specs.Ways.{is_finish}
use Rattle.jh_laws.proofs.CallLemmas.{Expects, IsBeside, call_counted, entry_of_call, not_same, phase_expects, stretch}
use Rattle.jh_laws.proofs.DueCpusLemmas.{of_named}
use Rattle.jh_laws.proofs.FewCellsLemmas.{few_cells}
use Rattle.jh_laws.proofs.FewLemmas.{length_map}
use Rattle.jh_laws.proofs.LegalLemmas.{IsLegal_rest}
use Rattle.jh_laws.proofs.PageCauseLemmas.{commit_lives, committing_at, creating_call, sound_at}
use Rattle.jh_laws.proofs.ToldLemmas.{heard_ids, AreAlone, alone_by_pairs, alone_behind, first_is_head, none_told, one_told, behind_next, heard_joined, heard_others, heard_configs, heard_few, others_fewer}

-- ---- who is left to be told

-- in the phase these are left
abbrev IsLeft : ℕ → List Live → Phase → List ℕ → Type 0
IsLeft about cells (ToNote id of answer) ids = (of ≡ about) × (ids ≡ id ∷ heard_ids about (listed_behind id cells))
IsLeft about cells (ToNoted id of answer waited) ids = (of ≡ about) × (ids ≡ heard_ids about (listed_behind id cells))
IsLeft about cells (ToFinish answer) ids = ids ≡ []
IsLeft about cells _ ids = ⊥

-- the open call has these left
record IsTelling (about : ℕ) (ids : List ℕ) (f : Facts) : Type 0 where
  open_call : OpenCall
  is : f.call ≡ Some open_call
  left : IsLeft about f.cells open_call.phase ids

sound_alone : (image : Image) (f : Facts) → IsSound image f → AreAlone f.cells
sound_alone image f sound = alone_by_pairs f.cells (λ i j d lt within. sound.cells.differ (suc i) (suc j) d (omega (arith, lt)) (omega (arith, within)))

-- where the first of all is told next
telling_left : (about : ℕ) (answer : ℤ) (cells behind : List Live) (o : Option ℕ) → first_recipient about behind ≡ o → AreAlone behind → ((id : ℕ) → o ≡ Some id → listed_behind id behind ≡ listed_behind id cells)
    → IsLeft about cells (telling about answer o) (heard_ids about behind)
telling_left about answer cells behind None is alone same = none_told about behind is
telling_left about answer cells behind (Some id) is alone same = (refl, one_told about id behind alone is ∙ ap (λ (lives : List Live). id ∷ heard_ids about lives) (same id refl))

left_counted : (about : ℕ) (cells : List Live) (cell : ℕ) (call : Call) (phase : Phase) (ids : List ℕ) → IsLeft about cells phase ids → IsLeft about cells (counted cell call phase) ids
left_counted about cells cell call (ToNote id of answer) ids h = h
left_counted about cells cell call (ToNoted id of answer waited) ids h =
    cond_both (eqb cell id) (ToNoted id of answer (counted_up waited)) (ToNoted id of answer waited) (λ (p : Phase). IsLeft about cells p ids) (λ _. h) (λ _. h)
left_counted about cells cell call (ToFinish answer) ids h = h
left_counted about cells cell call _ ids h = absurd h

-- ---- an entry

no_note : (act : Act) (ids : List ℕ) → is_of_call act ≡ false → with_note act ids ≡ ids
no_note (Note id) ids other = absurd (both_ways true other refl)
no_note _ ids other = refl

-- what the caller does next
record IsToldOn (about : ℕ) (ids : List ℕ) (cells : List Live) (act : Act) (call : Option OpenCall) : Type 0 where
  next : List ℕ
  notes : ids ≡ with_note act next
  open_call : OpenCall
  is : call ≡ Some open_call
  left : IsLeft about cells open_call.phase next

told_on : (about : ℕ) (ids : List ℕ) (cells : List Live) (coming : Option CellConfig) (entry : Entry) (caller : ℕ) (call : Call) (phase : Phase) (act : Act) → AreAlone cells → IsLeft about cells phase ids → Expects phase act → is_finish act ≡ false
    → IsToldOn about ids cells act (call_by cells coming (Some (record { caller = caller; call = call; phase = phase })) entry act)
told_on about ids cells coming entry caller call (ToNote id of answer) act alone left e more =
    let P : Act → Type 0 = λ x. IsToldOn about ids cells x (call_by cells coming (Some (record { caller = caller; call = call; phase = ToNote id of answer })) entry x) in
    subst P (sym e) (record {
      next = heard_ids about (listed_behind id cells);
      notes = left.1;
      open_call = record { caller = caller; call = call; phase = ToNoted id of answer 0 };
      is = refl;
      left = (left.0, refl);
    })
told_on about ids cells coming entry caller call (ToNoted id of answer waited) act alone left e more =
    let P : Act → Type 0 = λ x. IsToldOn about ids cells x (call_by cells coming (Some (record { caller = caller; call = call; phase = ToNoted id of answer waited })) entry x) in
    let behind : List Live = listed_behind id cells in
    let Q : ℕ → Type 0 = λ k. IsLeft about cells (telling k answer (first_recipient k behind)) ids in
    let R : List ℕ → Type 0 = λ l. IsLeft about cells (telling about answer (first_recipient about behind)) l in
    let on = telling_left about answer cells behind (first_recipient about behind) refl (alone_behind id cells alone) (λ next is. behind_next about id next cells alone is) in
    subst P (sym e.1) (record {
      next = ids;
      notes = refl;
      open_call = record { caller = caller; call = call; phase = telling of answer (first_recipient of behind) };
      is = refl;
      left = subst Q (sym left.0) (subst R (sym left.1) on);
    })
told_on about ids cells coming entry caller call (ToFinish answer) act alone left e more = absurd (both_ways (is_finish act) more (ap is_finish e))
told_on about ids cells coming entry caller call _ act alone left e more = absurd left

-- none of these is a Commit
telling_commits : (about : ℕ) (cells : List Live) (ids : List ℕ) (phase : Phase) (act : Act) → IsLeft about cells phase ids → Expects phase act → is_commit act ≡ false
telling_commits about cells ids (ToNote id of answer) act left e = ap is_commit e
telling_commits about cells ids (ToNoted id of answer waited) act left e = ap is_commit e.1
telling_commits about cells ids (ToFinish answer) act left e = ap is_commit e
telling_commits about cells ids _ act left e = absurd left

apart_commits : (act : Act) → is_of_call act ≡ false → is_commit act ≡ false
apart_commits Commit other = absurd (both_ways true other refl)
apart_commits _ other = refl

record IsStep (image : Image) (about : ℕ) (ids : List ℕ) (f : Facts) (entry : Entry) : Type 0 where
  next : List ℕ
  notes : ids ≡ with_note entry.act next
  telling : IsTelling about next (after image f entry)

step : (image : Image) (about : ℕ) (ids : List ℕ) (f : Facts) (entry : Entry) → IsSound image f → IsTelling about ids f → due_at image f entry.cpu ≡ Some entry → is_finish entry.act ≡ false → IsStep image about ids f entry
step image about ids f entry sound h due more =
    let o : OpenCall = h.open_call in
    ⊎_elim
    (λ made.
    let expects = phase_expects image f (is_idle_but image f o.caller) o.caller o.call o.phase entry.act made.1 in
    let on = told_on about ids f.cells (coming_of image f) entry o.caller o.call o.phase entry.act (sound_alone image f sound) h.left expects more in
    let cells : (after image f entry).cells ≡ f.cells = after_cells image f entry ∙ uncommitted_cells f.call f.cells entry.act (telling_commits about f.cells ids o.phase entry.act h.left expects) in
    let P : List Live → Type 0 = λ lives. IsLeft about lives on.open_call.phase on.next in
    record {
      next = on.next;
      notes = on.notes;
      telling = record {
        open_call = on.open_call;
        is = after_call image f entry ∙ ap (λ (c : Option OpenCall). call_by f.cells (coming_of image f) c entry entry.act) h.is ∙ on.is;
        left = subst P (sym cells) on.left;
      };
    })
    (λ (beside : IsBeside image f o entry).
    let cells : (after image f entry).cells ≡ f.cells = after_cells image f entry ∙ uncommitted_cells f.call f.cells entry.act (apart_commits entry.act beside.act) in
    let P : List Live → Type 0 = λ lives. IsLeft about lives (counted entry.cell o.call o.phase) ids in
    record {
      next = ids;
      notes = sym (no_note entry.act ids beside.act);
      telling = record {
        open_call = record { caller = o.caller; call = o.call; phase = counted entry.cell o.call o.phase };
        is = call_counted image f o entry h.is beside.act;
        left = subst P (sym cells) (left_counted about f.cells entry.cell o.call o.phase ids h.left);
      };
    })
    (entry_of_call image f o entry sound h.is due)

-- ---- over entries

note_before : (act : Act) (ids later : List ℕ) → with_note act (ids ++ later) ≡ with_note act ids ++ later
note_before (Note id) ids later = refl
note_before _ ids later = refl

record IsToldOver (image : Image) (about : ℕ) (ids : List ℕ) (f : Facts) (entries : List Entry) : Type 0 where
  later : List ℕ
  notes : ids ≡ noted_ids entries ++ later
  sound : IsSound image (fold (after image) f entries)
  telling : IsTelling about later (fold (after image) f entries)

told_over : (image : Image) (about : ℕ) (ids : List ℕ) (f : Facts) (entries : List Entry) → IsSound image f → IsTelling about ids f → IsLegalFrom image f entries → All (λ (e : Entry). is_finish e.act ≡ false) entries → IsToldOver image about ids f entries
told_over image about ids f [] sound h legal more = record { later = ids; notes = refl; sound = sound; telling = h }
told_over image about ids f (entry ∷ entries) sound h legal more =
    let Q : Entry → Type 0 = λ e. is_finish e.act ≡ false in
    let one = step image about ids f entry sound h legal.0 (All-head Q entry entries more) in
    let rest = told_over image about one.next (after image f entry) entries (sound_after image f entry sound legal.0) one.telling legal.1 (All-tail Q entry entries more) in
    record {
      later = rest.later;
      notes = one.notes ∙ ap (with_note entry.act) rest.notes ∙ note_before entry.act (noted_ids entries) rest.later;
      sound = rest.sound;
      telling = rest.telling;
    }

-- at the end none is left
finish_left : (about : ℕ) (cells : List Live) (ids : List ℕ) (phase : Phase) (answer : ℤ) → IsLeft about cells phase ids → Expects phase (Finish answer) → ids ≡ []
finish_left about cells ids (ToNote id of a) answer left e = absurd (not_same is_finish (Finish answer) (Note id) refl refl e)
finish_left about cells ids (ToNoted id of a waited) answer left e = absurd (not_same is_finish (Finish answer) (Noted id e.0) refl refl e.1)
finish_left about cells ids (ToFinish a) answer left e = left
finish_left about cells ids _ answer left e = absurd left

ends_told : (image : Image) (about : ℕ) (ids : List ℕ) (f : Facts) (entry : Entry) (answer : ℤ) → IsSound image f → IsTelling about ids f → due_at image f entry.cpu ≡ Some entry → entry.act ≡ Finish answer → ids ≡ []
ends_told image about ids f entry answer sound h due act =
    let o : OpenCall = h.open_call in
    ⊎_elim
    (λ made.
    let E : Act → Type 0 = Expects o.phase in
    finish_left about f.cells ids o.phase answer h.left (subst E act (phase_expects image f (is_idle_but image f o.caller) o.caller o.call o.phase entry.act made.1)))
    (λ (beside : IsBeside image f o entry). absurd (both_ways (is_of_call entry.act) beside.act (ap is_of_call act)))
    (entry_of_call image f o entry sound h.is due)

-- ---- the Commit

-- the cells that are told are the same before the Commit and behind it
commit_telling : (m : AdmittedMoment) (about : ℕ) (answer : ℤ) (call : Call) → (after m.image (facts_before m) m.entry).call ≡ Some (record { caller = m.entry.cpu; call = call; phase = telling about answer (first_recipient about (facts_before m).cells) })
    → heard_ids about (after m.image (facts_before m) m.entry).cells ≡ heard_ids about (facts_before m).cells → IsSound m.image (after m.image (facts_before m) m.entry)
    → IsTelling about (heard_ids about (facts_before m).cells) (after m.image (facts_before m) m.entry)
commit_telling m about answer call is same sound =
    let old : List Live = (facts_before m).cells in
    let new : List Live = (after m.image (facts_before m) m.entry).cells in
    let first : first_recipient about new ≡ first_recipient about old = first_is_head about new ∙ ap head same ∙ sym (first_is_head about old) in
    let P : List ℕ → Type 0 = IsLeft about new (telling about answer (first_recipient about old)) in
    record {
      open_call = record { caller = m.entry.cpu; call = call; phase = telling about answer (first_recipient about old) };
      is = is;
      left = subst P same (telling_left about answer new new (first_recipient about old) first (sound_alone m.image (after m.image (facts_before m) m.entry) sound) (λ id found. refl));
    }
  where
    head : List ℕ → Option ℕ
    head [] = None
    head (id ∷ ids) = Some id

cells_after_push : (m : AdmittedMoment) → (after m.image (facts_before m) m.entry).cells ≡ (facts_behind m).cells
cells_after_push m = ap (λ (f : Facts). f.cells) (sym (facts_push m.image m.form m.before m.entry))

begins_telling : (m : AdmittedMoment) (about : ℕ) → IsSound m.image (after m.image (facts_before m) m.entry) → CommitsChangeOf m about → IsTelling about (heard_ids about (facts_before m).cells) (after m.image (facts_before m) m.entry)
begins_telling m about sound h =
    let f : Facts = facts_before m in
    ⊎_elim
    (λ (made : (config : CellConfig) × (config.id ≡ about) × Creates m config).
    let config : CellConfig = made.0 in
    let creates : Creates m config = made.2 in
    let o : OpenCall = record { caller = m.entry.cpu; call = Create creates.at; phase = ToCreate config } in
    let called : (after m.image f m.entry).call ≡ Some (record { caller = m.entry.cpu; call = Create creates.at; phase = telling config.id (pos config.id) (first_recipient config.id f.cells) }) =
    after_call m.image f m.entry
    ∙ ap (λ (c : Option OpenCall). call_by f.cells (coming_of m.image f) c m.entry m.entry.act) (creating_call m config creates)
    ∙ ap (call_by f.cells (coming_of m.image f) (Some o) m.entry) creates.commits in
    commit_telling m about (pos config.id) (Create creates.at)
    (called ∙ ap (λ (k : ℕ). Some (record { caller = m.entry.cpu; call = Create creates.at; phase = telling k (pos config.id) (first_recipient k f.cells) })) made.1)
    (ap (heard_ids about) (cells_after_push m ∙ creates.joins) ∙ heard_joined about f.cells (new_live config) made.1)
    sound)
    (λ (gone : (call_before m ≡ Some (Destroy about)) × (m.entry.act ≡ Commit)).
    let of = committing_at m (Destroy about) gone.0 gone.1 in
    let o : OpenCall = record { caller = m.entry.cpu; call = Destroy about; phase = of.phase } in
    let called : (after m.image f m.entry).call ≡ Some (record { caller = m.entry.cpu; call = Destroy about; phase = telling about (pos 0) (first_recipient about f.cells) }) =
    after_call m.image f m.entry
    ∙ ap (λ (c : Option OpenCall). call_by f.cells (coming_of m.image f) c m.entry m.entry.act) of.opens
    ∙ ap (call_by f.cells (coming_of m.image f) (Some o) m.entry) gone.1 in
    commit_telling m about (pos 0) (Destroy about) called (ap (heard_ids about) (cells_after_push m ∙ of.cells) ∙ heard_others about f.cells) sound)
    h

told_is : (m : AdmittedMoment) (about : ℕ) → told_ids m about ≡ heard_ids about (facts_before m).cells
told_is m about = heard_configs about (facts_before m).cells

pub told_some : (m : AdmittedMoment) (about : ℕ) → CommitsChangeOf m about → All (λ (e : Entry). is_finish e.act ≡ false) m.rest → (later : List ℕ) × (told_ids m about ≡ noted_ids m.rest ++ later)
told_some m about h more =
    let f : Facts = facts_before m in
    let from : IsLegalFrom m.image f (m.entry ∷ m.rest) = IsLegal_rest m.image m.form m.before (m.entry ∷ m.rest) m.legal in
    let sound = sound_after m.image f m.entry (sound_at m) from.0 in
    let over = told_over m.image about (heard_ids about f.cells) (after m.image f m.entry) m.rest sound (begins_telling m about sound h) from.1 more in
    (over.later, told_is m about ∙ over.notes)

pub told_all : (s : AdmittedSpan) (about : ℕ) (answer : ℤ) → CommitsChangeOf (at_first s) about → NoneFinishesBetween s → s.last.act ≡ Finish answer → told_ids (at_first s) about ≡ noted_ids s.between
told_all s about answer h more ends =
    let m : AdmittedMoment = at_first s in
    let f : Facts = facts_before m in
    let at = stretch s.image s.form s.before s.between s.rest s.first s.last s.admitted s.legal in
    let sound = sound_after s.image f s.first at.sound at.first_due in
    let over = told_over s.image about (heard_ids about f.cells) (after s.image f s.first) s.between sound (begins_telling m about sound h) at.between more in
    let none : over.later ≡ [] = ends_told s.image about over.later (fold (after s.image) (after s.image f s.first) s.between) s.last answer over.sound over.telling at.last_due ends in
    told_is m about ∙ over.notes ∙ ap (λ (ids : List ℕ). noted_ids s.between ++ ids) none ∙ append-nil (noted_ids s.between)

-- ---- how many

few_before : (m : AdmittedMoment) → IsMadeOfBytes m.image → length (facts_before m).cells ≤ 15
few_before m bytes =
    let few = few_cells m.image m.form m.before m.admitted bytes (IsLegal_begin m.image m.form m.before (m.entry ∷ m.rest) m.legal) in
    omega (arith, few, length_map (λ (live : Live). live.config) (facts_before m).cells)

found_some : (o : Option Live) (config : CellConfig) → option_map (λ (live : Live). live.config) o ≡ Some config → (live : Live) × (o ≡ Some live)
found_some None config is = absurd (none-some config is)
found_some (Some live) config is = (live, refl)

few_created : (m : AdmittedMoment) (config : CellConfig) → Creates m config → IsMadeOfBytes m.image → length (facts_before m).cells ≤ 14
few_created m config creates bytes =
    let cells : List Live = (facts_before m).cells in
    let whole : (m.before ++ m.entry ∷ []) ++ m.rest ≡ m.before ++ m.entry ∷ m.rest = append_assoc m.before (m.entry ∷ []) m.rest in
    let P : List Entry → Type 0 = IsLegal m.image m.form in
    let legal : IsLegal m.image m.form (m.before ++ m.entry ∷ []) = IsLegal_begin m.image m.form (m.before ++ m.entry ∷ []) m.rest (subst P (sym whole) m.legal) in
    let few : length (configs_of (facts_behind m).cells) ≤ 15 = few_cells m.image m.form (m.before ++ m.entry ∷ []) m.admitted bytes legal in
    let long : length (configs_of (facts_behind m).cells) ≡ length (cells ++ new_live config ∷ []) = length_map (λ (live : Live). live.config) (facts_behind m).cells ∙ ap length creates.joins in
    let sum : length (cells ++ new_live config ∷ []) ≡ length cells + 1 = length-append cells (new_live config ∷ []) in
    omega (arith, few, long, sum)

few_others : (m : AdmittedMoment) (about : ℕ) → call_before m ≡ Some (Destroy about) → m.entry.act ≡ Commit → IsMadeOfBytes m.image → length (filter (is_other about) (facts_before m).cells) ≤ 14
few_others m about begun act bytes =
    let f : Facts = facts_before m in
    let at = committing_at m (Destroy about) begun act in
    let live = commit_lives m.image (configs_of f.cells) f.cpu m.entry.cpu (Destroy about) at.phase (λ none. none) at.expects at.holds in
    let found = found_some (find (has_id about) f.cells) live.0 (of_named m.image f.cells (Destroy about) live.0 (sound_at m).cells live.1 live.2) in
    omega (arith, others_fewer about f.cells found.0 found.1, few_before m bytes)

pub told_few : (m : AdmittedMoment) (about : ℕ) → CommitsChangeOf m about → IsMadeOfBytes m.image → length (told_ids m about) ≤ 14
told_few m about h bytes =
    let f : Facts = facts_before m in
    let all : length (told_ids m about) ≡ length (heard_ids about f.cells) = ap length (told_is m about) in
    ⊎_elim
    (λ (made : (config : CellConfig) × (config.id ≡ about) × Creates m config). omega (arith, all, heard_few about f.cells, few_created m made.0 made.2 bytes))
    (λ (gone : (call_before m ≡ Some (Destroy about)) × (m.entry.act ≡ Commit)).
    let same : length (heard_ids about (filter (is_other about) f.cells)) ≡ length (heard_ids about f.cells) = ap length (heard_others about f.cells) in
    omega (arith, all, same, heard_few about (filter (is_other about) f.cells), few_others m about gone.0 gone.1 bytes))
    h
