-- What a Decide says.
use Rattle.std.proofs.Common.{◌≡◌, ◌≢◌, ℕ, ℤ, List, [], ◌∷◌, ◌++◌, Bool, true, false, cond, not, eqb, Option, Some, None, is_some, refl, sym, ap, subst, ◌∙◌, inr}
use Rattle.std.specs.Prelude.{Contains, find}
use Rattle.std.specs.List.{list_any}
use Rattle.std.proofs.lemmas.Bool.{both_ways, and_parts, and_from, eqb-true, eq-eqb, ne_eqb, not-true, not_from_false, false_from_ne_true}
use Rattle.std.proofs.lemmas.Option.{none-some, same_Some}
use Rattle.jh_num.specs.declared.error.TheConstants.{EPERM, ENOENT, EINVAL}
use Rattle.jh_num.proofs.Public.{IsFound_from_list_any, list_any_from_Contains}
use Rattle.jh_cellcfg.specs.declared.config.CellConfig.{CellConfig}
use Rattle.jh_cellcfg.specs.declared.live.Live.{Live}
use Rattle.jh_cellcfg.specs.declared.fault.ConfigFault.{ConfigFault}
use Rattle.jh_cellcfg.specs.Lives.{id_of, has_id}
use Rattle.jh_cellcfg.specs.Faults.{header_fault, size_by_header}
use Rattle.jh_cellcfg.specs.Reading.{config_of}
use Rattle.jh_num.specs.Below.{any_below}
use Rattle.jh_check.specs.Refusals.{refusal_of}
use Rattle.jh_check.proofs.Public.{accepted_to}
use Rattle.jh_shape.specs.Pages.{pages_of}
use Rattle.jh_comm.specs.declared.words.TheConstants.{STATE_RUNNING_LOCKED}
use Rattle.jh_call.specs.declared.call.Call.{Call}
use Rattle.jh_call.specs.declared.call.Call.TheVariants.{Create, Start, Loadable, Destroy}
use Rattle.jh_call.specs.Calls.{is_management}
use Rattle.jh_script.specs.declared.image.Image.{Image}
use Rattle.jh_history.specs.declared.form.Form.{Form}
use Rattle.jh_history.specs.declared.call.OpenCall.{OpenCall}
use Rattle.jh_history.specs.declared.call.Creation.TheVariants.{Refused}
use Rattle.jh_history.specs.declared.call.Phase.{Phase}
use Rattle.jh_history.specs.declared.call.Phase.TheVariants.{ToDecide, ToSettle, ToCreate, ToCommit, ToNote, ToNoted, ToFinish}
use Rattle.jh_history.specs.declared.entry.Entry.{Entry}
use Rattle.jh_history.specs.declared.entry.Act.{Act}
use Rattle.jh_history.specs.declared.entry.Act.TheVariants.{Decide, Settle, Commit, Note, Noted, Finish}
use Rattle.jh_history.specs.Facts.{Facts}
use Rattle.jh_history.specs.Lives.{cell_in}
use Rattle.jh_history.specs.Admitted.{IsAdmitted, pool_pages}
use Rattle.jh_history.specs.declared.reading.ReadCell.{ReadCell}
use Rattle.jh_history.specs.Configs.{bytes_at, read_whole, read_behind, read_from, read_at}
use Rattle.jh_history.specs.History.{facts}
use Rattle.jh_history.specs.Phases.{phase_act, keeps_decide, state_word, may_give, is_locked, is_other_locked, unless_refused, creation_by, creation_of, refused_by, id_refusal, first_refusal, decision}
use Rattle.jh_shape.specs.Lives.{configs_of}
use Rattle.jh_history.specs.Due.{due_at, is_idle_but, IsLegal}
use Rattle.jh_history.proofs.Public.{due_split, IsLegal_begin, other_root, legal_sound, call_open}
use Rattle.jh_history.specs.Sound.{AreSoundCells}
use Rattle.jh_laws.specs.Ways.{is_phase, is_decide, begun_call}
use Rattle.jh_laws.specs.Decisions.{LivesLocked, NoneIsLocked, NoOtherIsLocked, LivesNot, IsIdDecision, IsDestroyDecision, IsReadRefusal, IsConfigRefusal, IsCreateDecision, IsDecision}
use Rattle.jh_laws.proofs.CallLemmas.{phase_expects, phase_of_due, same_call, not_same}
use Rattle.jh_laws.proofs.HeldLemmas.{live_cell}
use Rattle.jh_laws.proofs.HvcLemmas.{none_live}

-- ---- by the id

id_root : (image : Image) (f : Facts) (id : ℕ) → id ≡ image.system.root.id → id_refusal image f id ≡ Some EINVAL
id_root image f id is = let e : eqb id image.system.root.id ≡ true = eq-eqb id image.system.root.id is in rw e refl

id_none : (image : Image) (f : Facts) (id : ℕ) → id ≢ image.system.root.id → LivesNot f id → id_refusal image f id ≡ Some ENOENT
id_none image f id other none =
    let e : eqb id image.system.root.id ≡ false = ne_eqb id image.system.root.id other in
    let nothing : find (has_id id) f.cells ≡ None = none_live f.cells id (find (has_id id) f.cells) refl none in
    rw (e, nothing) refl

id_goes : (image : Image) (f : Facts) (id : ℕ) (config : CellConfig) → AreSoundCells image.system (configs_of f.cells) → Contains (configs_of f.cells) config → config.id ≡ id → id_refusal image f id ≡ None
id_goes image f id config sound held is =
    let P : ℕ → Type 0 = λ k. id_refusal image f k ≡ None in
    let other : eqb config.id image.system.root.id ≡ false = ne_eqb config.id image.system.root.id (other_root image.system (configs_of f.cells) config sound held) in
    let found : cell_in image f.cells config.id ≡ Some config = live_cell image f.cells config sound (inr held) in
    let some : is_some (cell_in image f.cells config.id) ≡ true = ap (λ (o : Option CellConfig). is_some o) found in
    subst P is (ap (λ (b : Bool). cond b (cond (eqb config.id image.system.root.id) (Some EINVAL) None) (Some ENOENT)) some ∙ ap (λ (b : Bool). cond b (Some EINVAL) None) other)

id_decision : (image : Image) (f : Facts) (id : ℕ) → AreSoundCells image.system (configs_of f.cells) → IsIdDecision image f id (id_refusal image f id)
id_decision image f id sound = record {
  id_refused = record { root = λ is. id_root image f id is; none = λ other none. id_none image f id other none };
  goes = λ config held is. id_goes image f id config sound held is;
}

-- ---- a destroy

other_locked : (f : Facts) (id : ℕ) (live : Live) → LivesLocked f live → id_of live ≢ id → list_any (is_other_locked f id) f.cells ≡ true
other_locked f id live locked other =
    list_any_from_Contains (is_other_locked f id) f.cells live locked.0
    (and_from (not (has_id id live)) (is_locked f live) (not_from_false (has_id id live) (ne_eqb (id_of live) id other)) (eq-eqb (state_word f (id_of live)) STATE_RUNNING_LOCKED locked.1))

none_other_locked : (f : Facts) (id : ℕ) → NoOtherIsLocked f id → list_any (is_other_locked f id) f.cells ≡ false
none_other_locked f id none =
    false_from_ne_true (list_any (is_other_locked f id) f.cells)
    (λ some.
    let found = IsFound_from_list_any (is_other_locked f id) f.cells some in
    let parts = and_parts (not (has_id id found.0)) (is_locked f found.0) found.1.passes in
    none found.0 found.1.among (λ e. both_ways (has_id id found.0) (not-true (has_id id found.0) parts.0) (eq-eqb (id_of found.0) id e)) (eqb-true (state_word f (id_of found.0)) STATE_RUNNING_LOCKED parts.1))

destroy_decision : (image : Image) (f : Facts) (id : ℕ) → AreSoundCells image.system (configs_of f.cells) → IsDestroyDecision image f id (first_refusal (id_refusal image f id) (list_any (is_other_locked f id) f.cells))
destroy_decision image f id sound =
    let locked : Bool = list_any (is_other_locked f id) f.cells in
    let by : Option ℤ → Option ℤ = λ o. first_refusal o locked in
    record {
      id_refused = record { root = λ is. ap by (id_root image f id is); none = λ other none. ap by (id_none image f id other none) };
      locked = λ config other held is lock apart. ap by (id_goes image f id config sound held is) ∙ ap (λ (b : Bool). cond b (Some EPERM) None) (other_locked f id other lock apart);
      goes = λ config held is none. ap by (id_goes image f id config sound held is) ∙ ap (λ (b : Bool). cond b (Some EPERM) None) (none_other_locked f id none);
    }

-- ---- a create

some_locked : (f : Facts) (live : Live) → LivesLocked f live → list_any (is_locked f) f.cells ≡ true
some_locked f live locked = list_any_from_Contains (is_locked f) f.cells live locked.0 (eq-eqb (state_word f (id_of live)) STATE_RUNNING_LOCKED locked.1)

none_locked : (f : Facts) → NoneIsLocked f → list_any (is_locked f) f.cells ≡ false
none_locked f none =
    false_from_ne_true (list_any (is_locked f) f.cells)
    (λ some. let found = IsFound_from_list_any (is_locked f) f.cells some in none found.0 found.1.among (eqb-true (state_word f (id_of found.0)) STATE_RUNNING_LOCKED found.1.passes))

created_locked : (image : Image) (f : Facts) (caller at : ℕ) → list_any (is_locked f) f.cells ≡ true → refused_by (creation_of image f caller at) ≡ Some EPERM
unfolding creation_of
created_locked image f caller at locked = ap (λ (b : Bool). refused_by (cond b (Refused EPERM) (creation_by image f caller (read_at image f at)))) locked

created_read : (image : Image) (f : Facts) (caller at : ℕ) → list_any (is_locked f) f.cells ≡ false → refused_by (creation_of image f caller at) ≡ refused_by (creation_by image f caller (read_from (bytes_at image f at) (bytes_at image f at 132)))
unfolding creation_of read_at
created_read image f caller at free = ap (λ (b : Bool). refused_by (cond b (Refused EPERM) (creation_by image f caller (read_at image f at)))) free

abbrev by_read : Image → Facts → ℕ → ReadCell → Option ℤ
by_read image f caller read = refused_by (creation_by image f caller read)

unread : (image : Image) (f : Facts) (caller at : ℕ) → list_any (is_locked f) f.cells ≡ false → IsReadRefusal image f at (refused_by (creation_of image f caller at))
unread image f caller at free =
    let first = created_read image f caller at free in
    record {
      header = λ none. first ∙ ap (λ (o : Option (List ℕ)). by_read image f caller (read_from (bytes_at image f at) o)) none;
      fault = λ header fault some is. first
          ∙ ap (λ (o : Option (List ℕ)). by_read image f caller (read_from (bytes_at image f at) o)) some
          ∙ ap (λ (o : Option ConfigFault). by_read image f caller (read_behind (bytes_at image f at) header o)) is;
      rest = λ header some is none. first
          ∙ ap (λ (o : Option (List ℕ)). by_read image f caller (read_from (bytes_at image f at) o)) some
          ∙ ap (λ (o : Option ConfigFault). by_read image f caller (read_behind (bytes_at image f at) header o)) is
          ∙ ap (λ (o : Option (List ℕ)). by_read image f caller (read_whole o)) none;
    }

refused_of : (config : CellConfig) (o : Option ℤ) → refused_by (unless_refused config o) ≡ o
refused_of config None = refl
refused_of config (Some number) = refl

read_whole_of : (image : Image) (f : Facts) (caller at : ℕ) (header bytes : List ℕ) → list_any (is_locked f) f.cells ≡ false → bytes_at image f at 132 ≡ Some header → header_fault header ≡ None → bytes_at image f at (size_by_header header) ≡ Some bytes
    → IsConfigRefusal image f caller (config_of bytes) (refused_by (creation_of image f caller at))
read_whole_of image f caller at header bytes free some is all =
    let config : CellConfig = config_of bytes in
    let pages : ℕ = pages_of image.system.root.memory_regions (configs_of f.cells ++ config ∷ []) in
    let refusal : Option ℤ = refusal_of image.system (configs_of f.cells) config (may_give image f caller) pages (pool_pages image.system) in
    let read : refused_by (creation_of image f caller at) ≡ refused_by (unless_refused config refusal) =
    created_read image f caller at free
    ∙ ap (λ (o : Option (List ℕ)). by_read image f caller (read_from (bytes_at image f at) o)) some
    ∙ ap (λ (o : Option ConfigFault). by_read image f caller (read_behind (bytes_at image f at) header o)) is
    ∙ ap (λ (o : Option (List ℕ)). by_read image f caller (read_whole o)) all in
    let cause : refused_by (creation_of image f caller at) ≡ refusal = read ∙ refused_of config refusal in
    record {
      cause = cause;
      goes = λ accepted. cause ∙ accepted_to image.system (configs_of f.cells) config (may_give image f caller) pages (pool_pages image.system) accepted;
    }

create_decision : (image : Image) (f : Facts) (caller at : ℕ) → IsCreateDecision image f caller at (refused_by (creation_of image f caller at))
create_decision image f caller at = record {
  locked = λ live lock. created_locked image f caller at (some_locked f live lock);
  unread = λ none. unread image f caller at (none_locked f none);
  read = λ none header bytes some is all. read_whole_of image f caller at header bytes (none_locked f none) some is all;
}

-- ---- the entry

decision_of : (image : Image) (f : Facts) (caller : ℕ) (call : Call) → is_management call ≡ true → AreSoundCells image.system (configs_of f.cells) → IsDecision image f caller call (decision image f caller call)
decision_of image f caller (Create at) manages sound = create_decision image f caller at
decision_of image f caller (Start id) manages sound = id_decision image f id sound
decision_of image f caller (Loadable id) manages sound = id_decision image f id sound
decision_of image f caller (Destroy id) manages sound = destroy_decision image f id sound
decision_of image f caller _ manages sound = both_ways false refl manages

abbrev refused_in : Act → Option ℤ
refused_in (Decide refused) = refused
refused_in _ = None

unless_same : (b : Bool) (made : Option ℤ) (act : Act) → cond b None (Some (Decide made)) ≡ Some act → refused_in act ≡ made
unless_same true made act h = absurd (none-some act h)
unless_same false made act h = sym (ap refused_in (same_Some (Decide made) act h))

decide_says : (image : Image) (f : Facts) (idle : Bool) (caller : ℕ) (call : Call) (phase : Phase) (act : Act) → is_decide act ≡ true → phase_act image f idle caller call phase ≡ Some act → refused_in act ≡ decision image f caller call
decide_says image f idle caller call ToDecide act is h = unless_same (any_below (λ i. keeps_decide image caller i (f.cpu i)) 16) (decision image f caller call) act h
decide_says image f idle caller call (ToSettle waited) act is h = let e = phase_expects image f idle caller call (ToSettle waited) act h in absurd (not_same is_decide act (Settle e.0) is refl e.1)
decide_says image f idle caller call (ToCreate config) act is h = absurd (not_same is_decide act Commit is refl (phase_expects image f idle caller call (ToCreate config) act h))
decide_says image f idle caller call ToCommit act is h = absurd (not_same is_decide act Commit is refl (phase_expects image f idle caller call ToCommit act h))
decide_says image f idle caller call (ToNote id about answer) act is h = absurd (not_same is_decide act (Note id) is refl (phase_expects image f idle caller call (ToNote id about answer) act h))
decide_says image f idle caller call (ToNoted id about answer waited) act is h =
    let e = phase_expects image f idle caller call (ToNoted id about answer waited) act h in absurd (not_same is_decide act (Noted id e.0) is refl e.1)
decide_says image f idle caller call (ToFinish answer) act is h = absurd (not_same is_decide act (Finish answer) is refl (phase_expects image f idle caller call (ToFinish answer) act h))

pub decides : (image : Image) (form : Form) (before rest : List Entry) (entry : Entry) (call : Call) (refused : Option ℤ) → IsAdmitted image → IsLegal image form (before ++ entry ∷ rest) → begun_call before ≡ Some call → entry.act ≡ Decide refused
    → IsDecision image (facts image form before) entry.cpu call refused
decides image form before rest entry call refused admitted legal is act =
    let f : Facts = facts image form before in
    let sound = legal_sound image form before admitted (IsLegal_begin image form before (entry ∷ rest) legal) in
    let due : due_at image f entry.cpu ≡ Some entry = due_split image form before rest entry legal in
    let of = phase_of_due image f entry sound due (ap is_phase act) in
    let o : OpenCall = of.o in
    let that : o.call ≡ call = same_call image form before o call of.opens is in
    let says : refused_in entry.act ≡ decision image f o.caller o.call = decide_says image f (is_idle_but image f o.caller) o.caller o.call o.phase entry.act (ap is_decide act) of.act in
    let same : decision image f o.caller o.call ≡ refused = sym says ∙ ap refused_in act in
    let P : Option ℤ → Type 0 = IsDecision image f o.caller o.call in
    let Q : Call → Type 0 = λ k. IsDecision image f o.caller k refused in
    let R : ℕ → Type 0 = λ k. IsDecision image f k call refused in
    subst R of.caller (subst Q that (subst P same (decision_of image f o.caller o.call (call_open image f o sound of.opens).caller.management sound.cells)))
