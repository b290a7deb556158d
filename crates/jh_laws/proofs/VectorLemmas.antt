-- A vector is pending from its raise until it is dropped.
use Rattle.std.proofs.Common.{◌≡◌, ◌≢◌, ℕ, zero, suc, get_or, set, ◌%◌, ◌/◌, ◌^◌, List, [], ◌∷◌, ◌++◌, Bool, true, false, cond, ◌&&◌, eqb, Option, Some, None, refl, sym, ap, subst, ◌∙◌, inl, inr, ⊎_elim}
use Rattle.std.specs.Prelude.{◌⊎◌, Contains}
use Rattle.std.specs.Option.{option_map_or}
use Rattle.std.proofs.lemmas.Bool.{both_ways, and_from, eq-eqb, cases_Bool}
use Rattle.std.proofs.lemmas.Option.{none-some, same_Some}
use Rattle.jh_ivshmem.specs.declared.endpoint.Endpoint.{Endpoint}
use Rattle.jh_ivshmem.specs.declared.spec.EndpointSpec.{EndpointSpec}
use Rattle.jh_ivshmem.specs.declared.vector.Vector.{Vector}
use Rattle.jh_ivshmem.specs.Changes.{changed}
use Rattle.jh_ivshmem.specs.Endpoint.{fresh_vector, is_open, raised, taken, vector_at}
use Rattle.jh_ivshmem.specs.Registers.{register_written}
use Rattle.jh_ivshmem.specs.Specs.{is_device, is_peer}
use Rattle.jh_ivshmem.specs.Links.{configured, endpoint_at, is_pending, rung, state_written, told_of, written}
use Rattle.jh_ivshmem.proofs.Public.{raised_spec, taken_spec, register_written_spec, named_cell, named_device}
use Rattle.jh_vpci.specs.Writes.{written as config_written}
use Rattle.jh_script.specs.declared.image.Image.{Image}
use Rattle.jh_history.specs.declared.form.Form.{Form}
use Rattle.jh_history.specs.declared.access.Access.TheVariants.{Write as ToWrite}
use Rattle.jh_history.specs.declared.access.Reach.{Reach}
use Rattle.jh_history.specs.declared.access.Reach.TheVariants.{Memory, Subpage, Config, Window, Nothing}
use Rattle.jh_history.specs.declared.device_change.DeviceChange.TheVariants.{Join}
use Rattle.jh_history.specs.declared.entry.Entry.{Entry}
use Rattle.jh_history.specs.declared.entry.Act.{Act}
use Rattle.jh_history.specs.declared.entry.Act.TheVariants.{Write, Irq, Commit}
use Rattle.jh_history.specs.Admitted.{IsAdmitted}
use Rattle.jh_history.specs.Devices.{Devices, specs_of, number_at}
use Rattle.jh_history.specs.Due.{due_at, IsLegal}
use Rattle.jh_history.specs.Endpoints.{function_put, endpoints_put, endpoints_acted, endpoints_after, endpoints_changed, change_by}
use Rattle.jh_history.specs.Facts.{Facts}
use Rattle.jh_history.specs.Grants.{reach, devices_of}
use Rattle.jh_history.specs.History.{after, facts}
use Rattle.jh_history.specs.Sound.{IsSound}
use Rattle.jh_history.proofs.Public.{facts_push, facts_nil, due_split, IsLegal_begin, legal_sound}
use Rattle.jh_history.specs.Commits.{is_commit}
use Rattle.jh_laws.specs.Vectors.{IsPendingIn, Raises, Clears, Drops, written_part, IsKeptByOthers}
use Rattle.jh_laws.proofs.ClearLemmas.{IsClear, IsJoin, IsIdle, commit_cases, IsCleared, commit_now}
use Rattle.jh_laws.proofs.EndsLemmas.{IsSmallAct, small_at}
use Rattle.jh_laws.proofs.LinkedLemmas.{none_changed, none_told, IsQuietAt, quiet_all, joined_quiet_all}
use Rattle.jh_laws.proofs.PendingLemmas.{endpoint_found, endpoint_of_pending, pending_of_endpoint}
use Rattle.jh_laws.proofs.PlacesHeldLemmas.{commit_or}
use Rattle.jh_laws.proofs.RaiseLemmas.{Calls, IsDropped, HasBecome, IsNow, acted_now}
use Rattle.jh_laws.proofs.WordLemmas.{specs_none}

-- ---- where there was no endpoint

none_written : (x : Endpoint) (bar at value : ℕ) (list : List Endpoint) (id n : ℕ) (bell state : Bool) → (eqb bar 0 && eqb at 0x0c) ≡ bell → (eqb bar 0 && eqb at 0x10) ≡ state → endpoint_at id n list ≡ None → endpoint_at id n (written x bar at value list) ≡ None
unfolding written
none_written x bar at value list id n bell state is_bell is_state none =
    ap (λ (b : Bool). endpoint_at id n (cond b (rung x.spec.bdf (value / 2 ^ 16) (value % 2 ^ 16) list) (cond (eqb bar 0 && eqb at 0x10) (state_written x value list) (changed (is_device x.spec.cell x.spec.device) (register_written bar at value) list)))) is_bell
    ∙ ap (λ (b : Bool). endpoint_at id n (cond bell (rung x.spec.bdf (value / 2 ^ 16) (value % 2 ^ 16) list) (cond b (state_written x value list) (changed (is_device x.spec.cell x.spec.device) (register_written bar at value) list)))) is_state
    ∙ none_by bell state
  where
    none_by : (a b : Bool) → endpoint_at id n (cond a (rung x.spec.bdf (value / 2 ^ 16) (value % 2 ^ 16) list) (cond b (state_written x value list) (changed (is_device x.spec.cell x.spec.device) (register_written bar at value) list))) ≡ None
    none_by true b = none_changed id n (is_peer x.spec.bdf (value / 2 ^ 16)) (raised (value % 2 ^ 16)) list (raised_spec (value % 2 ^ 16)) none
    none_by false true = none_changed id n (is_device x.spec.cell x.spec.device) (λ (o : Endpoint). record o { state = value }) (told_of x value list) (λ o. refl) (none_told x value list id n none)
    none_by false false = none_changed id n (is_device x.spec.cell x.spec.device) (register_written bar at value) list (register_written_spec bar at value) none

none_put : (devices : Devices) (found : Reach) (value id n : ℕ) → endpoint_at id n devices.endpoints ≡ None → endpoint_at id n (endpoints_put devices found value) ≡ None
none_put devices (Memory places) value id n none = none
none_put devices (Subpage places) value id n none = none
none_put devices Nothing value id n none = none
none_put devices (Config bytes) value id n none = by_number (number_at devices bytes.at)
  where
    by_endpoint : (m : ℕ) (q : Option Endpoint) → endpoint_at id n (option_map_or (λ (o : Endpoint). configured devices.cell m (config_written o.space (bytes.at % 4096) bytes.width (value % 2 ^ 32)) devices.endpoints) q devices.endpoints) ≡ None
    by_endpoint m None = none
    by_endpoint m (Some o) = none_changed id n (is_device devices.cell m) (λ (e : Endpoint). record e { space = config_written o.space (bytes.at % 4096) bytes.width (value % 2 ^ 32) }) devices.endpoints (λ e. refl) none

    by_number : (o : Option ℕ) → endpoint_at id n (option_map_or (function_put devices bytes value) o devices.endpoints) ≡ None
    by_number None = none
    by_number (Some m) = by_endpoint m (endpoint_at devices.cell m devices.endpoints)
none_put devices (Window register) value id n none = by_endpoint (endpoint_at devices.cell register.device devices.endpoints)
  where
    by_endpoint : (q : Option Endpoint) → endpoint_at id n (option_map_or (λ (e : Endpoint). written e register.bar register.at (value % 2 ^ 32) devices.endpoints) q devices.endpoints) ≡ None
    by_endpoint None = none
    by_endpoint (Some x) = none_written x register.bar register.at (value % 2 ^ 32) devices.endpoints id n (eqb register.bar 0 && eqb register.at 0x0c) (eqb register.bar 0 && eqb register.at 0x10) refl refl none

none_acted : (image : Image) (f : Facts) (cell : ℕ) (act : Act) (id n : ℕ) → endpoint_at id n f.endpoints ≡ None → endpoint_at id n (endpoints_acted image f cell act) ≡ None
none_acted image f cell (Write width at value true) id n none = none_put (devices_of image f cell) (reach image f cell ToWrite at width) value id n none
none_acted image f cell (Irq device vector) id n none = none_changed id n (is_device cell device) (taken vector) f.endpoints (taken_spec vector) none
none_acted image f cell _ id n none = none

-- behind an entry that is no Commit stands what its act leaves
pub after_acted : (image : Image) (f : Facts) (entry : Entry) → is_commit entry.act ≡ false → endpoints_after image f entry ≡ endpoints_acted image f entry.cell entry.act
after_acted image f entry other = ap (λ (specs : List EndpointSpec). endpoints_changed (change_by f.call) specs (endpoints_acted image f entry.cell entry.act)) (specs_none f entry.act other)

pub quiet_none : (id n : ℕ) (list : List Endpoint) → endpoint_at id n list ≡ None → IsQuietAt id n list
quiet_none id n list none o there = absurd (none-some o (sym none ∙ there))

none_quiet : (image : Image) (f : Facts) (entry : Entry) (id n : ℕ) → IsSound image f → due_at image f entry.cpu ≡ Some entry → endpoint_at id n f.endpoints ≡ None → IsQuietAt id n (endpoints_after image f entry)
none_quiet image f entry id n sound due none =
    let P : List Endpoint → Type 0 = IsQuietAt id n in
    ⊎_elim
    (λ (commits : entry.act ≡ Commit).
    ⊎_elim
    (λ (h : IsClear image f entry). subst P (sym h.after) (quiet_all h.change (specs_of h.config) f.endpoints id n h.clearing (inr (quiet_none id n f.endpoints none))))
    (λ more. ⊎_elim
    (λ (h : IsJoin image f entry). subst P (sym h.after) (joined_quiet_all (specs_of h.config) f.endpoints id n (quiet_none id n f.endpoints none)))
    (λ (h : IsIdle image f entry). subst P (sym h.after) (quiet_none id n f.endpoints none))
    more)
    (commit_cases image f entry sound due commits))
    (λ (other : is_commit entry.act ≡ false). subst P (sym (after_acted image f entry other)) (quiet_none id n (endpoints_acted image f entry.cell entry.act) (none_acted image f entry.cell entry.act id n none)))
    (commit_or entry.act)

-- ---- behind any entry

pub entry_now : (image : Image) (f : Facts) (entry : Entry) (id n : ℕ) (e : Endpoint) → IsSound image f → due_at image f entry.cpu ≡ Some entry → IsSmallAct entry.act → endpoint_at id n f.endpoints ≡ Some e
    → IsNow image f entry id n e (endpoints_after image f entry) ⊎ IsCleared image f entry id n e
entry_now image f entry id n e sound due small there =
    ⊎_elim
    (λ (commits : entry.act ≡ Commit). commit_now image f entry id n e sound due commits there)
    (λ (other : is_commit entry.act ≡ false).
    let now = acted_now image f entry id n e sound small other there in
    inl (record { endpoint = now.endpoint; there = ap (endpoint_at id n) (after_acted image f entry other) ∙ now.there; become = now.become }))
    (commit_or entry.act)

pub endpoints_behind : (image : Image) (form : Form) (before : List Entry) (entry : Entry) → (facts image form (before ++ entry ∷ [])).endpoints ≡ endpoints_after image (facts image form before) entry
unfolding after
endpoints_behind image form before entry = ap (λ (f : Facts). f.endpoints) (facts_push image form before entry)

abbrev Kept : Image → Form → List Entry → Entry → ℕ → ℕ → ℕ → Type 0
Kept image form before entry id n v = IsPendingIn (facts image form before) id n v × (Drops (facts image form before) entry id n v → ⊥)

drops_of : (f : Facts) (entry : Entry) (id n v : ℕ) (e : Endpoint) → e.spec.cell ≡ id → e.spec.device ≡ n → IsDropped f entry e v → Drops f entry id n v
drops_of f entry id n v e cell device drop =
    let P : ℕ → Type 0 = λ c. Drops f entry c n v in
    let Q : ℕ → Type 0 = λ d. Drops f entry e.spec.cell d v in
    subst P cell (subst Q device drop)

of_drops : (f : Facts) (entry : Entry) (id n v : ℕ) (e : Endpoint) → e.spec.cell ≡ id → e.spec.device ≡ n → Drops f entry id n v → IsDropped f entry e v
of_drops f entry id n v e cell device drop =
    let P : ℕ → Type 0 = λ c. Drops f entry c e.spec.device v in
    let Q : ℕ → Type 0 = λ d. Drops f entry id d v in
    subst P (sym cell) (subst Q (sym device) drop)

pub pending_behind : (image : Image) (form : Form) (before rest : List Entry) (entry : Entry) (id n v : ℕ) → IsAdmitted image → IsLegal image form (before ++ entry ∷ rest) → IsPendingIn (facts image form (before ++ entry ∷ [])) id n v
    → Raises image (facts image form before) entry id n v ⊎ Kept image form before entry id n v
pending_behind image form before rest entry id n v admitted legal pending =
    let f : Facts = facts image form before in
    let sound = legal_sound image form before admitted (IsLegal_begin image form before (entry ∷ rest) legal) in
    let due = due_split image form before rest entry legal in
    let at = endpoint_of_pending (facts image form (before ++ entry ∷ [])) id n v pending in
    let there : endpoint_at id n (endpoints_after image f entry) ≡ Some at.0 = ap (endpoint_at id n) (sym (endpoints_behind image form before entry)) ∙ at.1 in
    before_by (endpoint_at id n f.endpoints) refl sound due at.0 there at.2
  where
    before_by : (q : Option Endpoint) → endpoint_at id n (facts image form before).endpoints ≡ q → IsSound image (facts image form before) → due_at image (facts image form before) entry.cpu ≡ Some entry → (b : Endpoint) → endpoint_at id n (endpoints_after image (facts image form before) entry) ≡ Some b → (vector_at b v).pending ≡ true
        → Raises image (facts image form before) entry id n v ⊎ Kept image form before entry id n v
    before_by None is sound due b there pends = absurd (both_ways (vector_at b v).pending ((none_quiet image (facts image form before) entry id n sound due is b there).pending v) pends)
    before_by (Some e) is sound due b there pends =
        let cell = named_cell id n (facts image form before).endpoints e is in
        let device = named_device id n (facts image form before).endpoints e is in
        ⊎_elim
        (λ (now : IsNow image (facts image form before) entry id n e (endpoints_after image (facts image form before) entry)).
        let P : Endpoint → Type 0 = λ o. (vector_at o v).pending ≡ true in
        ⊎_elim
        (λ (called : (is_open e v ≡ true) × Calls image (facts image form before) entry e v). inl (record { peer = e; there = is; let_through = called.0; by = called.1 }))
        (λ (kept : ((vector_at e v).pending ≡ true) × (IsDropped (facts image form before) entry e v → ⊥)).
        inr (pending_of_endpoint (facts image form before) id n v e is kept.0, λ drop. kept.1 (of_drops (facts image form before) entry id n v e cell device drop)))
        (now.become.only v (subst P (same_Some b now.endpoint (sym there ∙ now.there)) pends)))
        (λ (cleared : IsCleared image (facts image form before) entry id n e). absurd (both_ways (vector_at b v).pending ((cleared.quiet b there).pending v) pends))
        (entry_now image (facts image form before) entry id n e sound due (small_at image form before rest entry admitted legal) is)

pending_now : (image : Image) (form : Form) (before : List Entry) (entry : Entry) (id n v : ℕ) (b : Endpoint) → endpoint_at id n (endpoints_after image (facts image form before) entry) ≡ Some b → (vector_at b v).pending ≡ true → IsPendingIn (facts image form (before ++ entry ∷ [])) id n v
pending_now image form before entry id n v b there pends = pending_of_endpoint (facts image form (before ++ entry ∷ [])) id n v b (ap (endpoint_at id n) (endpoints_behind image form before entry) ∙ there) pends

pub raised_behind : (image : Image) (form : Form) (before rest : List Entry) (entry : Entry) (id n v : ℕ) → IsAdmitted image → IsLegal image form (before ++ entry ∷ rest) → Raises image (facts image form before) entry id n v → IsPendingIn (facts image form (before ++ entry ∷ [])) id n v
raised_behind image form before rest entry id n v admitted legal h =
    let f : Facts = facts image form before in
    let sound = legal_sound image form before admitted (IsLegal_begin image form before (entry ∷ rest) legal) in
    let due = due_split image form before rest entry legal in
    ⊎_elim
    (λ (now : IsNow image f entry id n h.peer (endpoints_after image f entry)). pending_now image form before entry id n v now.endpoint now.there (now.become.calls v h.let_through h.by))
    (λ (cleared : IsCleared image f entry id n h.peer). absurd (cleared.uncalled_is v h.by))
    (entry_now image f entry id n h.peer sound due (small_at image form before rest entry admitted legal) h.there)

pub kept_behind : (image : Image) (form : Form) (before rest : List Entry) (entry : Entry) (id n v : ℕ) → IsAdmitted image → IsLegal image form (before ++ entry ∷ rest) → Kept image form before entry id n v → IsPendingIn (facts image form (before ++ entry ∷ [])) id n v
kept_behind image form before rest entry id n v admitted legal h =
    let f : Facts = facts image form before in
    let sound = legal_sound image form before admitted (IsLegal_begin image form before (entry ∷ rest) legal) in
    let due = due_split image form before rest entry legal in
    let at = endpoint_of_pending f id n v h.0 in
    let e : Endpoint = at.0 in
    let cell = named_cell id n f.endpoints e at.1 in
    let device = named_device id n f.endpoints e at.1 in
    ⊎_elim
    (λ (now : IsNow image f entry id n e (endpoints_after image f entry)). pending_now image form before entry id n v now.endpoint now.there (now.become.keeps v at.2 (λ drop. h.1 (drops_of f entry id n v e cell device drop))))
    (λ (cleared : IsCleared image f entry id n e). absurd (h.1 (drops_of f entry id n v e cell device (inr cleared.clears))))
    (entry_now image f entry id n e sound due (small_at image form before rest entry admitted legal) at.1)

-- at opening
pub opening_none : (image : Image) (form : Form) (id n v : ℕ) → IsPendingIn (facts image form []) id n v → ⊥
opening_none image form id n v pending =
    let at = endpoint_of_pending (facts image form []) id n v pending in
    let there : endpoint_at id n (endpoints_changed Join (specs_of image.system.root) []) ≡ Some at.0 = ap (λ (f : Facts). endpoint_at id n f.endpoints) (sym (facts_nil image form)) ∙ at.1 in
    both_ways (vector_at at.0 v).pending ((joined_quiet_all (specs_of image.system.root) [] id n (quiet_none id n [] refl) at.0 there).pending v) at.2

-- ---- devices of other cells

raised_space : (u : ℕ) (e : Endpoint) → (raised u e).space ≡ e.space
unfolding raised
raised_space u e = elim (cases_Bool (is_open e u)) as (λ _. (raised u e).space ≡ e.space) [
  | inl opened ↦ rw opened refl
  | inr closes ↦ rw closes refl
]

raised_state : (u : ℕ) (e : Endpoint) → (raised u e).state ≡ e.state
unfolding raised
raised_state u e = elim (cases_Bool (is_open e u)) as (λ _. (raised u e).state ≡ e.state) [
  | inl opened ↦ rw opened refl
  | inr closes ↦ rw closes refl
]

-- where a vector is put that differs from the one there in being pending alone, none is written
written_set : (vectors : List Vector) (u v : ℕ) (x : Vector) → written_part x ≡ written_part (get_or vectors u fresh_vector) → written_part (get_or (set vectors u x) v fresh_vector) ≡ written_part (get_or vectors v fresh_vector)
written_set [] u v x same = refl
written_set (y ∷ ys) zero zero x same = same
written_set (y ∷ ys) zero (suc v) x same = refl
written_set (y ∷ ys) (suc u) zero x same = refl
written_set (y ∷ ys) (suc u) (suc v) x same = written_set ys u v x same

raised_words : (u : ℕ) (e : Endpoint) (v : ℕ) → written_part (vector_at (raised u e) v) ≡ written_part (vector_at e v)
unfolding raised
raised_words u e v = elim (cases_Bool (is_open e u)) as (λ _. written_part (vector_at (raised u e) v) ≡ written_part (vector_at e v)) [
  | inl opened ↦ rw opened (written_set e.vectors u v (record (vector_at e u) { pending = true }) refl)
  | inr closes ↦ rw closes refl
]

-- what is pending at the one endpoint
alone_pending : (b : Endpoint) (id n v : ℕ) → b.spec.cell ≡ id → b.spec.device ≡ n → is_pending id n v (b ∷ []) ≡ true → (vector_at b v).pending ≡ true
alone_pending b id n v cell device pends =
    sym
    (ap (λ (own : Bool). option_map_or (λ (o : Endpoint). (vector_at o v).pending) (cond own (Some b) None) false)
    (and_from (eqb b.spec.cell id) (eqb b.spec.device n) (eq-eqb b.spec.cell id cell) (eq-eqb b.spec.device n device)))
    ∙ pends

-- the vector is pending at the one endpoint
pending_alone : (b : Endpoint) (id n v : ℕ) → b.spec.cell ≡ id → b.spec.device ≡ n → (vector_at b v).pending ≡ true → is_pending id n v (b ∷ []) ≡ true
pending_alone b id n v cell device pends =
    ap (λ (own : Bool). option_map_or (λ (o : Endpoint). (vector_at o v).pending) (cond own (Some b) None) false)
    (and_from (eqb b.spec.cell id) (eqb b.spec.device n) (eq-eqb b.spec.cell id cell) (eq-eqb b.spec.device n device))
    ∙ pends

kept_others : (image : Image) (f : Facts) (entry : Entry) (e b : Endpoint) → endpoint_at e.spec.cell e.spec.device f.endpoints ≡ Some e → (Clears f entry e.spec.cell → ⊥) → entry.cell ≢ e.spec.cell → HasBecome image f entry e b → IsKeptByOthers image f entry e b
kept_others image f entry e b there unclear foreign become =
    let or_raised = become.others foreign in
    record {
      spec = become.spec;
      space = ⊎_elim (λ (same : b ≡ e). ap (λ (o : Endpoint). o.space) same) (λ raise. ap (λ (o : Endpoint). o.space) raise.3 ∙ raised_space raise.0 e) or_raised;
      state = ⊎_elim (λ (same : b ≡ e). ap (λ (o : Endpoint). o.state) same) (λ raise. ap (λ (o : Endpoint). o.state) raise.3 ∙ raised_state raise.0 e) or_raised;
      control = λ changed.
          ⊎_elim
          (λ (same : b ≡ e). absurd (changed (ap (λ (o : Endpoint). o.control) same)))
          (λ (raise : (u : ℕ) × (is_open e u ≡ true) × Calls image f entry e u × (b ≡ raised u e)). (raise.0, record { peer = e; there = there; let_through = raise.1; by = raise.2 }))
          or_raised;
      words = λ v. ⊎_elim (λ (same : b ≡ e). ap (λ (o : Endpoint). written_part (vector_at o v)) same) (λ raise. ap (λ (o : Endpoint). written_part (vector_at o v)) raise.3 ∙ raised_words raise.0 e v) or_raised;
      raised = λ v pending.
          let now = alone_pending b e.spec.cell e.spec.device v (ap (λ (s : EndpointSpec). s.cell) become.spec) (ap (λ (s : EndpointSpec). s.device) become.spec) pending in
          ⊎_elim
          (λ (called : (is_open e v ≡ true) × Calls image f entry e v). inr (record { peer = e; there = there; let_through = called.0; by = called.1 }))
          (λ was. inl (pending_of_endpoint f e.spec.cell e.spec.device v e there was.0))
          (become.only v now);
      pending = λ v pending.
          let at = endpoint_of_pending f e.spec.cell e.spec.device v pending in
          let P : Endpoint → Type 0 = λ o. (vector_at o v).pending ≡ true in
          let was : (vector_at e v).pending ≡ true = subst P (same_Some at.0 e (sym at.1 ∙ there)) at.2 in
          let kept = become.keeps v was (λ drop. ⊎_elim (λ taken_is. foreign taken_is.0) unclear drop) in
          pending_alone b e.spec.cell e.spec.device v (ap (λ (s : EndpointSpec). s.cell) become.spec) (ap (λ (s : EndpointSpec). s.device) become.spec) kept;
    }

pub other_stays : (image : Image) (form : Form) (before rest : List Entry) (entry : Entry) (e : Endpoint) → IsAdmitted image → IsLegal image form (before ++ entry ∷ rest) → Contains (facts image form before).endpoints e → entry.cell ≢ e.spec.cell → (Clears (facts image form before) entry e.spec.cell → ⊥)
    → (b : Endpoint) × (endpoint_at e.spec.cell e.spec.device (facts image form (before ++ entry ∷ [])).endpoints ≡ Some b) × IsKeptByOthers image (facts image form before) entry e b
other_stays image form before rest entry e admitted legal held foreign unclear =
    let f : Facts = facts image form before in
    let sound = legal_sound image form before admitted (IsLegal_begin image form before (entry ∷ rest) legal) in
    let due = due_split image form before rest entry legal in
    let there = endpoint_found image f e sound held in
    ⊎_elim
    (λ (now : IsNow image f entry e.spec.cell e.spec.device e (endpoints_after image f entry)).
    (now.endpoint, ap (endpoint_at e.spec.cell e.spec.device) (endpoints_behind image form before entry) ∙ now.there, kept_others image f entry e now.endpoint there unclear foreign now.become))
    (λ (cleared : IsCleared image f entry e.spec.cell e.spec.device e). absurd (unclear cleared.clears))
    (entry_now image f entry e.spec.cell e.spec.device e sound due (small_at image form before rest entry admitted legal) there)
