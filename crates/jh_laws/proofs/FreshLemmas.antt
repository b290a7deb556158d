-- Devices at opening, and behind the Commit of a create or a start.
use Rattle.std.proofs.Common.{◌≡◌, ◌≢◌, ℕ, List, [], ◌∷◌, Option, Some, None, refl, sym, ap, subst, ◌∙◌, inl, inr, ⊎_elim}
use Rattle.std.specs.Prelude.{◌⊎◌, Contains}
use Rattle.std.proofs.lemmas.List.Elements.{All-contains}
use Rattle.jh_cellcfg.specs.declared.config.CellConfig.{CellConfig}
use Rattle.jh_call.specs.declared.call.Call.TheVariants.{Create, Start}
use Rattle.jh_ivshmem.specs.declared.endpoint.Endpoint.{Endpoint}
use Rattle.jh_ivshmem.specs.Links.{endpoint_at}
use Rattle.jh_ivshmem.proofs.Public.{named_cell, named_device}
use Rattle.jh_script.specs.declared.image.Image.{Image}
use Rattle.jh_history.specs.declared.form.Form.{Form}
use Rattle.jh_history.specs.declared.call.OpenCall.{OpenCall}
use Rattle.jh_history.specs.declared.call.Phase.TheVariants.{ToCreate}
use Rattle.jh_history.specs.declared.device_change.DeviceChange.TheVariants.{Join}
use Rattle.jh_history.specs.Devices.{specs_of}
use Rattle.jh_history.specs.Endpoints.{endpoints_after, endpoints_changed}
use Rattle.jh_history.specs.Facts.{Facts}
use Rattle.jh_history.specs.History.{facts}
use Rattle.jh_history.specs.Sound.{IsOfDevice, IsSound}
use Rattle.jh_history.proofs.Public.{call_open, facts_nil, facts_push, other_id, sound_after, spec_cell}
use Rattle.jh_shape.specs.Lives.{configs_of}
use Rattle.jh_laws.specs.Devices.{BeginsDevices, IsFresh}
use Rattle.jh_laws.specs.Moments.{AdmittedMoment, facts_before, facts_behind}
use Rattle.jh_laws.specs.Pages.{Creates, Starts}
use Rattle.jh_laws.specs.Vectors.{Clears}
use Rattle.jh_laws.proofs.ClearLemmas.{IsClear, IsJoin, IsIdle, among_specs, commit_cases}
use Rattle.jh_laws.proofs.DevicesLemmas.{endpoint_held}
use Rattle.jh_laws.proofs.LinkedLemmas.{IsAmong, IsQuietAt, joined_quiet_all, quiet_all}
use Rattle.jh_laws.proofs.PageCauseLemmas.{IsCommitting, committing_at, creating_call, due_of, sound_at}
use Rattle.jh_laws.proofs.PendingLemmas.{endpoint_found}
use Rattle.jh_laws.proofs.VectorLemmas.{endpoints_behind, quiet_none}

pub opens_fresh : (image : Image) (form : Form) (id n : ℕ) (e : Endpoint) → endpoint_at id n (facts image form []).endpoints ≡ Some e → IsFresh e
opens_fresh image form id n e there =
    let here : endpoint_at id n (endpoints_changed Join (specs_of image.system.root) []) ≡ Some e = ap (λ (f : Facts). endpoint_at id n f.endpoints) (sym (facts_nil image form)) ∙ there in
    (joined_quiet_all (specs_of image.system.root) [] id n (quiet_none id n [] refl) e here).as_new

-- a cell that comes had no endpoint
abbrev HadNone : AdmittedMoment → ℕ → Type 0
HadNone m id = (e : Endpoint) → Contains (facts_before m).endpoints e → e.spec.cell ≢ id

new_had_none : (m : AdmittedMoment) (config : CellConfig) → Creates m config → HadNone m config.id
new_had_none m config creates e held same =
    let f : Facts = facts_before m in
    let o : OpenCall = record { caller = m.entry.cpu; call = Create creates.at; phase = ToCreate config } in
    let may = (call_open m.image f o (sound_at m) (creating_call m config creates)).phase.1 in
    let own = All-contains (λ (x : Endpoint). IsOfDevice m.image (configs_of f.cells) x.spec) f.endpoints e (sound_at m).endpoints.own held in
    other_id (m.image.system.root ∷ configs_of f.cells) config own.0 may.unknown own.1 (sym (spec_cell own.0 e.spec own.2) ∙ same)

none_is_quiet : (m : AdmittedMoment) (id n : ℕ) → HadNone m id → IsQuietAt id n (facts_before m).endpoints
none_is_quiet m id n none o there = absurd (none o (endpoint_held m.image (facts_before m) id n o there) (named_cell id n (facts_before m).endpoints o there))

-- behind a Commit that changes no other device than such
joins_quiet : (m : AdmittedMoment) (id n : ℕ) → HadNone m id → IsClear m.image (facts_before m) m.entry ⊎ IsJoin m.image (facts_before m) m.entry ⊎ IsIdle m.image (facts_before m) m.entry → IsQuietAt id n (endpoints_after m.image (facts_before m) m.entry)
joins_quiet m id n none cases =
    let f : Facts = facts_before m in
    let P : List Endpoint → Type 0 = IsQuietAt id n in
    let before : IsQuietAt id n f.endpoints = none_is_quiet m id n none in
    ⊎_elim
    (λ (h : IsClear m.image f m.entry). subst P (sym h.after) (quiet_all h.change (specs_of h.config) f.endpoints id n h.clearing (inr before)))
    (λ more. ⊎_elim
    (λ (h : IsJoin m.image f m.entry). subst P (sym h.after) (joined_quiet_all (specs_of h.config) f.endpoints id n before))
    (λ (h : IsIdle m.image f m.entry). subst P (sym h.after) before)
    more)
    cases

-- the devices of a cell that is started are cleared
start_clears : (m : AdmittedMoment) (config : CellConfig) → Starts m config → Clears (facts_before m) m.entry config.id
start_clears m config starts =
    let at : IsCommitting m (Start config.id) = committing_at m (Start config.id) starts.begun starts.commits in
    record { call = record { caller = m.entry.cpu; call = Start config.id; phase = at.phase }; begun = at.opens; about = refl; commits = starts.commits }

cleared_quiet : (m : AdmittedMoment) (id n : ℕ) (h : IsClear m.image (facts_before m) m.entry) → h.id ≡ id → (o : Option Endpoint) → endpoint_at id n (facts_before m).endpoints ≡ o → IsQuietAt id n (endpoints_after m.image (facts_before m) m.entry)
cleared_quiet m id n h own None is =
    let P : List Endpoint → Type 0 = IsQuietAt id n in
    subst P (sym h.after) (quiet_all h.change (specs_of h.config) (facts_before m).endpoints id n h.clearing (inr (quiet_none id n (facts_before m).endpoints is)))
cleared_quiet m id n h own (Some e) is =
    let f : Facts = facts_before m in
    let P : List Endpoint → Type 0 = IsQuietAt id n in
    let cell : e.spec.cell ≡ id = named_cell id n f.endpoints e is in
    let among : IsAmong (specs_of h.config) id n = (e.spec, among_specs m.image f m.entry e h (sound_at m) (endpoint_held m.image f id n e is) (cell ∙ sym own), cell, named_device id n f.endpoints e is) in
    subst P (sym h.after) (quiet_all h.change (specs_of h.config) f.endpoints id n h.clearing (inl among))

starts_quiet : (m : AdmittedMoment) (config : CellConfig) (n : ℕ) → Starts m config → IsQuietAt config.id n (endpoints_after m.image (facts_before m) m.entry)
starts_quiet m config n starts =
    let f : Facts = facts_before m in
    let clears = start_clears m config starts in
    ⊎_elim
    (λ (h : IsClear m.image f m.entry). cleared_quiet m config.id n h (sym (h.only config.id clears)) (endpoint_at config.id n f.endpoints) refl)
    (λ more. ⊎_elim (λ (h : IsJoin m.image f m.entry). absurd (h.none config.id clears)) (λ (h : IsIdle m.image f m.entry). absurd (h.none config.id clears)) more)
    (commit_cases m.image f m.entry (sound_at m) (due_of m) starts.commits)

pub begins_fresh : (m : AdmittedMoment) (config : CellConfig) (e : Endpoint) → BeginsDevices m config → Contains (facts_behind m).endpoints e → e.spec.cell ≡ config.id → IsFresh e
begins_fresh m config e h held cell =
    let f : Facts = facts_before m in
    let S : Facts → Type 0 = IsSound m.image in
    let sound : IsSound m.image (facts_behind m) = subst S (sym (facts_push m.image m.form m.before m.entry)) (sound_after m.image f m.entry (sound_at m) (due_of m)) in
    let own : endpoint_at e.spec.cell e.spec.device (facts_behind m).endpoints ≡ Some e = endpoint_found m.image (facts_behind m) e sound held in
    let P : ℕ → Type 0 = λ id. endpoint_at id e.spec.device (endpoints_after m.image f m.entry) ≡ Some e in
    let there : P config.id = subst P cell (ap (endpoint_at e.spec.cell e.spec.device) (sym (endpoints_behind m.image m.form m.before m.entry)) ∙ own) in
    ⊎_elim
    (λ (creates : Creates m config).
    (joins_quiet m config.id e.spec.device (new_had_none m config creates) (commit_cases m.image f m.entry (sound_at m) (due_of m) creates.commits) e there).as_new)
    (λ (starts : Starts m config). (starts_quiet m config e.spec.device starts e there).as_new)
    h
