-- What a Commit does to the endpoint of a device.
use Rattle.std.proofs.Common.{◌≡◌, ◌≢◌, ℕ, List, [], ◌∷◌, Bool, true, false, cond, not, eqb, Option, Some, None, refl, sym, ap, subst, ◌∙◌, inl, inr, ⊎_elim, arith}
use Rattle.std.specs.Prelude.{◌⊎◌, AllPairs, Contains}
use Rattle.std.specs.Option.{option_map_or}
use Rattle.std.proofs.lemmas.Bool.{both_ways, and_parts, and_from, cases_eq, eqb-true, eq-eqb, ne_eqb, not-true, false≢true}
use Rattle.std.proofs.lemmas.Option.{same_Some}
use Rattle.std.proofs.lemmas.List.Elements.{All-contains}
use Rattle.jh_num.proofs.Public.{Contains_cases, Contains_tail, IsFound_from_list_any, list_any_from_Contains}
use Rattle.jh_cellcfg.specs.declared.config.CellConfig.{CellConfig}
use Rattle.jh_check.specs.Clean.{AreLinked, IsClean}
use Rattle.jh_ivshmem.specs.declared.endpoint.Endpoint.{Endpoint}
use Rattle.jh_ivshmem.specs.declared.spec.EndpointSpec.{EndpointSpec}
use Rattle.jh_ivshmem.specs.Endpoint.{raised}
use Rattle.jh_ivshmem.specs.Links.{endpoint_at}
use Rattle.jh_ivshmem.specs.Specs.{is_other}
use Rattle.jh_ivshmem.proofs.Public.{raised_spec, named_cell, named_device}
use Rattle.jh_call.specs.declared.call.Call.{Call}
use Rattle.jh_call.specs.declared.call.Call.TheVariants.{Create, Start, Loadable, Destroy}
use Rattle.jh_script.specs.declared.image.Image.{Image}
use Rattle.jh_history.specs.declared.call.OpenCall.{OpenCall}
use Rattle.jh_history.specs.declared.call.Phase.{Phase}
use Rattle.jh_history.specs.declared.call.Phase.TheVariants.{ToDecide, ToSettle, ToCreate, ToCommit, ToNote, ToNoted, ToFinish}
use Rattle.jh_history.specs.declared.device_change.DeviceChange.{DeviceChange}
use Rattle.jh_history.specs.declared.device_change.DeviceChange.TheVariants.{Join}
use Rattle.jh_history.specs.declared.entry.Entry.{Entry}
use Rattle.jh_history.specs.declared.entry.Act.{Act}
use Rattle.jh_history.specs.declared.entry.Act.TheVariants.{Irq, Commit, Decide, Settle, Note, Noted, Finish}
use Rattle.jh_history.specs.Devices.{specs_of}
use Rattle.jh_history.specs.Endpoints.{changing_by, change_by, device_change, endpoints_changed, endpoints_acted, endpoints_after}
use Rattle.jh_history.specs.Facts.{Facts}
use Rattle.jh_history.specs.Lives.{live_in}
use Rattle.jh_shape.specs.Lives.{configs_of}
use Rattle.jh_history.specs.Sound.{IsOfDevice, HasEndpoint, IsInPhase, IsSoundEndpoint, IsSound}
use Rattle.jh_history.proofs.Public.{specs_pairs, held_numbered, other_id, opened_call, call_open, spec_cell}
use Rattle.jh_laws.specs.Vectors.{PutsRegister, IsStartOrDestroyOf, Clears}
use Rattle.jh_laws.proofs.CallLemmas.{Expects, phase_of_due, phase_expects, not_same}
use Rattle.jh_history.specs.Due.{due_at, is_idle_but}
use Rattle.jh_laws.specs.Ways.{is_phase}
use Rattle.jh_laws.proofs.HeldLemmas.{found_by_id}
use Rattle.jh_laws.proofs.DevicesLemmas.{endpoint_held, endpoint_sound, cell_named}
use Rattle.jh_laws.proofs.LinkedLemmas.{IsClearing, IsQuietAt, quiet_all, is_notified, told_in, HaveLinks, AreTwoOfCell, cleared_all, joined_all}
use Rattle.jh_laws.proofs.PendingLemmas.{one_endpoint, endpoint_found}
use Rattle.jh_laws.proofs.RaiseLemmas.{Calls, IsDropped, HasBecome, IsNow, become_raised, stays_so}
use Rattle.jh_laws.proofs.WindowLemmas.{spec_is}
use Rattle.jh_history.specs.Commits.{is_commit}

-- ---- devices of one live cell

-- they are of two links
pub two_of_cell : (image : Image) (configs : List CellConfig) (config : CellConfig) → IsClean image.system configs → Contains (image.system.root ∷ configs) config → AllPairs AreTwoOfCell (specs_of config)
two_of_cell image configs config clean held =
    let numbered = held_numbered image.system configs config held in
    specs_pairs AreTwoOfCell config
    (λ l m one other below i i' kind kind'.
    let different : l ≢ m = λ same. (let no : ⊥ = omega arith in no) in
    (λ bdf. (let linked : AreLinked one other = record { one_kind = kind; other_kind = kind'; bdf = bdf } in different (clean.single held.0 config numbered l m one other i i' linked)), different))

-- each has its endpoint
pub links_of : (image : Image) (f : Facts) (config : CellConfig) → IsSound image f → Contains (image.system.root ∷ configs_of f.cells) config → HaveLinks (specs_of config) f.endpoints
links_of image f config sound held s x among there =
    let has = All-contains (HasEndpoint f.endpoints) (specs_of config) s (sound.endpoints.whole config held) among in
    ap (λ (e : Endpoint). e.spec.bdf) (same_Some x has.0 (sym there ∙ has.1)) ∙ ap (λ (t : EndpointSpec). t.bdf) has.2

-- ---- what a Commit is

-- a Commit resets the devices of the cell, or has them leave
pub record IsClear (image : Image) (f : Facts) (entry : Entry) : Type 0 where
  pub id : ℕ
  pub config : CellConfig
  pub change : DeviceChange
  pub clearing : IsClearing change
  pub lives : Contains (configs_of f.cells) config
  pub named : config.id ≡ id
  pub clears : Clears f entry id
  pub only : (k : ℕ) → Clears f entry k → k ≡ id
  pub after : endpoints_after image f entry ≡ endpoints_changed change (specs_of config) f.endpoints

-- or the devices of a new cell join
pub record IsJoin (image : Image) (f : Facts) (entry : Entry) : Type 0 where
  pub config : CellConfig
  pub none : (k : ℕ) → Clears f entry k → ⊥
  pub others : (other : CellConfig) → Contains (image.system.root ∷ configs_of f.cells) other → config.id ≢ other.id
  pub after : endpoints_after image f entry ≡ endpoints_changed Join (specs_of config) f.endpoints

-- or none changes
pub record IsIdle (image : Image) (f : Facts) (entry : Entry) : Type 0 where
  pub none : (k : ℕ) → Clears f entry k → ⊥
  pub after : endpoints_after image f entry ≡ f.endpoints

abbrev pub CommitCases : Image → Facts → Entry → Type 0
CommitCases image f entry = IsClear image f entry ⊎ IsJoin image f entry ⊎ IsIdle image f entry

-- what stands there, by the call that is open
commit_after : (image : Image) (f : Facts) (entry : Entry) (o : OpenCall) → f.call ≡ Some o → entry.act ≡ Commit
    → endpoints_after image f entry ≡ endpoints_changed (device_change o.call) (option_map_or specs_of (changing_by f.cells (Some o) Commit) []) f.endpoints
commit_after image f entry o is commits =
    ap (λ (act : Act). endpoints_changed (change_by f.call) (option_map_or specs_of (changing_by f.cells f.call act) []) (endpoints_acted image f entry.cell act)) commits
    ∙ ap (λ (c : Option OpenCall). endpoints_changed (change_by c) (option_map_or specs_of (changing_by f.cells c Commit) []) f.endpoints) is

about_of : (f : Facts) (entry : Entry) (o : OpenCall) (k : ℕ) → f.call ≡ Some o → Clears f entry k → IsStartOrDestroyOf o.call k
about_of f entry o k is clears = let P : OpenCall → Type 0 = λ c. IsStartOrDestroyOf c.call k in subst P (same_Some clears.call o (sym clears.begun ∙ is)) clears.about

clear_case : (image : Image) (f : Facts) (entry : Entry) (caller id : ℕ) (call : Call) (config : CellConfig) → IsSound image f → f.call ≡ Some (opened_call caller call ToCommit) → entry.act ≡ Commit → IsClearing (device_change call)
    → ((k : ℕ) → IsStartOrDestroyOf call k → k ≡ id) → IsStartOrDestroyOf call id → Contains (configs_of f.cells) config → config.id ≡ id
    → endpoints_after image f entry ≡ endpoints_changed (device_change call) (option_map_or specs_of (live_in f.cells id) []) f.endpoints → IsClear image f entry
clear_case image f entry caller id call config sound is commits clearing only about lives named after =
    let found : live_in f.cells id ≡ Some config = ap (live_in f.cells) (sym named) ∙ found_by_id image f.cells config sound.cells lives in
    record {
      id = id;
      config = config;
      change = device_change call;
      clearing = clearing;
      lives = lives;
      named = named;
      clears = record { call = opened_call caller call ToCommit; begun = is; about = about; commits = commits };
      only = λ k clears. only k (about_of f entry (opened_call caller call ToCommit) k is clears);
      after = after ∙ ap (λ (o : Option CellConfig). endpoints_changed (device_change call) (option_map_or specs_of o []) f.endpoints) found;
    }

same_named : (id : ℕ) (config : CellConfig) → eqb id config.id ≡ true → config.id ≡ id
same_named id config is = sym (eqb-true id config.id is)

commit_case : (image : Image) (f : Facts) (entry : Entry) (caller : ℕ) (call : Call) → IsSound image f → f.call ≡ Some (opened_call caller call ToCommit) → entry.act ≡ Commit → IsInPhase image (configs_of f.cells) f.cpu caller call ToCommit → CommitCases image f entry
commit_case image f entry caller (Start id) sound is commits phase =
    inl (clear_case image f entry caller id (Start id) phase.0 sound is commits tt (λ k about. sym about) refl phase.1 (same_named id phase.0 phase.2) (commit_after image f entry (opened_call caller (Start id) ToCommit) is commits))
commit_case image f entry caller (Destroy id) sound is commits phase =
    inl (clear_case image f entry caller id (Destroy id) phase.0 sound is commits tt (λ k about. sym about) refl phase.1 (same_named id phase.0 phase.2) (commit_after image f entry (opened_call caller (Destroy id) ToCommit) is commits))
commit_case image f entry caller (Loadable id) sound is commits phase =
    inr (inr (record { none = λ k clears. about_of f entry (opened_call caller (Loadable id) ToCommit) k is clears; after = commit_after image f entry (opened_call caller (Loadable id) ToCommit) is commits }))
commit_case image f entry caller _ sound is commits phase = absurd (false≢true phase.2)

create_case : (image : Image) (f : Facts) (entry : Entry) (caller : ℕ) (call : Call) (config : CellConfig) → f.call ≡ Some (opened_call caller call (ToCreate config)) → entry.act ≡ Commit → IsInPhase image (configs_of f.cells) f.cpu caller call (ToCreate config) → CommitCases image f entry
create_case image f entry caller (Create at) config is commits phase =
    inr (inl (record {
      config = config;
      none = λ k clears. about_of f entry (opened_call caller (Create at) (ToCreate config)) k is clears;
      others = λ other held same. other_id (image.system.root ∷ configs_of f.cells) config other phase.1.unknown held (sym same);
      after = commit_after image f entry (opened_call caller (Create at) (ToCreate config)) is commits;
    }))
create_case image f entry caller _ config is commits phase = absurd phase.0

phase_case : (image : Image) (f : Facts) (entry : Entry) (caller : ℕ) (call : Call) (phase : Phase) → IsSound image f → f.call ≡ Some (opened_call caller call phase) → entry.act ≡ Commit → IsInPhase image (configs_of f.cells) f.cpu caller call phase → Expects phase Commit → CommitCases image f entry
phase_case image f entry caller call ToCommit sound is commits holds expects = commit_case image f entry caller call sound is commits holds
phase_case image f entry caller call (ToCreate config) sound is commits holds expects = create_case image f entry caller call config is commits holds
phase_case image f entry caller call ToDecide sound is commits holds expects = absurd (not_same is_commit Commit (Decide expects.0) refl refl expects.1)
phase_case image f entry caller call (ToSettle waited) sound is commits holds expects = absurd (not_same is_commit Commit (Settle expects.0) refl refl expects.1)
phase_case image f entry caller call (ToNote id about answer) sound is commits holds expects = absurd (not_same is_commit Commit (Note id) refl refl expects)
phase_case image f entry caller call (ToNoted id about answer waited) sound is commits holds expects = absurd (not_same is_commit Commit (Noted id expects.0) refl refl expects.1)
phase_case image f entry caller call (ToFinish answer) sound is commits holds expects = absurd (not_same is_commit Commit (Finish answer) refl refl expects)

pub commit_cases : (image : Image) (f : Facts) (entry : Entry) → IsSound image f → due_at image f entry.cpu ≡ Some entry → entry.act ≡ Commit → CommitCases image f entry
commit_cases image f entry sound due commits =
    let of = phase_of_due image f entry sound due (ap is_phase commits) in
    let o : OpenCall = of.o in
    let opens = call_open image f o sound of.opens in
    let E : Act → Type 0 = Expects o.phase in
    phase_case image f entry o.caller o.call o.phase sound of.opens commits opens.phase
    (subst E commits (phase_expects image f (is_idle_but image f o.caller) o.caller o.call o.phase entry.act of.act))

-- ---- what it leaves of an endpoint

commit_puts : (image : Image) (f : Facts) (id : ℕ) (act : Act) (offset value : ℕ) (bell : Endpoint) → act ≡ Commit → PutsRegister image f id act offset value bell → ⊥
commit_puts image f id act offset value bell commits puts = let P : Act → Type 0 = λ a. PutsRegister image f id a offset value bell in subst P commits puts

-- a vector is called by the reset or the leaving of a device alone
commit_calls : (image : Image) (f : Facts) (entry : Entry) (e : Endpoint) (v : ℕ) → entry.act ≡ Commit → Calls image f entry e v
    → (v ≡ 0) × ((one : Endpoint) × Contains f.endpoints one × Clears f entry one.spec.cell × (one.state ≢ 0) × (one.spec.bdf ≡ e.spec.bdf) × (one.spec.id ≢ e.spec.id))
commit_calls image f entry e v commits (inl rings) = absurd (commit_puts image f entry.cell entry.act 0x0c rings.value rings.bell commits rings.puts)
commit_calls image f entry e v commits (inr (zero_is, tells)) =
    ⊎_elim
    (λ (state : (value : ℕ) × PutsRegister image f entry.cell entry.act 0x10 value tells.one × (value ≢ tells.one.state)). absurd (commit_puts image f entry.cell entry.act 0x10 state.0 tells.one commits state.1))
    (λ (clears : Clears f entry tells.one.spec.cell × (tells.one.state ≢ 0)). (zero_is, (tells.one, tells.there, clears.0, clears.1, tells.link, tells.other)))
    tells.changes

commit_drops : (f : Facts) (entry : Entry) (e : Endpoint) (v : ℕ) → entry.act ≡ Commit → IsDropped f entry e v → Clears f entry e.spec.cell
commit_drops f entry e v commits (inl (cell, act)) = absurd (not_same is_commit Commit (Irq e.spec.device v) refl refl (sym commits ∙ act))
commit_drops f entry e v commits (inr clears) = clears

unclear_stays : (image : Image) (f : Facts) (entry : Entry) (e : Endpoint) → entry.act ≡ Commit → ((k : ℕ) → Clears f entry k → ⊥) → HasBecome image f entry e e
unclear_stays image f entry e commits none = stays_so image f entry e (λ v call. none (commit_calls image f entry e v commits call).1.0.spec.cell (commit_calls image f entry e v commits call).1.2) (λ v drop. none e.spec.cell (commit_drops f entry e v commits drop))

-- the endpoint's configuration
owner_of : (image : Image) (f : Facts) (e : Endpoint) → IsSound image f → Contains f.endpoints e → IsOfDevice image (configs_of f.cells) e.spec
owner_of image f e sound held = All-contains (λ (o : Endpoint). IsOfDevice image (configs_of f.cells) o.spec) f.endpoints e sound.endpoints.own held

join_now : (image : Image) (f : Facts) (entry : Entry) (id n : ℕ) (e : Endpoint) → IsSound image f → entry.act ≡ Commit → endpoint_at id n f.endpoints ≡ Some e → IsJoin image f entry → IsNow image f entry id n e (endpoints_after image f entry)
join_now image f entry id n e sound commits there h =
    let own = owner_of image f e sound (endpoint_held image f id n e there) in
    let cell : own.0.id ≡ id = sym (spec_cell own.0 e.spec own.2) ∙ named_cell id n f.endpoints e there in
    record {
      endpoint = e;
      there = ap (endpoint_at id n) h.after ∙ joined_all (specs_of h.config) f.endpoints id n (λ s held same. h.others own.0 own.1 (sym (spec_cell h.config s held) ∙ same ∙ sym cell)) ∙ there;
      become = unclear_stays image f entry e commits h.none;
    }

idle_now : (image : Image) (f : Facts) (entry : Entry) (id n : ℕ) (e : Endpoint) → entry.act ≡ Commit → endpoint_at id n f.endpoints ≡ Some e → IsIdle image f entry → IsNow image f entry id n e (endpoints_after image f entry)
idle_now image f entry id n e commits there h = record { endpoint = e; there = ap (endpoint_at id n) h.after ∙ there; become = unclear_stays image f entry e commits h.none }

live_of : (image : Image) (configs : List CellConfig) (config : CellConfig) → Contains (image.system.root ∷ configs) config → (config ≡ image.system.root) ⊎ Contains configs config
live_of image configs config held = ⊎_elim (λ (root : image.system.root ≡ config). inl (sym root)) (λ (later : Contains configs config). inr later) (Contains_cases image.system.root configs config held)

-- an endpoint of the cell is that of one of its devices
pub among_specs : (image : Image) (f : Facts) (entry : Entry) (e : Endpoint) (h : IsClear image f entry) → IsSound image f → Contains f.endpoints e → e.spec.cell ≡ h.id → Contains (specs_of h.config) e.spec
among_specs image f entry e h sound held cell =
    let own = owner_of image f e sound held in
    let id : own.0.id ≡ h.config.id = sym (spec_cell own.0 e.spec own.2) ∙ cell ∙ sym h.named in
    let same : own.0 ≡ h.config = same_Some own.0 h.config (sym (cell_named image f h.config.id own.0 sound (live_of image (configs_of f.cells) own.0 own.1) id) ∙ cell_named image f h.config.id h.config sound (inr h.lives) refl) in
    let P : CellConfig → Type 0 = λ c. Contains (specs_of c) e.spec in
    subst P same own.2

told_at : (image : Image) (f : Facts) (e : Endpoint) (s : EndpointSpec) (q : Option Endpoint) → endpoint_at s.cell s.device f.endpoints ≡ q → option_map_or (λ (x : Endpoint). is_notified x 0 e) q false ≡ true → (x : Endpoint) × (endpoint_at s.cell s.device f.endpoints ≡ Some x) × (is_notified x 0 e ≡ true)
told_at image f e s None is told = absurd (false≢true told)
told_at image f e s (Some x) is told = (x, is, told)

told_calls : (image : Image) (f : Facts) (entry : Entry) (e : Endpoint) (h : IsClear image f entry) → IsSound image f → told_in (specs_of h.config) f.endpoints e ≡ true → Calls image f entry e 0
told_calls image f entry e h sound told =
    let found = IsFound_from_list_any (λ (s : EndpointSpec). option_map_or (λ (x : Endpoint). is_notified x 0 e) (endpoint_at s.cell s.device f.endpoints) false) (specs_of h.config) told in
    let s : EndpointSpec = found.0 in
    let at = told_at image f e s (endpoint_at s.cell s.device f.endpoints) refl found.1.passes in
    let x : Endpoint = at.0 in
    let parts = and_parts (not (eqb x.state 0)) (is_other x.spec.bdf x.spec.id e.spec) at.2 in
    let link = and_parts (eqb e.spec.bdf x.spec.bdf) (not (eqb e.spec.id x.spec.id)) parts.1 in
    let cell : x.spec.cell ≡ h.id = named_cell s.cell s.device f.endpoints x at.1 ∙ spec_cell h.config s found.1.among ∙ h.named in
    let P : ℕ → Type 0 = Clears f entry in
    inr (
      refl,
      record {
        one = x;
        there = endpoint_held image f s.cell s.device x at.1;
        changes = inr (subst P (sym cell) h.clears, λ same. both_ways (eqb x.state 0) (not-true (eqb x.state 0) parts.0) (eq-eqb x.state 0 same));
        link = sym (eqb-true e.spec.bdf x.spec.bdf link.0);
        other = λ same. both_ways (eqb e.spec.id x.spec.id) (not-true (eqb e.spec.id x.spec.id) link.1) (eq-eqb e.spec.id x.spec.id (sym same));
      },
    )

calls_told : (image : Image) (f : Facts) (entry : Entry) (e : Endpoint) (v : ℕ) (h : IsClear image f entry) → IsSound image f → entry.act ≡ Commit → Calls image f entry e v → (v ≡ 0) × (told_in (specs_of h.config) f.endpoints e ≡ true)
calls_told image f entry e v h sound commits call =
    let c = commit_calls image f entry e v commits call in
    let one : Endpoint = c.1.0 in
    let held = c.1.1 in
    let among = among_specs image f entry one h sound held (h.only one.spec.cell c.1.2) in
    let told : is_notified one 0 e ≡ true = and_from (not (eqb one.state 0)) (is_other one.spec.bdf one.spec.id e.spec) (ap not (ne_eqb one.state 0 c.1.3))
    (and_from (eqb e.spec.bdf one.spec.bdf) (not (eqb e.spec.id one.spec.id)) (eq-eqb e.spec.bdf one.spec.bdf (sym c.1.4)) (ap not (ne_eqb e.spec.id one.spec.id (λ same. c.1.5 (sym same))))) in (
      c.0,
      list_any_from_Contains (λ (s : EndpointSpec). option_map_or (λ (x : Endpoint). is_notified x 0 e) (endpoint_at s.cell s.device f.endpoints) false) (specs_of h.config) one.spec among
          (ap (λ (o : Option Endpoint). option_map_or (λ (x : Endpoint). is_notified x 0 e) o false) (endpoint_found image f one sound held) ∙ told),
    )

clear_become : (image : Image) (f : Facts) (entry : Entry) (e : Endpoint) (h : IsClear image f entry) (told : Bool) → IsSound image f → IsSoundEndpoint e → entry.act ≡ Commit → e.spec.cell ≢ h.id → told_in (specs_of h.config) f.endpoints e ≡ told → HasBecome image f entry e (cond told (raised 0 e) e)
clear_become image f entry e h true sound own commits other is =
    become_raised image f entry e (raised 0 e) 0 own (raised_spec 0 e) (λ v. refl) (told_calls image f entry e h sound is) (λ v call. (calls_told image f entry e v h sound commits call).0)
    (λ v drop. other (h.only e.spec.cell (commit_drops f entry e v commits drop))) (λ foreign. refl)
clear_become image f entry e h false sound own commits other is =
    stays_so image f entry e (λ v call. both_ways (told_in (specs_of h.config) f.endpoints e) is (calls_told image f entry e v h sound commits call).1) (λ v drop. other (h.only e.spec.cell (commit_drops f entry e v commits drop)))

clear_now : (image : Image) (f : Facts) (entry : Entry) (id n : ℕ) (e : Endpoint) (h : IsClear image f entry) → IsSound image f → entry.act ≡ Commit → endpoint_at id n f.endpoints ≡ Some e → e.spec.cell ≢ h.id → IsNow image f entry id n e (endpoints_after image f entry)
clear_now image f entry id n e h sound commits there other =
    let all : Contains (image.system.root ∷ configs_of f.cells) h.config = Contains_tail image.system.root (configs_of f.cells) h.config h.lives in
    let told : Bool = told_in (specs_of h.config) f.endpoints e in
    record {
      endpoint = cond told (raised 0 e) e;
      there = ap (endpoint_at id n) h.after
          ∙ cleared_all h.change (specs_of h.config) f.endpoints id n e h.clearing (λ s held same. other (named_cell id n f.endpoints e there ∙ sym same ∙ spec_cell h.config s held ∙ h.named))
          (two_of_cell image (configs_of f.cells) h.config sound.cells.clean all) (links_of image f h.config sound all) there;
      become = clear_become image f entry e h told sound (endpoint_sound image f id n e sound there) commits other refl;
    }

-- those of the cell itself are quiet then, and none of them is called
clear_quiet : (image : Image) (f : Facts) (entry : Entry) (id n : ℕ) (e : Endpoint) (h : IsClear image f entry) → IsSound image f → endpoint_at id n f.endpoints ≡ Some e → e.spec.cell ≡ h.id → IsQuietAt id n (endpoints_after image f entry)
clear_quiet image f entry id n e h sound there cell =
    let P : List Endpoint → Type 0 = IsQuietAt id n in
    subst P (sym h.after) (quiet_all h.change (specs_of h.config) f.endpoints id n h.clearing
    (inl (e.spec, among_specs image f entry e h sound (endpoint_held image f id n e there) cell, named_cell id n f.endpoints e there, named_device id n f.endpoints e there)))

uncalled : (image : Image) (f : Facts) (entry : Entry) (e : Endpoint) (v : ℕ) (h : IsClear image f entry) → IsSound image f → entry.act ≡ Commit → Contains f.endpoints e → e.spec.cell ≡ h.id → Calls image f entry e v → ⊥
uncalled image f entry e v h sound commits held cell call =
    let c = commit_calls image f entry e v commits call in
    let one : Endpoint = c.1.0 in
    let one_cell : one.spec.cell ≡ h.id = h.only one.spec.cell c.1.2 in
    let mine = spec_is h.config e.spec (among_specs image f entry e h sound held cell) in
    let its = spec_is h.config one.spec (among_specs image f entry one h sound c.1.1 one_cell) in
    let all : Contains (image.system.root ∷ configs_of f.cells) h.config = Contains_tail image.system.root (configs_of f.cells) h.config h.lives in
    let numbered = held_numbered image.system (configs_of f.cells) h.config all in
    let place : its.device.bdf ≡ mine.device.bdf = sym (ap (λ (t : EndpointSpec). t.bdf) its.is) ∙ c.1.4 ∙ ap (λ (t : EndpointSpec). t.bdf) mine.is in
    let linked : AreLinked its.device mine.device = record { one_kind = its.kind; other_kind = mine.kind; bdf = place } in
    let device : one.spec.device ≡ e.spec.device = sound.cells.clean.single all.0 h.config numbered one.spec.device e.spec.device its.device mine.device its.item mine.item linked in
    c.1.5 (ap (λ (x : Endpoint). x.spec.id) (one_endpoint image f one e sound c.1.1 held (one_cell ∙ sym cell) device))

-- behind any entry an endpoint has become another, or its cell was cleared
pub record IsCleared (image : Image) (f : Facts) (entry : Entry) (id n : ℕ) (e : Endpoint) : Type 0 where
  pub clears : Clears f entry e.spec.cell
  pub quiet : IsQuietAt id n (endpoints_after image f entry)
  pub uncalled_is : (v : ℕ) → Calls image f entry e v → ⊥

pub commit_now : (image : Image) (f : Facts) (entry : Entry) (id n : ℕ) (e : Endpoint) → IsSound image f → due_at image f entry.cpu ≡ Some entry → entry.act ≡ Commit → endpoint_at id n f.endpoints ≡ Some e
    → IsNow image f entry id n e (endpoints_after image f entry) ⊎ IsCleared image f entry id n e
commit_now image f entry id n e sound due commits there =
    ⊎_elim
    (λ (h : IsClear image f entry).
    ⊎_elim
    (λ (own : e.spec.cell ≡ h.id).
    let P : ℕ → Type 0 = Clears f entry in
    inr (record { clears = subst P (sym own) h.clears; quiet = clear_quiet image f entry id n e h sound there own; uncalled_is = λ v. uncalled image f entry e v h sound commits (endpoint_held image f id n e there) own }))
    (λ (other : e.spec.cell ≢ h.id). inl (clear_now image f entry id n e h sound commits there other))
    (cases_eq e.spec.cell h.id))
    (λ more. ⊎_elim
    (λ (h : IsJoin image f entry). inl (join_now image f entry id n e sound commits there h))
    (λ (h : IsIdle image f entry). inl (idle_now image f entry id n e commits there h))
    more)
    (commit_cases image f entry sound due commits)
