-- The endpoints of a sound board: at opening, and over each act.
use Rattle.std.proofs.Common.{◌≡◌, ◌≢◌, ℕ, ◌<◌, ◌%◌, ◌^◌, Bool, true, false, eqb, ◌==◌, List, [], ◌∷◌, ◌++◌, map, filter, find, fold, get_or, All, AllPairs, Contains, Option, Some, None, option_and_then, option_map, refl, sym, ap, subst, ◌∙◌, ⊎_elim, arith}
use Rattle.std.specs.Option.{option_map_or}
use Rattle.std.proofs.lemmas.Bool.{both_ways, and_parts, and_left, ne_eqb, eqb-true, eq-eqb, not-true, not_from_false, or_parts}
use Rattle.std.proofs.lemmas.List.Elements.{All-nil, All-contains, Contains-get_or, Contains-append_left, Contains-push, Contains-push_cases}
use Rattle.jh_num.proofs.Public.{Contains_head, Contains_tail, Contains_cases, Contains_map, Contains_from_map, Contains_filter, IsFound_from_find, IsFound_from_filter, find_some, find_None}
use Rattle.jh_cellcfg.specs.declared.config.CellConfig.{CellConfig}
use Rattle.jh_cellcfg.specs.declared.live.Live.{Live}
use Rattle.jh_cellcfg.specs.Lives.{has_id}
use Rattle.jh_check.specs.Clean.{IsClean}
use Rattle.jh_check.specs.Refusals.{is_known, AreTwo}
use Rattle.jh_call.specs.declared.call.Call.{Call}
use Rattle.jh_call.specs.declared.call.Call.TheVariants.{Create, Start, Loadable, Destroy, Info, State, CpuInfo, CpuOff, CpuOn, Affinity, Unknown}
use Rattle.jh_ivshmem.specs.declared.endpoint.Endpoint.{Endpoint}
use Rattle.jh_ivshmem.specs.declared.spec.EndpointSpec.{EndpointSpec}
use Rattle.jh_ivshmem.specs.Specs.{AreEndpointsApart, is_device}
use Rattle.jh_ivshmem.specs.Links.{configured, endpoint_at, written}
use Rattle.jh_ivshmem.proofs.Public.{device_turned, own_device}
use Rattle.jh_script.specs.declared.image.Image.{Image}
use Rattle.jh_history.specs.declared.access.Reach.{Reach}
use Rattle.jh_history.specs.declared.access.Reach.TheVariants.{Memory, Subpage, Config, Window, Nothing}
use Rattle.jh_history.specs.declared.access.Access.TheVariants.{Write as ToWrite}
use Rattle.jh_history.specs.declared.call.OpenCall.{OpenCall}
use Rattle.jh_history.specs.declared.call.Phase.{Phase}
use Rattle.jh_history.specs.declared.call.Phase.TheVariants.{ToDecide, ToSettle, ToCreate, ToCommit, ToNote, ToNoted, ToFinish}
use Rattle.jh_history.specs.declared.device_change.DeviceChange.TheVariants.{Join, Reset, Leave}
use Rattle.jh_history.specs.declared.entry.Entry.{Entry}
use Rattle.jh_history.specs.declared.entry.Act.{Act}
use Rattle.jh_history.specs.declared.entry.Act.TheVariants.{Read, Write, Fetch, Await, Irq, Hvc, Begin, Stop, Decide, Settle, Commit, Note, Noted, Finish}
use Rattle.jh_history.specs.Facts.{Facts}
use Rattle.jh_history.specs.Lives.{live_in}
use Rattle.jh_vpci.specs.Writes.{written as config_written}
use Rattle.jh_history.specs.Devices.{Devices, InConfig, number_at, specs_of}
use Rattle.jh_history.specs.Endpoints.{endpoints_put, function_put, endpoints_acted, endpoints_changed, endpoints_after, device_change, changing, changing_by, change_by}
use Rattle.jh_history.specs.Grants.{reach, devices_of}
use Rattle.jh_history.specs.Commits.{committed_cells, cells_by, is_other}
use Rattle.jh_shape.specs.Lives.{configs_of, marked}
use Rattle.jh_shape.proofs.Public.{configs_marked}
use Rattle.jh_history.specs.History.{cells_after}
use Rattle.jh_history.specs.Sound.{AreSoundCells, IsInPhase, IsSoundCall, IsOfDevice, HasEndpoint, IsSoundEndpoint, AreEndpoints, IsSound}
use Rattle.jh_history.proofs.SoundCpusLemmas.{other_root}
use Rattle.jh_history.proofs.SoundCommitLemmas.{is_other_config, configs_others, configs_joined}
use Rattle.jh_history.proofs.SpecsLemmas.{specs_device, specs_within, specs_apart, specs_apart_new, held_numbered}
use Rattle.jh_history.proofs.LinkLemmas.{AreRow, HaveJoined, HaveLeft, IsBeside, one_of_pairs, all_join, all_leave}
use Rattle.jh_history.proofs.EndpointLemmas.{specs_in, placed, without, Follow, follow_same, follow_option, follow_space, follow_written, follow_taken, follow_reset, specs_join, sound_join, specs_leave, sound_leave}

-- ---- what is fixed of the endpoints

-- these are those of the devices of root and of the cells, apart and in order
record AreSpecs (image : Image) (configs : List CellConfig) (specs : List EndpointSpec) : Type 0 where
  own : (s : EndpointSpec) → Contains specs s → IsOfDevice image configs s
  whole : (config : CellConfig) → Contains (image.system.root ∷ configs) config → (s : EndpointSpec) → Contains (specs_of config) s → Contains specs s
  row : AreRow specs

-- one device has one endpoint
one_device : (specs : List EndpointSpec) (a b : EndpointSpec) → AllPairs AreEndpointsApart specs → Contains specs a → Contains specs b → is_device a.cell a.device b ≡ true → a ≡ b
one_device specs a b apart has_a has_b is =
    one_of_pairs AreEndpointsApart (λ (x y : EndpointSpec). is_device x.cell x.device y ≡ true)
    (λ x y two same. both_ways (is_device x.cell x.device y) two.devices same)
    (λ x y same. sym (device_turned x y) ∙ same)
    specs a b apart has_a has_b is

specs_of_them : (image : Image) (configs : List CellConfig) (list : List Endpoint) → AreEndpoints image configs list → AreSpecs image configs (specs_in list)
specs_of_them image configs list are = record {
  own = λ s h.
      let P : EndpointSpec → Type 0 = IsOfDevice image configs in
      let from = Contains_from_map (λ (e : Endpoint). e.spec) list s h in
      subst P from.2 (All-contains (λ (e : Endpoint). P e.spec) list from.0 are.own from.1);
  whole = λ config held s h.
      let has = All-contains (HasEndpoint list) (specs_of config) s (are.whole config held) h in
      let found = IsFound_from_find (λ (e : Endpoint). is_device s.cell s.device e.spec) list has.0 has.1 in
      subst (Contains (specs_in list)) has.2 (Contains_map (λ (e : Endpoint). e.spec) list has.0 found.among);
  row = record { apart = are.apart; order = are.order };
}

-- the endpoint of a device is there where what is fixed of it is
has_by : (list : List Endpoint) (s : EndpointSpec) → AllPairs AreEndpointsApart (specs_in list) → Contains (specs_in list) s → HasEndpoint list s
has_by list s apart h =
    let test : Endpoint → Bool = λ e. is_device s.cell s.device e.spec in
    let from = Contains_from_map (λ (e : Endpoint). e.spec) list s h in
    let passes : test from.0 ≡ true = ap (λ (x : EndpointSpec). is_device s.cell s.device x) from.2 ∙ own_device s in
    let some = find_some test list from.0 from.1 passes in
    let found = IsFound_from_find test list some.0 some.1 in
    (some.0, some.1, sym (one_device (specs_in list) s some.0.spec apart h (Contains_map (λ (e : Endpoint). e.spec) list some.0 found.among) found.passes))

them_of_specs : (image : Image) (configs : List CellConfig) (list : List Endpoint) → AreSpecs image configs (specs_in list) → All IsSoundEndpoint list → AreEndpoints image configs list
them_of_specs image configs list are sound = record {
  own = λ k d lt. are.own (get_or list k d).spec (Contains_map (λ (e : Endpoint). e.spec) list (get_or list k d) (Contains-get_or list k d lt));
  whole = λ config held k d lt.
      let s : EndpointSpec = get_or (specs_of config) k d in
      has_by list s are.row.apart (are.whole config held s (Contains-get_or (specs_of config) k d lt));
  apart = are.row.apart;
  order = are.row.order;
  sound = sound;
}

-- ---- they are the same ones

endpoints_follow : (image : Image) (configs : List CellConfig) (old new : List Endpoint) → Follow old new → AreEndpoints image configs old → AreEndpoints image configs new
endpoints_follow image configs old new follow are =
    let P : List EndpointSpec → Type 0 = AreSpecs image configs in
    them_of_specs image configs new (subst P (sym follow.specs) (specs_of_them image configs old are)) (follow.sound are.sound)

-- two of one device
same_device : (cell n : ℕ) (a b : EndpointSpec) → is_device cell n a ≡ true → is_device cell n b ≡ true → is_device a.cell a.device b ≡ true
same_device cell n a b is_a is_b =
    let parts = and_parts (a.cell == cell) (a.device == n) is_a in
    let a_cell : a.cell ≡ cell = eqb-true a.cell cell parts.0 in
    let a_device : a.device ≡ n = eqb-true a.device n parts.1 in
    ap (λ (c : ℕ). is_device c a.device b) a_cell ∙ ap (λ (d : ℕ). is_device cell d b) a_device ∙ is_b

-- a write to configuration space
function_follow : (devices : Devices) (bytes : InConfig) (value n : ℕ) (o : Option Endpoint) → AllPairs AreEndpointsApart (specs_in devices.endpoints) → endpoint_at devices.cell n devices.endpoints ≡ o
    → Follow devices.endpoints (option_map_or (λ (e : Endpoint). configured devices.cell n (config_written e.space (bytes.at % 4096) bytes.width (value % 2 ^ 32)) devices.endpoints) o devices.endpoints)
function_follow devices bytes value n None apart is = follow_same devices.endpoints
function_follow devices bytes value n (Some e) apart is =
    let list : List Endpoint = devices.endpoints in
    let found = IsFound_from_find (λ (x : Endpoint). is_device devices.cell n x.spec) list e is in
    follow_space devices.cell n e (bytes.at % 4096) bytes.width (value % 2 ^ 32) list found.among
    (λ x held passes.
    one_device (specs_in list) x.spec e.spec apart
    (Contains_map (λ (y : Endpoint). y.spec) list x held)
    (Contains_map (λ (y : Endpoint). y.spec) list e found.among)
    (same_device devices.cell n x.spec e.spec passes found.passes))

-- a write that reaches a device
put_follow : (devices : Devices) (found : Reach) (value : ℕ) → AllPairs AreEndpointsApart (specs_in devices.endpoints) → Follow devices.endpoints (endpoints_put devices found value)
put_follow devices (Config bytes) value apart =
    follow_option (number_at devices bytes.at) (function_put devices bytes value) devices.endpoints devices.endpoints
    (λ n. function_follow devices bytes value n (endpoint_at devices.cell n devices.endpoints) apart refl)
    (follow_same devices.endpoints)
put_follow devices (Window register) value apart =
    follow_option (endpoint_at devices.cell register.device devices.endpoints)
    (λ (e : Endpoint). written e register.bar register.at (value % 2 ^ 32) devices.endpoints) devices.endpoints devices.endpoints
    (λ e. follow_written e register.bar register.at (value % 2 ^ 32) devices.endpoints)
    (follow_same devices.endpoints)
put_follow devices (Memory places) value apart = follow_same devices.endpoints
put_follow devices (Subpage places) value apart = follow_same devices.endpoints
put_follow devices Nothing value apart = follow_same devices.endpoints

-- what an act does to them itself
acted_follow : (image : Image) (f : Facts) (cell : ℕ) (act : Act) → AllPairs AreEndpointsApart (specs_in f.endpoints) → Follow f.endpoints (endpoints_acted image f cell act)
acted_follow image f cell (Write width at value true) apart = put_follow (devices_of image f cell) (reach image f cell ToWrite at width) value apart
acted_follow image f cell (Write width at value false) apart = follow_same f.endpoints
acted_follow image f cell (Irq device vector) apart = follow_taken cell (Some (device, vector)) f.endpoints
acted_follow image f cell (Read width at got) apart = follow_same f.endpoints
acted_follow image f cell (Fetch at got) apart = follow_same f.endpoints
acted_follow image f cell (Await width at value ok) apart = follow_same f.endpoints
acted_follow image f cell (Hvc code a b answer) apart = follow_same f.endpoints
acted_follow image f cell (Begin code a b) apart = follow_same f.endpoints
acted_follow image f cell Stop apart = follow_same f.endpoints
acted_follow image f cell (Decide refused) apart = follow_same f.endpoints
acted_follow image f cell (Settle how) apart = follow_same f.endpoints
acted_follow image f cell Commit apart = follow_same f.endpoints
acted_follow image f cell (Note id) apart = follow_same f.endpoints
acted_follow image f cell (Noted id how) apart = follow_same f.endpoints
acted_follow image f cell (Finish answer) apart = follow_same f.endpoints

-- ---- a cell comes

pub nothing_in : {X : Type 0} (x : X) → Contains [] x → ⊥
nothing_in x h = let below : h.0 < 0 = h.1 in omega arith

specs_open : (image : Image) (now : List EndpointSpec) → HaveJoined [] (specs_of image.system.root) now → AreSpecs image [] now
specs_open image now joined = record {
  own = λ s h. ⊎_elim
      (λ (old : Contains [] s). absurd (nothing_in s old))
      (λ (new : Contains (specs_of image.system.root) s). (image.system.root, Contains_head image.system.root [], new))
      (joined.from s h);
  whole = λ config held s h.
      let is_root : image.system.root ≡ config =
      ⊎_elim (λ (same : image.system.root ≡ config). same) (λ (later : Contains [] config). absurd (nothing_in config later)) (Contains_cases image.system.root [] config held) in
      joined.new s (subst (λ (c : CellConfig). Contains (specs_of c) s) (sym is_root) h);
  row = joined.row;
}

-- at opening the devices of root have joined
pub endpoints_open : (image : Image) → IsClean image.system [] → AreEndpoints image [] (endpoints_changed Join (specs_of image.system.root) [])
endpoints_open image clean =
    let specs : List EndpointSpec = specs_of image.system.root in
    let none : AreRow [] = record { apart = λ i j d before within. absurd (let no : ⊥ = omega arith in no); order = λ i j d before within. absurd (let no : ⊥ = omega arith in no) } in
    let joined = all_join [] specs none (specs_apart image.system [] 0 image.system.root clean refl) (λ x y old _. absurd (nothing_in x old)) in
    let P : List EndpointSpec → Type 0 = AreSpecs image [] in
    them_of_specs image [] (endpoints_changed Join specs [])
    (subst P (sym (specs_join specs [])) (specs_open image (fold placed [] specs) joined))
    (sound_join specs [] (specs_within image.system [] 0 image.system.root clean refl) (All-nil IsSoundEndpoint))

specs_come : (image : Image) (configs : List CellConfig) (new : CellConfig) (specs now : List EndpointSpec) → AreSpecs image configs specs → HaveJoined specs (specs_of new) now → AreSpecs image (configs ++ new ∷ []) now
specs_come image configs new specs now are joined =
    let cells : List CellConfig = image.system.root ∷ configs in
    record {
      own = λ s h. ⊎_elim
          (λ (old : Contains specs s). let of = are.own s old in (of.0, Contains-append_left cells (new ∷ []) of.0 of.1, of.2))
          (λ (later : Contains (specs_of new) s). (new, Contains-push cells new, later))
          (joined.from s h);
      whole = λ config held s h. ⊎_elim
          (λ (old : Contains cells config). joined.old s (are.whole config old s h))
          (λ (same : new ≡ config). joined.new s (subst (λ (c : CellConfig). Contains (specs_of c) s) (sym same) h))
          (Contains-push_cases cells new config held);
      row = joined.row;
    }

-- the devices of a new cell join
endpoints_come : (image : Image) (configs : List CellConfig) (new : CellConfig) (list : List Endpoint) → is_known (image.system.root ∷ configs) new ≡ false → IsClean image.system (configs ++ new ∷ []) → AreEndpoints image configs list
    → AreEndpoints image (configs ++ new ∷ []) (endpoints_changed Join (specs_of new) list)
endpoints_come image configs new list unknown clean are =
    let cells : List CellConfig = image.system.root ∷ configs in
    let all : List CellConfig = configs ++ new ∷ [] in
    let specs : List EndpointSpec = specs_of new in
    let old : AreSpecs image configs (specs_in list) = specs_of_them image configs list are in
    let held : Contains (image.system.root ∷ all) new = Contains-push cells new in
    let numbered = held_numbered image.system all new held in
    let apart : (x y : EndpointSpec) → Contains (specs_in list) x → Contains specs y → AreEndpointsApart x y = λ x y has_x has_y.
    let of = old.own x has_x in
    specs_apart_new image.system configs new of.0 x y clean unknown of.1 of.2 has_y in
    let joined = all_join (specs_in list) specs old.row (specs_apart image.system all held.0 new clean numbered) apart in
    let P : List EndpointSpec → Type 0 = AreSpecs image all in
    them_of_specs image all (endpoints_changed Join specs list)
    (subst P (sym (specs_join specs list)) (specs_come image configs new (specs_in list) (fold placed (specs_in list) specs) old joined))
    (sound_join specs list (specs_within image.system all held.0 new clean numbered) are.sound)

-- ---- a cell goes

-- these are the endpoints of the cell with the id, which isn't root
record AreOfCell (image : Image) (configs : List CellConfig) (id : ℕ) (gone : List EndpointSpec) : Type 0 where
  cell : (s : EndpointSpec) → Contains gone s → s.cell ≡ id
  other : (s : EndpointSpec) → Contains gone s → id ≢ image.system.root.id
  all : (config : CellConfig) → Contains configs config → config.id ≡ id → (s : EndpointSpec) → Contains (specs_of config) s → Contains gone s

-- an endpoint of another cell is beside them
beside_cell : (gone : List EndpointSpec) (id : ℕ) (x : EndpointSpec) → ((s : EndpointSpec) → Contains gone s → s.cell ≡ id) → ((s : EndpointSpec) → Contains gone s → x.cell ≢ id) → IsBeside gone x
unfolding IsBeside
beside_cell gone id x of other s h =
    and_left (eqb x.cell s.cell) (eqb x.device s.device) (ne_eqb x.cell s.cell (λ same. other s h (same ∙ of s h)))

-- the endpoint of a cell's device has the cell's id
pub spec_cell : (config : CellConfig) (s : EndpointSpec) → Contains (specs_of config) s → s.cell ≡ config.id
spec_cell config s h = ap (λ (x : EndpointSpec). x.cell) (specs_device config s h).is

specs_go : (image : Image) (configs : List CellConfig) (id : ℕ) (specs gone now : List EndpointSpec) → AreSpecs image configs specs → AreOfCell image configs id gone → HaveLeft specs gone now
    → AreSpecs image (filter (is_other_config id) configs) now
unfolding IsBeside
specs_go image configs id specs gone now are of left =
    let root : CellConfig = image.system.root in
    let rest : List CellConfig = filter (is_other_config id) configs in
    record {
      own = λ s h.
          let was = are.own s (left.from s h) in
          let stays : Contains configs was.0 → Contains rest was.0 = λ held.
          let other : was.0.id ≢ id = λ same. both_ways (is_device s.cell s.device s) (left.beside s h s (of.all was.0 held same s was.2)) (own_device s) in
          Contains_filter (is_other_config id) configs was.0 held (not_from_false (eqb was.0.id id) (ne_eqb was.0.id id other)) in
          let held : Contains (root ∷ rest) was.0 = ⊎_elim
          (λ (same : root ≡ was.0). subst (Contains (root ∷ rest)) same (Contains_head root rest))
          (λ (later : Contains configs was.0). Contains_tail root rest was.0 (stays later))
          (Contains_cases root configs was.0 was.1) in
          (was.0, held, was.2);
      whole = λ config held s h.
          let cell : s.cell ≡ config.id = spec_cell config s h in
          ⊎_elim
          (λ (same : root ≡ config).
          left.stay s
          (are.whole config (subst (Contains (root ∷ configs)) same (Contains_head root configs)) s h)
          (beside_cell gone id s of.cell (λ t there is. of.other t there (sym is ∙ cell ∙ ap (λ (c : CellConfig). c.id) (sym same)))))
          (λ (later : Contains rest config).
          let found = IsFound_from_filter (is_other_config id) configs config later in
          let other : config.id ≢ id = λ same. both_ways (eqb config.id id) (not-true (eqb config.id id) found.passes) (eq-eqb config.id id same) in
          left.stay s (are.whole config (Contains_tail root configs config found.among) s h) (beside_cell gone id s of.cell (λ t there is. other (sym cell ∙ is))))
          (Contains_cases root rest config held);
      row = left.row;
    }

-- two live cells with one id are one
one_cell : (image : Image) (configs : List CellConfig) (a b : CellConfig) → AreSoundCells image.system configs → Contains configs a → Contains configs b → a.id ≡ b.id → a ≡ b
one_cell image configs a b sound has_a has_b is =
    let cells : List CellConfig = image.system.root ∷ configs in
    one_of_pairs AreTwo (λ (x y : CellConfig). x.id ≡ y.id)
    (λ x y two same. both_ways (eqb x.id y.id) (or_parts (eqb x.id y.id) _ two).0 (eq-eqb x.id y.id same))
    (λ x y same. sym same)
    cells a b sound.differ (Contains_tail image.system.root configs a has_a) (Contains_tail image.system.root configs b has_b) is

of_cell_by : (image : Image) (cells : List Live) (id : ℕ) (o : Option Live) → AreSoundCells image.system (configs_of cells) → find (has_id id) cells ≡ o
    → AreOfCell image (configs_of cells) id (option_map_or specs_of (option_map (λ (live : Live). live.config) o) [])
of_cell_by image cells id None sound none = record {
  cell = λ s h. absurd (nothing_in s h);
  other = λ s h. absurd (nothing_in s h);
  all = λ config held same s h.
      let from = Contains_from_map (λ (live : Live). live.config) cells config held in
      let named : has_id id from.0 ≡ true = eq-eqb from.0.config.id id (ap (λ (c : CellConfig). c.id) from.2 ∙ same) in
      absurd (both_ways (has_id id from.0) (find_None (has_id id) cells from.0 none from.1) named);
}
of_cell_by image cells id (Some live) sound found =
    let is = IsFound_from_find (has_id id) cells live found in
    let named : live.config.id ≡ id = eqb-true live.config.id id is.passes in
    let held : Contains (configs_of cells) live.config = Contains_map (λ (l : Live). l.config) cells live is.among in
    record {
      cell = λ s h. spec_cell live.config s h ∙ named;
      other = λ s h same. other_root image.system (configs_of cells) live.config sound held (named ∙ same);
      all = λ config has same s h. subst (λ (c : CellConfig). Contains (specs_of c) s) (one_cell image (configs_of cells) config live.config sound has held (same ∙ sym named)) h;
    }

-- the devices of a cell that is destroyed leave
endpoints_go : (image : Image) (configs : List CellConfig) (id : ℕ) (gone : List EndpointSpec) (list : List Endpoint) → AreOfCell image configs id gone → AreEndpoints image configs list
    → AreEndpoints image (filter (is_other_config id) configs) (endpoints_changed Leave gone list)
endpoints_go image configs id gone list of are =
    let rest : List CellConfig = filter (is_other_config id) configs in
    let old : AreSpecs image configs (specs_in list) = specs_of_them image configs list are in
    let left = all_leave (specs_in list) gone old.row in
    let P : List EndpointSpec → Type 0 = AreSpecs image rest in
    them_of_specs image rest (endpoints_changed Leave gone list)
    (subst P (sym (specs_leave gone list)) (specs_go image configs id (specs_in list) gone (fold without (specs_in list) gone) old of left))
    (sound_leave gone list are.sound)

-- ---- each act

-- with the configurations that the cells have
endpoints_by : (image : Image) (cells : List Live) (configs : List CellConfig) (list : List Endpoint) → configs_of cells ≡ configs → AreEndpoints image configs list → AreEndpoints image (configs_of cells) list
endpoints_by image cells configs list is are = let P : List CellConfig → Type 0 = λ cs. AreEndpoints image cs list in subst P (sym is) are

-- the endpoints after the Commit of the call
abbrev committed : Facts → Call → Phase → List Endpoint
committed f call phase = endpoints_changed (device_change call) (option_map_or specs_of (changing f.cells call phase) []) f.endpoints

commit_after : (image : Image) (f : Facts) (caller : ℕ) (call : Call) (phase : Phase) → AreSoundCells image.system (configs_of f.cells) → AreEndpoints image (configs_of f.cells) f.endpoints
    → IsInPhase image (configs_of f.cells) f.cpu caller call phase → AreEndpoints image (configs_of (committed_cells call phase f.cells)) (committed f call phase)
commit_after image f caller (Create at) (ToCreate new) sound are in_phase =
    let may = in_phase.1 in
    endpoints_by image (f.cells ++ (record { config = new; loadable = false }) ∷ []) (configs_of f.cells ++ new ∷ []) (endpoints_changed Join (specs_of new) f.endpoints) (configs_joined f.cells new)
    (endpoints_come image (configs_of f.cells) new f.endpoints may.unknown may.clean are)
commit_after image f caller (Create at) ToDecide sound are in_phase = are
commit_after image f caller (Create at) (ToSettle waited) sound are in_phase = are
commit_after image f caller (Create at) ToCommit sound are in_phase = are
commit_after image f caller (Create at) (ToNote id about answer) sound are in_phase = are
commit_after image f caller (Create at) (ToNoted id about answer waited) sound are in_phase = are
commit_after image f caller (Create at) (ToFinish answer) sound are in_phase = are
commit_after image f caller (Start id) phase sound are in_phase =
    let specs : List EndpointSpec = option_map_or specs_of (live_in f.cells id) [] in
    endpoints_by image (map (marked id false) f.cells) (configs_of f.cells) (endpoints_changed Reset specs f.endpoints) (configs_marked id false f.cells)
    (endpoints_follow image (configs_of f.cells) f.endpoints (endpoints_changed Reset specs f.endpoints) (follow_reset specs f.endpoints) are)
commit_after image f caller (Loadable id) phase sound are in_phase = endpoints_by image (map (marked id true) f.cells) (configs_of f.cells) f.endpoints (configs_marked id true f.cells) are
commit_after image f caller (Destroy id) phase sound are in_phase =
    let gone : List EndpointSpec = option_map_or specs_of (live_in f.cells id) [] in
    endpoints_by image (filter (is_other id) f.cells) (filter (is_other_config id) (configs_of f.cells)) (endpoints_changed Leave gone f.endpoints) (configs_others id f.cells)
    (endpoints_go image (configs_of f.cells) id gone f.endpoints (of_cell_by image f.cells id (find (has_id id) f.cells) sound refl) are)
commit_after image f caller (Info kind) phase sound are in_phase = are
commit_after image f caller (State id) phase sound are in_phase = are
commit_after image f caller (CpuInfo i kind) phase sound are in_phase = are
commit_after image f caller CpuOff phase sound are in_phase = are
commit_after image f caller (CpuOn on) phase sound are in_phase = are
commit_after image f caller (Affinity on level) phase sound are in_phase = are
commit_after image f caller Unknown phase sound are in_phase = are

-- the endpoints after the act, where this call is open
abbrev acted_on : Image → Facts → ℕ → Option OpenCall → Act → List Endpoint
acted_on image f cell call act = endpoints_changed (change_by call) (option_map_or specs_of (changing_by f.cells call act) []) (endpoints_acted image f cell act)

-- no device joins, is reset or leaves
still : (image : Image) (f : Facts) (cell : ℕ) (call : Option OpenCall) (act : Act) → changing_by f.cells call act ≡ None → AreEndpoints image (configs_of f.cells) f.endpoints → AreEndpoints image (configs_of f.cells) (acted_on image f cell call act)
still image f cell call act none are =
    let there : List Endpoint = endpoints_acted image f cell act in
    let P : Option CellConfig → Type 0 = λ o. AreEndpoints image (configs_of f.cells) (endpoints_changed (change_by call) (option_map_or specs_of o []) there) in
    subst P (sym none) (endpoints_follow image (configs_of f.cells) f.endpoints there (acted_follow image f cell act are.apart) are)

-- an act that isn't a Commit changes the devices of no cell
abbrev nothing : OpenCall → Option CellConfig
nothing o = None

never : (call : Option OpenCall) → option_and_then nothing call ≡ None
never None = refl
never (Some o) = refl

commit_by : (image : Image) (f : Facts) (cell : ℕ) (call : Option OpenCall) → AreSoundCells image.system (configs_of f.cells) → AreEndpoints image (configs_of f.cells) f.endpoints → IsSoundCall image (configs_of f.cells) f.cpu call
    → AreEndpoints image (configs_of (cells_by call f.cells Commit)) (acted_on image f cell call Commit)
commit_by image f cell None sound are opens = are
commit_by image f cell (Some o) sound are opens = commit_after image f o.caller o.call o.phase sound are opens.phase

act_after : (image : Image) (f : Facts) (cell : ℕ) (act : Act) → IsSound image f → AreEndpoints image (configs_of (cells_by f.call f.cells act)) (acted_on image f cell f.call act)
act_after image f cell Commit sound = commit_by image f cell f.call sound.cells sound.endpoints sound.call
act_after image f cell (Read width at got) sound = still image f cell f.call (Read width at got) (never f.call) sound.endpoints
act_after image f cell (Write width at value ok) sound = still image f cell f.call (Write width at value ok) (never f.call) sound.endpoints
act_after image f cell (Fetch at got) sound = still image f cell f.call (Fetch at got) (never f.call) sound.endpoints
act_after image f cell (Await width at value ok) sound = still image f cell f.call (Await width at value ok) (never f.call) sound.endpoints
act_after image f cell (Irq device vector) sound = still image f cell f.call (Irq device vector) (never f.call) sound.endpoints
act_after image f cell (Hvc code a b answer) sound = still image f cell f.call (Hvc code a b answer) (never f.call) sound.endpoints
act_after image f cell (Begin code a b) sound = still image f cell f.call (Begin code a b) (never f.call) sound.endpoints
act_after image f cell Stop sound = still image f cell f.call Stop (never f.call) sound.endpoints
act_after image f cell (Decide refused) sound = still image f cell f.call (Decide refused) (never f.call) sound.endpoints
act_after image f cell (Settle how) sound = still image f cell f.call (Settle how) (never f.call) sound.endpoints
act_after image f cell (Note id) sound = still image f cell f.call (Note id) (never f.call) sound.endpoints
act_after image f cell (Noted id how) sound = still image f cell f.call (Noted id how) (never f.call) sound.endpoints
act_after image f cell (Finish answer) sound = still image f cell f.call (Finish answer) (never f.call) sound.endpoints

-- what is sound has the endpoints of its devices after each entry
pub endpoints_after_holds : (image : Image) (f : Facts) (entry : Entry) → IsSound image f → AreEndpoints image (configs_of (cells_after f entry)) (endpoints_after image f entry)
endpoints_after_holds image f entry sound = act_after image f entry.cell entry.act sound
