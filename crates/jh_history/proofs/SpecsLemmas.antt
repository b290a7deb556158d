-- The endpoints of cells' ivshmem devices: of which device each is, and where the check finds nothing that each is within
-- its limits, and that any two are apart, in one cell and in two.
use Rattle.std.proofs.Common.{◌≡◌, ◌≢◌, ℕ, suc, ◌+◌, ◌<◌, ◌≤◌, ◌^◌, List, [], ◌∷◌, ◌++◌, get_or, Bool, true, false, cond, ◌&&◌, nat_lt, nat_eq, eqb, Some, refl, sym, ap, subst, ◌∙◌, inl, inr, ⊎_elim, arith}
use Rattle.std.specs.Prelude.{Contains, All, AllPairs, slice_get}
use Rattle.std.specs.Cmp.Lexicographic.{pointwise}
use Rattle.std.proofs.lemmas.Bool.{both_ways, and_parts, and_left, and_right, or_parts, eqb-true, eq-eqb, ne_eqb, false_from_ne_true, cases_Bool}
use Rattle.std.proofs.lemmas.Option.{same_Some, slice_get-get_or}
use Rattle.std.proofs.lemmas.List.Elements.{All-contains_itself, Contains-push, Contains-append_left}
use Rattle.std.proofs.lemmas.List.Kept.{AllPairs-cons}
use Rattle.jh_num.proofs.Public.{Contains_cases, list_any_false}
use Rattle.jh_cellcfg.specs.declared.config.CellConfig.{CellConfig}
use Rattle.jh_cellcfg.specs.declared.config.PciDevice.{PciDevice}
use Rattle.jh_cellcfg.specs.declared.config.SystemConfig.{SystemConfig}
use Rattle.jh_cellcfg.specs.declared.region.Region.{Region}
use Rattle.jh_cellcfg.specs.Cells.{name_of}
use Rattle.jh_check.specs.Devices.{is_shmem}
use Rattle.jh_check.specs.Clean.{IsClean, IsDevice, IsShmem, AreLinked, IsSection, IsGoodDevice}
use Rattle.jh_check.specs.Laws.{IsNumbered, IsItem}
use Rattle.jh_check.specs.Refusals.{is_namesake, is_known}
use Rattle.jh_check.proofs.Public.{may_join, numbers_differ}
use Rattle.jh_ivshmem.specs.declared.spec.EndpointSpec.{EndpointSpec}
use Rattle.jh_ivshmem.specs.Specs.{IsInItsLimits, AreEndpointsApart}
use Rattle.jh_history.specs.Devices.{is_endpoint, section_at, place_of_section, spec_of, specs_from, specs_of}
use Rattle.jh_history.specs.Endpoints.{HasGoodDevices}

-- what each element has, all have
pub All_from_held : {X : Type 0} (P : X → Type 0) (xs : List X) → ((x : X) → Contains xs x → P x) → All P xs
All_from_held P xs h k d below = h (get_or xs k d) (All-contains_itself xs k d below)

-- ---- of which device an endpoint is

-- the endpoint is that of the cell's device of its number
pub record IsOfItsDevice (config : CellConfig) (spec : EndpointSpec) : Type 0 where
  pub number : ℕ
  pub device : PciDevice
  pub item : IsDevice config number device
  pub passes : is_endpoint number device ≡ true
  pub is : spec ≡ spec_of config number device

pub kind_from : (n : ℕ) (device : PciDevice) → is_endpoint n device ≡ true → IsShmem device
kind_from n device passes = eqb-true device.kind 3 (and_parts (nat_lt n (2 ^ 32)) (is_shmem device) passes).1

-- among devices of which the first has the number n
record IsAmong (config : CellConfig) (n : ℕ) (devices : List PciDevice) (spec : EndpointSpec) : Type 0 where
  pub k : ℕ
  pub number : ℕ
  pub place : number ≡ n + k
  pub device : PciDevice
  pub item : slice_get devices k ≡ Some device
  pub passes : is_endpoint number device ≡ true
  pub is : spec ≡ spec_of config number device

among_later : (config : CellConfig) (n : ℕ) (device : PciDevice) (devices : List PciDevice) (spec : EndpointSpec) → IsAmong config (n + 1) devices spec → IsAmong config n (device ∷ devices) spec
among_later config n device devices spec h = record {
  k = suc h.k;
  number = h.number;
  place = let e = h.place in omega arith;
  device = h.device;
  item = h.item;
  passes = h.passes;
  is = h.is;
}

among_by : (config : CellConfig) (n : ℕ) (device : PciDevice) (devices : List PciDevice) (spec : EndpointSpec) (b : Bool) → is_endpoint n device ≡ b
    → (Contains (specs_from config (n + 1) devices) spec → IsAmong config (n + 1) devices spec)
    → Contains (cond b (spec_of config n device ∷ specs_from config (n + 1) devices) (specs_from config (n + 1) devices)) spec → IsAmong config n (device ∷ devices) spec
among_by config n device devices spec true passes rest held =
    ⊎_elim
    (λ (same : spec_of config n device ≡ spec). record { k = 0; number = n; place = omega arith; device = device; item = refl; passes = passes; is = sym same })
    (λ (later : Contains (specs_from config (n + 1) devices) spec). among_later config n device devices spec (rest later))
    (Contains_cases (spec_of config n device) (specs_from config (n + 1) devices) spec held)
among_by config n device devices spec false passes rest held = among_later config n device devices spec (rest held)

among : (config : CellConfig) (n : ℕ) (devices : List PciDevice) (spec : EndpointSpec) → Contains (specs_from config n devices) spec → IsAmong config n devices spec
among config n [] spec held = let below = held.1 in absurd (omega arith)
among config n (device ∷ devices) spec held = among_by config n device devices spec (is_endpoint n device) refl (λ later. among config (n + 1) devices spec later) held

pub specs_device : (config : CellConfig) (spec : EndpointSpec) → Contains (specs_of config) spec → IsOfItsDevice config spec
unfolding specs_of
specs_device config spec held =
    let h = among config 0 config.pci_devices spec held in
    let place = h.place in
    let same : h.k ≡ h.number = omega arith in
    record { number = h.number; device = h.device; item = ap (slice_get config.pci_devices) (sym same) ∙ h.item; passes = h.passes; is = h.is }

-- ---- two devices of a cell

-- it holds of the endpoints of each two ivshmem devices of the cell, the lower first
abbrev OfEachTwo : (EndpointSpec → EndpointSpec → Type 0) → CellConfig → ℕ → List PciDevice → Type 0
OfEachTwo R config n devices =
    (j k : ℕ) (l m : ℕ) (one other : PciDevice) → j < k → l ≡ n + j → m ≡ n + k → slice_get devices j ≡ Some one → slice_get devices k ≡ Some other → is_endpoint l one ≡ true → is_endpoint m other ≡ true → R (spec_of config l one) (spec_of config m other)

each_later : (R : EndpointSpec → EndpointSpec → Type 0) (config : CellConfig) (n : ℕ) (first : PciDevice) (devices : List PciDevice) → OfEachTwo R config n (first ∷ devices) → OfEachTwo R config (n + 1) devices
each_later R config n first devices h j k l m one other below e f i i' p p' = h (suc j) (suc k) l m one other (omega arith) (omega arith) (omega arith) i i' p p'

pairs_by : (R : EndpointSpec → EndpointSpec → Type 0) (config : CellConfig) (n : ℕ) (first : PciDevice) (devices : List PciDevice) (b : Bool) → is_endpoint n first ≡ b → OfEachTwo R config n (first ∷ devices)
    → AllPairs R (specs_from config (n + 1) devices) → AllPairs R (cond b (spec_of config n first ∷ specs_from config (n + 1) devices) (specs_from config (n + 1) devices))
pairs_by R config n first devices true passes h rest =
    let one : EndpointSpec = spec_of config n first in
    let others : List EndpointSpec = specs_from config (n + 1) devices in
    let after : (other : EndpointSpec) → Contains others other → R one other = λ other held.
    let a = among config (n + 1) devices other held in
    let place = a.place in
    subst (R one) (sym a.is) (h 0 (suc a.k) n a.number first a.device (omega arith) (omega arith) (omega arith) refl a.item passes a.passes) in
    AllPairs-cons R one others (All_from_held (R one) others after) rest
pairs_by R config n first devices false passes h rest = rest

pairs_from : (R : EndpointSpec → EndpointSpec → Type 0) (config : CellConfig) (n : ℕ) (devices : List PciDevice) → OfEachTwo R config n devices → AllPairs R (specs_from config n devices)
pairs_from R config n [] h = λ i j d below within. absurd (omega arith)
pairs_from R config n (first ∷ devices) h = pairs_by R config n first devices (is_endpoint n first) refl h (pairs_from R config (n + 1) devices (each_later R config n first devices h))

pub specs_pairs : (R : EndpointSpec → EndpointSpec → Type 0) (config : CellConfig)
    → ((l m : ℕ) (one other : PciDevice) → l < m → IsDevice config l one → IsDevice config m other → IsShmem one → IsShmem other → R (spec_of config l one) (spec_of config m other)) → AllPairs R (specs_of config)
unfolding specs_of
specs_pairs R config h =
    pairs_from R config 0 config.pci_devices
    (λ j k l m one other below e f i i' p p'.
    let same : j ≡ l = omega arith in
    let same' : k ≡ m = omega arith in
    h l m one other (omega arith) (ap (slice_get config.pci_devices) (sym same) ∙ i) (ap (slice_get config.pci_devices) (sym same') ∙ i') (kind_from l one p) (kind_from m other p'))

-- ---- one cell in which nothing is found

-- no two ivshmem devices of the cell have the same place on the bus
abbrev pub AreSingle : CellConfig → Type 0
AreSingle config = (m n : ℕ) (one other : PciDevice) → IsDevice config m one → IsDevice config n other → AreLinked one other → m ≡ n

pub specs_apart_by : (config : CellConfig) → AreSingle config → AllPairs AreEndpointsApart (specs_of config)
specs_apart_by config single =
    specs_pairs AreEndpointsApart config
    (λ l m one other below i i' kind kind'.
    let bdfs : eqb other.bdf one.bdf ≡ false = false_from_ne_true (eqb other.bdf one.bdf) (λ same.
    let linked : AreLinked one other = record { one_kind = kind; other_kind = kind'; bdf = sym (eqb-true other.bdf one.bdf same) } in
    let e : l ≡ m = single l m one other i i' linked in
    absurd (omega arith)) in
    record {
      devices = and_right (eqb config.id config.id) (eqb m l) (ne_eqb m l (λ e. absurd (omega arith)));
      peers = and_left (eqb other.bdf one.bdf) (eqb other.shmem_dev_id one.shmem_dev_id) bdfs;
    })

pub specs_apart : (system : SystemConfig) (configs : List CellConfig) (a : ℕ) (config : CellConfig) → IsClean system configs → IsNumbered system configs a config → AllPairs AreEndpointsApart (specs_of config)
specs_apart system configs a config clean numbered = specs_apart_by config (λ m n one other i i' linked. clean.single a config numbered m n one other i i' linked)

pub devices_good : (system : SystemConfig) (configs : List CellConfig) (a : ℕ) (config : CellConfig) → IsClean system configs → IsNumbered system configs a config → HasGoodDevices config
devices_good system configs a config clean numbered k d below kind =
    clean.devices a config numbered k (get_or config.pci_devices k d) (slice_get-get_or config.pci_devices k d below) kind

pub specs_within : (system : SystemConfig) (configs : List CellConfig) (a : ℕ) (config : CellConfig) → IsClean system configs → IsNumbered system configs a config → All IsInItsLimits (specs_of config)
specs_within system configs a config clean numbered =
    All_from_held IsInItsLimits (specs_of config)
    (λ spec held.
    let h = specs_device config spec held in
    let device : PciDevice = h.device in
    let kind : IsShmem device = kind_from h.number device h.passes in
    let good : IsGoodDevice config device = clean.devices a config numbered h.number device h.item kind in
    let join = may_join system configs clean a config numbered h.number device h.item kind in
    let table : Region = join.table.0 in
    let first : device.shmem_regions_start + 0 ≡ device.shmem_regions_start = omega arith in
    let item : IsItem config (device.shmem_regions_start + 0) table = ap (slice_get config.memory_regions) first ∙ join.table.1 in
    let peers : 2 ≤ device.shmem_peers = good.peers in
    let section : IsSection config device 0 table = record { number = omega arith; item = item } in
    let some : 4096 ≤ table.size = (good.table table section).some in
    let end = join.table.3 in
    let at : place_of_section (section_at config device 0) ≡ table.phys_start = ap place_of_section item in
    subst IsInItsLimits (sym h.is) (record { id = good.own; peers = good.few; vectors = good.vectors; table = omega (arith, at, some, end) }))

-- ---- two cells

pub specs_apart_two : (system : SystemConfig) (configs : List CellConfig) (a b : ℕ) (one other : CellConfig) (s t : EndpointSpec) → IsClean system configs → a ≢ b → IsNumbered system configs a one → IsNumbered system configs b other → one.id ≢ other.id
    → Contains (specs_of one) s → Contains (specs_of other) t → AreEndpointsApart s t
specs_apart_two system configs a b one other s t clean differ numbered numbered' ids held held' =
    let h = specs_device one s held in
    let h' = specs_device other t held' in
    let d : PciDevice = h.device in
    let e : PciDevice = h'.device in
    let P : EndpointSpec → Type 0 = λ x. AreEndpointsApart x t in
    let Q : EndpointSpec → Type 0 = AreEndpointsApart (spec_of one h.number d) in
    let peers : eqb e.bdf d.bdf && eqb e.shmem_dev_id d.shmem_dev_id ≡ false = elim (cases_Bool (eqb e.bdf d.bdf)) [
      | inl same ↦
          let linked : AreLinked d e = record { one_kind = kind_from h.number d h.passes; other_kind = kind_from h'.number e h'.passes; bdf = sym (eqb-true e.bdf d.bdf same) } in
          and_right (eqb e.bdf d.bdf) (eqb e.shmem_dev_id d.shmem_dev_id)
          (ne_eqb e.shmem_dev_id d.shmem_dev_id (λ q. numbers_differ system configs clean a b one other differ numbered numbered' h.number h'.number d e h.item h'.item linked (sym q)))
      | inr apart ↦ and_left (eqb e.bdf d.bdf) (eqb e.shmem_dev_id d.shmem_dev_id) apart
    ] in
    subst P (sym h.is) (subst Q (sym h'.is) (record {
      devices = and_left (eqb other.id one.id) (eqb h'.number h.number) (ne_eqb other.id one.id (λ q. ids (sym q)));
      peers = peers;
    }))

-- a cell by its number
pub held_numbered : (system : SystemConfig) (configs : List CellConfig) (config : CellConfig) (held : Contains (system.root ∷ configs) config) → IsNumbered system configs held.0 config
held_numbered system configs config held = slice_get-get_or (system.root ∷ configs) held.0 config held.1 ∙ ap Some held.2

-- a new cell, and one that is known: where nothing is found with it, and none has its name or its id
pub other_id : (cells : List CellConfig) (new config : CellConfig) → is_known cells new ≡ false → Contains cells config → config.id ≢ new.id
other_id cells new config unknown held same =
    let none : is_namesake new config ≡ false = list_any_false (is_namesake new) cells config unknown held in
    both_ways (eqb config.id new.id) (or_parts (eqb config.id new.id) (pointwise nat_eq (name_of config) (name_of new)) none).0 (eq-eqb config.id new.id same)

pub specs_apart_new : (system : SystemConfig) (configs : List CellConfig) (new config : CellConfig) (s t : EndpointSpec) → IsClean system (configs ++ new ∷ []) → is_known (system.root ∷ configs) new ≡ false → Contains (system.root ∷ configs) config
    → Contains (specs_of config) s → Contains (specs_of new) t → AreEndpointsApart s t
specs_apart_new system configs new config s t clean unknown held own others =
    let all : List CellConfig = configs ++ new ∷ [] in
    let front : Contains (system.root ∷ all) config = Contains-append_left (system.root ∷ configs) (new ∷ []) config held in
    let back : Contains (system.root ∷ all) new = Contains-push (system.root ∷ configs) new in
    let ids : config.id ≢ new.id = other_id (system.root ∷ configs) new config unknown held in
    let differ : front.0 ≢ back.0 = λ q. ids (ap (λ (c : CellConfig). c.id)
    (same_Some config new (sym (held_numbered system all config front) ∙ ap (slice_get (system.root ∷ all)) q ∙ held_numbered system all new back))) in
    specs_apart_two system all front.0 back.0 config new s t clean differ (held_numbered system all config front) (held_numbered system all new back) ids own others
