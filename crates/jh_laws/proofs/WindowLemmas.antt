-- The windows of the devices of a cell: which there are, which of those that have an access is the first, and which
-- function of the cell has an offset in configuration space.
use Rattle.std.proofs.Common.{◌≡◌, ℕ, zero, suc, ◌+◌, ◌-◌, ◌^◌, ◌<◌, List, [], ◌∷◌, ◌++◌, Bool, true, false, cond, ◌&&◌, eqb, nat_lt, Option, Some, None, refl, sym, ap, subst, ◌∙◌, inl, inr, ⊎_elim, arith}
use Rattle.std.specs.Prelude.{◌⊎◌, Contains, find, slice_get}
use Rattle.std.specs.Option.{option_map_or, option_or}
use Rattle.std.proofs.lemmas.Bool.{both_ways, and_parts, and_from, eqb-true, eq-eqb, ltb-true, cases_Bool}
use Rattle.std.proofs.lemmas.Option.{none-some, same_Some}
use Rattle.std.proofs.lemmas.List.Folds.{find-append}
use Rattle.std.proofs.lemmas.List.Elements.{Contains-append_left, Contains-append_right, Contains-append_cases}
use Rattle.jh_num.proofs.Public.{Contains_head, Contains_cases, IsFound_from_find, find_None}
use Rattle.jh_cellcfg.specs.declared.config.CellConfig.{CellConfig}
use Rattle.jh_cellcfg.specs.declared.config.PciDevice.{PciDevice}
use Rattle.jh_check.specs.Devices.{is_shmem}
use Rattle.jh_mmio.specs.declared.hitting.Window.{Window}
use Rattle.jh_vpci.specs.Space.{Space, has_vectors, window_of}
use Rattle.jh_ivshmem.specs.declared.endpoint.Endpoint.{Endpoint}
use Rattle.jh_ivshmem.specs.declared.spec.EndpointSpec.{EndpointSpec}
use Rattle.jh_ivshmem.specs.Links.{endpoint_at}
use Rattle.jh_history.specs.Devices.{is_endpoint, spec_of, specs_from, specs_of, space_window, device_windows, windows_from, number_from}

abbrev in_none : {X : Type 0} (x : X) → Contains [] x → ⊥
in_none x held = let below : held.0 < 0 = held.1 in let no : ⊥ = omega arith in no

-- the only element of a list
only : {X : Type 0} (a x : X) → Contains (a ∷ []) x → a ≡ x
only a x held = ⊎_elim (λ (same : a ≡ x). same) (λ (later : Contains [] x). absurd (in_none x later)) (Contains_cases a [] x held)

-- ---- windows of a function

-- it has none but those of BAR 0 and BAR 1
none_else : (memory vectors : Bool) (one other : Option (ℕ × ℕ)) → cond (memory && false) one (cond (memory && false && vectors) other None) ≡ None
none_else true vectors one other = refl
none_else false vectors one other = refl

pub bar_of_window : (space : Space) (bar : ℕ) (ends : ℕ × ℕ) → window_of space bar ≡ Some ends → (bar ≡ 0) ⊎ (bar ≡ 1)
bar_of_window space bar ends is = elim (cases_Bool (eqb bar 0)) [
  | inl first ↦ inl (eqb-true bar 0 first)
  | inr some ↦ elim (cases_Bool (eqb bar 1)) [
    | inl second ↦ inr (eqb-true bar 1 second)
    | inr more ↦
        let low : Option (ℕ × ℕ) = Some (space.bar0, space.bar0 + 4096) in
        let high : Option (ℕ × ℕ) = Some (space.bar1, space.bar1 + 512) in
        let none : window_of space bar ≡ None =
        ap (λ (b : Bool). cond (space.memory && b) low (cond (space.memory && eqb bar 1 && has_vectors space.spec) high None)) some
        ∙ ap (λ (b : Bool). cond (space.memory && false) low (cond (space.memory && b && has_vectors space.spec) high None)) more
        ∙ none_else space.memory (has_vectors space.spec) low high in
        absurd (none-some ends (sym none ∙ is))
  ]
]

abbrev pub window_at : ℕ → ℕ → ℕ × ℕ → Window
window_at n bar ends = record { start = ends.0; size = ends.1 - ends.0; device = n; bar = bar }

abbrev windows_by : ℕ → ℕ → Option (ℕ × ℕ) → List Window
windows_by n bar o = option_map_or (λ (ends : ℕ × ℕ). window_at n bar ends ∷ []) o []

-- ---- windows of the devices of a cell

-- the window is that of a BAR of one of these devices, of which the first has the number n
pub record IsWindowOf (cell : ℕ) (endpoints : List Endpoint) (n : ℕ) (devices : List PciDevice) (w : Window) : Type 0 where
  pub index : ℕ
  pub place : w.device ≡ n + index
  pub device : PciDevice
  pub item : slice_get devices index ≡ Some device
  pub passes : is_endpoint w.device device ≡ true
  pub endpoint : Endpoint
  pub there : endpoint_at cell w.device endpoints ≡ Some endpoint
  pub ends : ℕ × ℕ
  pub window : window_of endpoint.space w.bar ≡ Some ends
  pub is : w ≡ window_at w.device w.bar ends

-- of the first device
pub record IsWindowAt (cell : ℕ) (endpoints : List Endpoint) (n : ℕ) (device : PciDevice) (w : Window) : Type 0 where
  pub number : w.device ≡ n
  pub passes : is_endpoint n device ≡ true
  pub endpoint : Endpoint
  pub there : endpoint_at cell n endpoints ≡ Some endpoint
  pub ends : ℕ × ℕ
  pub window : window_of endpoint.space w.bar ≡ Some ends
  pub is : w ≡ window_at w.device w.bar ends

one_window : (cell : ℕ) (endpoints : List Endpoint) (n bar : ℕ) (device : PciDevice) (e : Endpoint) (w : Window) (o : Option (ℕ × ℕ)) → is_endpoint n device ≡ true → endpoint_at cell n endpoints ≡ Some e → window_of e.space bar ≡ o
    → Contains (windows_by n bar o) w → IsWindowAt cell endpoints n device w
one_window cell endpoints n bar device e w None passes there is held = absurd (in_none w held)
one_window cell endpoints n bar device e w (Some ends) passes there is held =
    let P : Window → Type 0 = IsWindowAt cell endpoints n device in
    subst P (only (window_at n bar ends) w held) (record { number = refl; passes = passes; endpoint = e; there = there; ends = ends; window = is; is = refl })

endpoint_windows : (cell : ℕ) (endpoints : List Endpoint) (n : ℕ) (device : PciDevice) (w : Window) (o : Option Endpoint) → is_endpoint n device ≡ true → endpoint_at cell n endpoints ≡ o
    → Contains (option_map_or (λ (e : Endpoint). space_window e.space n 0 ++ space_window e.space n 1) o []) w → IsWindowAt cell endpoints n device w
endpoint_windows cell endpoints n device w None passes is held = absurd (in_none w held)
endpoint_windows cell endpoints n device w (Some e) passes is held =
    ⊎_elim
    (λ (first : Contains (space_window e.space n 0) w). one_window cell endpoints n 0 device e w (window_of e.space 0) passes is refl first)
    (λ (second : Contains (space_window e.space n 1) w). one_window cell endpoints n 1 device e w (window_of e.space 1) passes is refl second)
    (Contains-append_cases (space_window e.space n 0) (space_window e.space n 1) w held)

windows_at : (cell : ℕ) (endpoints : List Endpoint) (n : ℕ) (device : PciDevice) (w : Window) (b : Bool) → is_endpoint n device ≡ b
    → Contains (cond b (option_map_or (λ (e : Endpoint). space_window e.space n 0 ++ space_window e.space n 1) (endpoint_at cell n endpoints) []) []) w → IsWindowAt cell endpoints n device w
windows_at cell endpoints n device w true is held = endpoint_windows cell endpoints n device w (endpoint_at cell n endpoints) is refl held
windows_at cell endpoints n device w false is held = absurd (in_none w held)

later_window : (cell : ℕ) (endpoints : List Endpoint) (n : ℕ) (device : PciDevice) (devices : List PciDevice) (w : Window) → IsWindowOf cell endpoints (n + 1) devices w → IsWindowOf cell endpoints n (device ∷ devices) w
later_window cell endpoints n device devices w h =
    let place : w.device ≡ (n + 1) + h.index = h.place in
    record { index = suc h.index; place = omega arith; device = h.device; item = h.item; passes = h.passes; endpoint = h.endpoint; there = h.there; ends = h.ends; window = h.window; is = h.is }

first_window : (cell : ℕ) (endpoints : List Endpoint) (n : ℕ) (device : PciDevice) (devices : List PciDevice) (w : Window) → IsWindowAt cell endpoints n device w → IsWindowOf cell endpoints n (device ∷ devices) w
first_window cell endpoints n device devices w h =
    let number : w.device ≡ n = h.number in
    record {
      index = 0;
      place = omega arith;
      device = device;
      item = refl;
      passes = ap (λ (k : ℕ). is_endpoint k device) number ∙ h.passes;
      endpoint = h.endpoint;
      there = ap (λ (k : ℕ). endpoint_at cell k endpoints) number ∙ h.there;
      ends = h.ends;
      window = h.window;
      is = h.is;
    }

pub windows_are : (cell : ℕ) (endpoints : List Endpoint) (n : ℕ) (devices : List PciDevice) (w : Window) → Contains (windows_from cell endpoints n devices) w → IsWindowOf cell endpoints n devices w
windows_are cell endpoints n [] w held = absurd (in_none w held)
windows_are cell endpoints n (device ∷ devices) w held =
    ⊎_elim
    (λ (here : Contains (device_windows cell endpoints n device) w). first_window cell endpoints n device devices w (windows_at cell endpoints n device w (is_endpoint n device) refl here))
    (λ (later : Contains (windows_from cell endpoints (n + 1) devices) w). later_window cell endpoints n device devices w (windows_are cell endpoints (n + 1) devices w later))
    (Contains-append_cases (device_windows cell endpoints n device) (windows_from cell endpoints (n + 1) devices) w held)

-- each enabled window is one of them
own_window : (space : Space) (n bar : ℕ) (ends : ℕ × ℕ) → window_of space bar ≡ Some ends → Contains (space_window space n bar) (window_at n bar ends)
own_window space n bar ends is =
    let P : Option (ℕ × ℕ) → Type 0 = λ o. Contains (windows_by n bar o) (window_at n bar ends) in
    subst P (sym is) (Contains_head (window_at n bar ends) [])

both_windows : (space : Space) (n bar : ℕ) (ends : ℕ × ℕ) → window_of space bar ≡ Some ends → Contains (space_window space n 0 ++ space_window space n 1) (window_at n bar ends)
both_windows space n bar ends is =
    let own = own_window space n bar ends is in
    let P : ℕ → Type 0 = λ b. Contains (space_window space n b) (window_at n bar ends) in
    ⊎_elim
    (λ (first : bar ≡ 0). Contains-append_left (space_window space n 0) (space_window space n 1) (window_at n bar ends) (subst P first own))
    (λ (second : bar ≡ 1). Contains-append_right (space_window space n 0) (space_window space n 1) (window_at n bar ends) (subst P second own))
    (bar_of_window space bar ends is)

device_window : (cell : ℕ) (endpoints : List Endpoint) (n bar : ℕ) (device : PciDevice) (e : Endpoint) (ends : ℕ × ℕ) → is_endpoint n device ≡ true → endpoint_at cell n endpoints ≡ Some e → window_of e.space bar ≡ Some ends
    → Contains (device_windows cell endpoints n device) (window_at n bar ends)
device_window cell endpoints n bar device e ends passes there is =
    let P : Bool → Type 0 = λ b. Contains (cond b (option_map_or (λ (o : Endpoint). space_window o.space n 0 ++ space_window o.space n 1) (endpoint_at cell n endpoints) []) []) (window_at n bar ends) in
    let Q : Option Endpoint → Type 0 = λ o. Contains (option_map_or (λ (p : Endpoint). space_window p.space n 0 ++ space_window p.space n 1) o []) (window_at n bar ends) in
    subst P (sym passes) (subst Q (sym there) (both_windows e.space n bar ends is))

pub windows_have : (cell : ℕ) (endpoints : List Endpoint) (n index number bar : ℕ) (devices : List PciDevice) (device : PciDevice) (e : Endpoint) (ends : ℕ × ℕ) → number ≡ n + index → slice_get devices index ≡ Some device → is_endpoint number device ≡ true
    → endpoint_at cell number endpoints ≡ Some e → window_of e.space bar ≡ Some ends → Contains (windows_from cell endpoints n devices) (window_at number bar ends)
windows_have cell endpoints n index number bar [] device e ends place item passes there is = absurd (none-some device item)
windows_have cell endpoints n zero number bar (first ∷ devices) device e ends place item passes there is =
    let same : n ≡ number = omega arith in
    let own : first ≡ device = same_Some first device item in
    let P : ℕ → Type 0 = λ k. Contains (device_windows cell endpoints k first) (window_at number bar ends) in
    let Q : PciDevice → Type 0 = λ d. Contains (device_windows cell endpoints number d) (window_at number bar ends) in
    Contains-append_left (device_windows cell endpoints n first) (windows_from cell endpoints (n + 1) devices) (window_at number bar ends)
    (subst P (sym same) (subst Q (sym own) (device_window cell endpoints number bar device e ends passes there is)))
windows_have cell endpoints n (suc index) number bar (first ∷ devices) device e ends place item passes there is =
    Contains-append_right (device_windows cell endpoints n first) (windows_from cell endpoints (n + 1) devices) (window_at number bar ends)
    (windows_have cell endpoints (n + 1) index number bar devices device e ends (omega arith) item passes there is)

-- ---- the first that passes

-- the one comes before the other: it is of a lower device, or of a lower BAR of the same one
abbrev pub IsLower : ℕ → ℕ → ℕ → ℕ → Type 0
IsLower n bar m other = (n < m) ⊎ ((n ≡ m) × (bar < other))

abbrev pub IsFirst : Window → Window → Type 0
IsFirst w x = (w ≡ x) ⊎ IsLower w.device w.bar x.device x.bar

single_first : (p : Window → Bool) (a w x : Window) → find p (a ∷ []) ≡ Some w → Contains (a ∷ []) x → IsFirst w x
single_first p a w x found held = inl (sym (only a w (IsFound_from_find p (a ∷ []) w found).among) ∙ only a x held)

two_first : (p : Window → Bool) (n : ℕ) (a b : ℕ × ℕ) (w x : Window) (passes : Bool) → p (window_at n 0 a) ≡ passes
    → cond passes (Some (window_at n 0 a)) (find p (window_at n 1 b ∷ [])) ≡ Some w → (window_at n 0 a ≡ x) ⊎ Contains (window_at n 1 b ∷ []) x → p x ≡ true → IsFirst w x
two_first p n a b w x true is found held passed =
    let own : window_at n 0 a ≡ w = same_Some (window_at n 0 a) w found in
    let P : Window → Type 0 = λ v. IsFirst v x in
    subst P own
    (⊎_elim
    (λ (same : window_at n 0 a ≡ x). inl same)
    (λ (later : Contains (window_at n 1 b ∷ []) x).
    let Q : Window → Type 0 = λ v. IsFirst (window_at n 0 a) v in
    subst Q (only (window_at n 1 b) x later) (inr (inr (refl, omega arith))))
    held)
two_first p n a b w x false is found held passed =
    ⊎_elim
    (λ (same : window_at n 0 a ≡ x). absurd (both_ways (p x) (ap p (sym same) ∙ is) passed))
    (λ (later : Contains (window_at n 1 b ∷ []) x). single_first p (window_at n 1 b) w x found later)
    held

space_first : (p : Window → Bool) (n : ℕ) (w x : Window) (o q : Option (ℕ × ℕ)) → find p (windows_by n 0 o ++ windows_by n 1 q) ≡ Some w → Contains (windows_by n 0 o ++ windows_by n 1 q) x → p x ≡ true → IsFirst w x
space_first p n w x None None found held passed = absurd (none-some w found)
space_first p n w x None (Some b) found held passed = single_first p (window_at n 1 b) w x found held
space_first p n w x (Some a) None found held passed = single_first p (window_at n 0 a) w x found held
space_first p n w x (Some a) (Some b) found held passed =
    two_first p n a b w x (p (window_at n 0 a)) refl found (Contains_cases (window_at n 0 a) (window_at n 1 b ∷ []) x held) passed

endpoint_first : (p : Window → Bool) (n : ℕ) (w x : Window) (o : Option Endpoint) → find p (option_map_or (λ (e : Endpoint). space_window e.space n 0 ++ space_window e.space n 1) o []) ≡ Some w
    → Contains (option_map_or (λ (e : Endpoint). space_window e.space n 0 ++ space_window e.space n 1) o []) x → p x ≡ true → IsFirst w x
endpoint_first p n w x None found held passed = absurd (none-some w found)
endpoint_first p n w x (Some e) found held passed = space_first p n w x (window_of e.space 0) (window_of e.space 1) found held passed

device_first : (p : Window → Bool) (cell : ℕ) (endpoints : List Endpoint) (n : ℕ) (w x : Window) (b : Bool)
    → find p (cond b (option_map_or (λ (e : Endpoint). space_window e.space n 0 ++ space_window e.space n 1) (endpoint_at cell n endpoints) []) []) ≡ Some w
    → Contains (cond b (option_map_or (λ (e : Endpoint). space_window e.space n 0 ++ space_window e.space n 1) (endpoint_at cell n endpoints) []) []) x → p x ≡ true → IsFirst w x
device_first p cell endpoints n w x true found held passed = endpoint_first p n w x (endpoint_at cell n endpoints) found held passed
device_first p cell endpoints n w x false found held passed = absurd (none-some w found)

first_by : (p : Window → Bool) (cell : ℕ) (endpoints : List Endpoint) (n : ℕ) (device : PciDevice) (devices : List PciDevice) (w x : Window) (o : Option Window)
    → find p (device_windows cell endpoints n device) ≡ o → option_or o (find p (windows_from cell endpoints (n + 1) devices)) ≡ Some w
    → Contains (device_windows cell endpoints n device) x ⊎ Contains (windows_from cell endpoints (n + 1) devices) x → p x ≡ true
    → (find p (windows_from cell endpoints (n + 1) devices) ≡ Some w → Contains (windows_from cell endpoints (n + 1) devices) x → IsFirst w x) → IsFirst w x
first_by p cell endpoints n device devices w x (Some v) is found held passed rest =
    let own : find p (device_windows cell endpoints n device) ≡ Some w = is ∙ found in
    ⊎_elim
    (λ (here : Contains (device_windows cell endpoints n device) x). device_first p cell endpoints n w x (is_endpoint n device) own here passed)
    (λ (later : Contains (windows_from cell endpoints (n + 1) devices) x).
    let first = windows_at cell endpoints n device w (is_endpoint n device) refl (IsFound_from_find p (device_windows cell endpoints n device) w own).among in
    let number : w.device ≡ n = first.number in
    let second = windows_are cell endpoints (n + 1) devices x later in
    let place : x.device ≡ (n + 1) + second.index = second.place in
    inr (inl (omega arith)))
    held
first_by p cell endpoints n device devices w x None is found held passed rest =
    ⊎_elim
    (λ (here : Contains (device_windows cell endpoints n device) x). absurd (both_ways (p x) (find_None p (device_windows cell endpoints n device) x is here) passed))
    (λ (later : Contains (windows_from cell endpoints (n + 1) devices) x). rest found later)
    held

pub windows_first : (p : Window → Bool) (cell : ℕ) (endpoints : List Endpoint) (n : ℕ) (devices : List PciDevice) (w x : Window) → find p (windows_from cell endpoints n devices) ≡ Some w → Contains (windows_from cell endpoints n devices) x → p x ≡ true → IsFirst w x
windows_first p cell endpoints n [] w x found held passed = absurd (none-some w found)
windows_first p cell endpoints n (device ∷ devices) w x found held passed =
    first_by p cell endpoints n device devices w x (find p (device_windows cell endpoints n device)) refl
    (sym (find-append p (device_windows cell endpoints n device) (windows_from cell endpoints (n + 1) devices)) ∙ found)
    (Contains-append_cases (device_windows cell endpoints n device) (windows_from cell endpoints (n + 1) devices) x held) passed
    (λ later there. windows_first p cell endpoints (n + 1) devices w x later there passed)

-- ---- devices that have endpoints

-- the endpoint is that of one of these devices of the cell, of which the first has the number n
pub record IsSpecAt (config : CellConfig) (n : ℕ) (devices : List PciDevice) (spec : EndpointSpec) : Type 0 where
  pub index : ℕ
  pub place : spec.device ≡ n + index
  pub device : PciDevice
  pub item : slice_get devices index ≡ Some device
  pub passes : is_endpoint spec.device device ≡ true
  pub is : spec ≡ spec_of config spec.device device

later_spec : (config : CellConfig) (n : ℕ) (device : PciDevice) (devices : List PciDevice) (spec : EndpointSpec) → IsSpecAt config (n + 1) devices spec → IsSpecAt config n (device ∷ devices) spec
later_spec config n device devices spec h =
    let place : spec.device ≡ (n + 1) + h.index = h.place in
    record { index = suc h.index; place = omega arith; device = h.device; item = h.item; passes = h.passes; is = h.is }

spec_by : (config : CellConfig) (n : ℕ) (device : PciDevice) (devices : List PciDevice) (spec : EndpointSpec) (b : Bool) → is_endpoint n device ≡ b → (Contains (specs_from config (n + 1) devices) spec → IsSpecAt config (n + 1) devices spec)
    → Contains (cond b (spec_of config n device ∷ specs_from config (n + 1) devices) (specs_from config (n + 1) devices)) spec → IsSpecAt config n (device ∷ devices) spec
spec_by config n device devices spec true is later held =
    ⊎_elim
    (λ (same : spec_of config n device ≡ spec).
    let P : EndpointSpec → Type 0 = IsSpecAt config n (device ∷ devices) in
    subst P same (record { index = 0; place = omega arith; device = device; item = refl; passes = is; is = refl }))
    (λ (there : Contains (specs_from config (n + 1) devices) spec). later_spec config n device devices spec (later there))
    (Contains_cases (spec_of config n device) (specs_from config (n + 1) devices) spec held)
spec_by config n device devices spec false is later held = later_spec config n device devices spec (later held)

spec_from : (config : CellConfig) (n : ℕ) (devices : List PciDevice) (spec : EndpointSpec) → Contains (specs_from config n devices) spec → IsSpecAt config n devices spec
spec_from config n [] spec held = absurd (in_none spec held)
spec_from config n (device ∷ devices) spec held = spec_by config n device devices spec (is_endpoint n device) refl (λ later. spec_from config (n + 1) devices spec later) held

-- it is that of an ivshmem device of the cell
pub record IsSpecOf (config : CellConfig) (spec : EndpointSpec) : Type 0 where
  pub device : PciDevice
  pub item : slice_get config.pci_devices spec.device ≡ Some device
  pub kind : device.kind ≡ 3
  pub few : spec.device < 2 ^ 32
  pub is : spec ≡ spec_of config spec.device device

pub spec_is : (config : CellConfig) (spec : EndpointSpec) → Contains (specs_of config) spec → IsSpecOf config spec
unfolding specs_of
spec_is config spec held =
    let h = spec_from config 0 config.pci_devices spec held in
    let place : spec.device ≡ 0 + h.index = h.place in
    let index : h.index ≡ spec.device = omega arith in
    let parts = and_parts (nat_lt spec.device (2 ^ 32)) (is_shmem h.device) h.passes in
    record {
      device = h.device;
      item = ap (slice_get config.pci_devices) (sym index) ∙ h.item;
      kind = eqb-true h.device.kind 3 parts.1;
      few = ltb-true spec.device (2 ^ 32) parts.0;
      is = h.is;
    }

-- ---- functions

-- the number is that of one of these devices, of which the first has the number n: an ivshmem device with that bdf
pub record IsFunction (bdf n : ℕ) (devices : List PciDevice) (number : ℕ) : Type 0 where
  pub index : ℕ
  pub place : number ≡ n + index
  pub device : PciDevice
  pub item : slice_get devices index ≡ Some device
  pub passes : is_endpoint number device ≡ true
  pub has : device.bdf ≡ bdf

later_function : (bdf n : ℕ) (device : PciDevice) (devices : List PciDevice) (number : ℕ) → IsFunction bdf (n + 1) devices number → IsFunction bdf n (device ∷ devices) number
later_function bdf n device devices number h =
    let place : number ≡ (n + 1) + h.index = h.place in
    record { index = suc h.index; place = omega arith; device = h.device; item = h.item; passes = h.passes; has = h.has }

function_by : (bdf n : ℕ) (device : PciDevice) (devices : List PciDevice) (number : ℕ) (b : Bool) → (is_endpoint n device && eqb device.bdf bdf) ≡ b → cond b (Some n) (number_from bdf (n + 1) devices) ≡ Some number
    → (number_from bdf (n + 1) devices ≡ Some number → IsFunction bdf (n + 1) devices number) → IsFunction bdf n (device ∷ devices) number
function_by bdf n device devices number true is found rest =
    let parts = and_parts (is_endpoint n device) (eqb device.bdf bdf) is in
    let P : ℕ → Type 0 = IsFunction bdf n (device ∷ devices) in
    subst P (same_Some n number found) (record { index = 0; place = omega arith; device = device; item = refl; passes = parts.0; has = eqb-true device.bdf bdf parts.1 })
function_by bdf n device devices number false is found rest = later_function bdf n device devices number (rest found)

pub function_found : (bdf n : ℕ) (devices : List PciDevice) (number : ℕ) → number_from bdf n devices ≡ Some number → IsFunction bdf n devices number
function_found bdf n [] number found = absurd (none-some number found)
function_found bdf n (device ∷ devices) number found =
    function_by bdf n device devices number (is_endpoint n device && eqb device.bdf bdf) refl found (λ later. function_found bdf (n + 1) devices number later)

some_by : (n : ℕ) (b : Bool) (o : Option ℕ) → ((m : ℕ) × (o ≡ Some m)) → (m : ℕ) × (cond b (Some n) o ≡ Some m)
some_by n true o later = (n, refl)
some_by n false o later = later

pub function_some : (bdf n index number : ℕ) (devices : List PciDevice) (device : PciDevice) → number ≡ n + index → slice_get devices index ≡ Some device → is_endpoint number device ≡ true → device.bdf ≡ bdf → (m : ℕ) × (number_from bdf n devices ≡ Some m)
function_some bdf n index number [] device place item passes has = absurd (none-some device item)
function_some bdf n zero number (first ∷ devices) device place item passes has =
    let same : n ≡ number = omega arith in
    let own : first ≡ device = same_Some first device item in
    let here : (is_endpoint n first && eqb first.bdf bdf) ≡ true =
    ap (λ (d : PciDevice). is_endpoint n d && eqb d.bdf bdf) own ∙ ap (λ (k : ℕ). is_endpoint k device && eqb device.bdf bdf) same
    ∙ and_from (is_endpoint number device) (eqb device.bdf bdf) passes (eq-eqb device.bdf bdf has) in
    (n, ap (λ (b : Bool). cond b (Some n) (number_from bdf (n + 1) devices)) here)
function_some bdf n (suc index) number (first ∷ devices) device place item passes has =
    some_by n (is_endpoint n first && eqb first.bdf bdf) (number_from bdf (n + 1) devices) (function_some bdf (n + 1) index number devices device (omega arith) item passes has)
