-- What the changes of links do to the endpoint of one device of one cell.
use Rattle.std.proofs.Common.{◌≡◌, ◌≢◌, ℕ, suc, ◌<◌, List, [], ◌∷◌, Bool, true, false, cond, not, ◌&&◌, ◌||◌, eqb, length, get_or, Option, Some, None, refl, sym, ap, subst, ◌∙◌, inl, inr, ⊎_elim, arith}
use Rattle.std.specs.Prelude.{◌⊎◌, Contains, AllPairs, filter, option_map}
use Rattle.std.specs.List.{list_any}
use Rattle.std.specs.Option.{option_map_or}
use Rattle.std.proofs.lemmas.Bool.{both_ways, and_parts, and_from, and_left, and_right, cases_Bool, eqb-true, eq-eqb, ne_eqb, not-true, not_from_false, false_from_ne_true}
use Rattle.std.proofs.lemmas.Option.{none-some, same_Some}
use Rattle.std.proofs.lemmas.Grind.{common_steps}
use Rattle.jh_num.proofs.Public.{Contains_head, Contains_tail, Contains_cases, find_map, find_None, find_nothing, IsFound_from_find, IsFound_from_filter, list_any_agree, list_any_nothing, find_kept}
use Rattle.jh_ivshmem.specs.declared.endpoint.Endpoint.{Endpoint}
use Rattle.jh_ivshmem.specs.declared.spec.EndpointSpec.{EndpointSpec}
use Rattle.jh_ivshmem.specs.Specs.{is_device, is_other, is_before}
use Rattle.jh_ivshmem.specs.Changes.{changed}
use Rattle.jh_ivshmem.specs.Endpoint.{raised, cleared, fresh, vector_at, fresh_vector, fresh_vectors}
use Rattle.jh_ivshmem.specs.Links.{endpoint_at, others_raised, told_of, reset_of, left_by, joined}
use Rattle.jh_ivshmem.specs.declared.vector.Vector.{Vector}
use Rattle.jh_ivshmem.proofs.Public.{raised_spec, cleared_spec, closed_control, named_cell, named_device}
use Rattle.jh_history.specs.declared.device_change.DeviceChange.{DeviceChange}
use Rattle.jh_history.specs.declared.device_change.DeviceChange.TheVariants.{Join, Reset, Leave}
use Rattle.jh_history.specs.Endpoints.{endpoint_changed, endpoints_changed}
use Rattle.jh_laws.specs.Devices.{IsFresh}
use Rattle.jh_laws.proofs.FindLemmas.{find_agree}

-- ---- one change of those that are meant

spec_kept : (t : EndpointSpec → Bool) (g : Endpoint → Endpoint) → ((e : Endpoint) → (g e).spec ≡ e.spec) → (e : Endpoint) (b : Bool) → (cond b (g e) e).spec ≡ e.spec
spec_kept t g keeps e true = keeps e
spec_kept t g keeps e false = refl

pub endpoint_changed_holds : (id n : ℕ) (t : EndpointSpec → Bool) (g : Endpoint → Endpoint) → ((e : Endpoint) → (g e).spec ≡ e.spec) → (list : List Endpoint)
    → endpoint_at id n (changed t g list) ≡ option_map (λ (e : Endpoint). cond (t e.spec) (g e) e) (endpoint_at id n list)
unfolding changed
endpoint_changed_holds id n t g keeps list =
    let h : Endpoint → Endpoint = λ e. cond (t e.spec) (g e) e in
    find_map h (λ (e : Endpoint). is_device id n e.spec) list
    ∙ ap (option_map h) (find_agree (λ (e : Endpoint). is_device id n (h e).spec) (λ (e : Endpoint). is_device id n e.spec) list (λ e held. ap (is_device id n) (spec_kept t g keeps e (t e.spec))))

-- the endpoint that is found, after the change
pub found_changed : (id n : ℕ) (t : EndpointSpec → Bool) (g : Endpoint → Endpoint) (list : List Endpoint) (e : Endpoint) → ((o : Endpoint) → (g o).spec ≡ o.spec) → endpoint_at id n list ≡ Some e → endpoint_at id n (changed t g list) ≡ Some (cond (t e.spec) (g e) e)
found_changed id n t g list e keeps there = endpoint_changed_holds id n t g keeps list ∙ ap (option_map (λ (o : Endpoint). cond (t o.spec) (g o) o)) there

pub none_changed : (id n : ℕ) (t : EndpointSpec → Bool) (g : Endpoint → Endpoint) (list : List Endpoint) → ((o : Endpoint) → (g o).spec ≡ o.spec) → endpoint_at id n list ≡ None → endpoint_at id n (changed t g list) ≡ None
none_changed id n t g list keeps there = endpoint_changed_holds id n t g keeps list ∙ ap (option_map (λ (o : Endpoint). cond (t o.spec) (g o) o)) there

-- ---- peers are told

-- the endpoint o is told where the state of the endpoint becomes the value
abbrev pub is_notified : Endpoint → ℕ → Endpoint → Bool
is_notified e value o = not (eqb e.state value) && is_other e.spec.bdf e.spec.id o.spec

told_by : (e o : Endpoint) (value : ℕ) (list : List Endpoint) (id n : ℕ) (same : Bool) → eqb e.state value ≡ same → endpoint_at id n list ≡ Some o
    → endpoint_at id n (cond same list (others_raised e.spec list)) ≡ Some (cond (not same && is_other e.spec.bdf e.spec.id o.spec) (raised 0 o) o)
told_by e o value list id n true is there = there
told_by e o value list id n false is there = found_changed id n (is_other e.spec.bdf e.spec.id) (raised 0) list o (raised_spec 0) there

pub found_told : (e o : Endpoint) (value : ℕ) (list : List Endpoint) (id n : ℕ) → endpoint_at id n list ≡ Some o → endpoint_at id n (told_of e value list) ≡ Some (cond (is_notified e value o) (raised 0 o) o)
found_told e o value list id n there = told_by e o value list id n (eqb e.state value) refl there

untold_by : (e : Endpoint) (list : List Endpoint) (id n : ℕ) (same : Bool) → endpoint_at id n list ≡ None → endpoint_at id n (cond same list (others_raised e.spec list)) ≡ None
untold_by e list id n true there = there
untold_by e list id n false there = none_changed id n (is_other e.spec.bdf e.spec.id) (raised 0) list (raised_spec 0) there

pub none_told : (e : Endpoint) (value : ℕ) (list : List Endpoint) (id n : ℕ) → endpoint_at id n list ≡ None → endpoint_at id n (told_of e value list) ≡ None
none_told e value list id n there = untold_by e list id n (eqb e.state value) there

-- ---- a device is reset, or leaves

-- a device of a cell is another than that of the endpoint
abbrev pub Differs : ℕ → ℕ → Endpoint → Type 0
Differs id n e = id ≡ e.spec.cell → n ≡ e.spec.device → ⊥

not_device : (id n : ℕ) (e o : Endpoint) → Differs id n e → is_device id n o.spec ≡ true → is_device e.spec.cell e.spec.device o.spec ≡ false
not_device id n e o differs named =
    let own = and_parts (eqb o.spec.cell id) (eqb o.spec.device n) named in
    false_from_ne_true (is_device e.spec.cell e.spec.device o.spec)
    (λ same.
    let parts = and_parts (eqb o.spec.cell e.spec.cell) (eqb o.spec.device e.spec.device) same in
    differs (sym (eqb-true o.spec.cell id own.0) ∙ eqb-true o.spec.cell e.spec.cell parts.0) (sym (eqb-true o.spec.device n own.1) ∙ eqb-true o.spec.device e.spec.device parts.1))

pub told_spec : (b : Bool) (o : Endpoint) → (cond b (raised 0 o) o).spec ≡ o.spec
told_spec true o = raised_spec 0 o
told_spec false o = refl

found_reset : (e o : Endpoint) (list : List Endpoint) (id n : ℕ) → Differs id n e → endpoint_at id n list ≡ Some o → endpoint_at id n (reset_of e list) ≡ Some (cond (is_notified e 0 o) (raised 0 o) o)
found_reset e o list id n differs there =
    let after : Endpoint = cond (is_notified e 0 o) (raised 0 o) o in
    let named : is_device id n o.spec ≡ true = (IsFound_from_find (λ (x : Endpoint). is_device id n x.spec) list o there).passes in
    let other : is_device e.spec.cell e.spec.device after.spec ≡ false = ap (is_device e.spec.cell e.spec.device) (told_spec (is_notified e 0 o) o) ∙ not_device id n e o differs named in
    found_changed id n (is_device e.spec.cell e.spec.device) cleared (told_of e 0 list) after cleared_spec (found_told e o 0 list id n there)
    ∙ ap (λ (b : Bool). Some (cond b (cleared after) after)) other

found_left : (e o : Endpoint) (list : List Endpoint) (id n : ℕ) → Differs id n e → endpoint_at id n list ≡ Some o → endpoint_at id n (left_by e list) ≡ Some (cond (is_notified e 0 o) (raised 0 o) o)
found_left e o list id n differs there =
    find_kept (λ (x : Endpoint). is_device id n x.spec) (λ (x : Endpoint). not (is_device e.spec.cell e.spec.device x.spec)) (told_of e 0 list) (λ x named. not_from_false (is_device e.spec.cell e.spec.device x.spec) (not_device id n e x differs named))
    ∙ found_told e o 0 list id n there

-- what it is that a start or a destroy does to a device
abbrev pub IsClearing : DeviceChange → Type 0
IsClearing Join = ⊥
IsClearing Reset = Unit {0}
IsClearing Leave = Unit {0}

abbrev pub cleared_by : DeviceChange → Endpoint → List Endpoint → List Endpoint
cleared_by Join e list = list
cleared_by Reset e list = reset_of e list
cleared_by Leave e list = left_by e list

pub found_cleared : (change : DeviceChange) (e o : Endpoint) (list : List Endpoint) (id n : ℕ) → IsClearing change → Differs id n e → endpoint_at id n list ≡ Some o → endpoint_at id n (cleared_by change e list) ≡ Some (cond (is_notified e 0 o) (raised 0 o) o)
found_cleared Join e o list id n clears differs there = absurd clears
found_cleared Reset e o list id n clears differs there = found_reset e o list id n differs there
found_cleared Leave e o list id n clears differs there = found_left e o list id n differs there

none_filtered : (id n : ℕ) (q : Endpoint → Bool) (list : List Endpoint) → endpoint_at id n list ≡ None → endpoint_at id n (filter q list) ≡ None
none_filtered id n q list none =
    find_nothing (λ (x : Endpoint). is_device id n x.spec) (filter q list) (λ x held. find_None (λ (y : Endpoint). is_device id n y.spec) list x none (IsFound_from_filter q list x held).among)

pub none_cleared : (change : DeviceChange) (e : Endpoint) (list : List Endpoint) (id n : ℕ) → endpoint_at id n list ≡ None → endpoint_at id n (cleared_by change e list) ≡ None
none_cleared Join e list id n none = none
none_cleared Reset e list id n none = none_changed id n (is_device e.spec.cell e.spec.device) cleared (told_of e 0 list) cleared_spec (none_told e 0 list id n none)
none_cleared Leave e list id n none = none_filtered id n (λ (x : Endpoint). not (is_device e.spec.cell e.spec.device x.spec)) (told_of e 0 list) (none_told e 0 list id n none)

-- the endpoint of the device, if it is there, is as after a reset: it raises nothing and has nothing pending
pub record IsQuiet (e : Endpoint) : Type 0 where
  pub control : e.control ≡ false
  pub pending : (v : ℕ) → (vector_at e v).pending ≡ false
  pub as_new : IsFresh e

abbrev pub IsQuietAt : ℕ → ℕ → List Endpoint → Type 0
IsQuietAt id n list = (o : Endpoint) → endpoint_at id n list ≡ Some o → IsQuiet o

cleared_quiet : (e : Endpoint) → IsQuiet (cleared e)
unfolding cleared
cleared_quiet e = record { control = refl; pending = λ v. ap (λ (x : Vector). x.pending) (fresh_at v); as_new = record { memory = refl; bus_master = refl; interrupts_off = refl; bar0 = refl; bar1 = refl; one_shot = refl; masked = refl; enabled = refl; control = refl; state = refl; vectors = fresh_at } }
  where
    fresh_at : (v : ℕ) → get_or fresh_vectors v fresh_vector ≡ fresh_vector
    fresh_at v = grind (arith, common_steps)

quiet_own : (change : DeviceChange) (e : Endpoint) (list : List Endpoint) (o : Endpoint) → IsClearing change → endpoint_at e.spec.cell e.spec.device (cleared_by change e list) ≡ Some o → IsQuiet o
quiet_own Join e list o clears there = absurd clears
quiet_own Reset e list o clears there =
    reset_by (endpoint_at e.spec.cell e.spec.device (told_of e 0 list)) refl
    (sym (endpoint_changed_holds e.spec.cell e.spec.device (is_device e.spec.cell e.spec.device) cleared cleared_spec (told_of e 0 list)) ∙ there)
  where
    reset_by : (q : Option Endpoint) → endpoint_at e.spec.cell e.spec.device (told_of e 0 list) ≡ q → option_map (λ (x : Endpoint). cond (is_device e.spec.cell e.spec.device x.spec) (cleared x) x) q ≡ Some o → IsQuiet o
    reset_by None is h = absurd (none-some o h)
    reset_by (Some x) is h =
        let named : is_device e.spec.cell e.spec.device x.spec ≡ true = (IsFound_from_find (λ (y : Endpoint). is_device e.spec.cell e.spec.device y.spec) (told_of e 0 list) x is).passes in
        subst IsQuiet (same_Some (cleared x) o (sym (ap (λ (b : Bool). Some (cond b (cleared x) x)) named) ∙ h)) (cleared_quiet x)
quiet_own Leave e list o clears there =
    let found = IsFound_from_find (λ (x : Endpoint). is_device e.spec.cell e.spec.device x.spec) (left_by e list) o there in
    absurd (both_ways (is_device e.spec.cell e.spec.device o.spec)
    (not-true (is_device e.spec.cell e.spec.device o.spec) (IsFound_from_filter (λ (x : Endpoint). not (is_device e.spec.cell e.spec.device x.spec)) (told_of e 0 list) o found.among).passes) found.passes)

quiet_told : (b : Bool) (o : Endpoint) → IsQuiet o → IsQuiet (cond b (raised 0 o) o)
quiet_told true o quiet = subst IsQuiet (sym (closed_control 0 o quiet.control)) quiet
quiet_told false o quiet = quiet

quiet_by : (change : DeviceChange) (e : Endpoint) (list : List Endpoint) (id n : ℕ) (q : Option Endpoint) → IsClearing change → endpoint_at id n list ≡ q → Differs id n e → IsQuietAt id n list → IsQuietAt id n (cleared_by change e list)
quiet_by change e list id n None clears is differs quiet o there = absurd (none-some o (sym (none_cleared change e list id n is) ∙ there))
quiet_by change e list id n (Some x) clears is differs quiet o there =
    subst IsQuiet (same_Some (cond (is_notified e 0 x) (raised 0 x) x) o (sym (found_cleared change e x list id n clears differs is) ∙ there)) (quiet_told (is_notified e 0 x) x (quiet x is))

-- it is so behind a step of its own device, and stays so over those of others
pub quiet_step : (change : DeviceChange) (e : Endpoint) (list : List Endpoint) (id n : ℕ) → IsClearing change → ((id ≡ e.spec.cell) × (n ≡ e.spec.device)) ⊎ IsQuietAt id n list → IsQuietAt id n (cleared_by change e list)
quiet_step change e list id n clears (inl same) = λ o there.
    let P : ℕ → ℕ → Type 0 = λ c d. endpoint_at c d (cleared_by change e list) ≡ Some o in
    let Q : ℕ → Type 0 = λ c. P c n in
    quiet_own change e list o clears (subst (P e.spec.cell) same.1 (subst Q same.0 there))
quiet_step change e list id n clears (inr quiet) = elim (cases_Bool (eqb id e.spec.cell && eqb n e.spec.device)) [
  | inl both ↦
      let parts = and_parts (eqb id e.spec.cell) (eqb n e.spec.device) both in
      quiet_own_again (eqb-true id e.spec.cell parts.0) (eqb-true n e.spec.device parts.1)
  | inr apart ↦ quiet_by change e list id n (endpoint_at id n list) clears refl (λ a b. both_ways (eqb id e.spec.cell && eqb n e.spec.device) apart (and_from (eqb id e.spec.cell) (eqb n e.spec.device) (eq-eqb id e.spec.cell a) (eq-eqb n e.spec.device b))) quiet
]
  where
    quiet_own_again : id ≡ e.spec.cell → n ≡ e.spec.device → IsQuietAt id n (cleared_by change e list)
    quiet_own_again a b o there =
        let P : ℕ → ℕ → Type 0 = λ c d. endpoint_at c d (cleared_by change e list) ≡ Some o in
        let Q : ℕ → Type 0 = λ c. P c n in
        quiet_own change e list o clears (subst (P e.spec.cell) b (subst Q a there))

-- ---- all devices of a cell

one_cleared : (change : DeviceChange) (list : List Endpoint) (s : EndpointSpec) (q : Option Endpoint) → IsClearing change → endpoint_at s.cell s.device list ≡ q → endpoint_changed change list s ≡ option_map_or (λ (e : Endpoint). cleared_by change e list) q list
one_cleared Join list s q clears is = absurd clears
one_cleared Reset list s q clears is = ap (λ (o : Option Endpoint). option_map_or (λ (e : Endpoint). reset_of e list) o list) is
one_cleared Leave list s q clears is = ap (λ (o : Option Endpoint). option_map_or (λ (e : Endpoint). left_by e list) o list) is

-- ---- those that are quiet then

own_named : (s : EndpointSpec) (list : List Endpoint) (e : Endpoint) → endpoint_at s.cell s.device list ≡ Some e → (s.cell ≡ e.spec.cell) × (s.device ≡ e.spec.device)
own_named s list e is = (sym (named_cell s.cell s.device list e is), sym (named_device s.cell s.device list e is))

-- the device has one of these endpoints
abbrev pub IsAmong : List EndpointSpec → ℕ → ℕ → Type 0
IsAmong specs id n = (s : EndpointSpec) × Contains specs s × (s.cell ≡ id) × (s.device ≡ n)

quiet_one : (change : DeviceChange) (list : List Endpoint) (s : EndpointSpec) (id n : ℕ) (q : Option Endpoint) → IsClearing change → endpoint_at s.cell s.device list ≡ q → ((s.cell ≡ id) × (s.device ≡ n)) ⊎ IsQuietAt id n list
    → IsQuietAt id n (option_map_or (λ (e : Endpoint). cleared_by change e list) q list)
quiet_one change list s id n None clears is (inl same) = λ o there.
    let P : ℕ → ℕ → Type 0 = λ c d. endpoint_at c d list ≡ None in
    let Q : ℕ → Type 0 = λ c. P c s.device in
    absurd (none-some o (sym (subst (P id) same.1 (subst Q same.0 is)) ∙ there))
quiet_one change list s id n None clears is (inr quiet) = quiet
quiet_one change list s id n (Some e) clears is (inl same) =
    let own = own_named s list e is in
    quiet_step change e list id n clears (inl (sym same.0 ∙ own.0, sym same.1 ∙ own.1))
quiet_one change list s id n (Some e) clears is (inr quiet) = quiet_step change e list id n clears (inr quiet)

pub quiet_all : (change : DeviceChange) (specs : List EndpointSpec) (list : List Endpoint) (id n : ℕ) → IsClearing change → IsAmong specs id n ⊎ IsQuietAt id n list → IsQuietAt id n (endpoints_changed change specs list)
quiet_all change [] list id n clears (inl among) = let below : among.1.0 < 0 = among.1.1 in absurd (omega arith)
quiet_all change [] list id n clears (inr quiet) = quiet
quiet_all change (s ∷ specs) list id n clears (inl among) =
    let P : List Endpoint → Type 0 = IsQuietAt id n in
    let step = one_cleared change list s (endpoint_at s.cell s.device list) clears refl in
    ⊎_elim
    (λ (same : s ≡ among.0).
    quiet_all change specs (endpoint_changed change list s) id n clears
    (inr (subst P (sym step) (quiet_one change list s id n (endpoint_at s.cell s.device list) clears refl (inl (ap (λ (x : EndpointSpec). x.cell) same ∙ among.2, ap (λ (x : EndpointSpec). x.device) same ∙ among.3))))))
    (λ (later : Contains specs among.0). quiet_all change specs (endpoint_changed change list s) id n clears (inl (among.0, later, among.2, among.3)))
    (Contains_cases s specs among.0 among.1)
quiet_all change (s ∷ specs) list id n clears (inr quiet) =
    let P : List Endpoint → Type 0 = IsQuietAt id n in
    let step = one_cleared change list s (endpoint_at s.cell s.device list) clears refl in
    quiet_all change specs (endpoint_changed change list s) id n clears (inr (subst P (sym step) (quiet_one change list s id n (endpoint_at s.cell s.device list) clears refl (inr quiet))))

-- ---- those of other cells

-- two endpoints of a cell are of two devices, and of two links
abbrev pub AreTwoOfCell : EndpointSpec → EndpointSpec → Type 0
AreTwoOfCell s t = (s.bdf ≢ t.bdf) × (s.device ≢ t.device)

-- one of these endpoints tells the peer
abbrev pub told_in : List EndpointSpec → List Endpoint → Endpoint → Bool
told_in specs list o = list_any (λ (s : EndpointSpec). option_map_or (λ (e : Endpoint). is_notified e 0 o) (endpoint_at s.cell s.device list) false) specs

-- each of these endpoints that is there is of its device's link
abbrev pub HaveLinks : List EndpointSpec → List Endpoint → Type 0
HaveLinks specs list = (s : EndpointSpec) (e : Endpoint) → Contains specs s → endpoint_at s.cell s.device list ≡ Some e → e.spec.bdf ≡ s.bdf

pairs_rest : (s : EndpointSpec) (specs : List EndpointSpec) → AllPairs AreTwoOfCell (s ∷ specs) → AllPairs AreTwoOfCell specs
pairs_rest s specs h i j d before within = h (suc i) (suc j) d (omega arith) (omega arith)

pairs_first : (s : EndpointSpec) (specs : List EndpointSpec) (x : EndpointSpec) → AllPairs AreTwoOfCell (s ∷ specs) → Contains specs x → AreTwoOfCell s x
pairs_first s specs x h held =
    let lt : held.0 < length specs = held.1 in
    subst (AreTwoOfCell s) held.2 (h 0 (suc held.0) x (omega arith) (omega arith))

-- an endpoint of another link isn't told
not_told : (e o : Endpoint) (value : ℕ) → o.spec.bdf ≢ e.spec.bdf → is_notified e value o ≡ false
not_told e o value other = and_right (not (eqb e.state value)) (is_other e.spec.bdf e.spec.id o.spec) (and_left (eqb o.spec.bdf e.spec.bdf) (not (eqb o.spec.id e.spec.id)) (ne_eqb o.spec.bdf e.spec.bdf other))

-- a step of one device leaves another one of the cell
rest_by : (change : DeviceChange) (e : Endpoint) (list : List Endpoint) (t : EndpointSpec) (q : Option Endpoint) → IsClearing change → Differs t.cell t.device e → ((x : Endpoint) → endpoint_at t.cell t.device list ≡ Some x → x.spec.bdf ≢ e.spec.bdf)
    → endpoint_at t.cell t.device list ≡ q → endpoint_at t.cell t.device (cleared_by change e list) ≡ q
rest_by change e list t None clears differs links is = none_cleared change e list t.cell t.device is
rest_by change e list t (Some x) clears differs links is =
    found_cleared change e x list t.cell t.device clears differs is ∙ ap (λ (b : Bool). Some (cond b (raised 0 x) x)) (not_told e x 0 (links x is))

told_same : (b : Bool) (o e : Endpoint) (value : ℕ) → is_notified e value (cond b (raised 0 o) o) ≡ is_notified e value o
told_same b o e value = ap (λ (s : EndpointSpec). not (eqb e.state value) && is_other e.spec.bdf e.spec.id s) (told_spec b o)

told_agree : (f g : Option Endpoint) (one o : Endpoint) → f ≡ g → ((e : Endpoint) → is_notified e 0 one ≡ is_notified e 0 o) → option_map_or (λ (e : Endpoint). is_notified e 0 one) f false ≡ option_map_or (λ (e : Endpoint). is_notified e 0 o) g false
told_agree None g one o is same = ap (λ (q : Option Endpoint). option_map_or (λ (e : Endpoint). is_notified e 0 o) q false) is
told_agree (Some e) g one o is same = same e ∙ ap (λ (q : Option Endpoint). option_map_or (λ (x : Endpoint). is_notified x 0 o) q false) is

-- nobody of another link tells
none_told_in : (specs : List EndpointSpec) (list : List Endpoint) (o : Endpoint) → HaveLinks specs list → ((s : EndpointSpec) → Contains specs s → o.spec.bdf ≢ s.bdf) → told_in specs list o ≡ false
none_told_in specs list o links other =
    list_any_nothing (λ (s : EndpointSpec). option_map_or (λ (e : Endpoint). is_notified e 0 o) (endpoint_at s.cell s.device list) false) specs
    (λ s held. one_not s held (endpoint_at s.cell s.device list) refl)
  where
    one_not : (s : EndpointSpec) → Contains specs s → (q : Option Endpoint) → endpoint_at s.cell s.device list ≡ q → option_map_or (λ (e : Endpoint). is_notified e 0 o) q false ≡ false
    one_not s held None is = refl
    one_not s held (Some e) is = not_told e o 0 (λ same. other s held (same ∙ links s e held is))

told_twice : (told_first told_rest : Bool) (o : Endpoint) → (told_first ≡ true → told_rest ≡ false) → cond told_rest (raised 0 (cond told_first (raised 0 o) o)) (cond told_first (raised 0 o) o) ≡ cond (told_first || told_rest) (raised 0 o) o
told_twice true told_rest o once = ap (λ (b : Bool). cond b (raised 0 (raised 0 o)) (raised 0 o)) (once refl)
told_twice false told_rest o once = refl

-- what all of them leave of it, the first of which does this
abbrev LeavesIt : DeviceChange → List EndpointSpec → ℕ → ℕ → List Endpoint → Endpoint → Type 0
LeavesIt change specs id n list o = endpoint_at id n (endpoints_changed change specs list) ≡ Some (cond (told_in specs list o) (raised 0 o) o)

cleared_first : (change : DeviceChange) (s : EndpointSpec) (specs : List EndpointSpec) (list : List Endpoint) (id n : ℕ) (o : Endpoint) (q : Option Endpoint) → IsClearing change → ((t : EndpointSpec) → Contains (s ∷ specs) t → t.cell ≢ id) → AllPairs AreTwoOfCell (s ∷ specs)
    → HaveLinks (s ∷ specs) list → endpoint_at id n list ≡ Some o → ((l : List Endpoint) (x : Endpoint) → HaveLinks specs l → endpoint_at id n l ≡ Some x → LeavesIt change specs id n l x) → endpoint_at s.cell s.device list ≡ q → LeavesIt change (s ∷ specs) id n list o
cleared_first change s specs list id n o None clears others pairs links there ih is =
    ap (λ (l : List Endpoint). endpoint_at id n (endpoints_changed change specs l)) (one_cleared change list s None clears is)
    ∙ ih list o (λ t e held at. links t e (Contains_tail s specs t held) at) there
    ∙ ap (λ (x : Option Endpoint). Some (cond (option_map_or (λ (e : Endpoint). is_notified e 0 o) x false || told_in specs list o) (raised 0 o) o)) (sym is)
cleared_first change s specs list id n o (Some e) clears others pairs links there ih is =
    let next : List Endpoint = cleared_by change e list in
    let told_first : Bool = is_notified e 0 o in
    let o1 : Endpoint = cond told_first (raised 0 o) o in
    let own = own_named s list e is in
    let bdf : e.spec.bdf ≡ s.bdf = links s e (Contains_head s specs) is in
    let differs : (t : EndpointSpec) → Contains specs t → Differs t.cell t.device e = λ t held a b. (pairs_first s specs t pairs held).1 (own.1 ∙ sym b) in
    let other_links : (t : EndpointSpec) → Contains specs t → (x : Endpoint) → endpoint_at t.cell t.device list ≡ Some x → x.spec.bdf ≢ e.spec.bdf =
    λ t held x at same. (pairs_first s specs t pairs held).0 (sym bdf ∙ sym same ∙ links t x (Contains_tail s specs t held) at) in
    let rest : (t : EndpointSpec) → Contains specs t → endpoint_at t.cell t.device next ≡ endpoint_at t.cell t.device list =
    λ t held. rest_by change e list t (endpoint_at t.cell t.device list) clears (differs t held) (other_links t held) refl in
    let here : endpoint_at id n next ≡ Some o1 = found_cleared change e o list id n clears (λ a b. others s (Contains_head s specs) (own.0 ∙ sym a)) there in
    let agree : told_in specs next o1 ≡ told_in specs list o =
    list_any_agree (λ (t : EndpointSpec). option_map_or (λ (x : Endpoint). is_notified x 0 o1) (endpoint_at t.cell t.device next) false) (λ (t : EndpointSpec). option_map_or (λ (x : Endpoint). is_notified x 0 o) (endpoint_at t.cell t.device list) false) specs
    (λ t held. told_agree (endpoint_at t.cell t.device next) (endpoint_at t.cell t.device list) o1 o (rest t held) (λ x. told_same told_first o x 0)) in
    let once : told_first ≡ true → told_in specs list o ≡ false = λ told_e.
    let parts = and_parts (not (eqb e.state 0)) (is_other e.spec.bdf e.spec.id o.spec) told_e in
    let link = and_parts (eqb o.spec.bdf e.spec.bdf) (not (eqb o.spec.id e.spec.id)) parts.1 in
    none_told_in specs list o (λ t x held at. links t x (Contains_tail s specs t held) at)
    (λ t held same. (pairs_first s specs t pairs held).0 (sym bdf ∙ sym (eqb-true o.spec.bdf e.spec.bdf link.0) ∙ same)) in
    ap (λ (l : List Endpoint). endpoint_at id n (endpoints_changed change specs l)) (one_cleared change list s (Some e) clears is)
    ∙ ih next o1 (λ t x held at. links t x (Contains_tail s specs t held) (sym (rest t held) ∙ at)) here
    ∙ ap (λ (b : Bool). Some (cond b (raised 0 o1) o1)) agree
    ∙ ap Some (told_twice told_first (told_in specs list o) o once)
    ∙ ap (λ (x : Option Endpoint). Some (cond (option_map_or (λ (y : Endpoint). is_notified y 0 o) x false || told_in specs list o) (raised 0 o) o)) (sym is)

pub cleared_all : (change : DeviceChange) (specs : List EndpointSpec) (list : List Endpoint) (id n : ℕ) (o : Endpoint) → IsClearing change → ((s : EndpointSpec) → Contains specs s → s.cell ≢ id) → AllPairs AreTwoOfCell specs → HaveLinks specs list
    → endpoint_at id n list ≡ Some o → endpoint_at id n (endpoints_changed change specs list) ≡ Some (cond (told_in specs list o) (raised 0 o) o)
cleared_all change [] list id n o clears others pairs links there = there
cleared_all change (s ∷ specs) list id n o clears others pairs links there =
    cleared_first change s specs list id n o (endpoint_at s.cell s.device list) clears others pairs links there
    (λ l x has at. cleared_all change specs l id n x clears (λ t held. others t (Contains_tail s specs t held)) (pairs_rest s specs pairs) has at) refl

-- ---- devices that join

joined_by : (id n : ℕ) (s : EndpointSpec) (x : Endpoint) (list : List Endpoint) (before : Bool) → is_device id n s ≡ false → endpoint_at id n (joined s list) ≡ endpoint_at id n list
    → endpoint_at id n (cond before (x ∷ joined s list) (fresh s ∷ x ∷ list)) ≡ endpoint_at id n (x ∷ list)
joined_by id n s x list true other rest = ap (λ (o : Option Endpoint). cond (is_device id n x.spec) (Some x) o) rest
joined_by id n s x list false other rest = ap (λ (b : Bool). cond b (Some (fresh s)) (endpoint_at id n (x ∷ list))) other

joined_other : (id n : ℕ) (s : EndpointSpec) (list : List Endpoint) → is_device id n s ≡ false → endpoint_at id n (joined s list) ≡ endpoint_at id n list
joined_other id n s [] other = ap (λ (b : Bool). cond b (Some (fresh s)) None) other
joined_other id n s (x ∷ list) other = joined_by id n s x list (is_before s.cell s.device x.spec) other (joined_other id n s list other)

pub joined_all : (specs : List EndpointSpec) (list : List Endpoint) (id n : ℕ) → ((s : EndpointSpec) → Contains specs s → s.cell ≢ id) → endpoint_at id n (endpoints_changed Join specs list) ≡ endpoint_at id n list
joined_all [] list id n others = refl
joined_all (s ∷ specs) list id n others =
    joined_all specs (joined s list) id n (λ t held. others t (Contains_tail s specs t held))
    ∙ joined_other id n s list (and_left (eqb s.cell id) (eqb s.device n) (ne_eqb s.cell id (others s (Contains_head s specs))))

-- one that joins has nothing pending
fresh_quiet : (s : EndpointSpec) → IsQuiet (fresh s)
fresh_quiet s = record { control = refl; pending = λ v. ap (λ (x : Vector). x.pending) (fresh_at v); as_new = record { memory = refl; bus_master = refl; interrupts_off = refl; bar0 = refl; bar1 = refl; one_shot = refl; masked = refl; enabled = refl; control = refl; state = refl; vectors = fresh_at } }
  where
    fresh_at : (v : ℕ) → get_or fresh_vectors v fresh_vector ≡ fresh_vector
    fresh_at v = grind (arith, common_steps)

first_quiet : (id n : ℕ) (x : Endpoint) (list : List Endpoint) (own : Bool) (o : Endpoint) → cond own (Some x) (endpoint_at id n list) ≡ Some o → IsQuiet x → IsQuietAt id n list → IsQuiet o
first_quiet id n x list true o there quiet rest = subst IsQuiet (same_Some x o there) quiet
first_quiet id n x list false o there quiet rest = rest o there

rest_quiet : (id n : ℕ) (x : Endpoint) (list new : List Endpoint) (own : Bool) (o : Endpoint) → is_device id n x.spec ≡ own → IsQuietAt id n (x ∷ list) → (IsQuietAt id n list → IsQuietAt id n new) → cond own (Some x) (endpoint_at id n new) ≡ Some o → IsQuiet o
rest_quiet id n x list new true o is quiet more there = quiet o (ap (λ (b : Bool). cond b (Some x) (endpoint_at id n list)) is ∙ there)
rest_quiet id n x list new false o is quiet more there = more (λ p at. quiet p (ap (λ (b : Bool). cond b (Some x) (endpoint_at id n list)) is ∙ at)) o there

joined_quiet_by : (id n : ℕ) (s : EndpointSpec) (x : Endpoint) (list : List Endpoint) (before : Bool) → IsQuietAt id n (x ∷ list) → (IsQuietAt id n list → IsQuietAt id n (joined s list)) → IsQuietAt id n (cond before (x ∷ joined s list) (fresh s ∷ x ∷ list))
joined_quiet_by id n s x list true quiet rest o there = rest_quiet id n x list (joined s list) (is_device id n x.spec) o refl quiet rest there
joined_quiet_by id n s x list false quiet rest o there = first_quiet id n (fresh s) (x ∷ list) (is_device id n s) o there (fresh_quiet s) quiet

joined_quiet : (id n : ℕ) (s : EndpointSpec) (list : List Endpoint) → IsQuietAt id n list → IsQuietAt id n (joined s list)
joined_quiet id n s [] quiet = λ o there. first_quiet id n (fresh s) [] (is_device id n s) o there (fresh_quiet s) quiet
joined_quiet id n s (x ∷ list) quiet = joined_quiet_by id n s x list (is_before s.cell s.device x.spec) quiet (λ more. joined_quiet id n s list more)

pub joined_quiet_all : (specs : List EndpointSpec) (list : List Endpoint) (id n : ℕ) → IsQuietAt id n list → IsQuietAt id n (endpoints_changed Join specs list)
joined_quiet_all [] list id n quiet = quiet
joined_quiet_all (s ∷ specs) list id n quiet = joined_quiet_all specs (joined s list) id n (joined_quiet id n s list quiet)
