-- One device of a cell after another: what is left to change, and that it may be.
use Rattle.std.proofs.Common.{◌≡◌, ℕ, suc, ◌+◌, ◌*◌, ◌^◌, ◌<◌, ◌≤◌, Bool, true, false, cond, List, [], ◌∷◌, ◌++◌, length, get_or, drop, Option, Some, None, refl, sym, ap, subst, ◌∙◌, arith}
use Rattle.std.specs.Prelude.{slice_get, All, AllPairs}
use Rattle.std.specs.List.{AllByRecursion}
use Rattle.std.proofs.lemmas.List.{drop_more, at_drop_all}
use Rattle.std.proofs.lemmas.List.Elements.{recursion_from_All, All-from_recursion}
use Rattle.std.proofs.lemmas.List.Sums.{fold-append}
use Rattle.std.proofs.lemmas.Option.{none-some, same_Some, slice_get-get_or}
use Rattle.jh_cellcfg.specs.declared.config.CellConfig.{CellConfig}
use Rattle.jh_cellcfg.specs.declared.config.PciDevice.{PciDevice}
use Rattle.jh_ivshmem.specs.declared.endpoint.Endpoint.{Endpoint}
use Rattle.jh_ivshmem.specs.declared.spec.EndpointSpec.{EndpointSpec}
use Rattle.jh_ivshmem.specs.declared.spec.EndpointWord.{EndpointWord}
use Rattle.jh_ivshmem.specs.Endpoint.{fresh}
use Rattle.jh_ivshmem.specs.Links.{joined}
use Rattle.jh_ivshmem.specs.Specs.{is_before, endpoint_word_of, IsInItsLimits, AreEndpointsApart}
use Rattle.jh_history.specs.declared.device_change.DeviceChange.{DeviceChange}
use Rattle.jh_history.specs.declared.device_change.DeviceChange.TheVariants.{Join}
use Rattle.jh_history.specs.Devices.{is_endpoint, spec_of, specs_from, specs_of, specs_by, specs_at}
use Rattle.jh_history.specs.declared.place.Place.{Place}
use Rattle.jh_history.specs.Access.{with_endpoint_word}
use Rattle.jh_history.specs.Endpoints.{endpoint_changed, endpoints_changed, with_words, MayJoinThem, MayChange}
use Rattle.jh_history.proofs.FactsLemmas.{same_function}

-- ---- the device of a number

abbrev pub told_by : CellConfig → ℕ → PciDevice → Option EndpointSpec
told_by config n device = cond (is_endpoint n device) (Some (spec_of config n device)) None

some_by : (s spec : EndpointSpec) (b : Bool) → Some spec ≡ cond b (Some s) None → cond b (s ∷ []) [] ≡ spec ∷ []
some_by s spec true h = ap (λ (x : EndpointSpec). x ∷ []) (sym (same_Some spec s h))
some_by s spec false h = absurd (none-some spec (sym h))

none_by : (s : EndpointSpec) (b : Bool) → None ≡ cond b (Some s) None → cond b (s ∷ []) [] ≡ []
none_by s true h = absurd (none-some s h)
none_by s false h = refl

item : (config : CellConfig) (devices : List PciDevice) (n : ℕ) (d : PciDevice) → devices ≡ config.pci_devices → n < length config.pci_devices → slice_get config.pci_devices n ≡ Some (get_or devices n d)
item config devices n d same lt = slice_get-get_or config.pci_devices n d lt ∙ ap (λ (xs : List PciDevice). Some (get_or xs n d)) (sym same)

-- the device of that number is an ivshmem device, or none
pub at_some : (config : CellConfig) (devices : List PciDevice) (n : ℕ) (d : PciDevice) (found : Option EndpointSpec) (spec : EndpointSpec) → devices ≡ config.pci_devices → n < length config.pci_devices
    → found ≡ told_by config n (get_or devices n d) → found ≡ Some spec → specs_at config n ≡ spec ∷ []
at_some config devices n d found spec same lt is some =
    ap (specs_by config n) (item config devices n d same lt)
    ∙ some_by (spec_of config n (get_or devices n d)) spec (is_endpoint n (get_or devices n d)) (sym some ∙ is)

pub at_none : (config : CellConfig) (devices : List PciDevice) (n : ℕ) (d : PciDevice) (found : Option EndpointSpec) → devices ≡ config.pci_devices → n < length config.pci_devices
    → found ≡ told_by config n (get_or devices n d) → found ≡ None → specs_at config n ≡ []
at_none config devices n d found same lt is none =
    ap (specs_by config n) (item config devices n d same lt)
    ∙ none_by (spec_of config n (get_or devices n d)) (is_endpoint n (get_or devices n d)) (sym none ∙ is)

-- what holds of all of one holds of it
pub first : (P : EndpointSpec → Type 0) (specs : List EndpointSpec) (spec : EndpointSpec) → specs ≡ spec ∷ [] → All P specs → P spec
first P specs spec is all = (recursion_from_All P (spec ∷ []) (subst (λ (xs : List EndpointSpec). All P xs) is all)).0

-- a word of a state table ends below 2^64
pub word_ends : (spec : EndpointSpec) (word : EndpointWord) → IsInItsLimits spec → word ≡ endpoint_word_of spec 0 → word.place + 4 < 2 ^ 64
word_ends spec word within is =
    let place : word.place ≡ spec.table + 4 * spec.id = ap (λ (s : EndpointWord). s.place) is in
    let id = within.id in
    let peers = within.peers in
    let table = within.table in
    omega arith

-- ---- what is left

-- the endpoints of the devices from that number on
abbrev pub specs_left : CellConfig → ℕ → List EndpointSpec
specs_left config i = specs_from config i (drop i config.pci_devices)

pub left_all : (config : CellConfig) → specs_left config 0 ≡ specs_of config
unfolding specs_of
left_all config = refl

two_by : (s : EndpointSpec) (rest : List EndpointSpec) (b : Bool) → cond b (s ∷ rest) rest ≡ cond b (s ∷ []) [] ++ rest
two_by s rest true = refl
two_by s rest false = refl

any_of : (devices : List PciDevice) (i : ℕ) → i < length devices → PciDevice
any_of [] i lt = absurd (omega arith)
any_of (device ∷ devices) i lt = device

-- the next device is done first
pub left_next : (config : CellConfig) (i : ℕ) → i < length config.pci_devices → specs_left config i ≡ specs_at config i ++ specs_left config (i + 1)
left_next config i lt =
    let d = any_of config.pci_devices i lt in
    let device = get_or config.pci_devices i d in
    ap (specs_from config i) (drop_more config.pci_devices i d lt)
    ∙ two_by (spec_of config i device) (specs_left config (i + 1)) (is_endpoint i device)
    ∙ ap (λ (o : Option PciDevice). specs_by config i o ++ specs_left config (i + 1)) (sym (slice_get-get_or config.pci_devices i d lt))

-- in the end nothing is left
pub left_end : (config : CellConfig) (i : ℕ) → length config.pci_devices ≤ i → specs_left config i ≡ []
left_end config i le = at_drop_all (specs_from config i) config.pci_devices i le

pub endpoints_next : (change : DeviceChange) (config : CellConfig) (i : ℕ) (old new : List Endpoint) → i < length config.pci_devices → new ≡ endpoints_changed change (specs_at config i) old
    → endpoints_changed change (specs_left config (i + 1)) new ≡ endpoints_changed change (specs_left config i) old
endpoints_next change config i old new lt is =
    ap (endpoints_changed change (specs_left config (i + 1))) is
    ∙ sym (fold-append (endpoint_changed change) old (specs_at config i) (specs_left config (i + 1)))
    ∙ ap (λ (specs : List EndpointSpec). endpoints_changed change specs old) (sym (left_next config i lt))

abbrev word_put : (Place → ℕ) → EndpointSpec → Place → ℕ
word_put byte spec = with_endpoint_word (endpoint_word_of spec 0) byte

pub words_next : (config : CellConfig) (i : ℕ) (old new : Place → ℕ) (q : Place) → i < length config.pci_devices → ((p : Place) → new p ≡ with_words (specs_at config i) old p)
    → with_words (specs_left config (i + 1)) new q ≡ with_words (specs_left config i) old q
words_next config i old new q lt is =
    ap (λ (byte : Place → ℕ). with_words (specs_left config (i + 1)) byte q) (same_function new (with_words (specs_at config i) old) is)
    ∙ sym (ap (λ (byte : Place → ℕ). byte q) (fold-append word_put old (specs_at config i) (specs_left config (i + 1))))
    ∙ ap (λ (specs : List EndpointSpec). with_words specs old q) (sym (left_next config i lt))

-- the change may be made at all of these, one after another
pub record MayGoOn (change : DeviceChange) (endpoints : List Endpoint) (specs : List EndpointSpec) : Type 0 where
  pub within : All IsInItsLimits specs
  pub new : change ≡ Join → All (MayJoinThem endpoints) specs
  pub apart : change ≡ Join → AllPairs AreEndpointsApart specs

pub may_begin : (change : DeviceChange) (endpoints : List Endpoint) (config : CellConfig) → MayChange change endpoints config → MayGoOn change endpoints (specs_left config 0)
may_begin change endpoints config may = subst (MayGoOn change endpoints) (sym (left_all config)) (record { within = may.within; new = may.new; apart = may.apart })

joined_by : (P : Endpoint → Type 0) (s : EndpointSpec) (e : Endpoint) (es : List Endpoint) (b : Bool) → P (fresh s) → P e → AllByRecursion P es → AllByRecursion P (joined s es)
    → AllByRecursion P (cond b (e ∷ joined s es) (fresh s ∷ e ∷ es))
joined_by P s e es true p pe all more = (pe, more)
joined_by P s e es false p pe all more = (p, (pe, all))

joined_all : (P : Endpoint → Type 0) (s : EndpointSpec) (es : List Endpoint) → P (fresh s) → AllByRecursion P es → AllByRecursion P (joined s es)
joined_all P s [] p all = (p, tt)
joined_all P s (e ∷ es) p all = joined_by P s e es (is_before s.cell s.device e.spec) p all.0 all.1 (joined_all P s es p all.1)

-- what holds of all endpoints, and of one that joins
pub All_joined : (P : Endpoint → Type 0) (s : EndpointSpec) (es : List Endpoint) → P (fresh s) → All P es → All P (joined s es)
All_joined P s es p all = All-from_recursion P (joined s es) (joined_all P s es p (recursion_from_All P es all))

-- beside one that joins those may join that are apart from it
join_keeps : (s : EndpointSpec) (rest : List EndpointSpec) (es : List Endpoint) → All (MayJoinThem es) (s ∷ rest) → AllPairs AreEndpointsApart (s ∷ rest) → All (MayJoinThem (joined s es)) rest
join_keeps s rest es new apart = λ i d lt.
    All_joined (λ (e : Endpoint). AreEndpointsApart e.spec (get_or rest i d)) s es (apart 0 (suc i) d (omega arith) (omega arith)) (new (suc i) d (omega arith))

may_one : (change : DeviceChange) (s : EndpointSpec) (rest : List EndpointSpec) (es : List Endpoint) → MayGoOn change es (s ∷ rest) → MayGoOn change (endpoint_changed change es s) rest
may_one change s rest es may = record {
  within = λ i d lt. may.within (suc i) d (omega arith);
  new = λ join. subst (λ (k : DeviceChange). All (MayJoinThem (endpoint_changed k es s)) rest) (sym join) (join_keeps s rest es (may.new join) (may.apart join));
  apart = λ join i j d lt below. may.apart join (suc i) (suc j) d (omega arith) (omega arith);
}

may_all : (change : DeviceChange) (specs rest : List EndpointSpec) (es : List Endpoint) → MayGoOn change es (specs ++ rest) → MayGoOn change (endpoints_changed change specs es) rest
may_all change [] rest es may = may
may_all change (s ∷ specs) rest es may = may_all change specs rest (endpoint_changed change es s) (may_one change s (specs ++ rest) es may)

prefix : (P : EndpointSpec → Type 0) (xs ys : List EndpointSpec) → AllByRecursion P (xs ++ ys) → AllByRecursion P xs
prefix P [] ys all = tt
prefix P (x ∷ xs) ys all = (all.0, prefix P xs ys all.1)

-- what holds of all that are left, holds of the next
pub All_next : (P : EndpointSpec → Type 0) (config : CellConfig) (i : ℕ) → i < length config.pci_devices → All P (specs_left config i) → All P (specs_at config i)
All_next P config i lt all =
    All-from_recursion P (specs_at config i)
    (prefix P (specs_at config i) (specs_left config (i + 1)) (recursion_from_All P (specs_at config i ++ specs_left config (i + 1)) (subst (λ (specs : List EndpointSpec). All P specs) (left_next config i lt) all)))

-- and the change may go on after the next
pub may_next : (change : DeviceChange) (config : CellConfig) (i : ℕ) (old new : List Endpoint) → i < length config.pci_devices → MayGoOn change old (specs_left config i)
    → new ≡ endpoints_changed change (specs_at config i) old → MayGoOn change new (specs_left config (i + 1))
may_next change config i old new lt may is =
    subst (λ (es : List Endpoint). MayGoOn change es (specs_left config (i + 1))) (sym is)
    (may_all change (specs_at config i) (specs_left config (i + 1)) old (subst (MayGoOn change old) (left_next config i lt) may))
