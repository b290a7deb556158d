-- The devices of a live cell on a sound board: the first window that has an access, and the function that has an offset of
-- configuration space.
use Rattle.std.proofs.Common.{◌≡◌, ℕ, ◌+◌, ◌-◌, ◌*◌, ◌/◌, ◌%◌, ◌^◌, ◌<◌, ◌≤◌, List, [], ◌∷◌, Bool, true, false, cond, ◌&&◌, eqb, nat_lt, Option, Some, None, refl, sym, ap, subst, ◌∙◌, inl, inr, arith}
use Rattle.std.specs.Prelude.{◌⊎◌, Contains, find, position, slice_get, option_and_then}
use Rattle.std.specs.Option.{option_map_or}
use Rattle.std.proofs.lemmas.Bool.{both_ways, and_parts, and_from, eqb-true, eq-eqb, lt-ltb, cases_lt}
use Rattle.std.proofs.lemmas.Option.{none-some, same_Some}
use Rattle.std.proofs.lemmas.List.Elements.{All-contains}
use Rattle.jh_num.proofs.Public.{IsFound_from_find, find_None}
use Rattle.jh_cellcfg.specs.declared.config.CellConfig.{CellConfig}
use Rattle.jh_cellcfg.specs.declared.config.PciDevice.{PciDevice}
use Rattle.jh_cellcfg.specs.declared.live.Live.{Live}
use Rattle.jh_check.specs.Clean.{AreLinked}
use Rattle.jh_check.specs.Devices.{is_shmem}
use Rattle.jh_mmio.specs.declared.hitting.Window.{Window}
use Rattle.jh_mmio.specs.Dispatch.{window_has}
use Rattle.jh_mmio.proofs.Public.{lies_from, lies_parts}
use Rattle.jh_vpci.specs.Space.{Space, has_vectors, window_of}
use Rattle.jh_vpci.specs.Words.{read_of as space_read}
use Rattle.jh_ivshmem.specs.declared.endpoint.Endpoint.{Endpoint}
use Rattle.jh_ivshmem.specs.Links.{endpoint_at}
use Rattle.jh_ivshmem.specs.Registers.{register_of}
use Rattle.jh_ivshmem.specs.Specs.{is_device}
use Rattle.jh_ivshmem.proofs.Public.{named_device}
use Rattle.jh_script.specs.declared.image.Image.{Image}
use Rattle.jh_history.specs.declared.access.Access.{Access}
use Rattle.jh_history.specs.Access.{config_value, register_value}
use Rattle.jh_history.specs.Behind.{window_of_access}
use Rattle.jh_history.specs.Devices.{is_endpoint, list_in, windows_from, windows_of, number_from, function_at}
use Rattle.jh_history.specs.Facts.{Facts}
use Rattle.jh_history.specs.Grants.{devices_of}
use Rattle.jh_history.specs.Lives.{cell_in}
use Rattle.jh_shape.specs.Lives.{configs_of}
use Rattle.jh_history.specs.Sound.{IsOfDevice, IsSoundEndpoint, IsSound}
use Rattle.jh_laws.specs.Held.{IsRootOrLive}
use Rattle.jh_laws.specs.Ends.{HasShmemDevice, LiesInBar, IsFirstBar, IsAnsweredByRegister, IsFunctionAt}
use Rattle.jh_laws.proofs.HeldLemmas.{live_cell, cell_live, number_of_holds}
use Rattle.jh_laws.proofs.WindowLemmas.{window_at, windows_are, windows_have, IsLower, IsFirst, windows_first, spec_is, function_found, function_some}

-- ---- devices

-- the endpoint that is found is among the endpoints
pub endpoint_held : (image : Image) (f : Facts) (id n : ℕ) (e : Endpoint) → endpoint_at id n f.endpoints ≡ Some e → Contains f.endpoints e
endpoint_held image f id n e there = (IsFound_from_find (λ (o : Endpoint). is_device id n o.spec) f.endpoints e there).among

pub endpoint_sound : (image : Image) (f : Facts) (id n : ℕ) (e : Endpoint) → IsSound image f → endpoint_at id n f.endpoints ≡ Some e → IsSoundEndpoint e
endpoint_sound image f id n e sound there = All-contains IsSoundEndpoint f.endpoints e sound.endpoints.sound (endpoint_held image f id n e there)

-- a device that has an endpoint has a number of 32 bits
pub endpoint_few : (image : Image) (f : Facts) (id n : ℕ) (e : Endpoint) → IsSound image f → endpoint_at id n f.endpoints ≡ Some e → n < 2 ^ 32
endpoint_few image f id n e sound there =
    let own = All-contains (λ (o : Endpoint). IsOfDevice image (configs_of f.cells) o.spec) f.endpoints e sound.endpoints.own (endpoint_held image f id n e there) in
    let few : e.spec.device < 2 ^ 32 = (spec_is own.0 e.spec own.2).few in
    let number : e.spec.device ≡ n = named_device id n f.endpoints e there in
    omega arith

-- the devices of the live cell
list_by : (image : Image) (cells : List Live) (id : ℕ) (cell : CellConfig) → cell_in image cells id ≡ Some cell → list_in image cells id ≡ cell.pci_devices
list_by image cells id cell is = ap (λ (o : Option CellConfig). option_map_or (λ (c : CellConfig). c.pci_devices) o []) is

pub cell_named : (image : Image) (f : Facts) (id : ℕ) (cell : CellConfig) → IsSound image f → IsRootOrLive image f.cells cell → cell.id ≡ id → cell_in image f.cells id ≡ Some cell
cell_named image f id cell sound live named =
    let P : ℕ → Type 0 = λ i. cell_in image f.cells i ≡ Some cell in
    subst P named (live_cell image f.cells cell sound.cells live)

-- what an ivshmem device of a live cell is in the list of its devices
pub record IsListed (image : Image) (f : Facts) (id n : ℕ) (device : PciDevice) : Type 0 where
  pub item : slice_get (list_in image f.cells id) n ≡ Some device
  pub passes : is_endpoint n device ≡ true

pub device_listed : (image : Image) (f : Facts) (id n : ℕ) (device : PciDevice) (e : Endpoint) → IsSound image f → HasShmemDevice image f id n device e → IsListed image f id n device
device_listed image f id n device e sound h = record {
  item = ap (λ (devices : List PciDevice). slice_get devices n) (list_by image f.cells id h.cell (cell_named image f id h.cell sound h.live h.named)) ∙ h.item;
  passes = and_from (nat_lt n (2 ^ 32)) (is_shmem device) (lt-ltb n (2 ^ 32) (endpoint_few image f id n e sound h.there)) (eq-eqb device.kind 3 h.kind);
}

listed_by : (image : Image) (f : Facts) (id n : ℕ) (device : PciDevice) (e : Endpoint) (o : Option CellConfig) → cell_in image f.cells id ≡ o → slice_get (option_map_or (λ (c : CellConfig). c.pci_devices) o []) n ≡ Some device → is_endpoint n device ≡ true
    → endpoint_at id n f.endpoints ≡ Some e → HasShmemDevice image f id n device e
listed_by image f id n device e None is item passes there = absurd (none-some device item)
listed_by image f id n device e (Some cell) is item passes there =
    let live = cell_live image f.cells id cell is in
    record { cell = cell; live = live.0; named = live.1; item = item; kind = eqb-true device.kind 3 (and_parts (nat_lt n (2 ^ 32)) (is_shmem device) passes).1; there = there }

pub listed_device : (image : Image) (f : Facts) (id n : ℕ) (device : PciDevice) (e : Endpoint) → slice_get (list_in image f.cells id) n ≡ Some device → is_endpoint n device ≡ true → endpoint_at id n f.endpoints ≡ Some e → HasShmemDevice image f id n device e
listed_device image f id n device e item passes there = listed_by image f id n device e (cell_in image f.cells id) refl item passes there

-- ---- windows

windows_listed : (image : Image) (f : Facts) (id at width : ℕ) → window_of_access (devices_of image f id) at width ≡ find (window_has at width) (windows_from id f.endpoints 0 (list_in image f.cells id))
unfolding windows_of
windows_listed image f id at width = refl

pub position_single : {X : Type 0} (p : X → Bool) (x : X) → p x ≡ true → position p (x ∷ []) ≡ Some 0
position_single p x passes = rw passes refl

-- a window begins at a multiple of 4
window_start : (space : Space) (bar : ℕ) (ends : ℕ × ℕ) → space.bar0 / 0x1000 * 0x1000 ≡ space.bar0 → space.bar1 / 0x200 * 0x200 ≡ space.bar1 → window_of space bar ≡ Some ends → ends.0 % 4 ≡ 0
window_start space bar ends pages tables is =
    let first : Option (ℕ × ℕ) = Some (space.bar0, space.bar0 + 4096) in
    let second : Option (ℕ × ℕ) = Some (space.bar1, space.bar1 + 512) in
    start_by (space.memory && eqb bar 0) (space.memory && eqb bar 1 && has_vectors space.spec) is
  where
    start_by : (one other : Bool) → cond one (Some (space.bar0, space.bar0 + 4096)) (cond other (Some (space.bar1, space.bar1 + 512)) None) ≡ Some ends → ends.0 % 4 ≡ 0
    start_by true other e = (let same : space.bar0 ≡ ends.0 = ap (λ (p : ℕ × ℕ). p.0) (same_Some (space.bar0, space.bar0 + 4096) ends e) in omega arith)
    start_by false true e = (let same : space.bar1 ≡ ends.0 = ap (λ (p : ℕ × ℕ). p.0) (same_Some (space.bar1, space.bar1 + 512) ends e) in omega arith)
    start_by false false e = absurd (none-some ends e)

-- the window that is found: the access lies in it, and in no window before it
pub record IsTheWindow (image : Image) (f : Facts) (id at width : ℕ) (w : Window) : Type 0 where
  pub endpoint : Endpoint
  pub lies : LiesInBar image f id w.device w.bar at width endpoint
  pub earliest : IsFirstBar image f id w.device w.bar at width
  pub there : at ≡ lies.start + (at - w.start)
  pub rounded : at % 4 ≡ 0 → (at - w.start) / 4 * 4 ≡ at - w.start

-- a window of a BAR has the access that lies in it, and is one of the cell's
pub lies_has : (image : Image) (f : Facts) (id n bar at width : ℕ) (e : Endpoint) → IsSound image f → (h : LiesInBar image f id n bar at width e)
    → Contains (windows_from id f.endpoints 0 (list_in image f.cells id)) (window_at n bar (h.start, h.end)) × (window_has at width (window_at n bar (h.start, h.end)) ≡ true)
lies_has image f id n bar at width e sound h =
    let listed = device_listed image f id n h.device e sound h.is in
    let first : h.start ≤ at = h.first in
    let last : at + width ≤ h.end = h.last in (
      windows_have id f.endpoints 0 n n bar (list_in image f.cells id) h.device e (h.start, h.end) (omega arith) listed.item listed.passes h.is.there h.window,
      lies_from h.start (h.start + (h.end - h.start)) at width first (omega arith),
    )

pub window_none : (image : Image) (f : Facts) (id at width : ℕ) → IsSound image f → window_of_access (devices_of image f id) at width ≡ None → (n bar : ℕ) (e : Endpoint) → LiesInBar image f id n bar at width e → ⊥
window_none image f id at width sound none n bar e h =
    let has = lies_has image f id n bar at width e sound h in
    let w : Window = window_at n bar (h.start, h.end) in
    both_ways (window_has at width w) (find_None (window_has at width) (windows_from id f.endpoints 0 (list_in image f.cells id)) w (sym (windows_listed image f id at width) ∙ none) has.0) has.1

first_lies : (image : Image) (f : Facts) (id at width : ℕ) (w : Window) → IsSound image f → 0 < width → find (window_has at width) (windows_from id f.endpoints 0 (list_in image f.cells id)) ≡ Some w → IsFirstBar image f id w.device w.bar at width
first_lies image f id at width w sound some found m other e lower h =
    let has = lies_has image f id m other at width e sound h in
    let x : Window = window_at m other (h.start, h.end) in
    not_before lower (windows_first (window_has at width) id f.endpoints 0 (list_in image f.cells id) w x found has.0 has.1)
  where
    not_before : (m < w.device) ⊎ ((m ≡ w.device) × (other < w.bar)) → IsFirst w (window_at m other (h.start, h.end)) → ⊥
    not_before (inl less) (inl same) = (let e : w.device ≡ m = ap (λ (v : Window). v.device) same in omega arith)
    not_before (inl less) (inr (inl more)) = omega arith
    not_before (inl less) (inr (inr both)) = (let e : w.device ≡ m = both.0 in omega arith)
    not_before (inr less) (inl same) = (let e : w.bar ≡ other = ap (λ (v : Window). v.bar) same in let lt : other < w.bar = less.1 in omega arith)
    not_before (inr less) (inr (inl more)) = (let e : m ≡ w.device = less.0 in omega arith)
    not_before (inr less) (inr (inr both)) = (let lt : other < w.bar = less.1 in let gt : w.bar < other = both.1 in omega arith)

pub window_lies : (image : Image) (f : Facts) (id at width : ℕ) (w : Window) → IsSound image f → 0 < width → window_of_access (devices_of image f id) at width ≡ Some w → IsTheWindow image f id at width w
window_lies image f id at width w sound some is =
    let found : find (window_has at width) (windows_from id f.endpoints 0 (list_in image f.cells id)) ≡ Some w = sym (windows_listed image f id at width) ∙ is in
    let got = IsFound_from_find (window_has at width) (windows_from id f.endpoints 0 (list_in image f.cells id)) w found in
    let own = windows_are id f.endpoints 0 (list_in image f.cells id) w got.among in
    let place : w.device ≡ 0 + own.index = own.place in
    let number : own.index ≡ w.device = omega arith in
    let item : slice_get (list_in image f.cells id) w.device ≡ Some own.device = ap (slice_get (list_in image f.cells id)) (sym number) ∙ own.item in
    let start : w.start ≡ own.ends.0 = ap (λ (v : Window). v.start) own.is in
    let size : w.size ≡ own.ends.1 - own.ends.0 = ap (λ (v : Window). v.size) own.is in
    let parts = lies_parts w.start (w.start + w.size) at width some got.passes in
    let first : w.start ≤ at = parts.0 in
    let last : at + width ≤ w.start + w.size = parts.1 in
    let windows = (endpoint_sound image f id w.device own.endpoint sound own.there).windows in
    let aligned : own.ends.0 % 4 ≡ 0 = window_start own.endpoint.space w.bar own.ends windows.pages windows.tables own.window in
    record {
      endpoint = own.endpoint;
      lies = record {
        device = own.device;
        is = listed_device image f id w.device own.device own.endpoint item own.passes own.there;
        start = own.ends.0;
        end = own.ends.1;
        window = own.window;
        first = omega arith;
        last = omega arith;
      };
      earliest = first_lies image f id at width w sound some found;
      there = omega arith;
      rounded = λ word. omega arith;
    }

pub found_passes : (image : Image) (f : Facts) (id at width : ℕ) (w : Window) → window_of_access (devices_of image f id) at width ≡ Some w → window_has at width w ≡ true
found_passes image f id at width w is =
    (IsFound_from_find (window_has at width) (windows_from id f.endpoints 0 (list_in image f.cells id)) w (sym (windows_listed image f id at width) ∙ is)).passes

-- ---- functions

pub function_is : (image : Image) (f : Facts) (id offset : ℕ) (e : Endpoint) → IsSound image f → IsFunctionAt image f id offset e → function_at (devices_of image f id) offset ≡ Some e
function_is image f id offset e sound h =
    let listed = device_listed image f id h.number h.device e sound h.is in
    let devices : List PciDevice = list_in image f.cells id in
    let some = function_some (offset / 4096) 0 h.number h.number devices h.device (omega arith) listed.item listed.passes h.has in
    let found = function_found (offset / 4096) 0 devices some.0 some.1 in
    let place : some.0 ≡ 0 + found.index = found.place in
    let index : found.index ≡ some.0 = omega arith in
    let cell : CellConfig = h.is.cell in
    let own : devices ≡ cell.pci_devices = list_by image f.cells id cell (cell_named image f id cell sound h.is.live h.is.named) in
    let item : slice_get cell.pci_devices some.0 ≡ Some found.device = ap (λ (ds : List PciDevice). slice_get ds some.0) (sym own) ∙ ap (slice_get devices) (sym index) ∙ found.item in
    let kind : found.device.kind ≡ 3 = eqb-true found.device.kind 3 (and_parts (nat_lt some.0 (2 ^ 32)) (is_shmem found.device) found.passes).1 in
    let numbered = number_of_holds image f.cells cell h.is.live in
    let linked : AreLinked found.device h.device = record { one_kind = kind; other_kind = h.is.kind; bdf = found.has ∙ sym h.has } in
    let same : some.0 ≡ h.number = sound.cells.clean.single numbered.0 cell numbered.1 some.0 h.number found.device h.device item h.is.item linked in
    ap (option_and_then (λ n. endpoint_at id n f.endpoints)) (some.1 ∙ ap Some same) ∙ h.is.there

function_by : (image : Image) (f : Facts) (id offset : ℕ) (e : Endpoint) (o : Option ℕ) → number_from (offset / 4096) 0 (list_in image f.cells id) ≡ o → option_and_then (λ n. endpoint_at id n f.endpoints) o ≡ Some e → IsFunctionAt image f id offset e
function_by image f id offset e None is there = absurd (none-some e there)
function_by image f id offset e (Some n) is there =
    let found = function_found (offset / 4096) 0 (list_in image f.cells id) n is in
    let place : n ≡ 0 + found.index = found.place in
    let index : found.index ≡ n = omega arith in
    let item : slice_get (list_in image f.cells id) n ≡ Some found.device = ap (slice_get (list_in image f.cells id)) (sym index) ∙ found.item in
    record { number = n; device = found.device; is = listed_device image f id n found.device e item found.passes there; has = found.has }

pub function_has : (image : Image) (f : Facts) (id offset : ℕ) (e : Endpoint) → function_at (devices_of image f id) offset ≡ Some e → IsFunctionAt image f id offset e
function_has image f id offset e is = function_by image f id offset e (number_from (offset / 4096) 0 (list_in image f.cells id)) refl is

-- ---- what is told

function_told : (image : Image) (f : Facts) (id offset width : ℕ) (o : Option Endpoint) → function_at (devices_of image f id) offset ≡ o
    → config_value (devices_of image f id) (record { at = offset; width = width }) ≡ option_map_or (λ (e : Endpoint). space_read e.space (offset % 4096) width) o (256 ^ width - 1)
function_told image f id offset width o is = ap (λ (p : Option Endpoint). option_map_or (λ (e : Endpoint). space_read e.space (offset % 4096) width) p (256 ^ width - 1)) is

pub told_function : (image : Image) (f : Facts) (id offset width : ℕ) (e : Endpoint) → IsSound image f → IsFunctionAt image f id offset e
    → config_value (devices_of image f id) (record { at = offset; width = width }) ≡ space_read e.space (offset % 4096) width
told_function image f id offset width e sound has = function_told image f id offset width (Some e) (function_is image f id offset e sound has)

ones_by : (image : Image) (f : Facts) (id offset width : ℕ) (o : Option Endpoint) → function_at (devices_of image f id) offset ≡ o → ((e : Endpoint) → IsFunctionAt image f id offset e → ⊥)
    → config_value (devices_of image f id) (record { at = offset; width = width }) ≡ 256 ^ width - 1
ones_by image f id offset width None is none = function_told image f id offset width None is
ones_by image f id offset width (Some e) is none = absurd (none e (function_has image f id offset e is))

pub told_ones : (image : Image) (f : Facts) (id offset width : ℕ) → ((e : Endpoint) → IsFunctionAt image f id offset e → ⊥) → config_value (devices_of image f id) (record { at = offset; width = width }) ≡ 256 ^ width - 1
told_ones image f id offset width none = ones_by image f id offset width (function_at (devices_of image f id) offset) refl none

pub told_register : (image : Image) (f : Facts) (id n bar offset : ℕ) (e : Endpoint) → endpoint_at id n f.endpoints ≡ Some e → register_value (devices_of image f id) (record { device = n; bar = bar; at = offset }) ≡ register_of e bar offset
told_register image f id n bar offset e there = ap (λ (o : Option Endpoint). option_map_or (λ (p : Endpoint). register_of p bar offset) o 0) there

-- ---- one register answers

lower_or : (n bar m other : ℕ) → (IsLower n bar m other → ⊥) → (IsLower m other n bar → ⊥) → (n ≡ m) × (bar ≡ other)
lower_or n bar m other one two = elim (cases_lt n m) [
  | inl less ↦ absurd (one (inl less))
  | inr le ↦ elim (cases_lt m n) [
    | inl more ↦ absurd (two (inl more))
    | inr ge ↦
        let same : n ≡ m = omega arith in
        elim (cases_lt bar other) [
          | inl less ↦ absurd (one (inr (same, less)))
          | inr low ↦ elim (cases_lt other bar) [
            | inl more ↦ absurd (two (inr (sym same, more)))
            | inr high ↦ (same, omega arith)
          ]
        ]
  ]
]

-- so what it is by these is one thing
pub same_register : {X : Type 0} (image : Image) (f : Facts) (id : ℕ) (access : Access) (at width n bar offset m other place : ℕ) (e o : Endpoint) (g : ℕ → ℕ → ℕ → Endpoint → X) → IsAnsweredByRegister image f id access at width n bar offset e
    → IsAnsweredByRegister image f id access at width m other place o → g n bar offset e ≡ g m other place o
same_register image f id access at width n bar offset m other place e o g one two =
    let same = lower_or n bar m other (λ lower. two.earliest n bar e lower one.within) (λ lower. one.earliest m other o lower two.within) in
    let P : ℕ → Type 0 = λ k. endpoint_at id k f.endpoints ≡ Some e in
    let endpoint : e ≡ o = same_Some e o (sym (subst P same.0 one.within.is.there) ∙ two.within.is.there) in
    let ends : window_of e.space bar ≡ Some (two.within.start, two.within.end) = ap (λ (p : Endpoint). window_of p.space bar) endpoint ∙ ap (window_of o.space) same.1 ∙ two.within.window in
    let start : one.within.start ≡ two.within.start = ap (λ (p : ℕ × ℕ). p.0) (same_Some (one.within.start, one.within.end) (two.within.start, two.within.end) (sym one.within.window ∙ ends)) in
    let there : at ≡ one.within.start + offset = one.there in
    let here : at ≡ two.within.start + place = two.there in
    let at_same : offset ≡ place = omega arith in
    ap (λ (k : ℕ). g k bar offset e) same.0 ∙ ap (λ (b : ℕ). g m b offset e) same.1 ∙ ap (λ (a : ℕ). g m other a e) at_same ∙ ap (g m other place) endpoint
