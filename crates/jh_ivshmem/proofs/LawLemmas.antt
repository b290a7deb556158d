-- The laws of endpoints.
use Rattle.std.proofs.Common.{ℕ, ◌≡◌, ◌≢◌, ◌/◌, ◌%◌, ◌^◌, ◌<◌, ◌≤◌, Bool, true, false, not, ◌&&◌, ◌||◌, ◌==◌, nat_lt, cond, List, Option, Some, None, option_map, length, get_or, set, inl, inr, refl, sym, ◌∙◌, ap, arith}
use Rattle.std.proofs.lemmas.Bool.{cases_Bool, cases_eq, cases_lt, false≢true}
use Rattle.std.specs.List.{slice_get}
use Rattle.std.specs.Option.{option_map_or}
use Rattle.std.proofs.lemmas.Option.{slice_get-map}
use Rattle.std.proofs.lemmas.List.{get_or-set_same, get_or-set_other, get_or_past}
use Rattle.jh_vpci.specs.Space.{has_vectors, is_open as is_function_open}
use Rattle.jh_vpci.proofs.Public.{differs}
use Rattle.jh_ivshmem.specs.declared.endpoint.Endpoint.{Endpoint}
use Rattle.jh_ivshmem.specs.declared.vector.Vector.{Vector}
use Rattle.jh_ivshmem.specs.declared.spec.EndpointSpec.{EndpointSpec}
use Rattle.jh_ivshmem.specs.Specs.{vector_count, is_device, is_peer, is_other}
use Rattle.jh_ivshmem.specs.Endpoint.{is_open, raised, cleared, vector_at, fresh_vector}
use Rattle.jh_ivshmem.specs.Registers.{register_written, with_word, is_in_table}
use Rattle.jh_ivshmem.specs.Changes.{changed}
use Rattle.jh_ivshmem.specs.Links.{is_pending_at, told_of, written, reset_of}
use Rattle.jh_ivshmem.proofs.ApartLemmas.{changed_at, changed_length}
use Rattle.jh_ivshmem.proofs.KeyLemmas.{not_below}

pub closed : (v : ℕ) (e : Endpoint) → is_open e v ≡ false → raised v e ≡ e
unfolding raised
closed v e shut = rw shut refl

-- one part of the test fails
part_1 : (a b c d : Bool) → a ≡ false → (((a && b) && c) && d) ≡ false
part_1 true b c d h = cc
part_1 false b c d h = refl

part_2 : (a b c d : Bool) → b ≡ false → (((a && b) && c) && d) ≡ false
part_2 true true c d h = cc
part_2 true false c d h = refl
part_2 false b c d h = refl

part_3 : (a b c d : Bool) → c ≡ false → (((a && b) && c) && d) ≡ false
part_3 true true true d h = cc
part_3 true true false d h = refl
part_3 true false c d h = refl
part_3 false b c d h = refl

part_4 : (a b c d : Bool) → d ≡ false → (((a && b) && c) && d) ≡ false
part_4 true true true d h = h
part_4 true true false d h = refl
part_4 true false c d h = refl
part_4 false b c d h = refl

pub closed_control : (v : ℕ) (e : Endpoint) → e.control ≡ false → raised v e ≡ e
closed_control v e h = closed v e (part_1 e.control (nat_lt v (vector_count e.spec)) (is_function_open e.space)
    (not (has_vectors e.spec.function) || not (vector_at e v).masked) h)

pub closed_count : (v : ℕ) (e : Endpoint) → vector_count e.spec ≤ v → raised v e ≡ e
closed_count v e h = closed v e (part_2 e.control (nat_lt v (vector_count e.spec)) (is_function_open e.space)
    (not (has_vectors e.spec.function) || not (vector_at e v).masked) (not_below v (vector_count e.spec) h))

pub closed_function : (v : ℕ) (e : Endpoint) → is_function_open e.space ≡ false → raised v e ≡ e
closed_function v e h = closed v e (part_3 e.control (nat_lt v (vector_count e.spec)) (is_function_open e.space)
    (not (has_vectors e.spec.function) || not (vector_at e v).masked) h)

silent : (vectors master enabled masked : Bool) → vectors ≡ true → (master && enabled && not masked) ≡ false
    → (not vectors || (master && enabled && not masked)) ≡ false
silent true master enabled masked h g = g
silent false master enabled masked h g = cc

no_master : (a b c : Bool) → a ≡ false → (a && b && c) ≡ false
no_master true b c h = cc
no_master false b c h = refl

no_enable : (a b c : Bool) → b ≡ false → (a && b && c) ≡ false
no_enable true true c h = cc
no_enable true false c h = refl
no_enable false b c h = refl

no_mask : (a b c : Bool) → c ≡ true → (a && b && not c) ≡ false
no_mask true true true h = refl
no_mask true true false h = cc
no_mask true false c h = refl
no_mask false b c h = refl

pub closed_master : (v : ℕ) (e : Endpoint) → has_vectors e.space.spec ≡ true → e.space.bus_master ≡ false → raised v e ≡ e
closed_master v e some h = closed_function v e (silent (has_vectors e.space.spec) e.space.bus_master e.space.enabled e.space.masked some
    (no_master e.space.bus_master e.space.enabled (not e.space.masked) h))

pub closed_enabled : (v : ℕ) (e : Endpoint) → has_vectors e.space.spec ≡ true → e.space.enabled ≡ false → raised v e ≡ e
closed_enabled v e some h = closed_function v e (silent (has_vectors e.space.spec) e.space.bus_master e.space.enabled e.space.masked some
    (no_enable e.space.bus_master e.space.enabled (not e.space.masked) h))

pub closed_masked : (v : ℕ) (e : Endpoint) → has_vectors e.space.spec ≡ true → e.space.masked ≡ true → raised v e ≡ e
closed_masked v e some h = closed_function v e (silent (has_vectors e.space.spec) e.space.bus_master e.space.enabled e.space.masked some
    (no_mask e.space.bus_master e.space.enabled e.space.masked h))

shut : (a b : Bool) → a ≡ true → b ≡ true → (not a || not b) ≡ false
shut true true h g = refl
shut true false h g = cc
shut false b h g = cc

pub closed_vector : (v : ℕ) (e : Endpoint) → has_vectors e.spec.function ≡ true → (vector_at e v).masked ≡ true → raised v e ≡ e
closed_vector v e some h = closed v e (part_4 e.control (nat_lt v (vector_count e.spec)) (is_function_open e.space)
    (not (has_vectors e.spec.function) || not (vector_at e v).masked)
    (shut (has_vectors e.spec.function) (vector_at e v).masked some h))

pub raised_pending : (v : ℕ) (e : Endpoint) → v < length e.vectors → is_open e v ≡ true → (vector_at (raised v e) v).pending ≡ true
unfolding raised
raised_pending v e within opened =
    rw opened (ap (λ (x : Vector). x.pending)
    (get_or-set_same e.vectors v (record (vector_at e v) { pending = true }) fresh_vector within))

pub raised_control : (v : ℕ) (e : Endpoint) → is_open e v ≡ true → (raised v e).control ≡ not e.space.one_shot
unfolding raised
raised_control v e opened = rw opened refl

pub raised_others : (v u : ℕ) (e : Endpoint) → u ≢ v → vector_at (raised v e) u ≡ vector_at e u
unfolding raised
raised_others v u e other =
    elim (cases_Bool (is_open e v)) as (λ _. vector_at (raised v e) u ≡ vector_at e u) [
      | inl opened ↦ rw opened (get_or-set_other e.vectors v u (record (vector_at e v) { pending = true }) fresh_vector other)
      | inr closes ↦ rw closes refl
    ]

-- a vector written at an index keeps what is pending, where the new one keeps it
set_keeps : (xs : List Vector) (v u : ℕ) (y : Vector) → ((get_or xs v fresh_vector).pending ≡ true → y.pending ≡ true)
    → (get_or xs u fresh_vector).pending ≡ true → (get_or (set xs v y) u fresh_vector).pending ≡ true
set_keeps xs v u y keeps was =
    elim (cases_eq u v) as (λ _. (get_or (set xs v y) u fresh_vector).pending ≡ true) [
      | inr other ↦ ap (λ (x : Vector). x.pending) (get_or-set_other xs v u y fresh_vector other) ∙ was
      | inl same ↦ elim (cases_lt u (length xs)) as (λ _. (get_or (set xs v y) u fresh_vector).pending ≡ true) [
        | inl within ↦
            let inside : v < length xs = omega arith in
            ap (λ (x : Vector). x.pending) (ap (λ n. get_or (set xs v y) n fresh_vector) same ∙ get_or-set_same xs v y fresh_vector inside)
            ∙ keeps (ap (λ n. (get_or xs n fresh_vector).pending) (sym same) ∙ was)
        | inr past ↦ absurd (false≢true (sym (ap (λ (x : Vector). x.pending) (get_or_past xs u fresh_vector past)) ∙ was))
      ]
    ]

pub raised_keeps_pending : (v u : ℕ) (e : Endpoint) → (vector_at e u).pending ≡ true → (vector_at (raised v e) u).pending ≡ true
unfolding raised
raised_keeps_pending v u e was =
    elim (cases_Bool (is_open e v)) as (λ _. (vector_at (raised v e) u).pending ≡ true) [
      | inl opened ↦ rw opened (set_keeps e.vectors v u (record (vector_at e v) { pending = true }) (λ _. refl) was)
      | inr closes ↦ rw closes was
    ]

word_pending : (a b c : Bool) (n value : ℕ) (x : Vector) → (cond a (record x { address = value })
    (cond b (record x { upper_address = value }) (cond c (record x { message = value }) (record x { masked = value % 2 == 1 })))).pending ≡ x.pending
word_pending true b c n value x = refl
word_pending false true c n value x = refl
word_pending false false true n value x = refl
word_pending false false false n value x = refl

pub register_written_keeps_pending : (bar at value u : ℕ) (e : Endpoint) → (vector_at e u).pending ≡ true
    → (vector_at (register_written bar at value e) u).pending ≡ true
unfolding register_written
register_written_keeps_pending bar at value u e was =
    elim (cases_Bool (bar == 0)) as (λ _. (vector_at (register_written bar at value e) u).pending ≡ true) [
      | inl registers ↦ elim (cases_Bool (at == 0x08)) as (λ _. (vector_at (register_written bar at value e) u).pending ≡ true) [
        | inl control ↦ rw (registers, control) was
        | inr other ↦ rw (registers, other) was
      ]
      | inr table ↦ elim (cases_Bool (is_in_table e at)) as (λ _. (vector_at (register_written bar at value e) u).pending ≡ true) [
        | inl inside ↦ rw (table, inside) (set_keeps e.vectors (at / 16) u
            (with_word (at / 4 % 4) value (vector_at e (at / 16)))
            (λ h. word_pending (at / 4 % 4 == 0) (at / 4 % 4 == 1) (at / 4 % 4 == 2) (at / 4 % 4) value (vector_at e (at / 16)) ∙ h) was)
        | inr outside ↦ rw (table, outside) was
      ]
    ]

either : (f : Endpoint → Endpoint) (v : ℕ) → ((o : Endpoint) → (vector_at o v).pending ≡ true → (vector_at (f o) v).pending ≡ true)
    → (b : Bool) (o : Endpoint) → (vector_at o v).pending ≡ true → (vector_at (cond b (f o) o) v).pending ≡ true
either f v keeps true o h = keeps o h
either f v keeps false o h = h

-- a change that keeps pending vectors keeps them at each index
kept_where_found : (test : EndpointSpec → Bool) (f : Endpoint → Endpoint) (v : ℕ)
    → ((o : Endpoint) → (vector_at o v).pending ≡ true → (vector_at (f o) v).pending ≡ true) → (found : Option Endpoint)
    → option_map_or (λ (o : Endpoint). (vector_at o v).pending) found false ≡ true
    → option_map_or (λ (o : Endpoint). (vector_at o v).pending) (option_map (λ (o : Endpoint). cond (test o.spec) (f o) o) found) false ≡ true
kept_where_found test f v keeps None was = was
kept_where_found test f v keeps (Some e) was = either f v keeps (test e.spec) e was

changed_keeps_pending : (test : EndpointSpec → Bool) (f : Endpoint → Endpoint) (list : List Endpoint) (k v : ℕ)
    → ((o : Endpoint) → (vector_at o v).pending ≡ true → (vector_at (f o) v).pending ≡ true)
    → is_pending_at k v list ≡ true → is_pending_at k v (changed test f list) ≡ true
unfolding changed
changed_keeps_pending test f list k v keeps was =
    ap (λ (found : Option Endpoint). option_map_or (λ (o : Endpoint). (vector_at o v).pending) found false)
    (slice_get-map (λ (o : Endpoint). cond (test o.spec) (f o) o) list k)
    ∙ kept_where_found test f v keeps (slice_get list k) was

told_keeps_pending : (e : Endpoint) (value : ℕ) (list : List Endpoint) (k v : ℕ)
    → is_pending_at k v list ≡ true → is_pending_at k v (told_of e value list) ≡ true
told_keeps_pending e value list k v was =
    elim (cases_Bool (e.state == value)) as (λ _. is_pending_at k v (told_of e value list) ≡ true) [
      | inl same ↦ rw same was
      | inr other ↦ rw other (changed_keeps_pending (is_other e.spec.bdf e.spec.id) (raised 0) list k v
          (λ o h. raised_keeps_pending 0 v o h) was)
    ]

told_length : (e : Endpoint) (value : ℕ) (list : List Endpoint) → length (told_of e value list) ≡ length list
told_length e value list =
    elim (cases_Bool (e.state == value)) as (λ _. length (told_of e value list) ≡ length list) [
      | inl same ↦ rw same refl
      | inr other ↦ rw other (changed_length (is_other e.spec.bdf e.spec.id) (raised 0) list)
    ]

pub written_keeps_pending : (e : Endpoint) (bar at value : ℕ) (list : List Endpoint) (k v : ℕ)
    → is_pending_at k v list ≡ true → is_pending_at k v (written e bar at value list) ≡ true
unfolding written
written_keeps_pending e bar at value list k v was =
    elim (cases_Bool ((bar == 0) && (at == 0x0c))) as (λ _. is_pending_at k v (written e bar at value list) ≡ true) [
      | inl doorbell ↦ rw doorbell (changed_keeps_pending (is_peer e.spec.bdf (value / 2 ^ 16)) (raised (value % 2 ^ 16)) list k v
          (λ o h. raised_keeps_pending (value % 2 ^ 16) v o h) was)
      | inr other ↦ elim (cases_Bool ((bar == 0) && (at == 0x10)))
          as (λ _. is_pending_at k v (written e bar at value list) ≡ true) [
            | inl state ↦ rw (other, state)
                (changed_keeps_pending (is_device e.spec.cell e.spec.device) (λ (o : Endpoint). record o { state = value })
                (told_of e value list) k v (λ o h. h) (told_keeps_pending e value list k v was))
            | inr register ↦ rw (other, register)
                (changed_keeps_pending (is_device e.spec.cell e.spec.device) (register_written bar at value) list k v
                (λ o h. register_written_keeps_pending bar at value v o h) was)
          ]
    ]

-- what stands at an index after a change
changed_get : (test : EndpointSpec → Bool) (f : Endpoint → Endpoint) (list : List Endpoint) (k : ℕ) (e : Endpoint)
    → slice_get list k ≡ Some e → slice_get (changed test f list) k ≡ Some (cond (test e.spec) (f e) e)
unfolding changed
changed_get test f list k e found =
    slice_get-map (λ (o : Endpoint). cond (test o.spec) (f o) o) list k
    ∙ ap (option_map (λ (o : Endpoint). cond (test o.spec) (f o) o)) found

pub meant_get : (test : EndpointSpec → Bool) (f : Endpoint → Endpoint) (list : List Endpoint) (k : ℕ) (e : Endpoint)
    → slice_get list k ≡ Some e → test e.spec ≡ true → slice_get (changed test f list) k ≡ Some (f e)
meant_get test f list k e found passes = changed_get test f list k e found ∙ ap (λ b. Some (cond b (f e) e)) passes

pub stays_get : (test : EndpointSpec → Bool) (f : Endpoint → Endpoint) (list : List Endpoint) (k : ℕ) (e : Endpoint)
    → slice_get list k ≡ Some e → test e.spec ≡ false → slice_get (changed test f list) k ≡ Some e
stays_get test f list k e found fails = changed_get test f list k e found ∙ ap (λ b. Some (cond b (f e) e)) fails

-- an endpoint that isn't meant stays
stays_at : (test : EndpointSpec → Bool) (f : Endpoint → Endpoint) (list : List Endpoint) (k : ℕ) (d : Endpoint)
    → k < length list → test (get_or list k d).spec ≡ false → get_or (changed test f list) k d ≡ get_or list k d
stays_at test f list k d within fails = changed_at test f list k d within ∙ rw fails refl

no_peer : (bdf id : ℕ) (s : EndpointSpec) → s.bdf ≢ bdf → is_peer bdf id s ≡ false
no_peer bdf id s other = rw (differs s.bdf bdf other) refl

no_other : (bdf id : ℕ) (s : EndpointSpec) → s.bdf ≢ bdf → is_other bdf id s ≡ false
no_other bdf id s other = rw (differs s.bdf bdf other) refl

told_stays : (e : Endpoint) (value : ℕ) (list : List Endpoint) (k : ℕ) (d : Endpoint) → k < length list
    → (get_or list k d).spec.bdf ≢ e.spec.bdf → get_or (told_of e value list) k d ≡ get_or list k d
told_stays e value list k d within link =
    elim (cases_Bool (e.state == value)) as (λ _. get_or (told_of e value list) k d ≡ get_or list k d) [
      | inl same ↦ rw same refl
      | inr other ↦ rw other (stays_at (is_other e.spec.bdf e.spec.id) (raised 0) list k d within
          (no_other e.spec.bdf e.spec.id (get_or list k d).spec link))
    ]

-- a change of the endpoint itself after the others of its link were told
own_stays : (e : Endpoint) (value : ℕ) (f : Endpoint → Endpoint) (list : List Endpoint) (k : ℕ) (d : Endpoint) → k < length list
    → (get_or list k d).spec.bdf ≢ e.spec.bdf → is_device e.spec.cell e.spec.device (get_or list k d).spec ≡ false
    → get_or (changed (is_device e.spec.cell e.spec.device) f (told_of e value list)) k d ≡ get_or list k d
own_stays e value f list k d within link device =
    let same = told_stays e value list k d within link in
    stays_at (is_device e.spec.cell e.spec.device) f (told_of e value list) k d
    (let all = told_length e value list in omega arith)
    (ap (λ (o : Endpoint). is_device e.spec.cell e.spec.device o.spec) same ∙ device)
    ∙ same

pub written_stays : (e : Endpoint) (bar at value : ℕ) (list : List Endpoint) (k : ℕ) (d : Endpoint) → k < length list
    → (get_or list k d).spec.bdf ≢ e.spec.bdf → is_device e.spec.cell e.spec.device (get_or list k d).spec ≡ false
    → get_or (written e bar at value list) k d ≡ get_or list k d
unfolding written
written_stays e bar at value list k d within link device =
    elim (cases_Bool ((bar == 0) && (at == 0x0c))) as (λ _. get_or (written e bar at value list) k d ≡ get_or list k d) [
      | inl doorbell ↦ rw doorbell (stays_at (is_peer e.spec.bdf (value / 2 ^ 16)) (raised (value % 2 ^ 16)) list k d within
          (no_peer e.spec.bdf (value / 2 ^ 16) (get_or list k d).spec link))
      | inr other ↦ elim (cases_Bool ((bar == 0) && (at == 0x10)))
          as (λ _. get_or (written e bar at value list) k d ≡ get_or list k d) [
            | inl state ↦ rw (other, state) (own_stays e value (λ (o : Endpoint). record o { state = value }) list k d within link device)
            | inr register ↦ rw (other, register)
                (stays_at (is_device e.spec.cell e.spec.device) (register_written bar at value) list k d within device)
          ]
    ]

pub reset_stays : (e : Endpoint) (list : List Endpoint) (k : ℕ) (d : Endpoint) → k < length list
    → (get_or list k d).spec.bdf ≢ e.spec.bdf → is_device e.spec.cell e.spec.device (get_or list k d).spec ≡ false
    → get_or (reset_of e list) k d ≡ get_or list k d
reset_stays e list k d within link device = own_stays e 0 cleared list k d within link device
