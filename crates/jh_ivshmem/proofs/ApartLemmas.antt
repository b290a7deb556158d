-- Endpoints are apart, so a name means one of them.
use Rattle.std.proofs.Common.{ℕ, ◌≡◌, ◌≢◌, ◌<◌, Bool, true, false, not, ◌&&◌, ◌==◌, cond, List, length, map, AllPairs, get_or, set, inl, inr, refl, sym, ◌∙◌, ap, subst, arith}
use Rattle.std.proofs.lemmas.Bool.{cases_Bool, cases_eq, cases_lt, and_parts, both_ways}
use Rattle.std.proofs.lemmas.Bool.Decides.{nat_tests}
use Rattle.std.proofs.lemmas.List.{length-set, length-map, get_or-map, get_or-set_same, get_or-set_other, get_or_default, same_lists}
use Rattle.jh_vpci.proofs.Public.{equals}
use Rattle.jh_ivshmem.specs.declared.endpoint.Endpoint.{Endpoint}
use Rattle.jh_ivshmem.specs.declared.spec.EndpointSpec.{EndpointSpec}
use Rattle.jh_ivshmem.specs.Specs.{is_device, is_peer, AreEndpointsApart}
use Rattle.jh_ivshmem.specs.Changes.{changed}
use Rattle.jh_ivshmem.specs.Keys.{key_of}
use Rattle.jh_ivshmem.specs.Private.Keys.{is_key_apart}

-- the two numbers that name an endpoint
pub device_is : (cell device : ℕ) (a : EndpointSpec) → is_device cell device a ≡ true → (a.cell ≡ cell) × (a.device ≡ device)
device_is cell device a h =
    let both = and_parts (a.cell == cell) (a.device == device) h in
    (equals a.cell cell both.0, equals a.device device both.1)

pub peer_is : (bdf id : ℕ) (a : EndpointSpec) → is_peer bdf id a ≡ true → (a.bdf ≡ bdf) × (a.id ≡ id)
peer_is bdf id a h =
    let both = and_parts (a.bdf == bdf) (a.id == id) h in
    (equals a.bdf bdf both.0, equals a.id id both.1)

-- of two that are apart not both have the name
pub devices_apart : (cell device : ℕ) (a b : EndpointSpec) → AreEndpointsApart a b → is_device cell device a ≡ true
    → is_device cell device b ≡ true → ⊥
devices_apart cell device a b apart here there =
    let name = device_is cell device a here in
    both_ways (is_device a.cell a.device b) apart.devices
    (ap (λ n. is_device n a.device b) name.0 ∙ ap (λ n. is_device cell n b) name.1 ∙ there)

pub peers_apart : (bdf id : ℕ) (a b : EndpointSpec) → AreEndpointsApart a b → is_peer bdf id a ≡ true
    → is_peer bdf id b ≡ true → ⊥
peers_apart bdf id a b apart here there =
    let name = peer_is bdf id a here in
    both_ways (is_peer a.bdf a.id b) apart.peers
    (ap (λ n. is_peer n a.id b) name.0 ∙ ap (λ n. is_peer bdf n b) name.1 ∙ there)

-- each at its index is apart from every other
apart_at : (es : List Endpoint) (i j : ℕ) (d : Endpoint) → AllPairs AreEndpointsApart (map (λ (o : Endpoint). o.spec) es) → i < j
    → j < length es → AreEndpointsApart (get_or es i d).spec (get_or es j d).spec
apart_at es i j d apart before within =
    let inside : j < length (map (λ (o : Endpoint). o.spec) es) = omega (arith, length-map es (λ (o : Endpoint). o.spec)) in
    let first : i < length es = omega arith in
    subst (λ (s : EndpointSpec). AreEndpointsApart s (get_or es j d).spec) (get_or-map (λ (o : Endpoint). o.spec) es i d d.spec first)
    (subst (λ (s : EndpointSpec). AreEndpointsApart (get_or (map (λ (o : Endpoint). o.spec) es) i d.spec) s)
    (get_or-map (λ (o : Endpoint). o.spec) es j d d.spec within)
    (apart i j d.spec before inside))

-- no other endpoint has the name of this one
pub single : (test : EndpointSpec → Bool) (none : (a b : EndpointSpec) → AreEndpointsApart a b → test a ≡ true → test b ≡ true → ⊥)
    (es : List Endpoint) (i k : ℕ) (d : Endpoint) → AllPairs AreEndpointsApart (map (λ (o : Endpoint). o.spec) es)
    → i < length es → test (get_or es i d).spec ≡ true → k < length es → k ≢ i → test (get_or es k d).spec ≡ false
single test none es i k d apart within here inside other =
    elim (cases_Bool (test (get_or es k d).spec)) as (λ _. test (get_or es k d).spec ≡ false) [
      | inr fails ↦ fails
      | inl there ↦ absurd (elim (cases_lt i k) as (λ _. ⊥) [
        | inl after ↦ none (get_or es i d).spec (get_or es k d).spec (apart_at es i k d apart after inside) here there
        | inr before ↦
            let earlier : k < i = omega arith in
            none (get_or es k d).spec (get_or es i d).spec (apart_at es k i d apart earlier within) there here
      ])
    ]

-- what a change leaves at an index
pub changed_at : (test : EndpointSpec → Bool) (f : Endpoint → Endpoint) (es : List Endpoint) (k : ℕ) (d : Endpoint)
    → k < length es → get_or (changed test f es) k d ≡ cond (test (get_or es k d).spec) (f (get_or es k d)) (get_or es k d)
unfolding changed
changed_at test f es k d within = get_or-map (λ (o : Endpoint). cond (test o.spec) (f o) o) es k d d within

pub changed_length : (test : EndpointSpec → Bool) (f : Endpoint → Endpoint) (es : List Endpoint)
    → length (changed test f es) ≡ length es
unfolding changed
changed_length test f es = length-map es _

set_at : (test : EndpointSpec → Bool) (f : Endpoint → Endpoint) (es : List Endpoint) (i : ℕ) (e : Endpoint)
    → i < length es → e ≡ get_or es i e → test e.spec ≡ true
    → ((k : ℕ) (d : Endpoint) → k < length es → k ≢ i → test (get_or es k d).spec ≡ false)
    → (k : ℕ) (d : Endpoint) → k < length es → get_or (set es i (f e)) k d ≡ get_or (changed test f es) k d
unfolding changed
set_at test f es i e within read here others k d inside =
    let g : Endpoint → Endpoint = λ o. cond (test o.spec) (f o) o in
    elim (cases_eq k i) as (λ _. get_or (set es i (f e)) k d ≡ get_or (changed test f es) k d) [
      | inl same ↦
          let taken : cond (test e.spec) (f e) e ≡ f e = rw here refl in
          ap (λ n. get_or (set es i (f e)) n d) same
          ∙ get_or-set_same es i (f e) d within
          ∙ sym (ap (λ n. get_or (changed test f es) n d) same
          ∙ get_or-map (λ (o : Endpoint). cond (test o.spec) (f o) o) es i e d within
          ∙ ap (λ (o : Endpoint). cond (test o.spec) (f o) o) (sym read)
          ∙ taken)
      | inr other ↦
          let fails = others k d inside other in
          let left : cond (test (get_or es k d).spec) (f (get_or es k d)) (get_or es k d) ≡ get_or es k d = rw fails refl in
          get_or-set_other es i k (f e) d other
          ∙ sym (get_or-map (λ (o : Endpoint). cond (test o.spec) (f o) o) es k d d inside ∙ left)
    ]

-- a change of the one that has the name
pub set_changed : (test : EndpointSpec → Bool) (f : Endpoint → Endpoint) (es : List Endpoint) (i : ℕ) (e : Endpoint)
    → i < length es → e ≡ get_or es i e → test e.spec ≡ true
    → ((k : ℕ) (d : Endpoint) → k < length es → k ≢ i → test (get_or es k d).spec ≡ false)
    → set es i (f e) ≡ changed test f es
set_changed test f es i e within read here others =
    same_lists (set es i (f e)) (changed test f es) (length-set es i (f e) ∙ sym (changed_length test f es)) (λ k d inside.
    let count = length-set es i (f e) in
    let bound : k < length es = omega arith in
    set_at test f es i e within read here others k d bound)

-- the same for the endpoint of a device
pub set_device : (cell device : ℕ) (f : Endpoint → Endpoint) (es : List Endpoint) (i : ℕ) (e : Endpoint)
    → AllPairs AreEndpointsApart (map (λ (o : Endpoint). o.spec) es) → i < length es → e ≡ get_or es i e
    → is_device cell device e.spec ≡ true → set es i (f e) ≡ changed (is_device cell device) f es
set_device cell device f es i e apart within read here =
    set_changed (is_device cell device) f es i e within read here
    (λ k d inside other.
    single (is_device cell device) (devices_apart cell device) es i k d apart within
    (let same = get_or_default es i d e within in
    ap (λ (o : Endpoint). is_device cell device o.spec) (same ∙ sym read) ∙ here)
    inside other)

turned : (a b : ℕ) → (a == b) ≡ (b == a)
turned a b = grind (arith, nat_tests)

both_false : (a b : Bool) → (not a && not b) ≡ true → (a ≡ false) × (b ≡ false)
both_false true b h = cc
both_false false true h = cc
both_false false false h = (refl, refl)

neither : (a b : Bool) → a ≡ false → b ≡ false → (not a && not b) ≡ true
neither true b h g = cc
neither false true h g = cc
neither false false h g = refl

pub device_turned : (a b : EndpointSpec) → is_device a.cell a.device b ≡ is_device b.cell b.device a
device_turned a b = rw (turned b.cell a.cell, turned b.device a.device) refl

pub peer_turned : (a b : EndpointSpec) → is_peer a.bdf a.id b ≡ is_peer b.bdf b.id a
peer_turned a b = rw (turned b.bdf a.bdf, turned b.id a.id) refl

-- what a key tells of being apart
pub apart_of_key : (e : Endpoint) (s : EndpointSpec) → is_key_apart s (key_of e) ≡ true → AreEndpointsApart e.spec s
apart_of_key e s h =
    let both = both_false (is_device s.cell s.device e.spec) (is_peer s.bdf s.id e.spec) h in
    record { devices = device_turned e.spec s ∙ both.0; peers = peer_turned e.spec s ∙ both.1 }

pub key_of_apart : (e : Endpoint) (s : EndpointSpec) → AreEndpointsApart e.spec s → is_key_apart s (key_of e) ≡ true
key_of_apart e s apart =
    neither (is_device s.cell s.device e.spec) (is_peer s.bdf s.id e.spec)
    (device_turned s e.spec ∙ apart.devices) (peer_turned s e.spec ∙ apart.peers)
