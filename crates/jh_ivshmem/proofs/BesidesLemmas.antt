-- What stays beside the endpoints that a call concerns.
use Rattle.std.proofs.Common.{ℕ, ◌≡◌, Bool, true, false, not, ◌&&◌, ◌==◌, cond, List, [], ◌∷◌, filter, Option, Some, None, MatchOption, inl, inr, refl, sym, ◌∙◌, ap}
use Rattle.std.proofs.lemmas.Bool.{cases_Bool, and_parts, and_from, or_left, or_right, not_from_true, eq-eqb}
use Rattle.jh_ivshmem.specs.declared.endpoint.Endpoint.{Endpoint}
use Rattle.jh_ivshmem.specs.declared.spec.EndpointSpec.{EndpointSpec}
use Rattle.jh_ivshmem.specs.Specs.{is_device, is_before, is_peer, is_other, is_concerned}
use Rattle.jh_ivshmem.specs.Endpoint.{raised, taken, cleared, fresh}
use Rattle.jh_ivshmem.specs.Registers.{register_written}
use Rattle.jh_ivshmem.specs.Changes.{changed}
use Rattle.jh_ivshmem.specs.Links.{besides, joined, others_raised, told_of, written, reset_of, left_by, taken_of}
use Rattle.jh_ivshmem.proofs.ChangeLemmas.{raised_spec, register_written_spec, taken_spec, cleared_spec}

-- an element that fails stands in no filtered list
dropped : (p : Endpoint → Bool) (e : Endpoint) (list : List Endpoint) → p e ≡ false → filter p (e ∷ list) ≡ filter p list
dropped p e list fails = ap (λ b. cond b (e ∷ filter p list) (filter p list)) fails

-- the same in front of lists that are filtered to the same
behind : (p : Endpoint → Bool) (e : Endpoint) (xs ys : List Endpoint) → filter p xs ≡ filter p ys → filter p (e ∷ xs) ≡ filter p (e ∷ ys)
behind p e xs ys same = ap (λ l. cond (p e) (e ∷ l) l) same

-- a change of those that pass leaves those that fail
pub besides_changed : (test t : EndpointSpec → Bool) (f : Endpoint → Endpoint) → ((e : Endpoint) → (f e).spec ≡ e.spec)
    → ((s : EndpointSpec) → t s ≡ true → test s ≡ true) → (list : List Endpoint) → besides test (changed t f list) ≡ besides test list
unfolding changed
besides_changed test t f keeps inside [] = refl
besides_changed test t f keeps inside (e ∷ list) =
    let p : Endpoint → Bool = λ o. not (test o.spec) in
    elim (cases_Bool (t e.spec)) as (λ _. besides test (changed t f (e ∷ list)) ≡ besides test (e ∷ list)) [
      | inl meant ↦
          let passes : test e.spec ≡ true = inside e.spec meant in
          let fails : p e ≡ false = not_from_true (test e.spec) passes in
          let changes : p (f e) ≡ false = ap (λ (s : EndpointSpec). not (test s)) (keeps e) ∙ fails in
          ap (λ b. filter p (cond b (f e) e ∷ changed t f list)) meant
          ∙ dropped p (f e) (changed t f list) changes
          ∙ besides_changed test t f keeps inside list
          ∙ sym (dropped p e list fails)
      | inr other ↦
          ap (λ b. filter p (cond b (f e) e ∷ changed t f list)) other
          ∙ behind p e (changed t f list) list (besides_changed test t f keeps inside list)
    ]

-- so does dropping some of those that pass
pub besides_filter : (test q : EndpointSpec → Bool) → ((s : EndpointSpec) → q s ≡ true → test s ≡ true) → (list : List Endpoint)
    → besides test (filter (λ (o : Endpoint). not (q o.spec)) list) ≡ besides test list
besides_filter test q inside [] = refl
besides_filter test q inside (e ∷ list) =
    let p : Endpoint → Bool = λ o. not (test o.spec) in
    let r : Endpoint → Bool = λ o. not (q o.spec) in
    elim (cases_Bool (q e.spec)) as (λ _. filter p (filter r (e ∷ list)) ≡ filter p (e ∷ list)) [
      | inl gone ↦
          ap (λ b. filter p (cond (not b) (e ∷ filter r list) (filter r list))) gone
          ∙ besides_filter test q inside list
          ∙ sym (dropped p e list (not_from_true (test e.spec) (inside e.spec gone)))
      | inr stays ↦
          ap (λ b. filter p (cond (not b) (e ∷ filter r list) (filter r list))) stays
          ∙ behind p e (filter r list) list (besides_filter test q inside list)
    ]

-- and one that joins and passes
pub besides_joined : (test : EndpointSpec → Bool) (s : EndpointSpec) → test s ≡ true → (list : List Endpoint)
    → besides test (joined s list) ≡ besides test list
besides_joined test s passes [] = dropped (λ o. not (test o.spec)) (fresh s) [] (not_from_true (test s) passes)
besides_joined test s passes (e ∷ list) =
    let p : Endpoint → Bool = λ o. not (test o.spec) in
    elim (cases_Bool (is_before s.cell s.device e.spec)) as (λ _. besides test (joined s (e ∷ list)) ≡ besides test (e ∷ list)) [
      | inl before ↦
          ap (λ b. filter p (cond b (e ∷ joined s list) (fresh s ∷ e ∷ list))) before
          ∙ behind p e (joined s list) list (besides_joined test s passes list)
      | inr behind_it ↦
          ap (λ b. filter p (cond b (e ∷ joined s list) (fresh s ∷ e ∷ list))) behind_it
          ∙ dropped p (fresh s) (e ∷ list) (not_from_true (test s) passes)
    ]

-- whom a call of an endpoint may change
device_concerned : (s other : EndpointSpec) → is_device s.cell s.device other ≡ true → is_concerned s other ≡ true
device_concerned s other h = or_left (is_device s.cell s.device other) (other.bdf == s.bdf) h

peer_concerned : (s : EndpointSpec) (id : ℕ) (other : EndpointSpec) → is_peer s.bdf id other ≡ true → is_concerned s other ≡ true
peer_concerned s id other h = or_right (is_device s.cell s.device other) (other.bdf == s.bdf) (and_parts (other.bdf == s.bdf) (other.id == id) h).0

other_concerned : (s : EndpointSpec) (other : EndpointSpec) → is_other s.bdf s.id other ≡ true → is_concerned s other ≡ true
other_concerned s other h = or_right (is_device s.cell s.device other) (other.bdf == s.bdf) (and_parts (other.bdf == s.bdf) (not (other.id == s.id)) h).0

pub besides_told : (e : Endpoint) (value : ℕ) (list : List Endpoint) → besides (is_concerned e.spec) (told_of e value list) ≡ besides (is_concerned e.spec) list
besides_told e value list =
    elim (cases_Bool (e.state == value)) as (λ _. besides (is_concerned e.spec) (told_of e value list) ≡ besides (is_concerned e.spec) list) [
      | inl same ↦ ap (λ b. besides (is_concerned e.spec) (cond b list (others_raised e.spec list))) same
      | inr other ↦
          ap (λ b. besides (is_concerned e.spec) (cond b list (others_raised e.spec list))) other
          ∙ besides_changed (is_concerned e.spec) (is_other e.spec.bdf e.spec.id) (raised 0) (raised_spec 0) (other_concerned e.spec) list
    ]

-- the endpoint itself is changed after the others of its link were told
own_after_told : (e : Endpoint) (value : ℕ) (f : Endpoint → Endpoint) → ((o : Endpoint) → (f o).spec ≡ o.spec) → (list : List Endpoint)
    → besides (is_concerned e.spec) (changed (is_device e.spec.cell e.spec.device) f (told_of e value list)) ≡ besides (is_concerned e.spec) list
own_after_told e value f keeps list =
    besides_changed (is_concerned e.spec) (is_device e.spec.cell e.spec.device) f keeps (device_concerned e.spec) (told_of e value list)
    ∙ besides_told e value list

pub besides_reset : (e : Endpoint) (list : List Endpoint) → besides (is_concerned e.spec) (reset_of e list) ≡ besides (is_concerned e.spec) list
besides_reset e list = own_after_told e 0 cleared cleared_spec list

pub besides_left : (e : Endpoint) (list : List Endpoint) → besides (is_concerned e.spec) (left_by e list) ≡ besides (is_concerned e.spec) list
besides_left e list =
    besides_filter (is_concerned e.spec) (is_device e.spec.cell e.spec.device) (device_concerned e.spec) (told_of e 0 list)
    ∙ besides_told e 0 list

pub besides_written : (e : Endpoint) (bar at value : ℕ) (list : List Endpoint)
    → besides (is_concerned e.spec) (written e bar at value list) ≡ besides (is_concerned e.spec) list
unfolding written
besides_written e bar at value list =
    elim (cases_Bool ((bar == 0) && (at == 0x0c))) as (λ _. besides (is_concerned e.spec) (written e bar at value list) ≡ besides (is_concerned e.spec) list) [
      | inl doorbell ↦ rw doorbell (besides_changed (is_concerned e.spec) (is_peer e.spec.bdf _) (raised _) (raised_spec _) (peer_concerned e.spec _) list)
      | inr other ↦ elim (cases_Bool ((bar == 0) && (at == 0x10))) as (λ _. besides (is_concerned e.spec) (written e bar at value list) ≡ besides (is_concerned e.spec) list) [
        | inl state ↦ rw (other, state) (own_after_told e value (λ (o : Endpoint). record o { state = value }) (λ o. refl) list)
        | inr register ↦ rw (other, register) (besides_changed (is_concerned e.spec) (is_device e.spec.cell e.spec.device) (register_written bar at value) (register_written_spec bar at value) (device_concerned e.spec) list)
      ]
    ]

-- a vector that is taken
pub besides_taken : (cell device v : ℕ) (list : List Endpoint)
    → besides (is_device cell device) (changed (is_device cell device) (taken v) list) ≡ besides (is_device cell device) list
besides_taken cell device v list = besides_changed (is_device cell device) (is_device cell device) (taken v) (taken_spec v) (λ s h. h) list

-- it tells nothing of endpoints where there was no vector to take
pub others_taken : (cell : ℕ) (next : Option (ℕ × ℕ)) (old new : List Endpoint) → new ≡ taken_of cell next old
    → MatchOption next (new ≡ old) (λ one. besides (is_device cell one.0) new ≡ besides (is_device cell one.0) old)
others_taken cell None old new is = is
others_taken cell (Some one) old new is = ap (besides (is_device cell one.0)) is ∙ besides_taken cell one.0 one.1 old

-- an endpoint is the one of its own device
pub own_device : (s : EndpointSpec) → is_device s.cell s.device s ≡ true
own_device s = and_from (s.cell == s.cell) (s.device == s.device) (eq-eqb s.cell s.cell refl) (eq-eqb s.device s.device refl)
