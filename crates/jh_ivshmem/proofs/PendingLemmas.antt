-- A pending vector, by the device that has it.
use Rattle.std.proofs.Common.{ℕ, ◌≡◌, ◌≢◌, Bool, true, false, not, ◌&&◌, ◌==◌, cond, List, [], ◌∷◌, filter, All, Option, Some, None, zero, suc, inl, inr, refl, sym, ◌∙◌, ap, arith}
use Rattle.std.specs.Option.{option_map_or}
use Rattle.std.proofs.lemmas.Bool.{cases_Bool, and_from, both_ways, eq-eqb, false_from_ne_true, false≢true}
use Rattle.std.proofs.lemmas.List.{get_or-set_other}
use Rattle.jh_vpci.specs.Space.{Space}
use Rattle.jh_ivshmem.specs.declared.endpoint.Endpoint.{Endpoint}
use Rattle.jh_ivshmem.specs.declared.spec.EndpointSpec.{EndpointSpec}
use Rattle.jh_ivshmem.specs.declared.vector.Vector.{Vector}
use Rattle.jh_ivshmem.specs.Specs.{AreEndpointsApart, is_device, is_before, is_peer, is_other}
use Rattle.jh_ivshmem.specs.Endpoint.{raised, taken, cleared, fresh, vector_at, fresh_vector}
use Rattle.jh_ivshmem.specs.Registers.{register_written}
use Rattle.jh_ivshmem.specs.Changes.{changed}
use Rattle.jh_ivshmem.specs.Links.{configured, endpoint_at, is_pending, joined, others_raised, told_of, written, reset_of, left_by, taken_of}
use Rattle.jh_ivshmem.proofs.ApartLemmas.{device_is, devices_apart}
use Rattle.jh_ivshmem.proofs.ChangeLemmas.{raised_spec, register_written_spec, taken_spec, cleared_spec}
use Rattle.jh_ivshmem.proofs.LawLemmas.{raised_keeps_pending, register_written_keeps_pending}

-- the vector is pending at the endpoint that is found
pending_at_found : ℕ → Option Endpoint → Bool
pending_at_found v found = option_map_or (λ (e : Endpoint). (vector_at e v).pending) found false

-- the first endpoint is the device's, or the device's is among the rest
at_first : (cell device v : ℕ) (e : Endpoint) (list : List Endpoint) → is_device cell device e.spec ≡ true
    → is_pending cell device v (e ∷ list) ≡ (vector_at e v).pending
unfolding pending_at_found
at_first cell device v e list here = ap (λ b. pending_at_found v (cond b (Some e) (endpoint_at cell device list))) here

in_rest : (cell device v : ℕ) (e : Endpoint) (list : List Endpoint) → is_device cell device e.spec ≡ false
    → is_pending cell device v (e ∷ list) ≡ is_pending cell device v list
unfolding pending_at_found
in_rest cell device v e list other = ap (λ b. pending_at_found v (cond b (Some e) (endpoint_at cell device list))) other

-- a change that keeps the vector of the device pending
pub pending_changed : (cell device v : ℕ) (t : EndpointSpec → Bool) (f : Endpoint → Endpoint) → ((e : Endpoint) → (f e).spec ≡ e.spec)
    → ((e : Endpoint) → is_device cell device e.spec ≡ true → t e.spec ≡ true → (vector_at e v).pending ≡ true → (vector_at (f e) v).pending ≡ true)
    → (list : List Endpoint) → is_pending cell device v list ≡ true → is_pending cell device v (changed t f list) ≡ true
unfolding changed
pending_changed cell device v t f spec keeps [] h = h
pending_changed cell device v t f spec keeps (e ∷ list) h =
    let there : is_device cell device (f e).spec ≡ is_device cell device e.spec = ap (is_device cell device) (spec e) in
    elim (cases_Bool (is_device cell device e.spec)) as (λ _. is_pending cell device v (changed t f (e ∷ list)) ≡ true) [
      | inl here ↦
          let was : (vector_at e v).pending ≡ true = sym (at_first cell device v e list here) ∙ h in
          elim (cases_Bool (t e.spec)) as (λ _. is_pending cell device v (changed t f (e ∷ list)) ≡ true) [
            | inl meant ↦
                ap (λ b. is_pending cell device v (cond b (f e) e ∷ changed t f list)) meant
                ∙ at_first cell device v (f e) (changed t f list) (there ∙ here)
                ∙ keeps e here meant was
            | inr other ↦
                ap (λ b. is_pending cell device v (cond b (f e) e ∷ changed t f list)) other
                ∙ at_first cell device v e (changed t f list) here
                ∙ was
          ]
      | inr away ↦
          let rest : is_pending cell device v (changed t f list) ≡ true =
          pending_changed cell device v t f spec keeps list (sym (in_rest cell device v e list away) ∙ h) in
          elim (cases_Bool (t e.spec)) as (λ _. is_pending cell device v (changed t f (e ∷ list)) ≡ true) [
            | inl meant ↦
                ap (λ b. is_pending cell device v (cond b (f e) e ∷ changed t f list)) meant
                ∙ in_rest cell device v (f e) (changed t f list) (there ∙ away)
                ∙ rest
            | inr other ↦
                ap (λ b. is_pending cell device v (cond b (f e) e ∷ changed t f list)) other
                ∙ in_rest cell device v e (changed t f list) away
                ∙ rest
          ]
    ]

-- two names of one endpoint are one
differs : (cell device : ℕ) (s o : EndpointSpec) → is_device cell device s ≡ false → is_device cell device o ≡ true
    → is_device s.cell s.device o ≡ false
differs cell device s o away here = false_from_ne_true (is_device s.cell s.device o) (λ there.
    let own = device_is cell device o here in
    let other = device_is s.cell s.device o there in
    both_ways (is_device cell device s) away
    (and_from (s.cell == cell) (s.device == device) (eq-eqb s.cell cell (sym other.0 ∙ own.0)) (eq-eqb s.device device (sym other.1 ∙ own.1))))

pub pending_told : (cell device v : ℕ) (e : Endpoint) (value : ℕ) (list : List Endpoint) → is_pending cell device v list ≡ true
    → is_pending cell device v (told_of e value list) ≡ true
pending_told cell device v e value list h =
    elim (cases_Bool (e.state == value)) as (λ _. is_pending cell device v (told_of e value list) ≡ true) [
      | inl same ↦ ap (λ b. is_pending cell device v (cond b list (others_raised e.spec list))) same ∙ h
      | inr other ↦
          ap (λ b. is_pending cell device v (cond b list (others_raised e.spec list))) other
          ∙ pending_changed cell device v (is_other e.spec.bdf e.spec.id) (raised 0) (raised_spec 0)
          (λ o here meant was. raised_keeps_pending 0 v o was) list h
    ]

pub pending_written : (e : Endpoint) (bar at value : ℕ) (list : List Endpoint) (cell device v : ℕ) → is_pending cell device v list ≡ true
    → is_pending cell device v (written e bar at value list) ≡ true
unfolding written
pending_written e bar at value list cell device v h =
    elim (cases_Bool ((bar == 0) && (at == 0x0c))) as (λ _. is_pending cell device v (written e bar at value list) ≡ true) [
      | inl doorbell ↦ rw doorbell (pending_changed cell device v (is_peer e.spec.bdf _) (raised _) (raised_spec _)
          (λ o here meant was. raised_keeps_pending _ v o was) list h)
      | inr other ↦ elim (cases_Bool ((bar == 0) && (at == 0x10))) as (λ _. is_pending cell device v (written e bar at value list) ≡ true) [
        | inl state ↦ rw (other, state) (pending_changed cell device v (is_device e.spec.cell e.spec.device) (λ (o : Endpoint). record o { state = value })
            (λ o. refl) (λ o here meant was. was) (told_of e value list) (pending_told cell device v e value list h))
        | inr register ↦ rw (other, register) (pending_changed cell device v (is_device e.spec.cell e.spec.device) (register_written bar at value)
            (register_written_spec bar at value) (λ o here meant was. register_written_keeps_pending bar at value v o was) list h)
      ]
    ]

pub pending_configured : (at_cell at_device : ℕ) (space : Space) (list : List Endpoint) (cell device v : ℕ) → is_pending cell device v list ≡ true
    → is_pending cell device v (configured at_cell at_device space list) ≡ true
pending_configured at_cell at_device space list cell device v h =
    pending_changed cell device v (is_device at_cell at_device) (λ (e : Endpoint). record e { space = space }) (λ e. refl) (λ e here meant was. was) list h

pub pending_reset : (e : Endpoint) (list : List Endpoint) (cell device v : ℕ) → is_device cell device e.spec ≡ false → is_pending cell device v list ≡ true
    → is_pending cell device v (reset_of e list) ≡ true
pending_reset e list cell device v away h =
    pending_changed cell device v (is_device e.spec.cell e.spec.device) cleared cleared_spec
    (λ o here meant was. absurd (both_ways (is_device e.spec.cell e.spec.device o.spec) (differs cell device e.spec o.spec away here) meant))
    (told_of e 0 list) (pending_told cell device v e 0 list h)

-- endpoints that aren't the device's are dropped
pending_filter : (cell device v : ℕ) (s : EndpointSpec) → is_device cell device s ≡ false → (list : List Endpoint) → is_pending cell device v list ≡ true
    → is_pending cell device v (filter (λ (o : Endpoint). not (is_device s.cell s.device o.spec)) list) ≡ true
pending_filter cell device v s away [] h = h
pending_filter cell device v s away (e ∷ list) h =
    let p : Endpoint → Bool = λ o. not (is_device s.cell s.device o.spec) in
    elim (cases_Bool (is_device cell device e.spec)) as (λ _. is_pending cell device v (filter p (e ∷ list)) ≡ true) [
      | inl here ↦
          ap (λ b. is_pending cell device v (cond (not b) (e ∷ filter p list) (filter p list))) (differs cell device s e.spec away here)
          ∙ at_first cell device v e (filter p list) here
          ∙ sym (at_first cell device v e list here) ∙ h
      | inr other ↦
          let rest : is_pending cell device v (filter p list) ≡ true =
          pending_filter cell device v s away list (sym (in_rest cell device v e list other) ∙ h) in
          elim (cases_Bool (is_device s.cell s.device e.spec)) as (λ _. is_pending cell device v (filter p (e ∷ list)) ≡ true) [
            | inl gone ↦ ap (λ b. is_pending cell device v (cond (not b) (e ∷ filter p list) (filter p list))) gone ∙ rest
            | inr stays ↦
                ap (λ b. is_pending cell device v (cond (not b) (e ∷ filter p list) (filter p list))) stays
                ∙ in_rest cell device v e (filter p list) other ∙ rest
          ]
    ]

pub pending_left : (e : Endpoint) (list : List Endpoint) (cell device v : ℕ) → is_device cell device e.spec ≡ false → is_pending cell device v list ≡ true
    → is_pending cell device v (left_by e list) ≡ true
pending_left e list cell device v away h = pending_filter cell device v e.spec away (told_of e 0 list) (pending_told cell device v e 0 list h)

-- the device of a pending vector isn't one that may join
not_joining : (cell device v : ℕ) (s : EndpointSpec) (list : List Endpoint) → All (λ (o : Endpoint). AreEndpointsApart o.spec s) list
    → is_pending cell device v list ≡ true → is_device cell device s ≡ false
not_joining cell device v s [] new h = absurd (false≢true h)
not_joining cell device v s (e ∷ list) new h =
    elim (cases_Bool (is_device cell device e.spec)) as (λ _. is_device cell device s ≡ false) [
      | inl here ↦ false_from_ne_true (is_device cell device s) (λ there. devices_apart cell device e.spec s (new zero e (omega arith)) here there)
      | inr other ↦ not_joining cell device v s list (λ k d inside. new (suc k) d (omega arith)) (sym (in_rest cell device v e list other) ∙ h)
    ]

pending_beside : (s : EndpointSpec) (cell device v : ℕ) → is_device cell device s ≡ false → (list : List Endpoint) → is_pending cell device v list ≡ true
    → is_pending cell device v (joined s list) ≡ true
pending_beside s cell device v away [] h = absurd (false≢true h)
pending_beside s cell device v away (e ∷ list) h =
    elim (cases_Bool (is_before s.cell s.device e.spec)) as (λ _. is_pending cell device v (joined s (e ∷ list)) ≡ true) [
      | inr behind ↦
          ap (λ b. is_pending cell device v (cond b (e ∷ joined s list) (fresh s ∷ e ∷ list))) behind
          ∙ in_rest cell device v (fresh s) (e ∷ list) away ∙ h
      | inl before ↦
          ap (λ b. is_pending cell device v (cond b (e ∷ joined s list) (fresh s ∷ e ∷ list))) before
          ∙ (elim (cases_Bool (is_device cell device e.spec)) as (λ _. is_pending cell device v (e ∷ joined s list) ≡ true) [
            | inl here ↦ at_first cell device v e (joined s list) here ∙ sym (at_first cell device v e list here) ∙ h
            | inr other ↦
                in_rest cell device v e (joined s list) other
                ∙ pending_beside s cell device v away list (sym (in_rest cell device v e list other) ∙ h)
          ])
    ]

pub pending_joined : (s : EndpointSpec) (list : List Endpoint) (cell device v : ℕ) → All (λ (o : Endpoint). AreEndpointsApart o.spec s) list
    → is_pending cell device v list ≡ true → is_pending cell device v (joined s list) ≡ true
pending_joined s list cell device v new h = pending_beside s cell device v (not_joining cell device v s list new h) list h

-- another vector is taken
taken_keeps : (u v : ℕ) (e : Endpoint) → v ≢ u → (vector_at e v).pending ≡ true → (vector_at (taken u e) v).pending ≡ true
unfolding taken
taken_keeps u v e other was =
    ap (λ (x : Vector). x.pending) (get_or-set_other e.vectors u v (record (vector_at e u) { pending = false }) fresh_vector other) ∙ was

pub pending_taken : (from : ℕ) (next : Option (ℕ × ℕ)) (list : List Endpoint) (cell device v : ℕ) → (cell ≡ from → next ≡ Some (device, v) → ⊥)
    → is_pending cell device v list ≡ true → is_pending cell device v (taken_of from next list) ≡ true
pending_taken from None list cell device v other h = h
pending_taken from (Some next) list cell device v other h =
    pending_changed cell device v (is_device from next.0) (taken next.1) (taken_spec next.1)
    (λ e here meant was. taken_keeps next.1 v e (λ same.
    let own = device_is cell device e.spec here in
    let name = device_is from next.0 e.spec meant in
    other (sym own.0 ∙ name.0) (ap (λ d. Some (d, next.1)) (sym name.1 ∙ own.1) ∙ ap (λ u. Some (device, u)) (sym same))) was)
    list h
