-- Which vector is the next that a cell's interrupt takes: the lowest of the lowest device that has one pending.
use Rattle.std.proofs.Common.{◌≡◌, ℕ, ◌<◌, ◌≤◌, List, [], ◌∷◌, Bool, true, false, cond, eqb, length, Option, Some, None, refl, sym, ap, subst, ◌∙◌, inl, inr, ⊎_elim, arith}
use Rattle.std.specs.Prelude.{◌⊎◌, AllPairs, Contains, option_map, nat_lt}
use Rattle.std.specs.List.{fold, position_or_len}
use Rattle.std.specs.Option.{option_map_or}
use Rattle.std.proofs.lemmas.Bool.{both_ways, and_parts, and_from, cases_lt, eqb-true, eq-eqb, ltb-true, lt-ltb, false≢true}
use Rattle.std.proofs.lemmas.Option.{none-some, same_Some}
use Rattle.std.proofs.lemmas.List.{get_or_past}
use Rattle.std.proofs.lemmas.List.Quantifiers.{position-Some}
use Rattle.std.proofs.lemmas.List.Sums.{fails_before_first}
use Rattle.jh_num.proofs.Public.{Contains_cases, Contains_head, Contains_tail, IsFound_from_find, find_unique}
use Rattle.jh_ivshmem.specs.declared.endpoint.Endpoint.{Endpoint}
use Rattle.jh_ivshmem.specs.declared.vector.Vector.{Vector}
use Rattle.jh_ivshmem.specs.Endpoint.{fresh_vector, vector_at, pending_in}
use Rattle.jh_ivshmem.specs.Links.{endpoint_at, earlier, pending_for, pending_of}
use Rattle.jh_ivshmem.specs.Specs.{is_device, AreEndpointsApart}
use Rattle.jh_ivshmem.proofs.Public.{named_cell, named_device, pairs_of}
use Rattle.jh_history.specs.Facts.{Facts}
use Rattle.jh_history.specs.Sound.{IsSound}
use Rattle.jh_history.proofs.Public.{one_of_pairs}
use Rattle.jh_script.specs.declared.image.Image.{Image}
use Rattle.jh_laws.specs.Vectors.{IsPendingIn, IsNextVector}

-- ---- one endpoint

abbrev ApartAs : Endpoint → Endpoint → Type 0
ApartAs a b = AreEndpointsApart a.spec b.spec

pub endpoints_apart : (image : Image) (f : Facts) → IsSound image f → AllPairs ApartAs f.endpoints
endpoints_apart image f sound = pairs_of (λ (e : Endpoint). e.spec) AreEndpointsApart f.endpoints sound.endpoints.apart

-- two endpoints of one device of one cell are one
abbrev IsOneDevice : Endpoint → Endpoint → Type 0
IsOneDevice a b = (a.spec.cell ≡ b.spec.cell) × (a.spec.device ≡ b.spec.device)

not_both : (a b : Endpoint) → ApartAs a b → IsOneDevice a b → ⊥
not_both a b apart same =
    both_ways (is_device a.spec.cell a.spec.device b.spec) apart.devices
    (and_from (eqb b.spec.cell a.spec.cell) (eqb b.spec.device a.spec.device) (eq-eqb b.spec.cell a.spec.cell (sym same.0)) (eq-eqb b.spec.device a.spec.device (sym same.1)))

pub one_endpoint : (image : Image) (f : Facts) (a b : Endpoint) → IsSound image f → Contains f.endpoints a → Contains f.endpoints b → a.spec.cell ≡ b.spec.cell → a.spec.device ≡ b.spec.device → a ≡ b
one_endpoint image f a b sound in_a in_b cell device = one_of_pairs ApartAs IsOneDevice not_both (λ x y h. (sym h.0, sym h.1)) f.endpoints a b (endpoints_apart image f sound) in_a in_b (cell, device)

-- an endpoint is the one that is found by its cell and its device
pub endpoint_found : (image : Image) (f : Facts) (e : Endpoint) → IsSound image f → Contains f.endpoints e → endpoint_at e.spec.cell e.spec.device f.endpoints ≡ Some e
endpoint_found image f e sound held =
    find_unique (λ (o : Endpoint). is_device e.spec.cell e.spec.device o.spec) f.endpoints e held
    (and_from (eqb e.spec.cell e.spec.cell) (eqb e.spec.device e.spec.device) (eq-eqb e.spec.cell e.spec.cell refl) (eq-eqb e.spec.device e.spec.device refl))
    (λ o there passes.
    let parts = and_parts (eqb o.spec.cell e.spec.cell) (eqb o.spec.device e.spec.device) passes in
    one_endpoint image f o e sound there held (eqb-true o.spec.cell e.spec.cell parts.0) (eqb-true o.spec.device e.spec.device parts.1))

-- ---- the lowest pending vector of an endpoint

pub record IsLowest (e : Endpoint) (v : ℕ) : Type 0 where
  pub within : v < length e.vectors
  pub pending : (vector_at e v).pending ≡ true
  pub lowest : (k : ℕ) → (vector_at e k).pending ≡ true → v ≤ k

lowest_of : (e : Endpoint) (v : ℕ) → pending_in e ≡ Some v → IsLowest e v
lowest_of e v is =
    let h = position-Some (λ (x : Vector). x.pending) e.vectors v fresh_vector is in
    record {
      within = h.0;
      pending = h.1;
      lowest = λ k pending. elim (cases_lt k v) [
        | inl below ↦ absurd (both_ways (vector_at e k).pending (h.2 k below) pending)
        | inr le ↦ le
      ];
    }

some_pending : (e : Endpoint) (v : ℕ) → (vector_at e v).pending ≡ true → (u : ℕ) × (pending_in e ≡ Some u)
some_pending e v pending =
    let p : Vector → Bool = λ x. x.pending in
    let first : ℕ = position_or_len p e.vectors in
    elim (cases_lt first (length e.vectors)) [
      | inl within ↦ (first, ap (λ (b : Bool). cond b (Some first) None) (lt-ltb first (length e.vectors) within))
      | inr beyond ↦
          let none : (vector_at e v).pending ≡ false = elim (cases_lt v (length e.vectors)) [
            | inl inside ↦ fails_before_first p e.vectors v fresh_vector (omega arith)
            | inr outside ↦ ap (λ (x : Vector). x.pending) (get_or_past e.vectors v fresh_vector outside)
          ] in
          absurd (both_ways (vector_at e v).pending none pending)
    ]

-- ---- the lowest device

-- what the walk over these endpoints leaves
record IsBest (cell : ℕ) (list : List Endpoint) (best result : Option (ℕ × ℕ)) : Type 0 where
  from : (p : ℕ × ℕ) → result ≡ Some p → (best ≡ Some p) ⊎ ((e : Endpoint) × Contains list e × (pending_for cell e ≡ Some p))
  low : (q : ℕ × ℕ) → best ≡ Some q → (p : ℕ × ℕ) × (result ≡ Some p) × (p.0 ≤ q.0)
  each : (e : Endpoint) (q : ℕ × ℕ) → Contains list e → pending_for cell e ≡ Some q → (p : ℕ × ℕ) × (result ≡ Some p) × (p.0 ≤ q.0)

-- the earlier of two is one of them, and no later than each
record IsEarlier (one other result : Option (ℕ × ℕ)) : Type 0 where
  from : (p : ℕ × ℕ) → result ≡ Some p → (one ≡ Some p) ⊎ (other ≡ Some p)
  first : (q : ℕ × ℕ) → one ≡ Some q → (p : ℕ × ℕ) × (result ≡ Some p) × (p.0 ≤ q.0)
  second : (q : ℕ × ℕ) → other ≡ Some q → (p : ℕ × ℕ) × (result ≡ Some p) × (p.0 ≤ q.0)

earlier_of : (a b : ℕ × ℕ) (less : Bool) → nat_lt b.0 a.0 ≡ less → IsEarlier (Some a) (Some b) (cond less (Some b) (Some a))
earlier_of a b true is =
    let lt : b.0 < a.0 = ltb-true b.0 a.0 is in
    record {
      from = λ p e. inr e;
      first = λ q e. (let same : a.0 ≡ q.0 = ap (λ (x : ℕ × ℕ). x.0) (same_Some a q e) in (b, refl, omega arith));
      second = λ q e. (let same : b.0 ≡ q.0 = ap (λ (x : ℕ × ℕ). x.0) (same_Some b q e) in (b, refl, omega arith));
    }
earlier_of a b false is =
    let le : a.0 ≤ b.0 = not_less a.0 b.0 is in
    record {
      from = λ p e. inl e;
      first = λ q e. (let same : a.0 ≡ q.0 = ap (λ (x : ℕ × ℕ). x.0) (same_Some a q e) in (a, refl, omega arith));
      second = λ q e. (let same : b.0 ≡ q.0 = ap (λ (x : ℕ × ℕ). x.0) (same_Some b q e) in (a, refl, omega arith));
    }
  where
    not_less : (m n : ℕ) → nat_lt n m ≡ false → m ≤ n
    not_less m n fails = elim (cases_lt n m) [
      | inl less ↦ absurd (both_ways (nat_lt n m) fails (lt-ltb n m less))
      | inr le ↦ le
    ]

earlier_is : (one other : Option (ℕ × ℕ)) → IsEarlier one other (earlier one other)
earlier_is None other = record { from = λ p e. inr e; first = λ q e. absurd (none-some q e); second = λ q e. (q, e, omega arith) }
earlier_is (Some a) None = record { from = λ p e. inl e; first = λ q e. (q, e, omega arith); second = λ q e. absurd (none-some q e) }
earlier_is (Some a) (Some b) = earlier_of a b (nat_lt b.0 a.0) refl

best_of : (cell : ℕ) (list : List Endpoint) (best : Option (ℕ × ℕ)) → IsBest cell list best (fold (λ (b : Option (ℕ × ℕ)) (e : Endpoint). earlier b (pending_for cell e)) best list)
best_of cell [] best = record {
  from = λ p is. inl is;
  low = λ q is. (q, is, omega arith);
  each = λ e q held is. (let below : held.0 < 0 = held.1 in absurd (omega arith));
}
best_of cell (e ∷ list) best =
    let own : Option (ℕ × ℕ) = pending_for cell e in
    let step = earlier_is best own in
    let rest = best_of cell list (earlier best own) in
    let after : Option (ℕ × ℕ) = fold (λ (b : Option (ℕ × ℕ)) (o : Endpoint). earlier b (pending_for cell o)) (earlier best own) list in
    let lower : (q r : ℕ × ℕ) → earlier best own ≡ Some r → r.0 ≤ q.0 → (p : ℕ × ℕ) × (after ≡ Some p) × (p.0 ≤ q.0) = λ q r is le. (let more = rest.low r is in let less : more.0.0 ≤ r.0 = more.2 in (more.0, more.1, omega arith)) in
    record {
      from = λ p is.
          ⊎_elim
          (λ (was : earlier best own ≡ Some p). ⊎_elim (λ (old : best ≡ Some p). inl old) (λ (new : own ≡ Some p). inr (e, Contains_head e list, new)) (step.from p was))
          (λ (later : (o : Endpoint) × Contains list o × (pending_for cell o ≡ Some p)). inr (later.0, Contains_tail e list later.0 later.1, later.2))
          (rest.from p is);
      low = λ q is. (let first = step.first q is in lower q first.0 first.1 first.2);
      each = λ o q held is.
          ⊎_elim
          (λ (same : e ≡ o). (let second = step.second q (ap (pending_for cell) same ∙ is) in lower q second.0 second.1 second.2))
          (λ (later : Contains list o). rest.each o q later is)
          (Contains_cases e list o held);
    }

-- the endpoint's device is the cell's, with its lowest vector
record IsPendingAt (cell : ℕ) (e : Endpoint) (p : ℕ × ℕ) : Type 0 where
  owner : e.spec.cell ≡ cell
  device : e.spec.device ≡ p.0
  lowest : IsLowest e p.1

pending_by : (cell : ℕ) (e : Endpoint) (p : ℕ × ℕ) (own : Bool) (o : Option ℕ) → eqb e.spec.cell cell ≡ own → pending_in e ≡ o → cond own (option_map (λ v. (e.spec.device, v)) o) None ≡ Some p → IsPendingAt cell e p
pending_by cell e p true None own is h = absurd (none-some p h)
pending_by cell e p true (Some v) own is h =
    let P : ℕ × ℕ → Type 0 = IsPendingAt cell e in
    subst P (same_Some (e.spec.device, v) p h) (record { owner = eqb-true e.spec.cell cell own; device = refl; lowest = lowest_of e v is })
pending_by cell e p false o own is h = absurd (none-some p h)

-- ---- what is next

pending_endpoint : (f : Facts) (id n v : ℕ) (o : Option Endpoint) → endpoint_at id n f.endpoints ≡ o → option_map_or (λ (e : Endpoint). (vector_at e v).pending) o false ≡ true → (e : Endpoint) × (endpoint_at id n f.endpoints ≡ Some e) × ((vector_at e v).pending ≡ true)
pending_endpoint f id n v None is h = absurd (false≢true h)
pending_endpoint f id n v (Some e) is h = (e, is, h)

-- a pending vector is that of an endpoint
pub endpoint_of_pending : (f : Facts) (id n v : ℕ) → IsPendingIn f id n v → (e : Endpoint) × (endpoint_at id n f.endpoints ≡ Some e) × ((vector_at e v).pending ≡ true)
endpoint_of_pending f id n v h = pending_endpoint f id n v (endpoint_at id n f.endpoints) refl h

pub pending_of_endpoint : (f : Facts) (id n v : ℕ) (e : Endpoint) → endpoint_at id n f.endpoints ≡ Some e → (vector_at e v).pending ≡ true → IsPendingIn f id n v
pending_of_endpoint f id n v e there h = ap (λ (o : Option Endpoint). option_map_or (λ (p : Endpoint). (vector_at p v).pending) o false) there ∙ h

-- where a vector of the cell is pending, one is next, of no higher device
pub next_some_holds : (f : Facts) (id n v : ℕ) → IsPendingIn f id n v → (p : ℕ × ℕ) × (pending_of id f.endpoints ≡ Some p) × (p.0 ≤ n)
next_some_holds f id n v h =
    let at = endpoint_of_pending f id n v h in
    let e : Endpoint = at.0 in
    let there = at.1 in
    let some = some_pending e v at.2 in
    let own : eqb e.spec.cell id ≡ true = eq-eqb e.spec.cell id (named_cell id n f.endpoints e there) in
    let here : pending_for id e ≡ Some (e.spec.device, some.0) = ap (λ (b : Bool). cond b (option_map (λ u. (e.spec.device, u)) (pending_in e)) None) own ∙ ap (option_map (λ u. (e.spec.device, u))) some.1 in
    let best = (best_of id f.endpoints None).each e (e.spec.device, some.0) (endpoint_held f id n e there) here in
    let le : best.0.0 ≤ e.spec.device = best.2 in
    let number : e.spec.device ≡ n = named_device id n f.endpoints e there in
    (best.0, best.1, omega arith)
  where
    endpoint_held : (g : Facts) (cell m : ℕ) (o : Endpoint) → endpoint_at cell m g.endpoints ≡ Some o → Contains g.endpoints o
    endpoint_held g cell m o is = (IsFound_from_find (λ (q : Endpoint). is_device cell m q.spec) g.endpoints o is).among

-- what is next is pending, and lowest
pub next_is : (image : Image) (f : Facts) (id n v : ℕ) → IsSound image f → pending_of id f.endpoints ≡ Some (n, v) → IsNextVector f id n v
next_is image f id n v sound is =
    ⊎_elim
    (λ (none : None ≡ Some (n, v)). absurd (none-some (n, v) none))
    (λ (found : (e : Endpoint) × Contains f.endpoints e × (pending_for id e ≡ Some (n, v))).
    let e : Endpoint = found.0 in
    let at = pending_by id e (n, v) (eqb e.spec.cell id) (pending_in e) refl refl found.2 in
    let C : ℕ → Type 0 = λ c. endpoint_at c n f.endpoints ≡ Some e in
    let D : ℕ → Type 0 = λ d. endpoint_at e.spec.cell d f.endpoints ≡ Some e in
    let there : endpoint_at id n f.endpoints ≡ Some e = subst C at.owner (subst D at.device (endpoint_found image f e sound found.1)) in
    record {
      pending = pending_of_endpoint f id n v e there at.lowest.pending;
      device = λ m u pending. (let other = next_some_holds f id m u pending in let same : other.0.0 ≡ n = ap (λ (x : ℕ × ℕ). x.0) (same_Some other.0 (n, v) (sym other.1 ∙ is)) in let le : other.0.0 ≤ m = other.2 in omega arith);
      vector = λ u pending.
          let other = endpoint_of_pending f id n u pending in
          let P : Endpoint → Type 0 = λ o. (vector_at o u).pending ≡ true in
          at.lowest.lowest u (subst P (same_Some other.0 e (sym other.1 ∙ there)) other.2);
    })
    ((best_of id f.endpoints None).from (n, v) is)
