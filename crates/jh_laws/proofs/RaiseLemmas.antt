-- What an entry does to the endpoint of a device: which of its vectors it raises, and which it drops.
use Rattle.std.proofs.Common.{◌≡◌, ◌≢◌, ℕ, ◌-◌, ◌/◌, ◌%◌, ◌^◌, ◌<◌, ◌≤◌, List, Bool, true, false, cond, not, ◌&&◌, ◌||◌, eqb, length, get_or, Option, Some, None, refl, sym, ap, subst, ◌∙◌, inl, inr, ⊎_elim, arith}
use Rattle.std.specs.Prelude.{◌⊎◌, nat_lt, slice_set}
use Rattle.std.specs.Option.{option_map_or}
use Rattle.std.proofs.lemmas.Bool.{both_ways, and_parts, and_from, and_left, cases_lt, cases_eq, eqb-true, eq-eqb, ne_eqb, not-true, ltb-true, false≢true}
use Rattle.std.proofs.lemmas.List.{get_or-set_same, get_or-set_other, get_or_past, length-set}
use Rattle.jh_vpci.specs.Space.{Space, has_vectors, is_open as is_function_open}
use Rattle.jh_vpci.specs.Writes.{written as config_written}
use Rattle.jh_ivshmem.specs.declared.endpoint.Endpoint.{Endpoint}
use Rattle.jh_ivshmem.specs.declared.vector.Vector.{Vector}
use Rattle.jh_ivshmem.specs.Specs.{is_device, is_peer, is_other, vector_count}
use Rattle.jh_ivshmem.specs.Changes.{changed}
use Rattle.jh_ivshmem.specs.Endpoint.{is_open, raised, taken, vector_at, fresh_vector}
use Rattle.jh_ivshmem.specs.Registers.{register_written, with_word, is_in_table}
use Rattle.jh_ivshmem.specs.Links.{configured, endpoint_at, rung, state_written, told_of, written}
use Rattle.jh_ivshmem.proofs.Public.{raised_spec, taken_spec, register_written_spec, closed, raised_pending, raised_others, raised_keeps_pending, named_cell}
use Rattle.jh_script.specs.declared.image.Image.{Image}
use Rattle.jh_history.specs.declared.access.Access.TheVariants.{Write as ToWrite}
use Rattle.jh_history.specs.declared.access.Reach.{Reach}
use Rattle.jh_history.specs.declared.entry.Entry.{Entry}
use Rattle.jh_history.specs.declared.entry.Act.{Act}
use Rattle.jh_history.specs.declared.entry.Act.TheVariants.{Write, Irq, Commit}
use Rattle.jh_history.specs.Devices.{number_at}
use Rattle.jh_history.specs.Endpoints.{function_put, config_put, endpoints_put, endpoints_acted}
use Rattle.jh_history.specs.Facts.{Facts}
use Rattle.jh_history.specs.Grants.{reach, devices_of}
use Rattle.jh_history.specs.Sound.{IsSoundEndpoint, IsSound}
use Rattle.jh_history.specs.Commits.{is_commit}
use Rattle.jh_laws.specs.Ends.{IsAnsweredByRegister}
use Rattle.jh_laws.specs.Vectors.{PutsRegister, Rings, Clears, NotifiesPeer, Drops}
use Rattle.jh_laws.proofs.DevicesLemmas.{endpoint_held, endpoint_sound, same_register}
use Rattle.jh_laws.proofs.EndsLemmas.{IsSmallAct}
use Rattle.jh_laws.proofs.LinkedLemmas.{found_changed, found_told, is_notified, told_spec}
use Rattle.jh_laws.proofs.ReachedLemmas.{Way, OnMemory, OnRegion, OnWindow, OnRegister, OnNothing, way}
use Rattle.jh_laws.proofs.WordLemmas.{value_fits}
use Rattle.jh_laws.proofs.WrittenLemmas.{IsWrite, register_write}

-- the entry calls the vector of the endpoint: a doorbell does, or for vector 0 the state of a peer
abbrev pub Calls : Image → Facts → Entry → Endpoint → ℕ → Type 0
Calls image f entry e v = Rings image f entry e v ⊎ ((v ≡ 0) × NotifiesPeer image f entry e)

abbrev pub IsDropped : Facts → Entry → Endpoint → ℕ → Type 0
IsDropped f entry e v = Drops f entry e.spec.cell e.spec.device v

-- the endpoint is the other one behind the entry
pub record HasBecome (image : Image) (f : Facts) (entry : Entry) (e b : Endpoint) : Type 0 where
  pub spec : b.spec ≡ e.spec
  pub calls : (v : ℕ) → is_open e v ≡ true → Calls image f entry e v → (vector_at b v).pending ≡ true
  pub keeps : (v : ℕ) → (vector_at e v).pending ≡ true → (IsDropped f entry e v → ⊥) → (vector_at b v).pending ≡ true
  pub only : (v : ℕ) → (vector_at b v).pending ≡ true → ((is_open e v ≡ true) × Calls image f entry e v) ⊎ (((vector_at e v).pending ≡ true) × (IsDropped f entry e v → ⊥))
  pub others : entry.cell ≢ e.spec.cell → (b ≡ e) ⊎ ((u : ℕ) × (is_open e u ≡ true) × Calls image f entry e u × (b ≡ raised u e))

-- the vectors that are pending are the same
abbrev pub SamePending : Endpoint → Endpoint → Type 0
SamePending e b = (v : ℕ) → (vector_at b v).pending ≡ (vector_at e v).pending

abbrev pub NoCall : Image → Facts → Entry → Endpoint → Type 0
NoCall image f entry e = (v : ℕ) → Calls image f entry e v → ⊥

abbrev pub NoDrop : Facts → Entry → Endpoint → Type 0
NoDrop f entry e = (v : ℕ) → IsDropped f entry e v → ⊥

become_same : (image : Image) (f : Facts) (entry : Entry) (e b : Endpoint) → b.spec ≡ e.spec → SamePending e b → NoCall image f entry e → NoDrop f entry e → (entry.cell ≢ e.spec.cell → b ≡ e) → HasBecome image f entry e b
become_same image f entry e b spec same quiet stays own = record {
  spec = spec;
  calls = λ v opened call. absurd (quiet v call);
  keeps = λ v pending kept. same v ∙ pending;
  only = λ v pending. inr (sym (same v) ∙ pending, stays v);
  others = λ other. inl (own other);
}

-- an open vector is one of the sixteen
open_within : (e : Endpoint) (v : ℕ) → IsSoundEndpoint e → is_open e v ≡ true → v < length e.vectors
open_within e v sound opened =
    let most = and_parts (e.control && nat_lt v (vector_count e.spec) && is_function_open e.space) (not (has_vectors e.spec.function) || not (vector_at e v).masked) opened in
    let more = and_parts (e.control && nat_lt v (vector_count e.spec)) (is_function_open e.space) most.0 in
    let lt : v < vector_count e.spec = ltb-true v (vector_count e.spec) (and_parts e.control (nat_lt v (vector_count e.spec)) more.0).1 in
    let few : e.spec.function.vectors ≤ 16 = sound.within.vectors in
    let count : vector_count e.spec ≤ 16 = count_few (has_vectors e.spec.function) in
    let long : length e.vectors ≡ 16 = sound.vectors in
    omega arith
  where
    count_few : (b : Bool) → cond b e.spec.function.vectors 1 ≤ 16
    count_few true = sound.within.vectors
    count_few false = omega arith

raised_other : (e : Endpoint) (u v : ℕ) → v ≢ u → (vector_at (raised u e) v).pending ≡ (vector_at e v).pending
raised_other e u v other = ap (λ (x : Vector). x.pending) (raised_others u v e other)

pub become_raised : (image : Image) (f : Facts) (entry : Entry) (e b : Endpoint) (u : ℕ) → IsSoundEndpoint e → b.spec ≡ e.spec → SamePending (raised u e) b → Calls image f entry e u → ((v : ℕ) → Calls image f entry e v → v ≡ u) → NoDrop f entry e
    → (entry.cell ≢ e.spec.cell → b ≡ raised u e) → HasBecome image f entry e b
become_raised image f entry e b u sound spec same called single stays own = record {
  spec = spec;
  calls = λ v opened call.
      let is : u ≡ v = sym (single v call) in
      let P : ℕ → Type 0 = λ w. is_open e w ≡ true → (vector_at (raised u e) w).pending ≡ true in
      same v ∙ subst P is (λ open_u. raised_pending u e (open_within e u sound open_u) open_u) opened;
  keeps = λ v pending kept. same v ∙ raised_keeps_pending u v e pending;
  only = λ v pending. only_by v (is_open e u) refl (sym (same v) ∙ pending);
  others = λ other. others_by (is_open e u) refl (own other);
}
  where
    only_by : (v : ℕ) (opened : Bool) → is_open e u ≡ opened → (vector_at (raised u e) v).pending ≡ true → ((is_open e v ≡ true) × Calls image f entry e v) ⊎ (((vector_at e v).pending ≡ true) × (IsDropped f entry e v → ⊥))
    only_by v true is pending = elim (cases_eq v u) as (λ _. ((is_open e v ≡ true) × Calls image f entry e v) ⊎ (((vector_at e v).pending ≡ true) × (IsDropped f entry e v → ⊥))) [
      | inr other ↦ inr (sym (raised_other e u v other) ∙ pending, stays v)
      | inl here ↦ (let P : ℕ → Type 0 = λ w. (is_open e w ≡ true) × Calls image f entry e w in inl (subst P (sym here) (is, called)))
    ]
    only_by v false is pending = inr (ap (λ (x : Endpoint). (vector_at x v).pending) (sym (closed u e is)) ∙ pending, stays v)

    others_by : (opened : Bool) → is_open e u ≡ opened → b ≡ raised u e → (b ≡ e) ⊎ ((w : ℕ) × (is_open e w ≡ true) × Calls image f entry e w × (b ≡ raised w e))
    others_by true is at = inr (u, is, called, at)
    others_by false is at = inl (at ∙ closed u e is)

-- ---- acts

abbrev is_irq : Act → Bool
is_irq (Irq device vector) = true
is_irq act = false

-- the act changes no endpoint
record IsStill (act : Act) : Type 0 where
  acted : (image : Image) (f : Facts) (cell : ℕ) → endpoints_acted image f cell act ≡ f.endpoints
  puts : (image : Image) (f : Facts) (id offset value : ℕ) (e : Endpoint) → PutsRegister image f id act offset value e → ⊥
  irq : is_irq act ≡ false
  commits : is_commit act ≡ false

abbrev ActCases : Act → Type 0
ActCases act = IsStill act ⊎ IsWrite act ⊎ ((n : ℕ) × (v : ℕ) × (act ≡ Irq n v)) ⊎ (act ≡ Commit)

act_cases : (act : Act) → ActCases act
act_cases (Write width at value false) = inl (record { acted = λ image f cell. refl; puts = λ image f id offset put e h. false≢true h.0; irq = refl; commits = refl })
act_cases (Write width at value true) = inr (inl (record { width = width; at = at; value = value; is = refl }))
act_cases (Irq device vector) = inr (inr (inl (device, vector, refl)))
act_cases Commit = inr (inr (inr refl))
act_cases _ = inl (record { acted = λ image f cell. refl; puts = λ image f id offset put e h. h; irq = refl; commits = refl })

-- what calls a vector is a write of a register, or a Commit
no_call : (image : Image) (f : Facts) (entry : Entry) (e : Endpoint) → is_commit entry.act ≡ false → ((offset value : ℕ) (bell : Endpoint) → PutsRegister image f entry.cell entry.act offset value bell → ⊥) → NoCall image f entry e
no_call image f entry e other puts v (inl rings) = puts 0x0c rings.value rings.bell rings.puts
no_call image f entry e other puts v (inr (zero_is, tells)) =
    ⊎_elim
    (λ (state : (value : ℕ) × PutsRegister image f entry.cell entry.act 0x10 value tells.one × (value ≢ tells.one.state)). puts 0x10 state.0 tells.one state.1)
    (λ (clears : Clears f entry tells.one.spec.cell × (tells.one.state ≢ 0)). both_ways (is_commit entry.act) other (ap is_commit clears.0.commits))
    tells.changes

no_drop : (f : Facts) (entry : Entry) (e : Endpoint) → is_commit entry.act ≡ false → is_irq entry.act ≡ false → NoDrop f entry e
no_drop f entry e other no_irq v (inl (cell, act)) = both_ways (is_irq entry.act) no_irq (ap is_irq act)
no_drop f entry e other no_irq v (inr clears) = both_ways (is_commit entry.act) other (ap is_commit clears.commits)

-- what these endpoints have for it
pub record IsNow (image : Image) (f : Facts) (entry : Entry) (id n : ℕ) (e : Endpoint) (new : List Endpoint) : Type 0 where
  pub endpoint : Endpoint
  pub there : endpoint_at id n new ≡ Some endpoint
  pub become : HasBecome image f entry e endpoint

pub stays_so : (image : Image) (f : Facts) (entry : Entry) (e : Endpoint) → NoCall image f entry e → NoDrop f entry e → HasBecome image f entry e e
stays_so image f entry e quiet stays = become_same image f entry e e refl (λ v. refl) quiet stays (λ other. refl)

still_now : (image : Image) (f : Facts) (entry : Entry) (id n : ℕ) (e : Endpoint) → endpoint_at id n f.endpoints ≡ Some e → IsStill entry.act → IsNow image f entry id n e (endpoints_acted image f entry.cell entry.act)
still_now image f entry id n e there still = record {
  endpoint = e;
  there = ap (endpoint_at id n) (still.acted image f entry.cell) ∙ there;
  become = stays_so image f entry e (no_call image f entry e still.commits (λ offset value bell. still.puts image f entry.cell offset value bell)) (no_drop f entry e still.commits still.irq);
}

-- ---- an interrupt

taken_same : (m u : ℕ) (e : Endpoint) → u ≢ m → (vector_at (taken m e) u).pending ≡ (vector_at e u).pending
unfolding taken
taken_same m u e other = ap (λ (x : Vector). x.pending) (get_or-set_other e.vectors m u (record (vector_at e m) { pending = false }) fresh_vector other)

taken_off : (m : ℕ) (e : Endpoint) → (vector_at (taken m e) m).pending ≡ false
unfolding taken
taken_off m e = elim (cases_lt m (length e.vectors)) [
  | inl within ↦ ap (λ (x : Vector). x.pending) (get_or-set_same e.vectors m (record (vector_at e m) { pending = false }) fresh_vector within)
  | inr past ↦
      let long = length-set e.vectors m (record (vector_at e m) { pending = false }) in
      ap (λ (x : Vector). x.pending) (get_or_past (slice_set e.vectors m (record (vector_at e m) { pending = false })) m fresh_vector (omega (arith, long)))
]

irq_puts : (image : Image) (f : Facts) (id : ℕ) (act : Act) (d m : ℕ) → act ≡ Irq d m → (offset value : ℕ) (bell : Endpoint) → PutsRegister image f id act offset value bell → ⊥
irq_puts image f id act d m is offset value bell puts = let P : Act → Type 0 = λ a. PutsRegister image f id a offset value bell in subst P is puts

irq_commits : (act : Act) (d m : ℕ) → act ≡ Irq d m → is_commit act ≡ false
irq_commits act d m is = ap is_commit is

irq_device : Act → ℕ
irq_device (Irq device vector) = device
irq_device act = 0

irq_vector : Act → ℕ
irq_vector (Irq device vector) = vector
irq_vector act = 0

taken_drop : (f : Facts) (entry : Entry) (e : Endpoint) (d m v : ℕ) → entry.act ≡ Irq d m → IsDropped f entry e v → (entry.cell ≡ e.spec.cell) × (d ≡ e.spec.device) × (m ≡ v)
unfolding irq_device irq_vector
taken_drop f entry e d m v is (inl drop) = (drop.0, ap irq_device (sym is ∙ drop.1), ap irq_vector (sym is ∙ drop.1))
taken_drop f entry e d m v is (inr clears) = absurd (both_ways (is_commit entry.act) (irq_commits entry.act d m is) (ap is_commit clears.commits))

taken_become : (image : Image) (f : Facts) (entry : Entry) (e : Endpoint) (d m : ℕ) (own : Bool) → entry.act ≡ Irq d m → is_device entry.cell d e.spec ≡ own → HasBecome image f entry e (cond own (taken m e) e)
taken_become image f entry e d m false is own =
    stays_so image f entry e (no_call image f entry e (irq_commits entry.act d m is) (irq_puts image f entry.cell entry.act d m is))
    (λ v dropped.
    let drop = taken_drop f entry e d m v is dropped in
    both_ways (is_device entry.cell d e.spec) own (and_from (eqb e.spec.cell entry.cell) (eqb e.spec.device d) (eq-eqb e.spec.cell entry.cell (sym drop.0)) (eq-eqb e.spec.device d (sym drop.1))))
taken_become image f entry e d m true is own =
    let quiet = no_call image f entry e (irq_commits entry.act d m is) (irq_puts image f entry.cell entry.act d m is) in
    let parts = and_parts (eqb e.spec.cell entry.cell) (eqb e.spec.device d) own in
    let cell : e.spec.cell ≡ entry.cell = eqb-true e.spec.cell entry.cell parts.0 in
    let device : e.spec.device ≡ d = eqb-true e.spec.device d parts.1 in
    let drop : IsDropped f entry e m = inl (sym cell, is ∙ ap (λ (k : ℕ). Irq k m) (sym device)) in
    record {
      spec = taken_spec m e;
      calls = λ v opened call. absurd (quiet v call);
      keeps = λ v pending kept.
          let other : v ≢ m = λ same. (let P : ℕ → Type 0 = λ u. IsDropped f entry e u in kept (subst P (sym same) drop)) in
          taken_same m v e other ∙ pending;
      only = λ v pending.
          let other : v ≢ m = λ same. both_ways (vector_at (taken m e) m).pending (taken_off m e) (ap (λ (u : ℕ). (vector_at (taken m e) u).pending) (sym same) ∙ pending) in
          inr (sym (taken_same m v e other) ∙ pending, λ dropped. other (sym (taken_drop f entry e d m v is dropped).2));
      others = λ other. absurd (other (sym cell));
    }

irq_now : (image : Image) (f : Facts) (entry : Entry) (id n : ℕ) (e : Endpoint) (d m : ℕ) → endpoint_at id n f.endpoints ≡ Some e → entry.act ≡ Irq d m → IsNow image f entry id n e (endpoints_acted image f entry.cell entry.act)
irq_now image f entry id n e d m there is = record {
  endpoint = cond (is_device entry.cell d e.spec) (taken m e) e;
  there = ap (λ (act : Act). endpoint_at id n (endpoints_acted image f entry.cell act)) is ∙ found_changed id n (is_device entry.cell d) (taken m) f.endpoints e (taken_spec m) there;
  become = taken_become image f entry e d m (is_device entry.cell d e.spec) is refl;
}

-- ---- a write

-- one that reaches no register
write_commits : (act : Act) → IsWrite act → is_commit act ≡ false
write_commits act w = ap is_commit w.is

write_irq : (act : Act) → IsWrite act → is_irq act ≡ false
write_irq act w = ap is_irq w.is

-- the write of an act is one
same_write : {X : Type 0} (act : Act) (one other : IsWrite act) (g : ℕ → ℕ → ℕ → X) → g one.width one.at one.value ≡ g other.width other.at other.value
same_write act one other g =
    let same : Write one.width one.at one.value true ≡ Write other.width other.at other.value true = sym one.is ∙ other.is in
    ap (λ (w : ℕ). g w one.at one.value) (ap width_of same) ∙ ap (λ (a : ℕ). g other.width a one.value) (ap at_of same) ∙ ap (g other.width other.at) (ap value_of same)
  where
    width_of : Act → ℕ
    width_of (Write width at value ok) = width
    width_of act = 0

    at_of : Act → ℕ
    at_of (Write width at value ok) = at
    at_of act = 0

    value_of : Act → ℕ
    value_of (Write width at value ok) = value
    value_of act = 0

-- the register that it puts, as a register that answers its access
puts_by : (image : Image) (f : Facts) (entry : Entry) (w : IsWrite entry.act) (offset value : ℕ) (bell : Endpoint) → PutsRegister image f entry.cell entry.act offset value bell
    → (value ≡ w.value) × ((n : ℕ) × IsAnsweredByRegister image f entry.cell ToWrite w.at w.width n 0 offset bell)
puts_by image f entry w offset value bell puts =
    let h = register_write image f entry.cell entry.act offset value bell puts in
    let P : Type 0 → Type 0 = λ t. t in
    let same : IsAnsweredByRegister image f entry.cell ToWrite h.write.at h.write.width h.number 0 offset bell ≡ IsAnsweredByRegister image f entry.cell ToWrite w.at w.width h.number 0 offset bell =
    same_type (λ width at value. IsAnsweredByRegister image f entry.cell ToWrite at width h.number 0 offset bell) h.write w in
    (h.value ∙ same_write entry.act h.write w (λ width at v. v), (h.number, subst P same h.by))
  where
    same_type : (g : ℕ → ℕ → ℕ → Type 0) (one other : IsWrite entry.act) → g one.width one.at one.value ≡ g other.width other.at other.value
    same_type g one other =
        ap (λ (k : ℕ). g k one.at one.value) (same_write entry.act one other (λ width at v. width)) ∙ ap (λ (k : ℕ). g other.width k one.value) (same_write entry.act one other (λ width at v. at)) ∙ ap (g other.width other.at) (same_write entry.act one other (λ width at v. v))

-- it changes no endpoint where it reaches neither configuration space nor a register
plain_now : (image : Image) (f : Facts) (entry : Entry) (id n : ℕ) (e : Endpoint) (w : IsWrite entry.act) → endpoint_at id n f.endpoints ≡ Some e → endpoints_acted image f entry.cell entry.act ≡ f.endpoints
    → ((m bar offset : ℕ) (o : Endpoint) → IsAnsweredByRegister image f entry.cell ToWrite w.at w.width m bar offset o → ⊥) → IsNow image f entry id n e (endpoints_acted image f entry.cell entry.act)
plain_now image f entry id n e w there same none = record {
  endpoint = e;
  there = ap (endpoint_at id n) same ∙ there;
  become = stays_so image f entry e (no_call image f entry e (write_commits entry.act w) (λ offset value bell puts. let by = puts_by image f entry w offset value bell puts in none by.1.0 0 offset bell by.1.1)) (no_drop f entry e (write_commits entry.act w) (write_irq entry.act w));
}

-- ---- configuration space

config_become : (image : Image) (f : Facts) (entry : Entry) (e : Endpoint) (m : ℕ) (space : Space) (own : Bool) → NoCall image f entry e → NoDrop f entry e → is_device entry.cell m e.spec ≡ own → HasBecome image f entry e (cond own (record e { space = space }) e)
config_become image f entry e m space true quiet stays own =
    become_same image f entry e (record e { space = space }) refl (λ v. refl) quiet stays
    (λ other. absurd (other (sym (eqb-true e.spec.cell entry.cell (and_parts (eqb e.spec.cell entry.cell) (eqb e.spec.device m) own).0))))
config_become image f entry e m space false quiet stays own = stays_so image f entry e quiet stays

function_now : (image : Image) (f : Facts) (entry : Entry) (id n : ℕ) (e : Endpoint) (m : ℕ) (space : Space) → NoCall image f entry e → NoDrop f entry e → endpoint_at id n f.endpoints ≡ Some e → IsNow image f entry id n e (configured entry.cell m space f.endpoints)
function_now image f entry id n e m space quiet stays there = record {
  endpoint = cond (is_device entry.cell m e.spec) (record e { space = space }) e;
  there = found_changed id n (is_device entry.cell m) (λ (o : Endpoint). record o { space = space }) f.endpoints e (λ o. refl) there;
  become = config_become image f entry e m space (is_device entry.cell m e.spec) quiet stays refl;
}

config_now : (image : Image) (f : Facts) (entry : Entry) (id n : ℕ) (e : Endpoint) (at width value : ℕ) → NoCall image f entry e → NoDrop f entry e → endpoint_at id n f.endpoints ≡ Some e
    → IsNow image f entry id n e (config_put (devices_of image f entry.cell) (record { at = at; width = width }) value)
config_now image f entry id n e at width value quiet stays there = by_number (number_at (devices_of image f entry.cell) at)
  where
    unchanged : IsNow image f entry id n e f.endpoints
    unchanged = record { endpoint = e; there = there; become = stays_so image f entry e quiet stays }

    by_endpoint : (m : ℕ) (q : Option Endpoint) → IsNow image f entry id n e (option_map_or (λ (o : Endpoint). configured entry.cell m (config_written o.space (at % 4096) width (value % 2 ^ 32)) f.endpoints) q f.endpoints)
    by_endpoint m None = unchanged
    by_endpoint m (Some o) = function_now image f entry id n e m (config_written o.space (at % 4096) width (value % 2 ^ 32)) quiet stays there

    by_number : (o : Option ℕ) → IsNow image f entry id n e (option_map_or (function_put (devices_of image f entry.cell) (record { at = at; width = width }) value) o f.endpoints)
    by_number None = unchanged
    by_number (Some m) = by_endpoint m (endpoint_at entry.cell m f.endpoints)

-- ---- a register

-- the write of the entry puts the register of the endpoint
record IsPut (image : Image) (f : Facts) (entry : Entry) (w : IsWrite entry.act) (m bar offset : ℕ) (x : Endpoint) : Type 0 where
  by : IsAnsweredByRegister image f entry.cell ToWrite w.at w.width m bar offset x

put_cell : (image : Image) (f : Facts) (entry : Entry) (w : IsWrite entry.act) (m bar offset : ℕ) (x : Endpoint) → IsPut image f entry w m bar offset x → x.spec.cell ≡ entry.cell
put_cell image f entry w m bar offset x put = named_cell entry.cell m f.endpoints x put.by.within.is.there

puts_from : (image : Image) (f : Facts) (entry : Entry) (w : IsWrite entry.act) (m bar offset place : ℕ) (x : Endpoint) → IsPut image f entry w m bar offset x → bar ≡ 0 → offset ≡ place → PutsRegister image f entry.cell entry.act place w.value x
puts_from image f entry w m bar offset place x put zero_is there =
    let P : Act → Type 0 = λ act. PutsRegister image f entry.cell act place w.value x in
    let R : ℕ → ℕ → Type 0 = λ b o. IsAnsweredByRegister image f entry.cell ToWrite w.at w.width m b o x in
    let B : ℕ → Type 0 = λ b. R b offset in
    subst P (sym w.is) (refl, refl, (m, subst (R 0) there (subst B zero_is put.by)))

-- any register that the entry puts is that one
same_put : {X : Type 0} (image : Image) (f : Facts) (entry : Entry) (w : IsWrite entry.act) (m bar offset place value : ℕ) (x bell : Endpoint) (g : ℕ → ℕ → Endpoint → X) → IsPut image f entry w m bar offset x → PutsRegister image f entry.cell entry.act place value bell
    → g 0 place bell ≡ g bar offset x
same_put image f entry w m bar offset place value x bell g put puts =
    let by = puts_by image f entry w place value bell puts in
    same_register image f entry.cell ToWrite w.at w.width by.1.0 0 place m bar offset bell x (λ k b o y. g b o y) by.1.1 put.by

put_value : (image : Image) (f : Facts) (entry : Entry) (w : IsWrite entry.act) (place value : ℕ) (bell : Endpoint) → PutsRegister image f entry.cell entry.act place value bell → value ≡ w.value
put_value image f entry w place value bell puts = (puts_by image f entry w place value bell puts).0

write_clears : (f : Facts) (entry : Entry) (id : ℕ) → IsWrite entry.act → Clears f entry id → ⊥
write_clears f entry id w clears = both_ways (is_commit entry.act) (write_commits entry.act w) (ap is_commit clears.commits)

-- ---- a doorbell

rung_calls : (image : Image) (f : Facts) (entry : Entry) (w : IsWrite entry.act) (m bar offset : ℕ) (x e : Endpoint) (v : ℕ) → IsPut image f entry w m bar offset x → offset ≡ 0x0c → Calls image f entry e v
    → (v ≡ w.value % 2 ^ 16) × (is_peer x.spec.bdf (w.value / 2 ^ 16) e.spec ≡ true)
rung_calls image f entry w m bar offset x e v put place (inl rings) =
    let bell : rings.bell ≡ x = same_put image f entry w m bar offset 0x0c rings.value x rings.bell (λ b o y. y) put rings.puts in
    let value : rings.value ≡ w.value = put_value image f entry w 0x0c rings.value rings.bell rings.puts in
    let link : e.spec.bdf ≡ x.spec.bdf = sym rings.link ∙ ap (λ (y : Endpoint). y.spec.bdf) bell in
    let target : e.spec.id ≡ w.value / 2 ^ 16 = sym rings.target ∙ ap (λ (k : ℕ). k / 2 ^ 16) value in
    (sym rings.vector ∙ ap (λ (k : ℕ). k % 2 ^ 16) value, and_from (eqb e.spec.bdf x.spec.bdf) (eqb e.spec.id (w.value / 2 ^ 16)) (eq-eqb e.spec.bdf x.spec.bdf link) (eq-eqb e.spec.id (w.value / 2 ^ 16) target))
rung_calls image f entry w m bar offset x e v put place (inr (zero_is, tells)) =
    ⊎_elim
    (λ (state : (value : ℕ) × PutsRegister image f entry.cell entry.act 0x10 value tells.one × (value ≢ tells.one.state)).
    let same : 0x10 ≡ offset = same_put image f entry w m bar offset 0x10 state.0 x tells.one (λ b o y. o) put state.1 in
    absurd (let no : ⊥ = omega arith in no))
    (λ (clears : Clears f entry tells.one.spec.cell × (tells.one.state ≢ 0)). absurd (write_clears f entry tells.one.spec.cell w clears.0))
    tells.changes

rung_become : (image : Image) (f : Facts) (entry : Entry) (w : IsWrite entry.act) (m bar offset : ℕ) (x e : Endpoint) (peer : Bool) → IsSoundEndpoint e → IsPut image f entry w m bar offset x → bar ≡ 0 → offset ≡ 0x0c → is_peer x.spec.bdf (w.value / 2 ^ 16) e.spec ≡ peer
    → HasBecome image f entry e (cond peer (raised (w.value % 2 ^ 16) e) e)
rung_become image f entry w m bar offset x e true sound put zero_is place is =
    let parts = and_parts (eqb e.spec.bdf x.spec.bdf) (eqb e.spec.id (w.value / 2 ^ 16)) is in
    let call : Calls image f entry e (w.value % 2 ^ 16) = inl (record {
      bell = x;
      value = w.value;
      puts = puts_from image f entry w m bar offset 0x0c x put zero_is place;
      link = sym (eqb-true e.spec.bdf x.spec.bdf parts.0);
      target = sym (eqb-true e.spec.id (w.value / 2 ^ 16) parts.1);
      vector = refl;
    }) in
    become_raised image f entry e (raised (w.value % 2 ^ 16) e) (w.value % 2 ^ 16) sound (raised_spec (w.value % 2 ^ 16) e) (λ v. refl) call (λ v other. (rung_calls image f entry w m bar offset x e v put place other).0)
    (no_drop f entry e (write_commits entry.act w) (write_irq entry.act w)) (λ other. refl)
rung_become image f entry w m bar offset x e false sound put zero_is place is =
    stays_so image f entry e (λ v call. both_ways (is_peer x.spec.bdf (w.value / 2 ^ 16) e.spec) is (rung_calls image f entry w m bar offset x e v put place call).1) (no_drop f entry e (write_commits entry.act w) (write_irq entry.act w))

-- ---- the state register

state_calls : (image : Image) (f : Facts) (entry : Entry) (w : IsWrite entry.act) (m bar offset : ℕ) (x e : Endpoint) (v : ℕ) → IsPut image f entry w m bar offset x → offset ≡ 0x10 → Calls image f entry e v → (v ≡ 0) × (is_notified x w.value e ≡ true)
state_calls image f entry w m bar offset x e v put place (inl rings) =
    let same : 0x0c ≡ offset = same_put image f entry w m bar offset 0x0c rings.value x rings.bell (λ b o y. o) put rings.puts in
    absurd (let no : ⊥ = omega arith in no)
state_calls image f entry w m bar offset x e v put place (inr (zero_is, tells)) =
    ⊎_elim
    (λ (state : (value : ℕ) × PutsRegister image f entry.cell entry.act 0x10 value tells.one × (value ≢ tells.one.state)).
    let one : tells.one ≡ x = same_put image f entry w m bar offset 0x10 state.0 x tells.one (λ b o y. y) put state.1 in
    let value : state.0 ≡ w.value = put_value image f entry w 0x10 state.0 tells.one state.1 in
    let other_state : eqb x.state w.value ≡ false = ne_eqb x.state w.value (λ same. state.2 (value ∙ sym same ∙ ap (λ (y : Endpoint). y.state) (sym one))) in
    let link : e.spec.bdf ≡ x.spec.bdf = sym tells.link ∙ ap (λ (y : Endpoint). y.spec.bdf) one in
    let number : eqb e.spec.id x.spec.id ≡ false = ne_eqb e.spec.id x.spec.id (λ same. tells.other (ap (λ (y : Endpoint). y.spec.id) one ∙ sym same)) in (
      zero_is,
      and_from (not (eqb x.state w.value)) (is_other x.spec.bdf x.spec.id e.spec) (ap not other_state)
          (and_from (eqb e.spec.bdf x.spec.bdf) (not (eqb e.spec.id x.spec.id)) (eq-eqb e.spec.bdf x.spec.bdf link) (ap not number)),
    ))
    (λ (clears : Clears f entry tells.one.spec.cell × (tells.one.state ≢ 0)). absurd (write_clears f entry tells.one.spec.cell w clears.0))
    tells.changes

state_pending : (own : Bool) (value : ℕ) (o : Endpoint) → SamePending o (cond own (record o { state = value }) o)
state_pending true value o v = refl
state_pending false value o v = refl

state_spec : (own : Bool) (value : ℕ) (o : Endpoint) → (cond own (record o { state = value }) o).spec ≡ o.spec
state_spec true value o = refl
state_spec false value o = refl

state_become : (image : Image) (f : Facts) (entry : Entry) (w : IsWrite entry.act) (m bar offset : ℕ) (x e : Endpoint) (told own : Bool) → IsSoundEndpoint e → IsPut image f entry w m bar offset x → bar ≡ 0 → offset ≡ 0x10 → is_notified x w.value e ≡ told
    → (entry.cell ≢ e.spec.cell → own ≡ false) → HasBecome image f entry e (cond own (record (cond told (raised 0 e) e) { state = w.value }) (cond told (raised 0 e) e))
state_become image f entry w m bar offset x e true own sound put zero_is place is other =
    let parts = and_parts (not (eqb x.state w.value)) (is_other x.spec.bdf x.spec.id e.spec) is in
    let link = and_parts (eqb e.spec.bdf x.spec.bdf) (not (eqb e.spec.id x.spec.id)) parts.1 in
    let call : Calls image f entry e 0 = inr (
      refl,
      record {
        one = x;
        there = endpoint_held image f entry.cell m x put.by.within.is.there;
        changes = inl (w.value, puts_from image f entry w m bar offset 0x10 x put zero_is place, λ same. both_ways (eqb x.state w.value) (not-true (eqb x.state w.value) parts.0) (eq-eqb x.state w.value (sym same)));
        link = sym (eqb-true e.spec.bdf x.spec.bdf link.0);
        other = λ same. both_ways (eqb e.spec.id x.spec.id) (not-true (eqb e.spec.id x.spec.id) link.1) (eq-eqb e.spec.id x.spec.id (sym same));
      },
    ) in
    become_raised image f entry e (cond own (record (raised 0 e) { state = w.value }) (raised 0 e)) 0 sound (state_spec own w.value (raised 0 e) ∙ raised_spec 0 e) (state_pending own w.value (raised 0 e)) call
    (λ v c. (state_calls image f entry w m bar offset x e v put place c).0) (no_drop f entry e (write_commits entry.act w) (write_irq entry.act w))
    (λ foreign. ap (λ (b : Bool). cond b (record (raised 0 e) { state = w.value }) (raised 0 e)) (other foreign))
state_become image f entry w m bar offset x e false own sound put zero_is place is other =
    become_same image f entry e (cond own (record e { state = w.value }) e) (state_spec own w.value e) (state_pending own w.value e)
    (λ v call. both_ways (is_notified x w.value e) is (state_calls image f entry w m bar offset x e v put place call).1) (no_drop f entry e (write_commits entry.act w) (write_irq entry.act w))
    (λ foreign. ap (λ (b : Bool). cond b (record e { state = w.value }) e) (other foreign))

-- ---- another register

word_pending : (n value : ℕ) (x : Vector) → (with_word n value x).pending ≡ x.pending
word_pending n value x = word_by (eqb n 0) (eqb n 1) (eqb n 2)
  where
    word_by : (a b c : Bool) → (cond a (record x { address = value }) (cond b (record x { upper_address = value }) (cond c (record x { message = value }) (record x { masked = eqb (value % 2) 1 })))).pending ≡ x.pending
    word_by true b c = refl
    word_by false true c = refl
    word_by false false true = refl
    word_by false false false = refl

set_pending : (xs : List Vector) (i u : ℕ) (y : Vector) → y.pending ≡ (get_or xs i fresh_vector).pending → (get_or (slice_set xs i y) u fresh_vector).pending ≡ (get_or xs u fresh_vector).pending
set_pending xs i u y same = elim (cases_eq u i) as (λ _. (get_or (slice_set xs i y) u fresh_vector).pending ≡ (get_or xs u fresh_vector).pending) [
  | inr other ↦ ap (λ (x : Vector). x.pending) (get_or-set_other xs i u y fresh_vector other)
  | inl here ↦ elim (cases_lt i (length xs)) as (λ _. (get_or (slice_set xs i y) u fresh_vector).pending ≡ (get_or xs u fresh_vector).pending) [
    | inl within ↦
        ap (λ (k : ℕ). (get_or (slice_set xs i y) k fresh_vector).pending) here
        ∙ ap (λ (x : Vector). x.pending) (get_or-set_same xs i y fresh_vector within)
        ∙ same ∙ ap (λ (k : ℕ). (get_or xs k fresh_vector).pending) (sym here)
    | inr past ↦
        let long = length-set xs i y in
        ap (λ (k : ℕ). (get_or (slice_set xs i y) k fresh_vector).pending) here
        ∙ ap (λ (x : Vector). x.pending) (get_or_past (slice_set xs i y) i fresh_vector (omega (arith, long)) ∙ sym (get_or_past xs i fresh_vector past))
        ∙ ap (λ (k : ℕ). (get_or xs k fresh_vector).pending) (sym here)
  ]
]

register_pending : (bar at value : ℕ) (e : Endpoint) → SamePending e (register_written bar at value e)
unfolding register_written
register_pending bar at value e u = register_by (eqb bar 0) (eqb at 0x08) (is_in_table e at)
  where
    register_by : (a b c : Bool)
        → (vector_at (cond a (cond b (record e { control = eqb (value % 2) 1 }) e) (cond c (record e { vectors = slice_set e.vectors (at / 16) (with_word (at / 4 % 4) value (vector_at e (at / 16))) }) e)) u).pending ≡ (vector_at e u).pending
    register_by true true c = refl
    register_by true false c = refl
    register_by false b true = set_pending e.vectors (at / 16) u (with_word (at / 4 % 4) value (vector_at e (at / 16))) (word_pending (at / 4 % 4) value (vector_at e (at / 16)))
    register_by false b false = refl

register_become : (image : Image) (f : Facts) (entry : Entry) (w : IsWrite entry.act) (bar offset : ℕ) (e : Endpoint) (own : Bool) → NoCall image f entry e → (entry.cell ≢ e.spec.cell → own ≡ false) → HasBecome image f entry e (cond own (register_written bar offset w.value e) e)
register_become image f entry w bar offset e true quiet other =
    become_same image f entry e (register_written bar offset w.value e) (register_written_spec bar offset w.value e) (register_pending bar offset w.value e) quiet (no_drop f entry e (write_commits entry.act w) (write_irq entry.act w)) (λ foreign. absurd (false≢true (sym (other foreign))))
register_become image f entry w bar offset e false quiet other = stays_so image f entry e quiet (no_drop f entry e (write_commits entry.act w) (write_irq entry.act w))

-- ---- what a write leaves

written_rung : (x : Endpoint) (bar at value : ℕ) (list : List Endpoint) → (eqb bar 0 && eqb at 0x0c) ≡ true → written x bar at value list ≡ rung x.spec.bdf (value / 2 ^ 16) (value % 2 ^ 16) list
unfolding written
written_rung x bar at value list is =
    ap (λ (b : Bool). cond b (rung x.spec.bdf (value / 2 ^ 16) (value % 2 ^ 16) list) (cond (eqb bar 0 && eqb at 0x10) (state_written x value list) (changed (is_device x.spec.cell x.spec.device) (register_written bar at value) list))) is

written_state : (x : Endpoint) (bar at value : ℕ) (list : List Endpoint) → (eqb bar 0 && eqb at 0x0c) ≡ false → (eqb bar 0 && eqb at 0x10) ≡ true → written x bar at value list ≡ state_written x value list
unfolding written
written_state x bar at value list apart is =
    ap (λ (b : Bool). cond b (rung x.spec.bdf (value / 2 ^ 16) (value % 2 ^ 16) list) (cond (eqb bar 0 && eqb at 0x10) (state_written x value list) (changed (is_device x.spec.cell x.spec.device) (register_written bar at value) list))) apart
    ∙ ap (λ (b : Bool). cond b (state_written x value list) (changed (is_device x.spec.cell x.spec.device) (register_written bar at value) list)) is

pub written_other : (x : Endpoint) (bar at value : ℕ) (list : List Endpoint) → (eqb bar 0 && eqb at 0x0c) ≡ false → (eqb bar 0 && eqb at 0x10) ≡ false → written x bar at value list ≡ changed (is_device x.spec.cell x.spec.device) (register_written bar at value) list
unfolding written
written_other x bar at value list apart none =
    ap (λ (b : Bool). cond b (rung x.spec.bdf (value / 2 ^ 16) (value % 2 ^ 16) list) (cond (eqb bar 0 && eqb at 0x10) (state_written x value list) (changed (is_device x.spec.cell x.spec.device) (register_written bar at value) list))) apart
    ∙ ap (λ (b : Bool). cond b (state_written x value list) (changed (is_device x.spec.cell x.spec.device) (register_written bar at value) list)) none

-- an endpoint of another cell isn't the device
foreign_device : (image : Image) (f : Facts) (entry : Entry) (w : IsWrite entry.act) (m bar offset : ℕ) (x o e : Endpoint) → IsPut image f entry w m bar offset x → o.spec ≡ e.spec → entry.cell ≢ e.spec.cell → is_device x.spec.cell x.spec.device o.spec ≡ false
foreign_device image f entry w m bar offset x o e put same foreign =
    ap (is_device x.spec.cell x.spec.device) same
    ∙ and_left (eqb e.spec.cell x.spec.cell) (eqb e.spec.device x.spec.device) (ne_eqb e.spec.cell x.spec.cell (λ is. foreign (sym (put_cell image f entry w m bar offset x put) ∙ sym is)))

-- a register that is neither calls nothing
same_place : (image : Image) (f : Facts) (entry : Entry) (w : IsWrite entry.act) (m bar offset place value : ℕ) (x bell : Endpoint) → IsPut image f entry w m bar offset x → PutsRegister image f entry.cell entry.act place value bell → (eqb bar 0 && eqb offset place) ≡ true
same_place image f entry w m bar offset place value x bell put puts =
    let zero_is : 0 ≡ bar = same_put image f entry w m bar offset place value x bell (λ b o y. b) put puts in
    let there : place ≡ offset = same_put image f entry w m bar offset place value x bell (λ b o y. o) put puts in
    and_from (eqb bar 0) (eqb offset place) (eq-eqb bar 0 (sym zero_is)) (eq-eqb offset place (sym there))

other_quiet : (image : Image) (f : Facts) (entry : Entry) (w : IsWrite entry.act) (m bar offset : ℕ) (x e : Endpoint) → IsPut image f entry w m bar offset x → (eqb bar 0 && eqb offset 0x0c) ≡ false → (eqb bar 0 && eqb offset 0x10) ≡ false → NoCall image f entry e
other_quiet image f entry w m bar offset x e put no_bell no_state v (inl rings) = both_ways (eqb bar 0 && eqb offset 0x0c) no_bell (same_place image f entry w m bar offset 0x0c rings.value x rings.bell put rings.puts)
other_quiet image f entry w m bar offset x e put no_bell no_state v (inr (zero_is, tells)) =
    ⊎_elim
    (λ (state : (value : ℕ) × PutsRegister image f entry.cell entry.act 0x10 value tells.one × (value ≢ tells.one.state)). both_ways (eqb bar 0 && eqb offset 0x10) no_state (same_place image f entry w m bar offset 0x10 state.0 x tells.one put state.1))
    (λ (clears : Clears f entry tells.one.spec.cell × (tells.one.state ≢ 0)). write_clears f entry tells.one.spec.cell w clears.0)
    tells.changes

written_now : (image : Image) (f : Facts) (entry : Entry) (w : IsWrite entry.act) (m bar offset id n : ℕ) (x e : Endpoint) (bell state : Bool) → IsSoundEndpoint e → IsPut image f entry w m bar offset x → endpoint_at id n f.endpoints ≡ Some e
    → (eqb bar 0 && eqb offset 0x0c) ≡ bell → (eqb bar 0 && eqb offset 0x10) ≡ state → IsNow image f entry id n e (written x bar offset w.value f.endpoints)
written_now image f entry w m bar offset id n x e true state sound put there is_bell is_state =
    let parts = and_parts (eqb bar 0) (eqb offset 0x0c) is_bell in
    let peer : Bool = is_peer x.spec.bdf (w.value / 2 ^ 16) e.spec in
    record {
      endpoint = cond peer (raised (w.value % 2 ^ 16) e) e;
      there = ap (endpoint_at id n) (written_rung x bar offset w.value f.endpoints is_bell)
          ∙ found_changed id n (is_peer x.spec.bdf (w.value / 2 ^ 16)) (raised (w.value % 2 ^ 16)) f.endpoints e (raised_spec (w.value % 2 ^ 16)) there;
      become = rung_become image f entry w m bar offset x e peer sound put (eqb-true bar 0 parts.0) (eqb-true offset 0x0c parts.1) refl;
    }
written_now image f entry w m bar offset id n x e false true sound put there is_bell is_state =
    let parts = and_parts (eqb bar 0) (eqb offset 0x10) is_state in
    let told : Bool = is_notified x w.value e in
    let o : Endpoint = cond told (raised 0 e) e in
    let own : Bool = is_device x.spec.cell x.spec.device o.spec in
    record {
      endpoint = cond own (record o { state = w.value }) o;
      there = ap (endpoint_at id n) (written_state x bar offset w.value f.endpoints is_bell is_state)
          ∙ found_changed id n (is_device x.spec.cell x.spec.device) (λ (y : Endpoint). record y { state = w.value }) (told_of x w.value f.endpoints) o (λ y. refl) (found_told x e w.value f.endpoints id n there);
      become = state_become image f entry w m bar offset x e told own sound put (eqb-true bar 0 parts.0) (eqb-true offset 0x10 parts.1) refl (λ foreign. foreign_device image f entry w m bar offset x o e put (told_spec told e) foreign);
    }
written_now image f entry w m bar offset id n x e false false sound put there is_bell is_state =
    let own : Bool = is_device x.spec.cell x.spec.device e.spec in
    record {
      endpoint = cond own (register_written bar offset w.value e) e;
      there = ap (endpoint_at id n) (written_other x bar offset w.value f.endpoints is_bell is_state)
          ∙ found_changed id n (is_device x.spec.cell x.spec.device) (register_written bar offset w.value) f.endpoints e (register_written_spec bar offset w.value) there;
      become = register_become image f entry w bar offset e own
          (other_quiet image f entry w m bar offset x e put is_bell is_state)
          (λ foreign. foreign_device image f entry w m bar offset x e e put refl foreign);
    }

-- what the write of the entry leaves, by what it reaches
now_by : (image : Image) (f : Facts) (entry : Entry) (id n : ℕ) (e : Endpoint) (one other : List Endpoint) → one ≡ other → IsNow image f entry id n e other → IsNow image f entry id n e one
now_by image f entry id n e one other same h = record { endpoint = h.endpoint; there = ap (endpoint_at id n) same ∙ h.there; become = h.become }

write_quiet : (image : Image) (f : Facts) (entry : Entry) (e : Endpoint) (w : IsWrite entry.act) → ((m bar offset : ℕ) (o : Endpoint) → IsAnsweredByRegister image f entry.cell ToWrite w.at w.width m bar offset o → ⊥) → NoCall image f entry e
write_quiet image f entry e w none = no_call image f entry e (write_commits entry.act w) (λ offset value bell puts. let by = puts_by image f entry w offset value bell puts in none by.1.0 0 offset bell by.1.1)

reached_now : (image : Image) (f : Facts) (entry : Entry) (id n : ℕ) (e : Endpoint) (w : IsWrite entry.act) → IsSound image f → w.value < 256 ^ w.width → endpoint_at id n f.endpoints ≡ Some e
    → endpoints_acted image f entry.cell entry.act ≡ endpoints_put (devices_of image f entry.cell) (reach image f entry.cell ToWrite w.at w.width) w.value → Way image f entry.cell ToWrite w.at w.width
    → IsNow image f entry id n e (endpoints_acted image f entry.cell entry.act)
reached_now image f entry id n e w sound small there acted (OnMemory ps granted is) =
    plain_now image f entry id n e w there (acted ∙ ap (λ (r : Reach). endpoints_put (devices_of image f entry.cell) r w.value) is) (λ m bar offset o by. by.behind.lacks granted)
reached_now image f entry id n e w sound small there acted (OnRegion r answers is) =
    plain_now image f entry id n e w there (acted ∙ ap (λ (q : Reach). endpoints_put (devices_of image f entry.cell) q w.value) is) (λ m bar offset o by. by.none r answers.has)
reached_now image f entry id n e w sound small there acted (OnNothing none is) =
    plain_now image f entry id n e w there (acted ∙ ap (λ (q : Reach). endpoints_put (devices_of image f entry.cell) q w.value) is) (λ m bar offset o by. none (inr (inr (inr (m, bar, offset, o, by)))))
reached_now image f entry id n e w sound small there acted (OnWindow window is) =
    let at : ℕ = w.at - image.system.platform.pci_mmconfig_base in
    now_by image f entry id n e (endpoints_acted image f entry.cell entry.act) (config_put (devices_of image f entry.cell) (record { at = at; width = w.width }) w.value)
    (acted ∙ ap (λ (q : Reach). endpoints_put (devices_of image f entry.cell) q w.value) is)
    (config_now image f entry id n e at w.width w.value (write_quiet image f entry e w (λ m bar offset o by. by.outside window.within)) (no_drop f entry e (write_commits entry.act w) (write_irq entry.act w)) there)
reached_now image f entry id n e w sound small there acted (OnRegister m bar offset x register is) =
    let same : w.value % 2 ^ 32 ≡ w.value = value_fits w.width w.value register.wide small in
    now_by image f entry id n e (endpoints_acted image f entry.cell entry.act) (written x bar offset w.value f.endpoints)
    (acted ∙ ap (λ (q : Reach). endpoints_put (devices_of image f entry.cell) q w.value) is
    ∙ ap (λ (o : Option Endpoint). option_map_or (λ (y : Endpoint). written y bar offset (w.value % 2 ^ 32) f.endpoints) o f.endpoints) register.within.is.there
    ∙ ap (λ (v : ℕ). written x bar offset v f.endpoints) same)
    (written_now image f entry w m bar offset id n x e (eqb bar 0 && eqb offset 0x0c) (eqb bar 0 && eqb offset 0x10) (endpoint_sound image f id n e sound there) (record { by = register }) there refl refl)

-- behind an entry that is no Commit
pub acted_now : (image : Image) (f : Facts) (entry : Entry) (id n : ℕ) (e : Endpoint) → IsSound image f → IsSmallAct entry.act → is_commit entry.act ≡ false → endpoint_at id n f.endpoints ≡ Some e → IsNow image f entry id n e (endpoints_acted image f entry.cell entry.act)
acted_now image f entry id n e sound small other there =
    ⊎_elim
    (λ (still : IsStill entry.act). still_now image f entry id n e there still)
    (λ more. ⊎_elim
    (λ (w : IsWrite entry.act).
    let fits = subst IsSmallAct w.is small in
    reached_now image f entry id n e w sound fits.1 there (ap (endpoints_acted image f entry.cell) w.is) (way image f entry.cell ToWrite w.at w.width sound fits.0))
    (λ rest. ⊎_elim
    (λ (irq : (d : ℕ) × (m : ℕ) × (entry.act ≡ Irq d m)). irq_now image f entry id n e irq.0 irq.1 there irq.2)
    (λ (commits : entry.act ≡ Commit). absurd (both_ways (is_commit entry.act) other (ap is_commit commits)))
    rest)
    more)
    (act_cases entry.act)
