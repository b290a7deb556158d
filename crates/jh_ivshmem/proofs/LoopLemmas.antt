-- The change of each endpoint that is meant, by a loop over all or at the index of one.
use Rattle.std.proofs.Common.{ℕ, ◌≡◌, ◌+◌, ◌<◌, ◌≤◌, true, false, cond, find, position, Some, None, List, [], ◌∷◌, ◌++◌, length, map, get_or, set, take, drop, inl, inr, refl, sym, ◌∙◌, ap, subst, arith}
use Rattle.std.proofs.lemmas.Bool.{cases_Bool}
use Rattle.std.proofs.lemmas.List.{length-set, set-get_or, get_or-map, take_all, drop_all, append-nil}
use Rattle.std.proofs.lemmas.List.Edits.{map_over_more}
use Rattle.std.proofs.lemmas.List.Elements.{All-get_or}
use Rattle.std.proofs.lemmas.List.Quantifiers.{position-Some}
use Rattle.std.proofs.lemmas.Option.{slice_get_cases, none-some}
use Rattle.jh_ivshmem.specs.declared.change.EndpointChange.{EndpointChange}
use Rattle.jh_ivshmem.specs.declared.change.Whom.{Whom}
use Rattle.jh_ivshmem.specs.declared.change.Whom.TheVariants.{Device}
use Rattle.jh_ivshmem.specs.Specs.{is_device}
use Rattle.jh_ivshmem.specs.declared.key.Key.{Key}
use Rattle.jh_ivshmem.specs.declared.endpoint.Endpoint.{Endpoint}
use Rattle.jh_ivshmem.specs.Changes.{changed}
use Rattle.jh_ivshmem.specs.Private.Changes.{after, is_meant}
use Rattle.jh_ivshmem.specs.Keys.{IsWholeEndpoint, AreKept, key_of}
use Rattle.jh_ivshmem.specs.Private.Keys.{is_key_meant}
use Rattle.jh_ivshmem.proofs.ChangeLemmas.{after_keeps, after_sound}
use Rattle.jh_ivshmem.proofs.KeyLemmas.{key_meant, kept_set, found_within, found_none}
use Rattle.jh_ivshmem.proofs.ApartLemmas.{set_device}

-- the change of an endpoint that is meant
abbrev pub changing : Whom → EndpointChange → Endpoint → Endpoint
changing whom change e = cond (is_meant whom e.spec) (after change e) e

-- the endpoints below the index are changed
pub record Changes (whom : Whom) (change : EndpointChange) (before now : List Endpoint) (ks : List Key) (i : ℕ) : Type 0 where
  pub list : now ≡ map (changing whom change) (take i before) ++ drop i before
  pub count : length now ≡ length before
  pub kept : AreKept now ks

key_at : (now : List Endpoint) (ks : List Key) (i : ℕ) (key : Key) (e : Endpoint) → AreKept now ks → i < length now
    → key ≡ get_or ks i key → e ≡ get_or now i e → key ≡ key_of e
key_at now ks i key e kept within read is_e =
    read ∙ ap (λ l. get_or l i key) kept.keys ∙ get_or-map key_of now i e key within ∙ ap key_of (sym is_e)

-- what the key tells of its endpoint
pub meant_at : (whom : Whom) (now : List Endpoint) (ks : List Key) (i : ℕ) (key : Key) (e : Endpoint) → AreKept now ks
    → i < length now → key ≡ get_or ks i key → e ≡ get_or now i e → is_key_meant whom key ≡ is_meant whom e.spec
meant_at whom now ks i key e kept within read is_e =
    ap (is_key_meant whom) (key_at now ks i key e kept within read is_e) ∙ key_meant whom e

pub sound_at : (now : List Endpoint) (ks : List Key) (i : ℕ) (e : Endpoint) → AreKept now ks → i < length now
    → e ≡ get_or now i e → IsWholeEndpoint e
sound_at now ks i e kept within is_e = subst IsWholeEndpoint (sym is_e) (All-get_or IsWholeEndpoint now i e within kept.sound)

pub step_meant : (whom : Whom) (change : EndpointChange) (before now : List Endpoint) (ks : List Key) (i : ℕ) (e : Endpoint)
    → Changes whom change before now ks i → i < length now → e ≡ get_or now i e → is_meant whom e.spec ≡ true
    → Changes whom change before (set now i (after change e)) (set ks i (key_of (after change e))) (i + 1)
step_meant whom change before now ks i e changes within is_e meant =
    let first : i < length before = (let same = changes.count in omega arith) in
    let sound = sound_at now ks i e changes.kept within is_e in
    let changed_here : changing whom change e ≡ after change e = rw meant refl in
    record {
      list = ap (λ new. set now i new) (sym changed_here)
          ∙ map_over_more (changing whom change) before now i e first changes.list is_e;
      count = length-set now i (after change e) ∙ changes.count;
      kept = kept_set now ks i (after change e) e changes.kept is_e (after_sound change e sound)
          (after_keeps change e sound.vectors).spec;
    }

other_at : (whom : Whom) (change : EndpointChange) (before now : List Endpoint) (ks : List Key) (i : ℕ) (e : Endpoint)
    → Changes whom change before now ks i → i < length now → e ≡ get_or now i e → is_meant whom e.spec ≡ false
    → Changes whom change before now ks (i + 1)
other_at whom change before now ks i e changes within is_e other =
    let first : i < length before = (let same = changes.count in omega arith) in
    let same_here : changing whom change e ≡ e = rw other refl in
    record {
      list = sym (set-get_or now i e) ∙ ap (λ new. set now i new) (sym is_e ∙ sym same_here)
          ∙ map_over_more (changing whom change) before now i e first changes.list is_e;
      count = changes.count;
      kept = changes.kept;
    }

pub step_other : (whom : Whom) (change : EndpointChange) (before now : List Endpoint) (ks : List Key) (i : ℕ) (key : Key)
    → Changes whom change before now ks i → i < length now → key ≡ get_or ks i key → is_key_meant whom key ≡ false
    → Changes whom change before now ks (i + 1)
step_other whom change before now ks i key changes within read other =
    elim (slice_get_cases now i).1 as (λ _. Changes whom change before now ks (i + 1)) [
      | inl (e, inside, found, is_e) ↦
          other_at whom change before now ks i e changes within (sym is_e)
          (sym (meant_at whom now ks i key e changes.kept within read (sym is_e)) ∙ other)
      | inr past ↦ absurd (let beyond = past.0 in let no : ⊥ = omega arith in no)
    ]

-- all are changed at the end
pub at_end : (whom : Whom) (change : EndpointChange) (before now : List Endpoint) (ks : List Key) (i : ℕ)
    → Changes whom change before now ks i → length before ≤ i → now ≡ changed (is_meant whom) (after change) before
unfolding changed
at_end whom change before now ks i changes past =
    changes.list
    ∙ ap (λ l. map (changing whom change) l ++ drop i before) (take_all i before past)
    ∙ ap (λ l. map (changing whom change) before ++ l) (drop_all i before past)
    ∙ append-nil (map (changing whom change) before)

-- the endpoint of a device is changed alone
pub record ChangesOne (cell device : ℕ) (change : EndpointChange) (es now : List Endpoint) (ks : List Key) : Type 0 where
  pub list : now ≡ changed (is_device cell device) (after change) es
  pub kept : AreKept now ks

-- what stands at the index of the device's key
pub device_at : (cell device : ℕ) (es : List Endpoint) (ks : List Key) (i : ℕ) (e : Endpoint) → AreKept es ks
    → Some i ≡ position (is_key_meant (Device cell device)) ks → e ≡ get_or es i e → (i < length es) × (is_device cell device e.spec ≡ true)
device_at cell device es ks i e kept is read =
    let found : position (is_key_meant (Device cell device)) (map key_of es) ≡ Some i =
    ap (position (is_key_meant (Device cell device))) (sym kept.keys) ∙ sym is in
    let inside = found_within (Device cell device) es i found in
    let at = position-Some (is_key_meant (Device cell device)) (map key_of es) i (key_of e) found in (
      inside,
      ap (λ (o : Endpoint). is_device cell device o.spec) read
          ∙ sym (ap (is_key_meant (Device cell device)) (get_or-map key_of es i e (key_of e) inside)) ∙ at.1,
    )

pub change_found : (cell device : ℕ) (change : EndpointChange) (es now : List Endpoint) (ks keys : List Key) (i : ℕ) (e : Endpoint) → AreKept es ks
    → Some i ≡ position (is_key_meant (Device cell device)) ks → e ≡ get_or es i e → now ≡ set es i (after change e)
    → keys ≡ set ks i (key_of (after change e)) → ChangesOne cell device change es now keys
change_found cell device change es now ks keys i e kept is read put keyed =
    let at = device_at cell device es ks i e kept is read in
    let sound = sound_at es ks i e kept at.0 read in
    record {
      list = put ∙ set_device cell device (after change) es i e kept.apart at.0 read at.1;
      kept = subst (λ l. AreKept l keys) (sym put) (subst (AreKept (set es i (after change e))) (sym keyed)
          (kept_set es ks i (after change e) e kept read (after_sound change e sound) (after_keeps change e sound.vectors).spec));
    }

none_meant : (cell device : ℕ) (change : EndpointChange) (es : List Endpoint) → find (λ (e : Endpoint). is_device cell device e.spec) es ≡ None
    → es ≡ changed (is_device cell device) (after change) es
unfolding changed
none_meant cell device change [] none = refl
none_meant cell device change (e ∷ es) none =
    elim (cases_Bool (is_device cell device e.spec)) as (λ _. (e ∷ es) ≡ changed (is_device cell device) (after change) (e ∷ es)) [
      | inl here ↦ absurd (none-some e (sym (rw here at none)))
      | inr other ↦
          ap (λ l. e ∷ l) (none_meant cell device change es (rw other at none))
          ∙ sym (ap (λ b. cond b (after change e) e ∷ changed (is_device cell device) (after change) es) other)
    ]

pub change_none : (cell device : ℕ) (change : EndpointChange) (es : List Endpoint) (ks : List Key) → AreKept es ks
    → None ≡ position (is_key_meant (Device cell device)) ks → ChangesOne cell device change es es ks
change_none cell device change es ks kept is = record {
  list = none_meant cell device change es (found_none (Device cell device) es
      (ap (position (is_key_meant (Device cell device))) (sym kept.keys) ∙ sym is));
  kept = kept;
}
