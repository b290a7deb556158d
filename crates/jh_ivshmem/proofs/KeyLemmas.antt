-- The keys beside the endpoints: looking by them, and what a change, a joining and a leaving keep.
use Rattle.std.proofs.Common.{ℕ, ◌≡◌, ◌<◌, ◌≤◌, Bool, true, false, cond, nat_lt, List, [], ◌∷◌, length, map, filter, find, position, AllPairs, Option, Some, None, is_some, get_or, set, inl, inr, refl, sym, ◌∙◌, ap, subst, arith}
use Rattle.std.specs.List.{slice_get, position_or_len}
use Rattle.jh_vpci.specs.Space.{Space}
use Rattle.std.proofs.lemmas.Bool.{cases_Bool, cases_lt}
use Rattle.std.proofs.lemmas.Bool.Decides.{nat_tests}
use Rattle.std.proofs.lemmas.List.{length-map, map-set}
use Rattle.std.proofs.lemmas.List.Elements.{All-set, All-filter}
use Rattle.std.proofs.lemmas.List.Folds.{find_at}
use Rattle.std.proofs.lemmas.List.Kept.{AllPairs-filter}
use Rattle.std.proofs.lemmas.Option.{slice_get_past, slice_get_cases}
use Rattle.std.proofs.Math.Seq.{map-set_same}
use Rattle.jh_ivshmem.specs.declared.change.Whom.{Whom}
use Rattle.jh_ivshmem.specs.declared.change.Whom.TheVariants.{Device, Peer, Others}
use Rattle.jh_ivshmem.specs.declared.endpoint.Endpoint.{Endpoint}
use Rattle.jh_ivshmem.specs.declared.spec.EndpointSpec.{EndpointSpec}
use Rattle.jh_ivshmem.specs.declared.key.Key.{Key}
use Rattle.jh_ivshmem.specs.Specs.{AreEndpointsApart, IsBefore}
use Rattle.jh_ivshmem.specs.Private.Changes.{is_meant}
use Rattle.jh_ivshmem.specs.Keys.{key_of, IsWholeEndpoint, AreKept}
use Rattle.jh_ivshmem.specs.Private.Keys.{is_key_meant}

pub key_meant : (whom : Whom) (e : Endpoint) → is_key_meant whom (key_of e) ≡ is_meant whom e.spec
key_meant (Device cell device) e = refl
key_meant (Peer bdf id) e = refl
key_meant (Others bdf id) e = refl

first_meant : (whom : Whom) (es : List Endpoint)
    → position_or_len (is_key_meant whom) (map key_of es) ≡ position_or_len (λ (e : Endpoint). is_meant whom e.spec) es
first_meant whom [] = refl
first_meant whom (e ∷ es) = rw (key_meant whom e, first_meant whom es) refl

some_is : (b : Bool) (n i : ℕ) → cond b (Some n) None ≡ Some i → n ≡ i
some_is true n i h = cc
some_is false n i h = cc

pub not_below : (n len : ℕ) → len ≤ n → nat_lt n len ≡ false
not_below n len past = grind (arith, nat_tests)

no_some : (i : ℕ) → cond false (Some i) None ≡ Some i → ⊥
no_some i h = cc

is_within : (n len i : ℕ) → cond (nat_lt n len) (Some n) None ≡ Some i → n < len
is_within n len i h =
    elim (cases_lt n len) as (λ _. n < len) [
      | inl below ↦ below
      | inr past ↦ absurd (no_some i (rw (not_below n len past) at h))
    ]

none_is : (b : Bool) (n : ℕ) → cond b (Some n) None ≡ None → b ≡ false
none_is true n h = cc
none_is false n h = refl

pub found_within : (whom : Whom) (es : List Endpoint) (i : ℕ) → position (is_key_meant whom) (map key_of es) ≡ Some i
    → i < length es
found_within whom es i found =
    let index = some_is (nat_lt (position_or_len (is_key_meant whom) (map key_of es)) (length (map key_of es)))
    (position_or_len (is_key_meant whom) (map key_of es)) i found in
    let inside = is_within (position_or_len (is_key_meant whom) (map key_of es)) (length (map key_of es)) i found in
    omega (arith, length-map es key_of)

-- the endpoint at the index of the first key that is meant
pub found_at : (whom : Whom) (es : List Endpoint) (i : ℕ) → position (is_key_meant whom) (map key_of es) ≡ Some i
    → find (λ (o : Endpoint). is_meant whom o.spec) es ≡ slice_get es i
found_at whom es i found =
    let index = some_is (nat_lt (position_or_len (is_key_meant whom) (map key_of es)) (length (map key_of es)))
    (position_or_len (is_key_meant whom) (map key_of es)) i found in
    find_at (λ (o : Endpoint). is_meant whom o.spec) es ∙ ap (slice_get es) (sym (first_meant whom es) ∙ index)

-- none is meant where no key is
pub found_none : (whom : Whom) (es : List Endpoint) → position (is_key_meant whom) (map key_of es) ≡ None
    → find (λ (o : Endpoint). is_meant whom o.spec) es ≡ None
found_none whom es none =
    let outside = none_is (nat_lt (position_or_len (is_key_meant whom) (map key_of es)) (length (map key_of es)))
    (position_or_len (is_key_meant whom) (map key_of es)) none in
    let past : length es ≤ position_or_len (λ (o : Endpoint). is_meant whom o.spec) es =
    (let same = first_meant whom es in let all = length-map es key_of in grind (arith, nat_tests)) in
    find_at (λ (o : Endpoint). is_meant whom o.spec) es ∙ slice_get_past es _ past

-- a key is meant where an endpoint is
pub found_some : (whom : Whom) (es : List Endpoint) (o : Option ℕ) → o ≡ position (is_key_meant whom) (map key_of es)
    → is_some o ≡ is_some (find (λ (e : Endpoint). is_meant whom e.spec) es)
found_some whom es None is = sym (ap is_some (found_none whom es (sym is)))
found_some whom es (Some i) is =
    elim (slice_get_cases es i).1 as (λ _. is_some (Some i) ≡ is_some (find (λ (e : Endpoint). is_meant whom e.spec) es)) [
      | inl (e, inside, found, read) ↦ sym (ap is_some (found_at whom es i (sym is)) ∙ ap is_some found)
      | inr past ↦ absurd (let beyond = past.0 in let within = found_within whom es i (sym is) in let no : ⊥ = omega arith in no)
    ]

-- the space of one endpoint is another
pub kept_space : (es : List Endpoint) (ks : List Key) (i : ℕ) (e : Endpoint) (space : Space) → AreKept es ks → IsWholeEndpoint e
    → e ≡ get_or es i e → AreKept (set es i (record e { space = space })) ks
kept_space es ks i e space kept sound read = record {
  keys = kept.keys ∙ sym (map-set_same key_of es i (record e { space = space }) e (ap key_of read));
  sound = All-set IsWholeEndpoint es i (record e { space = space }) (record { vectors = sound.vectors; within = sound.within }) kept.sound;
  apart =
      let P : List EndpointSpec → Type 0 = λ specs. AllPairs AreEndpointsApart specs in
      subst P (sym (map-set_same (λ (o : Endpoint). o.spec) es i (record e { space = space }) e (ap (λ (o : Endpoint). o.spec) read)))
      kept.apart;
  order =
      let P : List EndpointSpec → Type 0 = λ specs. AllPairs IsBefore specs in
      subst P (sym (map-set_same (λ (o : Endpoint). o.spec) es i (record e { space = space }) e (ap (λ (o : Endpoint). o.spec) read)))
      kept.order;
}

-- one of the endpoints is another, sound, with the same spec
pub kept_set : (es : List Endpoint) (ks : List Key) (i : ℕ) (e : Endpoint) (old : Endpoint) → AreKept es ks
    → old ≡ get_or es i old → IsWholeEndpoint e → e.spec ≡ old.spec → AreKept (set es i e) (set ks i (key_of e))
kept_set es ks i e old kept read sound same = record {
  keys = ap (λ k. set k i (key_of e)) kept.keys ∙ sym (map-set key_of es i e);
  sound = All-set IsWholeEndpoint es i e sound kept.sound;
  apart =
      let P : List EndpointSpec → Type 0 = λ specs. AllPairs AreEndpointsApart specs in
      subst P (sym (map-set_same (λ (o : Endpoint). o.spec) es i e old (same ∙ ap (λ (o : Endpoint). o.spec) read))) kept.apart;
  order =
      let P : List EndpointSpec → Type 0 = λ specs. AllPairs IsBefore specs in
      subst P (sym (map-set_same (λ (o : Endpoint). o.spec) es i e old (same ∙ ap (λ (o : Endpoint). o.spec) read))) kept.order;
}

map_filter : {X Y : Type 0} (f : X → Y) (p : X → Bool) (q : Y → Bool) → ((x : X) → q (f x) ≡ p x) → (xs : List X)
    → map f (filter p xs) ≡ filter q (map f xs)
map_filter f p q same [] = refl
map_filter f p q same (x ∷ xs) =
    elim (cases_Bool (p x)) as (λ _. map f (filter p (x ∷ xs)) ≡ filter q (f x ∷ map f xs)) [
      | inl passes ↦ rw (same x, passes) (ap (λ ys. f x ∷ ys) (map_filter f p q same xs))
      | inr fails ↦ rw (same x, fails) (map_filter f p q same xs)
    ]

-- those of a device leave
pub kept_filter : (es : List Endpoint) (ks : List Key) (p : Endpoint → Bool) (q : Key → Bool) (r : EndpointSpec → Bool)
    → ((e : Endpoint) → q (key_of e) ≡ p e) → ((e : Endpoint) → r e.spec ≡ p e)
    → AreKept es ks → AreKept (filter p es) (filter q ks)
kept_filter es ks p q r same by_spec kept = record {
  keys = ap (filter q) kept.keys ∙ sym (map_filter key_of p q same es);
  sound = All-filter p IsWholeEndpoint es kept.sound;
  apart = subst (AllPairs AreEndpointsApart) (sym (map_filter (λ (o : Endpoint). o.spec) p r by_spec es))
      (AllPairs-filter AreEndpointsApart r (map (λ (o : Endpoint). o.spec) es) kept.apart);
  order = subst (AllPairs IsBefore) (sym (map_filter (λ (o : Endpoint). o.spec) p r by_spec es))
      (AllPairs-filter IsBefore r (map (λ (o : Endpoint). o.spec) es) kept.order);
}
