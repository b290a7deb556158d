-- The endpoint of a device is dropped, and its key, which stands at the same index.
use Rattle.std.proofs.Common.{ℕ, zero, suc, ◌≡◌, ◌≢◌, ◌<◌, Bool, true, false, not, List, [], ◌∷◌, length, map, filter, find, get_or, position, Some, None, refl, sym, ◌∙◌, ap, subst, arith}
use Rattle.std.specs.List.{remove}
use Rattle.std.proofs.lemmas.Bool.{not_from_false}
use Rattle.std.proofs.lemmas.List.{length-map, get_or-map}
use Rattle.std.proofs.lemmas.List.Quantifiers.{position-Some}
use Rattle.jh_num.proofs.Public.{filter_all, find_None, map_remove}
use Rattle.jh_ivshmem.specs.declared.change.Whom.TheVariants.{Device}
use Rattle.jh_ivshmem.specs.declared.endpoint.Endpoint.{Endpoint}
use Rattle.jh_ivshmem.specs.declared.spec.EndpointSpec.{EndpointSpec}
use Rattle.jh_ivshmem.specs.declared.key.Key.{Key}
use Rattle.jh_ivshmem.specs.Specs.{is_device}
use Rattle.jh_ivshmem.specs.Keys.{AreKept, key_of}
use Rattle.jh_ivshmem.specs.Private.Keys.{is_key_meant}
use Rattle.jh_ivshmem.proofs.ApartLemmas.{devices_apart, single}
use Rattle.jh_ivshmem.proofs.KeyLemmas.{found_within, found_none, kept_filter}

-- the endpoints that are not the device's
abbrev others : ℕ → ℕ → List Endpoint → List Endpoint
others cell device es = filter (λ (e : Endpoint). not (is_device cell device e.spec)) es

-- the one that passes the test is gone
one_goes : {X : Type 0} (p : X → Bool) (xs : List X) (i : ℕ) → i < length xs → ((d : X) → p (get_or xs i d) ≡ true)
    → ((k : ℕ) (d : X) → k < length xs → k ≢ i → p (get_or xs k d) ≡ false) → remove xs i ≡ filter (λ x. not (p x)) xs
one_goes p [] i within here none = absurd (let no : ⊥ = omega arith in no)
one_goes p (x ∷ xs) zero within here none =
    rw (here x) (sym (filter_all (λ y. not (p y)) xs (λ y held.
    let inside : held.0 < length xs = held.1 in
    not_from_false (p y) (ap p (sym held.2) ∙ none (suc held.0) y (omega arith) (λ same. let no : ⊥ = omega arith in no)))))
one_goes p (x ∷ xs) (suc i) within here none =
    rw (none 0 x (omega arith) (λ same. let no : ⊥ = omega arith in no)) (ap (λ l. x ∷ l) (one_goes p xs i (omega arith) here
    (λ k d inside other. none (suc k) d (omega arith) (λ same. other (let equal : k ≡ i = omega arith in equal)))))

-- the others are kept, with their keys
others_kept : (cell device : ℕ) (es : List Endpoint) (ks : List Key) → AreKept es ks
    → AreKept (others cell device es) (map key_of (others cell device es))
others_kept cell device es ks kept =
    let left = kept_filter es ks (λ (e : Endpoint). not (is_device cell device e.spec)) (λ (key : Key). not (is_key_meant (Device cell device) key))
    (λ (spec : EndpointSpec). not (is_device cell device spec)) (λ e. refl) (λ e. refl) kept in
    subst (AreKept (others cell device es)) left.keys left

-- the endpoint and the key at the index are dropped
pub record Leaves (cell device : ℕ) (es : List Endpoint) (ks : List Key) (i : ℕ) : Type 0 where
  pub within : i < length es
  pub key_within : i < length ks
  pub list : remove es i ≡ others cell device es
  pub kept : AreKept (remove es i) (remove ks i)

pub leaves : (cell device : ℕ) (es : List Endpoint) (ks : List Key) (i : ℕ) → AreKept es ks
    → Some i ≡ position (is_key_meant (Device cell device)) ks → Leaves cell device es ks i
leaves cell device es ks i kept is =
    let found : position (is_key_meant (Device cell device)) (map key_of es) ≡ Some i =
    ap (position (is_key_meant (Device cell device))) (sym kept.keys) ∙ sym is in
    let inside = found_within (Device cell device) es i found in
    let here : (d : Endpoint) → is_device cell device (get_or es i d).spec ≡ true = λ d.
    sym (ap (is_key_meant (Device cell device)) (get_or-map key_of es i d (key_of d) inside))
    ∙ (position-Some (is_key_meant (Device cell device)) (map key_of es) i (key_of d) found).1 in
    let gone : remove es i ≡ others cell device es = one_goes (λ (e : Endpoint). is_device cell device e.spec) es i inside here
    (λ k d within other. single (is_device cell device) (devices_apart cell device) es i k d kept.apart inside (here d) within other) in
    let keys : remove ks i ≡ map key_of (remove es i) = ap (λ l. remove l i) kept.keys ∙ sym (map_remove key_of es i) in
    let left : AreKept (remove es i) (map key_of (remove es i)) =
    subst (λ l. AreKept l (map key_of l)) (sym gone) (others_kept cell device es ks kept) in
    record {
      within = inside;
      key_within = (let counted = length-map es key_of in let lengths = ap length kept.keys in omega arith);
      list = gone;
      kept = subst (AreKept (remove es i)) (sym keys) left;
    }

-- nothing is dropped where no key is the device's
pub nothing_leaves : (cell device : ℕ) (es : List Endpoint) (ks : List Key) → AreKept es ks
    → None ≡ position (is_key_meant (Device cell device)) ks → es ≡ others cell device es
nothing_leaves cell device es ks kept is =
    let none : find (λ (e : Endpoint). is_device cell device e.spec) es ≡ None =
    found_none (Device cell device) es (ap (position (is_key_meant (Device cell device))) (sym kept.keys) ∙ sym is) in
    sym (filter_all (λ (e : Endpoint). not (is_device cell device e.spec)) es (λ e held.
    not_from_false (is_device cell device e.spec) (find_None (λ (o : Endpoint). is_device cell device o.spec) es e none held)))
