-- The order of endpoints, by which a device is found by halving.
use Rattle.std.proofs.Common.{ℕ, zero, suc, ◌≡◌, ◌+◌, ◌-◌, ◌<◌, ◌≤◌, ◌⊎◌, Bool, true, false, cond, ◌&&◌, ◌||◌, ◌==◌, nat_lt, List, [], ◌∷◌, ◌++◌, length, map, take, drop, All, AllPairs, Some, None, Option, option_map, is_some, not, fold, get_or, position, inl, inr, refl, sym, ◌∙◌, ap, subst, arith}
use Rattle.std.specs.Prelude.{if◌then◌else◌}
use Rattle.std.specs.List.{insert}
use Rattle.std.specs.List.Sorted.{IsPartitionedBy, IsPartitionPoint}
use Rattle.std.proofs.lemmas.Bool.{cases_lt, cases_eq, or_cases, and_parts, and_from, or_left, or_right, ltb-true, lt-ltb, le-ltb, eqb-true, eq-eqb, both_ways, false_from_ne_true, ne_eqb}
use Rattle.std.proofs.lemmas.List.{length-map, length-take, length-drop, get_or-map, get_or-take, get_or-drop, map-append, take-map, drop-map, take-append-drop, take_more, take_all}
use Rattle.std.proofs.lemmas.List.Edits.{length-insert, get_or-insert_below, get_or-insert_at, get_or-insert_above}
use Rattle.std.proofs.lemmas.List.Elements.{All-append, All-take, All-drop}
use Rattle.std.proofs.lemmas.List.Sums.{fold-append, fold_push}
use Rattle.jh_num.proofs.Public.{position_here, position_nowhere}
use Rattle.jh_ivshmem.specs.declared.change.Whom.TheVariants.{Device}
use Rattle.jh_ivshmem.specs.declared.endpoint.Endpoint.{Endpoint}
use Rattle.jh_ivshmem.specs.declared.spec.EndpointSpec.{EndpointSpec}
use Rattle.jh_ivshmem.specs.declared.key.Key.{Key}
use Rattle.jh_ivshmem.specs.Specs.{AreEndpointsApart, IsBefore, is_device, is_before}
use Rattle.jh_ivshmem.specs.Endpoint.{fresh}
use Rattle.jh_ivshmem.specs.Links.{joined, earlier}
use Rattle.jh_ivshmem.specs.Keys.{AreKept, IsWholeEndpoint, key_of}
use Rattle.jh_ivshmem.specs.Private.Keys.{AreInOrder, is_key_before, is_key_meant, is_search_end, pending_by}
use Rattle.jh_ivshmem.proofs.ApartLemmas.{peer_turned, device_turned}

-- two numbers, the first of which counts first, are lower than two others
lower : ℕ → ℕ → ℕ → ℕ → Bool
lower cell device c d = nat_lt c cell || ((c == cell) && nat_lt d device)

lower_parts : (cell device c d : ℕ) → lower cell device c d ≡ true → (c < cell) ⊎ ((c ≡ cell) × (d < device))
unfolding lower
lower_parts cell device c d h =
    elim (or_cases (nat_lt c cell) ((c == cell) && nat_lt d device) h) as (λ _. (c < cell) ⊎ ((c ≡ cell) × (d < device))) [
      | inl first ↦ inl (ltb-true c cell first)
      | inr second ↦
          let both = and_parts (c == cell) (nat_lt d device) second in
          inr (eqb-true c cell both.0, ltb-true d device both.1)
    ]

lower_first : (cell device c d : ℕ) → c < cell → lower cell device c d ≡ true
unfolding lower
lower_first cell device c d lt = or_left (nat_lt c cell) ((c == cell) && nat_lt d device) (lt-ltb c cell lt)

lower_second : (cell device c d : ℕ) → c ≡ cell → d < device → lower cell device c d ≡ true
unfolding lower
lower_second cell device c d same lt =
    or_right (nat_lt c cell) ((c == cell) && nat_lt d device) (and_from (c == cell) (nat_lt d device) (eq-eqb c cell same) (lt-ltb d device lt))

lower_trans : (a b c d e f : ℕ) → lower c d a b ≡ true → lower e f c d ≡ true → lower e f a b ≡ true
lower_trans a b c d e f one two =
    elim (lower_parts c d a b one) as (λ _. lower e f a b ≡ true) [
      | inl first ↦ elim (lower_parts e f c d two) as (λ _. lower e f a b ≡ true) [
        | inl next ↦ lower_first e f a b (omega arith)
        | inr next ↦ lower_first e f a b (let same = next.0 in omega arith)
      ]
      | inr first ↦ elim (lower_parts e f c d two) as (λ _. lower e f a b ≡ true) [
        | inl next ↦ lower_first e f a b (let same = first.0 in omega arith)
        | inr next ↦ lower_second e f a b (first.0 ∙ next.0) (let less = first.1 in let more = next.1 in omega arith)
      ]
    ]

-- two that differ are in one order or the other
lower_other : (a b c d : ℕ) → lower c d a b ≡ false → (a ≡ c → b ≡ d → ⊥) → lower a b c d ≡ true
lower_other a b c d fails differ =
    elim (cases_lt c a) as (λ _. lower a b c d ≡ true) [
      | inl above ↦ lower_first a b c d above
      | inr low ↦ elim (cases_lt a c) as (λ _. lower a b c d ≡ true) [
        | inl below ↦ absurd (both_ways (lower c d a b) fails (lower_first c d a b below))
        | inr high ↦
            let same : a ≡ c = omega arith in
            elim (cases_lt d b) as (λ _. lower a b c d ≡ true) [
              | inl above ↦ lower_second a b c d (sym same) above
              | inr less ↦ elim (cases_lt b d) as (λ _. lower a b c d ≡ true) [
                | inl below ↦ absurd (both_ways (lower c d a b) fails (lower_second c d a b same below))
                | inr more ↦ absurd (differ same (let equal : b ≡ d = omega arith in equal))
              ]
            ]
      ]
    ]

-- what is lower has another name
lower_differs : (cell device c d : ℕ) → lower cell device c d ≡ true → ((c == cell) && (d == device)) ≡ false
lower_differs cell device c d h = false_from_ne_true ((c == cell) && (d == device)) (λ same.
    let both = and_parts (c == cell) (d == device) same in
    let cells : c ≡ cell = eqb-true c cell both.0 in
    let devices : d ≡ device = eqb-true d device both.1 in
    elim (lower_parts cell device c d h) as (λ _. ⊥) [
      | inl first ↦ (let no : ⊥ = omega arith in no)
      | inr second ↦ (let less = second.1 in let no : ⊥ = omega arith in no)
    ])

-- pairs of what a function makes of a list
pub pairs_map : {X Y : Type 0} (f : X → Y) (S : Y → Y → Type 0) (xs : List X) → AllPairs (λ (a b : X). S (f a) (f b)) xs
    → AllPairs S (map f xs)
pairs_map f S [] pairs i j d before within = absurd (let no : ⊥ = omega arith in no)
pairs_map f S (x ∷ xs) pairs zero zero d before within = absurd (let no : ⊥ = omega arith in no)
pairs_map f S (x ∷ xs) pairs (suc i) zero d before within = absurd (let no : ⊥ = omega arith in no)
pairs_map f S (x ∷ xs) pairs zero (suc j) d before within =
    let counted = length-map xs f in
    let inside : j < length xs = omega arith in
    let there : suc j < length (x ∷ xs) = omega arith in
    subst (S (f x)) (sym (get_or-map f xs j x d inside)) (pairs zero (suc j) x (omega arith) there)
pairs_map f S (x ∷ xs) pairs (suc i) (suc j) d before within =
    pairs_map f S xs (λ a b e lt inside. pairs (suc a) (suc b) e (omega arith) (omega arith)) i j d (omega arith) (omega arith)

-- and of the list from those
pub pairs_of : {X Y : Type 0} (f : X → Y) (S : Y → Y → Type 0) (xs : List X) → AllPairs S (map f xs)
    → AllPairs (λ (a b : X). S (f a) (f b)) xs
pairs_of f S xs pairs i j d before within =
    let counted = length-map xs f in
    let first : i < length xs = omega arith in
    let inside : j < length (map f xs) = omega arith in
    subst (λ y. S y (f (get_or xs j d))) (get_or-map f xs i d (f d) first)
    (subst (S (get_or (map f xs) i (f d))) (get_or-map f xs j d (f d) within) (pairs i j (f d) before inside))

-- one more between those before it and those behind it
pub pairs_insert : {X : Type 0} (R : X → X → Type 0) (xs : List X) (i : ℕ) (y : X) → i ≤ length xs → AllPairs R xs
    → ((k : ℕ) (d : X) → k < i → R (get_or xs k d) y) → ((k : ℕ) (d : X) → i ≤ k → k < length xs → R y (get_or xs k d))
    → AllPairs R (insert xs i y)
pairs_insert R xs i y bound pairs ahead behind a b d before within =
    let counted = length-insert xs i y bound in
    elim (cases_lt b i) as (λ _. R (get_or (insert xs i y) a d) (get_or (insert xs i y) b d)) [
      | inl low ↦
          let first : a < i = omega arith in
          let inside : b < length xs = omega arith in
          subst (λ z. R z (get_or (insert xs i y) b d)) (sym (get_or-insert_below xs i y d a first bound))
          (subst (R (get_or xs a d)) (sym (get_or-insert_below xs i y d b low bound)) (pairs a b d before inside))
      | inr high ↦ elim (cases_eq b i) as (λ _. R (get_or (insert xs i y) a d) (get_or (insert xs i y) b d)) [
        | inl same ↦
            let first : a < i = omega arith in
            subst (λ z. R z (get_or (insert xs i y) b d)) (sym (get_or-insert_below xs i y d a first bound))
            (subst (R (get_or xs a d)) (sym (ap (λ n. get_or (insert xs i y) n d) same ∙ get_or-insert_at xs i y d bound))
            (ahead a d first))
        | inr other ↦
            let past : i ≤ b - 1 = omega arith in
            let inside : b - 1 < length xs = omega arith in
            let back : b - 1 + 1 ≡ b = omega arith in
            let last : get_or (insert xs i y) b d ≡ get_or xs (b - 1) d =
            ap (λ n. get_or (insert xs i y) n d) (sym back) ∙ get_or-insert_above xs i y d (b - 1) past bound in
            subst (R (get_or (insert xs i y) a d)) (sym last) (elim (cases_lt a i) as (λ _. R (get_or (insert xs i y) a d) (get_or xs (b - 1) d)) [
              | inl first ↦
                  let earlier : a < b - 1 = omega arith in
                  subst (λ z. R z (get_or xs (b - 1) d)) (sym (get_or-insert_below xs i y d a first bound)) (pairs a (b - 1) d earlier inside)
              | inr later ↦ elim (cases_eq a i) as (λ _. R (get_or (insert xs i y) a d) (get_or xs (b - 1) d)) [
                | inl here ↦
                    subst (λ z. R z (get_or xs (b - 1) d)) (sym (ap (λ n. get_or (insert xs i y) n d) here ∙ get_or-insert_at xs i y d bound))
                    (behind (b - 1) d past inside)
                | inr beyond ↦
                    let after : i ≤ a - 1 = omega arith in
                    let again : a - 1 + 1 ≡ a = omega arith in
                    let earlier : a - 1 < b - 1 = omega arith in
                    subst (λ z. R z (get_or xs (b - 1) d))
                    (sym (ap (λ n. get_or (insert xs i y) n d) (sym again) ∙ get_or-insert_above xs i y d (a - 1) after bound))
                    (pairs (a - 1) (b - 1) d earlier inside)
              ]
            ])
      ]
    ]

-- the keys are in the order of the endpoints
pub keys_in_order : (es : List Endpoint) (ks : List Key) → AreKept es ks → AreInOrder ks
unfolding lower
keys_in_order es ks kept =
    subst AreInOrder (sym kept.keys)
    (pairs_map key_of (λ (one other : Key). is_key_before other.cell other.device one ≡ true) es
    (pairs_of (λ (o : Endpoint). o.spec) IsBefore es kept.order))

-- those before a device come first
pub keys_partitioned : (cell device : ℕ) (ks : List Key) → AreInOrder ks → IsPartitionedBy (is_key_before cell device) ks
unfolding lower
keys_partitioned cell device ks order i j d le within h =
    elim (cases_eq i j) as (λ _. is_key_before cell device (get_or ks i d) ≡ true) [
      | inl same ↦ ap (λ n. is_key_before cell device (get_or ks n d)) same ∙ h
      | inr other ↦
          let before : i < j = omega arith in
          lower_trans (get_or ks i d).cell (get_or ks i d).device (get_or ks j d).cell (get_or ks j d).device cell device
          (order i j d before within) h
    ]

-- where so many keys stand before the device
abbrev pub IsIndex : ℕ → ℕ → List Key → ℕ → Type 0
IsIndex cell device ks i = IsPartitionPoint (λ (key : Key). is_key_before cell device key ≡ true) (λ (key : Key). is_key_before cell device key ≡ false) ks i

pub key_at : (cell device : ℕ) (ks : List Key) (i : ℕ) (d : Key) → IsIndex cell device ks i → i < length ks
    → is_key_meant (Device cell device) (get_or ks i d) ≡ true → Some i ≡ position (is_key_meant (Device cell device)) ks
unfolding lower
key_at cell device ks i d split lt meant =
    position_here (is_key_meant (Device cell device)) ks i d lt
    (λ j before. lower_differs cell device (get_or ks j d).cell (get_or ks j d).device (split.0 j d (omega arith) before))
    meant

-- one behind the index isn't meant where the one at the index isn't
behind_index : (cell device : ℕ) (ks : List Key) (i j : ℕ) (d : Key) → IsIndex cell device ks i → AreInOrder ks → i < j → j < length ks
    → is_key_meant (Device cell device) (get_or ks j d) ≡ false
unfolding lower
behind_index cell device ks i j d split order before within = false_from_ne_true (is_key_meant (Device cell device) (get_or ks j d)) (λ meant.
    let both = and_parts ((get_or ks j d).cell == cell) ((get_or ks j d).device == device) meant in
    let cells = eqb-true (get_or ks j d).cell cell both.0 in
    let devices = eqb-true (get_or ks j d).device device both.1 in
    let ahead : lower cell device (get_or ks i d).cell (get_or ks i d).device ≡ true =
    sym (ap (λ n. lower n (get_or ks j d).device (get_or ks i d).cell (get_or ks i d).device) cells
    ∙ ap (λ n. lower cell n (get_or ks i d).cell (get_or ks i d).device) devices) ∙ order i j d before within in
    both_ways (lower cell device (get_or ks i d).cell (get_or ks i d).device) (split.1 i d (omega arith) (omega arith)) ahead)

none_by : (cell device : ℕ) (ks : List Key) (i : ℕ) (d : Key) → IsIndex cell device ks i → AreInOrder ks
    → (i < length ks → is_key_meant (Device cell device) (get_or ks i d) ≡ false) → None ≡ position (is_key_meant (Device cell device)) ks
unfolding lower
none_by cell device ks i d split order fails = position_nowhere (is_key_meant (Device cell device)) ks d (λ j within.
    elim (cases_lt j i) as (λ _. is_key_meant (Device cell device) (get_or ks j d) ≡ false) [
      | inl before ↦ lower_differs cell device (get_or ks j d).cell (get_or ks j d).device (split.0 j d (omega arith) before)
      | inr past ↦ elim (cases_eq j i) as (λ _. is_key_meant (Device cell device) (get_or ks j d) ≡ false) [
        | inl here ↦
            let inside : i < length ks = omega arith in
            ap (λ n. is_key_meant (Device cell device) (get_or ks n d)) here ∙ fails inside
        | inr beyond ↦ let after : i < j = omega arith in behind_index cell device ks i j d split order after within
      ]
    ])

no_key : Key
no_key = record { cell = 0; device = 0; bdf = 0; id = 0; pending = None }

-- no key is the device's where the index is past the end, or the key there isn't
pub past_keys : (cell device : ℕ) (ks : List Key) (i : ℕ) → IsIndex cell device ks i → AreInOrder ks → length ks ≤ i
    → None ≡ position (is_key_meant (Device cell device)) ks
past_keys cell device ks i split order past = none_by cell device ks i no_key split order (λ lt. absurd (let no : ⊥ = omega arith in no))

pub other_key : (cell device : ℕ) (ks : List Key) (i : ℕ) (d : Key) → IsIndex cell device ks i → AreInOrder ks
    → is_key_meant (Device cell device) (get_or ks i d) ≡ false → None ≡ position (is_key_meant (Device cell device)) ks
other_key cell device ks i d split order fails = none_by cell device ks i d split order (λ _. fails)

-- the same index among the endpoints
abbrev pub StandsAt : ℕ → ℕ → List Endpoint → ℕ → Type 0
StandsAt cell device es i = IsPartitionPoint (λ (e : Endpoint). is_before cell device e.spec ≡ true) (λ (e : Endpoint). is_before cell device e.spec ≡ false) es i

stands_at : (cell device : ℕ) (es : List Endpoint) (i : ℕ) → i ≤ length es → IsIndex cell device (map key_of es) i → StandsAt cell device es i
stands_at cell device es i bound split = (
  (λ k d low before.
      let inside : k < length es = omega arith in
      sym (ap (is_key_before cell device) (get_or-map key_of es k d (key_of d) inside)) ∙ split.0 k (key_of d) low before),
  (λ k d past inside.
      let counted = length-map es key_of in
      let there : k < length (map key_of es) = omega arith in
      sym (ap (is_key_before cell device) (get_or-map key_of es k d (key_of d) inside)) ∙ split.1 k (key_of d) past there),
)

-- put there, an endpoint has joined
inserted_joins : (s : EndpointSpec) (es : List Endpoint) (i : ℕ) → i ≤ length es → StandsAt s.cell s.device es i → insert es i (fresh s) ≡ joined s es
inserted_joins s [] zero bound split = refl
inserted_joins s [] (suc i) bound split = absurd (let no : ⊥ = omega arith in no)
inserted_joins s (e ∷ es) zero bound split =
    let fails : is_before s.cell s.device e.spec ≡ false = split.1 0 e (omega arith) (omega arith) in
    sym (ap (λ b. cond b (e ∷ joined s es) (fresh s ∷ e ∷ es)) fails)
inserted_joins s (e ∷ es) (suc i) bound split =
    let passes : is_before s.cell s.device e.spec ≡ true = split.0 0 e (omega arith) (omega arith) in
    ap (λ l. e ∷ l) (inserted_joins s es i (omega arith) (
      (λ k d low before. split.0 (suc k) d (omega arith) (omega arith)),
      (λ k d past inside. split.1 (suc k) d (omega arith) (omega arith)),
    ))
    ∙ sym (ap (λ b. cond b (e ∷ joined s es) (fresh s ∷ e ∷ es)) passes)

pub apart_turned : (a b : EndpointSpec) → AreEndpointsApart a b → AreEndpointsApart b a
apart_turned a b apart = record { devices = sym (device_turned a b) ∙ apart.devices; peers = sym (peer_turned a b) ∙ apart.peers }

-- of two that are apart the one comes before the other that the other doesn't come before
comes_before : (a s : EndpointSpec) → AreEndpointsApart a s → is_before s.cell s.device a ≡ false → IsBefore s a
unfolding lower
comes_before a s apart fails = lower_other a.cell a.device s.cell s.device fails (λ cells devices.
    both_ways (is_device a.cell a.device s) apart.devices
    (and_from (s.cell == a.cell) (s.device == a.device) (eq-eqb s.cell a.cell (sym cells)) (eq-eqb s.device a.device (sym devices))))

one_sound : (e : Endpoint) → IsWholeEndpoint e → All IsWholeEndpoint (e ∷ [])
one_sound e sound zero d lt = sound
one_sound e sound (suc k) d lt = absurd (let no : ⊥ = omega arith in no)

sound_insert : (es : List Endpoint) (i : ℕ) (e : Endpoint) → All IsWholeEndpoint es → IsWholeEndpoint e → All IsWholeEndpoint (insert es i e)
sound_insert es i e all sound =
    subst (All IsWholeEndpoint) (two_appends (take i es) e (drop i es))
    (All-append IsWholeEndpoint (take i es) (e ∷ [] ++ drop i es) (All-take IsWholeEndpoint i es all) (All-append IsWholeEndpoint (e ∷ []) (drop i es) (one_sound e sound) (All-drop IsWholeEndpoint i es all)))
  where
    two_appends : (xs : List Endpoint) (y : Endpoint) (ys : List Endpoint) → xs ++ (y ∷ [] ++ ys) ≡ xs ++ y ∷ ys
    two_appends xs y ys = refl

keys_insert : (es : List Endpoint) (i : ℕ) (e : Endpoint) → insert (map key_of es) i (key_of e) ≡ map key_of (insert es i e)
keys_insert es i e =
    ap (λ l. l ++ key_of e ∷ drop i (map key_of es)) (take-map key_of i es)
    ∙ ap (λ l. map key_of (take i es) ++ key_of e ∷ l) (drop-map key_of i es)
    ∙ sym (map-append key_of (take i es) (e ∷ drop i es))

-- an endpoint that is apart from all is put where it belongs
pub kept_insert : (s : EndpointSpec) (es : List Endpoint) (i : ℕ) → i ≤ length es → AreKept es (map key_of es) → StandsAt s.cell s.device es i
    → IsWholeEndpoint (fresh s) → All (λ (o : Endpoint). AreEndpointsApart o.spec s) es → AreKept (insert es i (fresh s)) (insert (map key_of es) i (key_of (fresh s)))
kept_insert s es i bound kept split sound new = record {
  keys = keys_insert es i (fresh s);
  sound = sound_insert es i (fresh s) kept.sound sound;
  apart = pairs_map (λ (o : Endpoint). o.spec) AreEndpointsApart (insert es i (fresh s))
      (pairs_insert (λ (a b : Endpoint). AreEndpointsApart a.spec b.spec) es i (fresh s) bound (pairs_of (λ (o : Endpoint). o.spec) AreEndpointsApart es kept.apart)
      (λ k d before. let inside : k < length es = omega arith in new k d inside)
      (λ k d past inside. apart_turned (get_or es k d).spec s (new k d inside)));
  order = pairs_map (λ (o : Endpoint). o.spec) IsBefore (insert es i (fresh s))
      (pairs_insert (λ (a b : Endpoint). IsBefore a.spec b.spec) es i (fresh s) bound (pairs_of (λ (o : Endpoint). o.spec) IsBefore es kept.order)
      (λ k d before. split.0 k d (omega arith) before)
      (λ k d past inside. comes_before (get_or es k d).spec s (new k d inside) (split.1 k d past inside)));
}

-- the same for what a call has put
pub record Joins (s : EndpointSpec) (es now : List Endpoint) (keys : List Key) : Type 0 where
  pub list : now ≡ joined s es
  pub kept : AreKept now keys

pub joins : (s : EndpointSpec) (es now : List Endpoint) (ks keys : List Key) (e : Endpoint) (key : Key) (i : ℕ) → AreKept es ks → i ≤ length ks
    → IsIndex s.cell s.device ks i → e ≡ fresh s → key ≡ key_of e → now ≡ insert es i e → keys ≡ insert ks i key
    → IsWholeEndpoint (fresh s) → All (λ (o : Endpoint). AreEndpointsApart o.spec s) es → Joins s es now keys
joins s es now ks keys e key i kept bound split is_e is_key put keyed sound new =
    let counted = length-map es key_of in
    let lengths = ap length kept.keys in
    let inside : i ≤ length es = omega arith in
    let stands : StandsAt s.cell s.device es i = stands_at s.cell s.device es i inside (subst (λ l. IsIndex s.cell s.device l i) kept.keys split) in
    let own : AreKept es (map key_of es) = subst (AreKept es) kept.keys kept in
    let all = kept_insert s es i inside own stands sound new in
    let put_fresh : now ≡ insert es i (fresh s) = put ∙ ap (insert es i) is_e in
    let keyed_fresh : keys ≡ insert (map key_of es) i (key_of (fresh s)) =
    keyed ∙ ap (λ l. insert l i key) kept.keys ∙ ap (insert (map key_of es) i) (is_key ∙ ap key_of is_e) in
    record {
      list = put_fresh ∙ inserted_joins s es i inside stands;
      kept = subst (λ l. AreKept l keys) (sym put_fresh) (subst (AreKept (insert es i (fresh s))) (sym keyed_fresh) all);
    }

-- the first pending vector of a cell, found by halving

-- what nothing changes stays
fold_kept : {X Y : Type 0} (f : Y → X → Y) (told : Y) (d : X) (xs : List X) → ((k : ℕ) → k < length xs → f told (get_or xs k d) ≡ told) → fold f told xs ≡ told
fold_kept f told d [] h = refl
fold_kept f told d (x ∷ xs) h = ap (λ now. fold f now xs) (h 0 (omega arith)) ∙ fold_kept f told d xs (λ k lt. h (suc k) (omega arith))

abbrev tell : ℕ → Option (ℕ × ℕ) → Key → Option (ℕ × ℕ)
tell cell best key = earlier best (pending_by cell key)

other_cell : (cell : ℕ) (key : Key) → (key.cell ≡ cell → ⊥) → pending_by cell key ≡ None
other_cell cell key differ = ap (λ b. if b then option_map (λ v. (key.device, v)) key.pending else None) (ne_eqb key.cell cell differ)

own_cell : (cell : ℕ) (key : Key) → key.cell ≡ cell → pending_by cell key ≡ option_map (λ v. (key.device, v)) key.pending
own_cell cell key same = ap (λ b. if b then option_map (λ v. (key.device, v)) key.pending else None) (eq-eqb key.cell cell same)

earlier_stays : (d v n : ℕ) (pending : Option ℕ) → d ≤ n → earlier (Some (d, v)) (option_map (λ w. (n, w)) pending) ≡ Some (d, v)
earlier_stays d v n None le = refl
earlier_stays d v n (Some w) le = ap (λ b. if b then Some (n, w) else Some (d, v)) (le-ltb n d le)

behind_pending : (cell d v : ℕ) (key : Key) → (key.cell ≡ cell → d ≤ key.device) → earlier (Some (d, v)) (pending_by cell key) ≡ Some (d, v)
behind_pending cell d v key behind = elim (cases_eq key.cell cell) as (λ _. earlier (Some (d, v)) (pending_by cell key) ≡ Some (d, v)) [
  | inl same ↦ ap (earlier (Some (d, v))) (own_cell cell key same) ∙ earlier_stays d v key.device key.pending (behind same)
  | inr differ ↦ ap (earlier (Some (d, v))) (other_cell cell key differ)
]

behind_own : (cell d : ℕ) (pending : Option ℕ) (key : Key) → is_some pending ≡ true → (key.cell ≡ cell → d ≤ key.device)
    → earlier (option_map (λ v. (d, v)) pending) (pending_by cell key) ≡ option_map (λ v. (d, v)) pending
behind_own cell d None key some behind = absurd (cc some)
behind_own cell d (Some v) key some behind = behind_pending cell d v key behind

-- a key of another cell that isn't before the cell is past it
past_cell : (cell : ℕ) (key : Key) → is_key_before cell 0 key ≡ false → (key.cell ≡ cell → ⊥) → cell < key.cell
unfolding lower
past_cell cell key fails differ = elim (cases_lt key.cell cell) as (λ _. cell < key.cell) [
  | inl below ↦ absurd (both_ways (lower cell 0 key.cell key.device) fails (lower_first cell 0 key.cell key.device below))
  | inr high ↦ elim (cases_lt cell key.cell) as (λ _. cell < key.cell) [
    | inl past ↦ past
    | inr low ↦ absurd (differ (let same : key.cell ≡ cell = omega arith in same))
  ]
]

-- nothing behind the end of a search is told in its place
behind_end : (cell : ℕ) (one other : Key) → is_key_before other.cell other.device one ≡ true → is_key_before cell 0 one ≡ false
    → is_search_end cell one ≡ true → tell cell (pending_by cell one) other ≡ pending_by cell one
unfolding lower
behind_end cell one other order fails ends =
    let parts = lower_parts other.cell other.device one.cell one.device order in
    elim (cases_eq one.cell cell) as (λ _. earlier (pending_by cell one) (pending_by cell other) ≡ pending_by cell one) [
      | inl same ↦
          let own = own_cell cell one same in
          let some : is_some one.pending ≡ true = sym (ap (λ b. not b || is_some one.pending) (eq-eqb one.cell cell same)) ∙ ends in
          let behind : other.cell ≡ cell → one.device ≤ other.device = λ e. elim parts as (λ _. one.device ≤ other.device) [
            | inl first ↦ absurd (let no : ⊥ = omega arith in no)
            | inr second ↦ (let less = second.1 in let le : one.device ≤ other.device = omega arith in le)
          ] in
          ap (λ best. earlier best (pending_by cell other)) own ∙ behind_own cell one.device one.pending other some behind ∙ sym own
      | inr differ ↦
          let none = other_cell cell one differ in
          let past = past_cell cell one fails differ in
          let away : other.cell ≡ cell → ⊥ = λ e. elim parts as (λ _. ⊥) [
            | inl first ↦ (let no : ⊥ = omega arith in no)
            | inr second ↦ (let same = second.0 in let no : ⊥ = omega arith in no)
          ] in
          ap (λ best. earlier best (pending_by cell other)) none ∙ other_cell cell other away ∙ sym none
    ]

nothing_pending : (d : ℕ) (pending : Option ℕ) → is_some pending ≡ false → option_map {U = ℕ × ℕ} (λ v. (d, v)) pending ≡ None
nothing_pending d None none = refl
nothing_pending d (Some v) none = absurd (cc none)

-- a key of the cell without a pending vector tells nothing
nothing_told : (cell : ℕ) (key : Key) → is_search_end cell key ≡ false → pending_by cell key ≡ None
nothing_told cell key goes = elim (cases_eq key.cell cell) as (λ _. pending_by cell key ≡ None) [
  | inl same ↦
      let some : is_some key.pending ≡ false = sym (ap (λ b. not b || is_some key.pending) (eq-eqb key.cell cell same)) ∙ goes in
      own_cell cell key same ∙ nothing_pending key.device key.pending some
  | inr differ ↦ other_cell cell key differ
]

-- so far nothing is told: at the beginning, and behind a key more
pub told_first : (cell : ℕ) (ks : List Key) (i : ℕ) → i ≤ length ks → IsIndex cell 0 ks i → fold (tell cell) None (take i ks) ≡ None
unfolding lower
told_first cell ks i bound split = fold_kept (tell cell) None no_key (take i ks) (λ k lt.
    let low : k < i = omega (arith, length-take i ks) in
    let key = get_or ks k no_key in
    let before = split.0 k no_key (omega arith) low in
    let away : key.cell ≡ cell → ⊥ = λ e. elim (lower_parts cell 0 key.cell key.device before) as (λ _. ⊥) [
      | inl first ↦ (let no : ⊥ = omega arith in no)
      | inr second ↦ (let less = second.1 in let no : ⊥ = omega arith in no)
    ] in
    ap (pending_by cell) (get_or-take i ks k no_key low) ∙ other_cell cell key away)

pub told_next : (cell : ℕ) (ks : List Key) (i : ℕ) (d : Key) → i < length ks → fold (tell cell) None (take i ks) ≡ None
    → is_search_end cell (get_or ks i d) ≡ false → fold (tell cell) None (take (i + 1) ks) ≡ None
told_next cell ks i d lt so goes =
    ap (fold (tell cell) None) (take_more ks i d lt)
    ∙ fold_push (tell cell) None (take i ks) (get_or ks i d)
    ∙ ap (λ best. tell cell best (get_or ks i d)) so
    ∙ nothing_told cell (get_or ks i d) goes

-- the end of the search tells all
pub told_all : (cell : ℕ) (ks : List Key) (first i : ℕ) (d : Key) → IsIndex cell 0 ks first → AreInOrder ks → first ≤ i → i < length ks
    → fold (tell cell) None (take i ks) ≡ None → is_search_end cell (get_or ks i d) ≡ true → pending_by cell (get_or ks i d) ≡ fold (tell cell) None ks
told_all cell ks first i d split order past lt so ends =
    let key = get_or ks i d in
    let upto : fold (tell cell) None (take (i + 1) ks) ≡ pending_by cell key =
    ap (fold (tell cell) None) (take_more ks i d lt) ∙ fold_push (tell cell) None (take i ks) key ∙ ap (λ best. tell cell best key) so in
    let kept = fold_kept (tell cell) (pending_by cell key) d (drop (i + 1) ks) (λ k inside.
    let counted = length-drop (i + 1) ks in
    let there : i + 1 + k < length ks = omega arith in
    ap (tell cell (pending_by cell key)) (get_or-drop (i + 1) ks k d)
    ∙ behind_end cell key (get_or ks (i + 1 + k) d) (order i (i + 1 + k) d (omega arith) there) (split.1 i d past lt) ends) in
    sym (ap (fold (tell cell) None) (sym (take-append-drop (i + 1) ks))
    ∙ fold-append (tell cell) None (take (i + 1) ks) (drop (i + 1) ks)
    ∙ ap (λ best. fold (tell cell) best (drop (i + 1) ks)) upto
    ∙ kept)

pub told_whole : (cell : ℕ) (ks : List Key) (i : ℕ) → length ks ≤ i → fold (tell cell) None (take i ks) ≡ None → None ≡ fold (tell cell) None ks
told_whole cell ks i past so = sym so ∙ ap (fold (tell cell) None) (take_all i ks past)
