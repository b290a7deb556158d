-- Lists of what is fixed of endpoints: what they are after those of a cell join, and after they leave.
use Rattle.std.proofs.Common.{◌≡◌, ℕ, suc, ◌<◌, ◌&&◌, nat_lt, Bool, true, false, not, cond, eqb, List, [], ◌∷◌, get_or, fold, All, AllPairs, Contains, refl, sym, ap, subst, ◌∙◌, inl, inr, ◌⊎◌, ⊎_elim, arith}
use Rattle.std.proofs.lemmas.Bool.{cases_lt, both_ways, and_parts, and_from, or_cases, or_left, or_right, ltb-true, lt-ltb, eqb-true, eq-eqb, not-true, not_from_false}
use Rattle.std.proofs.lemmas.List.Elements.{All-cons, All-head, All-tail, All-contains, Contains-get_or}
use Rattle.std.proofs.lemmas.List.Kept.{AllPairs-cons, AllPairs-filter}
use Rattle.jh_num.proofs.Public.{Contains_head, Contains_tail, Contains_cases, IsFound_from_filter, Contains_filter}
use Rattle.jh_ivshmem.specs.declared.spec.EndpointSpec.{EndpointSpec}
use Rattle.jh_ivshmem.specs.Specs.{AreEndpointsApart, IsBefore, is_device, is_before}
use Rattle.jh_ivshmem.proofs.Public.{apart_turned}
use Rattle.jh_history.proofs.EndpointLemmas.{placed, without}

-- ---- apart and in order

-- the lower cell comes first, in one cell the lower device
abbrev IsLower : EndpointSpec → EndpointSpec → Type 0
IsLower a b = (a.cell < b.cell) ⊎ ((a.cell ≡ b.cell) × (a.device < b.device))

before_lower : (a b : EndpointSpec) → IsBefore a b → IsLower a b
before_lower a b h =
    ⊎_elim
    (λ (cells : nat_lt a.cell b.cell ≡ true). inl (ltb-true a.cell b.cell cells))
    (λ (both : (eqb a.cell b.cell && nat_lt a.device b.device) ≡ true).
    let parts = and_parts (eqb a.cell b.cell) (nat_lt a.device b.device) both in
    inr (eqb-true a.cell b.cell parts.0, ltb-true a.device b.device parts.1))
    (or_cases (nat_lt a.cell b.cell) (eqb a.cell b.cell && nat_lt a.device b.device) h)

lower_before : (a b : EndpointSpec) → IsLower a b → IsBefore a b
lower_before a b h =
    ⊎_elim
    (λ (cells : a.cell < b.cell). or_left (nat_lt a.cell b.cell) (eqb a.cell b.cell && nat_lt a.device b.device) (lt-ltb a.cell b.cell cells))
    (λ (both : (a.cell ≡ b.cell) × (a.device < b.device)).
    or_right (nat_lt a.cell b.cell) (eqb a.cell b.cell && nat_lt a.device b.device)
    (and_from (eqb a.cell b.cell) (nat_lt a.device b.device) (eq-eqb a.cell b.cell both.0) (lt-ltb a.device b.device both.1)))
    h

lower_both : (a b c d e f : ℕ) → (a < c) ⊎ ((a ≡ c) × (b < d)) → (c < e) ⊎ ((c ≡ e) × (d < f)) → (a < e) ⊎ ((a ≡ e) × (b < f))
lower_both a b c d e f (inl h) (inl g) = inl (omega arith)
lower_both a b c d e f (inl h) (inr (g, i)) = inl (omega arith)
lower_both a b c d e f (inr (h, j)) (inl g) = inl (omega arith)
lower_both a b c d e f (inr (h, j)) (inr (g, i)) = inr (omega arith, omega arith)

before_both : (a b c : EndpointSpec) → IsBefore a b → IsBefore b c → IsBefore a c
before_both a b c h g = lower_before a c (lower_both a.cell a.device b.cell b.device c.cell c.device (before_lower a b h) (before_lower b c g))

-- of two devices the one comes first, or the other
lower_other : (a b c d : ℕ) → ((a < c) ⊎ ((a ≡ c) × (b < d)) → ⊥) → (a ≡ c → b ≡ d → ⊥) → (c < a) ⊎ ((c ≡ a) × (d < b))
lower_other a b c d fails differ =
    elim (cases_lt c a) as (λ _. (c < a) ⊎ ((c ≡ a) × (d < b))) [
      | inl above ↦ inl above
      | inr low ↦ elim (cases_lt a c) as (λ _. (c < a) ⊎ ((c ≡ a) × (d < b))) [
        | inl below ↦ absurd (fails (inl below))
        | inr high ↦
            let same : a ≡ c = omega arith in
            elim (cases_lt d b) as (λ _. (c < a) ⊎ ((c ≡ a) × (d < b))) [
              | inl above ↦ inr (sym same, above)
              | inr less ↦ elim (cases_lt b d) as (λ _. (c < a) ⊎ ((c ≡ a) × (d < b))) [
                | inl below ↦ absurd (fails (inr (same, below)))
                | inr more ↦ absurd (differ same (let equal : b ≡ d = omega arith in equal))
              ]
            ]
      ]
    ]

comes_before : (a s : EndpointSpec) → AreEndpointsApart s a → is_before s.cell s.device a ≡ false → IsBefore s a
comes_before a s apart fails =
    lower_before s a (lower_other a.cell a.device s.cell s.device
    (λ lower. both_ways (is_before s.cell s.device a) fails (lower_before a s lower))
    (λ cells devices.
    both_ways (is_device s.cell s.device a) apart.devices
    (and_from (eqb a.cell s.cell) (eqb a.device s.device) (eq-eqb a.cell s.cell cells) (eq-eqb a.device s.device devices))))

-- ---- one that joins

all_placed : (P : EndpointSpec → Type 0) (xs : List EndpointSpec) (s : EndpointSpec) → All P xs → P s → All P (placed xs s)
all_placed P [] s all here = All-cons P s [] here all
all_placed P (x ∷ xs) s all here =
    let first = All-head P x xs all in
    elim (is_before s.cell s.device x) as (λ b. All P (cond b (x ∷ placed xs s) (s ∷ x ∷ xs))) [
      | true ↦ All-cons P x (placed xs s) first (all_placed P xs s (All-tail P x xs all) here)
      | false ↦ All-cons P s (x ∷ xs) here all
    ]

placed_new : (xs : List EndpointSpec) (s : EndpointSpec) → Contains (placed xs s) s
placed_new [] s = Contains_head s []
placed_new (x ∷ xs) s =
    elim (is_before s.cell s.device x) as (λ b. Contains (cond b (x ∷ placed xs s) (s ∷ x ∷ xs)) s) [
      | true ↦ Contains_tail x (placed xs s) s (placed_new xs s)
      | false ↦ Contains_head s (x ∷ xs)
    ]

placed_old : (xs : List EndpointSpec) (s x : EndpointSpec) → Contains xs x → Contains (placed xs s) x
placed_old [] s x h = let below : h.0 < 0 = h.1 in absurd (omega arith)
placed_old (y ∷ ys) s x h =
    let later : y ≡ x ⊎ Contains (placed ys s) x =
    ⊎_elim (λ (same : y ≡ x). inl same) (λ (held : Contains ys x). inr (placed_old ys s x held)) (Contains_cases y ys x h) in
    let here : Contains (y ∷ placed ys s) x =
    ⊎_elim (λ (same : y ≡ x). subst (Contains (y ∷ placed ys s)) same (Contains_head y (placed ys s))) (λ (held : Contains (placed ys s) x). Contains_tail y (placed ys s) x held) later in
    elim (is_before s.cell s.device y) as (λ b. Contains (cond b (y ∷ placed ys s) (s ∷ y ∷ ys)) x) [
      | true ↦ here
      | false ↦ Contains_tail s (y ∷ ys) x h
    ]

placed_from : (xs : List EndpointSpec) (s x : EndpointSpec) → Contains (placed xs s) x → (s ≡ x) ⊎ Contains xs x
placed_from xs s x (k, below, is) =
    let P : EndpointSpec → Type 0 = λ z. (s ≡ z) ⊎ Contains xs z in
    let all : All P (placed xs s) = all_placed P xs s (λ i d lt. inr (Contains-get_or xs i d lt)) (inl refl) in
    subst P is (all k x below)

pairs_rest : {X : Type 0} (R : X → X → Type 0) (x : X) (xs : List X) → AllPairs R (x ∷ xs) → AllPairs R xs
pairs_rest R x xs h i j d before within = h (suc i) (suc j) d (omega arith) (omega arith)

pairs_first : {X : Type 0} (R : X → X → Type 0) (x : X) (xs : List X) → AllPairs R (x ∷ xs) → All (R x) xs
pairs_first R x xs h k d lt = h 0 (suc k) d (omega arith) (omega arith)

-- each two elements are in a relation that rules another out: two that are in the other are one
pub one_of_pairs : {X : Type 0} (R Q : X → X → Type 0) (none : (a b : X) → R a b → Q a b → ⊥) (turned : (a b : X) → Q a b → Q b a) (xs : List X) (a b : X) → AllPairs R xs → Contains xs a → Contains xs b → Q a b → a ≡ b
one_of_pairs R Q none turned [] a b pairs has_a has_b is = let below : has_a.0 < 0 = has_a.1 in absurd (omega arith)
one_of_pairs {X = X} R Q none turned (x ∷ xs) a b pairs has_a has_b is =
    let first : All (R x) xs = pairs_first R x xs pairs in
    let rest : AllPairs R xs = pairs_rest R x xs pairs in
    let apart : (y z : X) → x ≡ y → Contains xs z → R y z = λ y z same held. subst (λ (v : X). R v z) same (All-contains (R x) xs z first held) in
    elim (Contains_cases x xs a has_a) as (λ _. a ≡ b) [
      | inl here ↦ elim (Contains_cases x xs b has_b) as (λ _. a ≡ b) [
        | inl too ↦ sym here ∙ too
        | inr later ↦ absurd (none a b (apart a b here later) is)
      ]
      | inr later ↦ elim (Contains_cases x xs b has_b) as (λ _. a ≡ b) [
        | inl here ↦ absurd (none b a (apart b a here later) (turned a b is))
        | inr too ↦ one_of_pairs R Q none turned xs a b rest later too is
      ]
    ]

placed_apart : (xs : List EndpointSpec) (s : EndpointSpec) → AllPairs AreEndpointsApart xs → All (AreEndpointsApart s) xs → AllPairs AreEndpointsApart (placed xs s)
placed_apart [] s pairs new = AllPairs-cons AreEndpointsApart s [] new pairs
placed_apart (x ∷ xs) s pairs new =
    let turned : AreEndpointsApart x s = apart_turned s x (All-head (AreEndpointsApart s) x xs new) in
    let rest : AllPairs AreEndpointsApart (placed xs s) = placed_apart xs s (pairs_rest AreEndpointsApart x xs pairs) (All-tail (AreEndpointsApart s) x xs new) in
    elim (is_before s.cell s.device x) as (λ b. AllPairs AreEndpointsApart (cond b (x ∷ placed xs s) (s ∷ x ∷ xs))) [
      | true ↦ AllPairs-cons AreEndpointsApart x (placed xs s) (all_placed (AreEndpointsApart x) xs s (pairs_first AreEndpointsApart x xs pairs) turned) rest
      | false ↦ AllPairs-cons AreEndpointsApart s (x ∷ xs) new pairs
    ]

order_by : (x : EndpointSpec) (xs : List EndpointSpec) (s : EndpointSpec) (b : Bool) → is_before s.cell s.device x ≡ b → AllPairs IsBefore (x ∷ xs) → AreEndpointsApart s x → AllPairs IsBefore (placed xs s)
    → AllPairs IsBefore (cond b (x ∷ placed xs s) (s ∷ x ∷ xs))
order_by x xs s true before pairs apart rest = AllPairs-cons IsBefore x (placed xs s) (all_placed (IsBefore x) xs s (pairs_first IsBefore x xs pairs) before) rest
order_by x xs s false behind pairs apart rest =
    let first : IsBefore s x = comes_before x s apart behind in
    let ahead = pairs_first IsBefore x xs pairs in
    AllPairs-cons IsBefore s (x ∷ xs)
    (All-cons (IsBefore s) x xs first (λ k d lt. before_both s x (get_or xs k d) first (ahead k d lt)))
    pairs

placed_order : (xs : List EndpointSpec) (s : EndpointSpec) → AllPairs IsBefore xs → All (AreEndpointsApart s) xs → AllPairs IsBefore (placed xs s)
placed_order [] s pairs new = AllPairs-cons IsBefore s [] (λ k d lt. absurd (let no : ⊥ = omega arith in no)) pairs
placed_order (x ∷ xs) s pairs new =
    order_by x xs s (is_before s.cell s.device x) refl pairs (All-head (AreEndpointsApart s) x xs new)
    (placed_order xs s (pairs_rest IsBefore x xs pairs) (All-tail (AreEndpointsApart s) x xs new))

-- ---- those of a cell

-- all are apart, and in order
pub record AreRow (specs : List EndpointSpec) : Type 0 where
  pub apart : AllPairs AreEndpointsApart specs
  pub order : AllPairs IsBefore specs

row_placed : (xs : List EndpointSpec) (s : EndpointSpec) → AreRow xs → All (AreEndpointsApart s) xs → AreRow (placed xs s)
row_placed xs s row new = record { apart = placed_apart xs s row.apart new; order = placed_order xs s row.order new }

-- these have joined those, and no other is there
pub record HaveJoined (specs news now : List EndpointSpec) : Type 0 where
  pub row : AreRow now
  pub from : (x : EndpointSpec) → Contains now x → Contains specs x ⊎ Contains news x
  pub old : (x : EndpointSpec) → Contains specs x → Contains now x
  pub new : (x : EndpointSpec) → Contains news x → Contains now x

joined_more : (specs : List EndpointSpec) (s : EndpointSpec) (news now : List EndpointSpec) → HaveJoined (placed specs s) news now → HaveJoined specs (s ∷ news) now
joined_more specs s news now rest =
    let is_new : (x : EndpointSpec) → s ≡ x → Contains (s ∷ news) x = λ x same. subst (Contains (s ∷ news)) same (Contains_head s news) in
    let here : Contains now s = rest.old s (placed_new specs s) in
    record {
      row = rest.row;
      from = λ x h.
          ⊎_elim
          (λ (held : Contains (placed specs s) x). ⊎_elim (λ (same : s ≡ x). inr (is_new x same)) (λ (old : Contains specs x). inl old) (placed_from specs s x held))
          (λ (later : Contains news x). inr (Contains_tail s news x later))
          (rest.from x h);
      old = λ x h. rest.old x (placed_old specs s x h);
      new = λ x h. ⊎_elim (λ (same : s ≡ x). subst (Contains now) same here) (λ (later : Contains news x). rest.new x later) (Contains_cases s news x h);
    }

-- those of a cell join others that they are apart from
pub all_join : (specs news : List EndpointSpec) → AreRow specs → AllPairs AreEndpointsApart news → ((x y : EndpointSpec) → Contains specs x → Contains news y → AreEndpointsApart x y) → HaveJoined specs news (fold placed specs news)
all_join specs [] row single apart = record { row = row; from = λ x h. inl h; old = λ x h. h; new = λ x h. let below : h.0 < 0 = h.1 in absurd (omega arith) }
all_join specs (s ∷ news) row single apart =
    let next : AreRow (placed specs s) = row_placed specs s row (λ k d lt. apart_turned (get_or specs k d) s (apart (get_or specs k d) s (Contains-get_or specs k d lt) (Contains_head s news))) in
    let first : All (AreEndpointsApart s) news = pairs_first AreEndpointsApart s news single in
    let still : (x y : EndpointSpec) → Contains (placed specs s) x → Contains news y → AreEndpointsApart x y = λ x y held later.
    ⊎_elim
    (λ (same : s ≡ x). subst (λ (z : EndpointSpec). AreEndpointsApart z y) same (All-contains (AreEndpointsApart s) news y first later))
    (λ (old : Contains specs x). apart x y old (Contains_tail s news y later))
    (placed_from specs s x held) in
    joined_more specs s news (fold placed (placed specs s) news) (all_join (placed specs s) news next (pairs_rest AreEndpointsApart s news single) still)

-- ---- those of a cell leave

-- none of these is of the device
unfoldable pub IsBeside : List EndpointSpec → EndpointSpec → Type 0
IsBeside gone x = (s : EndpointSpec) → Contains gone s → is_device s.cell s.device x ≡ false

-- these have left, and all others are there
pub record HaveLeft (specs gone now : List EndpointSpec) : Type 0 where
  pub row : AreRow now
  pub from : (x : EndpointSpec) → Contains now x → Contains specs x
  pub beside : (x : EndpointSpec) → Contains now x → IsBeside gone x
  pub stay : (x : EndpointSpec) → Contains specs x → IsBeside gone x → Contains now x

left_more : (specs : List EndpointSpec) (s : EndpointSpec) (gone now : List EndpointSpec) → HaveLeft (without specs s) gone now → HaveLeft specs (s ∷ gone) now
unfolding IsBeside
left_more specs s gone now rest =
    let other : EndpointSpec → Bool = λ x. not (is_device s.cell s.device x) in
    record {
      row = rest.row;
      from = λ x h. (IsFound_from_filter other specs x (rest.from x h)).among;
      beside = λ x h t held.
          ⊎_elim
          (λ (same : s ≡ t). ap (λ (z : EndpointSpec). is_device z.cell z.device x) (sym same) ∙ not-true (is_device s.cell s.device x) (IsFound_from_filter other specs x (rest.from x h)).passes)
          (λ (later : Contains gone t). rest.beside x h t later)
          (Contains_cases s gone t held);
      stay = λ x h beside.
          rest.stay x
          (Contains_filter other specs x h (not_from_false (is_device s.cell s.device x) (beside s (Contains_head s gone))))
          (λ t later. beside t (Contains_tail s gone t later));
    }

pub all_leave : (specs gone : List EndpointSpec) → AreRow specs → HaveLeft specs gone (fold without specs gone)
unfolding IsBeside
all_leave specs [] row = record { row = row; from = λ x h. h; beside = λ x h t held. (let below : held.0 < 0 = held.1 in absurd (omega arith)); stay = λ x h beside. h }
all_leave specs (s ∷ gone) row =
    let other : EndpointSpec → Bool = λ x. not (is_device s.cell s.device x) in
    let next : AreRow (without specs s) = record { apart = AllPairs-filter AreEndpointsApart other specs row.apart; order = AllPairs-filter IsBefore other specs row.order } in
    left_more specs s gone (fold without (without specs s) gone) (all_leave (without specs s) gone next)
