-- When two ranges have a number in common.
use Rattle.std.proofs.Common.{◌≡◌, ℕ, ◌+◌, ◌-◌, ◌<◌, ◌≤◌, Bool, leb, Decides, inl, inr, arith, List, length, get_or, take, drop, length-drop, subst, sym, ap, ◌∙◌}
use Rattle.std.specs.Prelude.{IsTrue, All, AllPairs}
use Rattle.std.proofs.lemmas.Bool.{cases_lt, le-leb}
use Rattle.std.proofs.lemmas.List.{take_all, get_or-drop, get_or_read}
use Rattle.std.proofs.lemmas.Bool.Decides.{nat_tests}
use Rattle.jh_history.specs.Private.Apart.{is_among, HasNoneOf}
use Rattle.jh_mmio.proofs.Public.{leb_at}

is_among_from : (start len k : ℕ) → start ≤ k → k < start + len → IsTrue (is_among start len k)
is_among_from start len k low high = grind (arith, nat_tests)

is_among_low : (start len k : ℕ) → IsTrue (is_among start len k) → start ≤ k
is_among_low start len k h = grind (arith, nat_tests)

is_among_high : (start len k : ℕ) → IsTrue (is_among start len k) → k < start + len
is_among_high start len k h = grind (arith, nat_tests)

-- where both have a number and each begins before the other's end, they have one in common
pub HasNoneOf_meets : (a n b m : ℕ) → 0 < n → 0 < m → b < a + n → a < b + m → HasNoneOf a n b m → ⊥
HasNoneOf_meets a n b m some_n some_m before_a before_b none = elim (cases_lt a b) [
  | inl lt ↦ none b (is_among_from a n b (omega arith) before_a) (is_among_from b m b (omega arith) (omega arith))
  | inr le ↦ none a (is_among_from a n a (omega arith) (omega arith)) (is_among_from b m a le before_b)
]

-- where one has no number, or ends before the other begins, they have none in common
pub HasNoneOf_apart : (a n b m : ℕ) → ((k : ℕ) → a ≤ k → k < a + n → b ≤ k → k < b + m → ⊥) → HasNoneOf a n b m
HasNoneOf_apart a n b m apart k in_a in_b =
    apart k (is_among_low a n k in_a) (is_among_high a n k in_a) (is_among_low b m k in_b) (is_among_high b m k in_b)

-- where the first range begins no later than the second, which has a number, they have none in common
-- exactly where the first ends before the second begins
pub HasNoneOf_decided : (a n b m : ℕ) → a ≤ b → 0 < m → Decides (leb n (b - a)) (HasNoneOf a n b m)
HasNoneOf_decided a n b m first some = (
  λ t. HasNoneOf_apart a n b m (λ k low high low' high'. let few : n ≤ b - a = leb_at n (b - a) t in absurd (omega arith)),
  λ none. elim (cases_lt (b - a) n) [
    | inl lt ↦ absurd (HasNoneOf_meets a n b m (omega arith) some (omega arith) (omega arith) none)
    | inr le ↦ le-leb n (b - a) le
  ],
)

swapped : (a n b m : ℕ) → HasNoneOf a n b m → HasNoneOf b m a n
swapped a n b m none k in_b in_a = none k in_a in_b

pub HasNoneOf_swapped : (r : Bool) (a n b m : ℕ) → Decides r (HasNoneOf b m a n) → Decides r (HasNoneOf a n b m)
HasNoneOf_swapped r a n b m told = (λ t. swapped b m a n (told.0 t), λ none. told.1 (swapped a n b m none))

rest_is : {X : Type 0} (xs : List X) (i : ℕ) → i < length xs → take (length xs - (i + 1)) (drop (i + 1) xs) ≡ drop (i + 1) xs
rest_is xs i lt = take_all (length xs - (i + 1)) (drop (i + 1) xs) (omega (arith, length-drop (i + 1) xs))

later_is : {X : Type 0} (xs : List X) (i j : ℕ) (d : X) → i < j → get_or (drop (i + 1) xs) (j - (i + 1)) d ≡ get_or xs j d
later_is xs i j d lt = get_or-drop (i + 1) xs (j - (i + 1)) d ∙ (let e : (i + 1) + (j - (i + 1)) ≡ j = omega arith in ap (λ (n : ℕ). get_or xs n d) e)

-- an item beside each later one
pub beside_later : {X : Type 0} (R : X → X → Type 0) (xs : List X) (i : ℕ) (x : X) → i < length xs → x ≡ get_or xs i x
    → All (R x) (take (length xs - (i + 1)) (drop (i + 1) xs)) → (j : ℕ) (d : X) → i < j → j < length xs → R (get_or xs i d) (get_or xs j d)
beside_later {X} R xs i x within is all j d lt below =
    let all' : All (R x) (drop (i + 1) xs) = rw (rest_is xs i within) at all in
    let here : R x (get_or (drop (i + 1) xs) (j - (i + 1)) d) = all' (j - (i + 1)) d (omega (arith, length-drop (i + 1) xs)) in
    let there : R x (get_or xs j d) = rw (later_is xs i j d lt) at here in
    let P : X → Type 0 = λ y. R y (get_or xs j d) in
    subst P (get_or_read xs i x within is d) there

pub later_beside : {X : Type 0} (R : X → X → Type 0) (xs : List X) (i : ℕ) (x : X) → i < length xs → x ≡ get_or xs i x
    → AllPairs R xs → All (R x) (take (length xs - (i + 1)) (drop (i + 1) xs))
later_beside {X} R xs i x within is pairs =
    let each : All (R x) (drop (i + 1) xs) = λ k d lt.
    let below : (i + 1) + k < length xs = omega (arith, length-drop (i + 1) xs) in
    let here : R (get_or xs i d) (get_or xs ((i + 1) + k) d) = pairs i ((i + 1) + k) d (omega arith) below in
    let P : X → Type 0 = λ y. R y (get_or (drop (i + 1) xs) k d) in
    subst P (sym (get_or_read xs i x within is d)) (rw get_or-drop here) in
    rw rest_is each
