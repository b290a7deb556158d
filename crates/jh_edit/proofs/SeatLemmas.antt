-- Sums over the seats of all cells, of which no two have the same id, and what changes of one of them.
use Rattle.std.proofs.Common.{◌≡◌, ◌≢◌, ℕ, ◌+◌, ◌≤◌, zero, suc, ap, ◌∙◌, sym, subst, Bool, true, false, nat_eq, List, [], ◌∷◌, length, get_or, map, sum_by, Some, None, if◌then◌else◌, cond, arith, refl, ⊎_elim}
use Rattle.std.specs.Prelude.{AllPairs, Contains}
use Rattle.std.specs.List.{filter}
use Rattle.std.proofs.lemmas.Bool.{eq-eqb, false≢true, ne_eqb}
use Rattle.std.proofs.lemmas.List.{get_or-map, length-map, map-id}
use Rattle.std.proofs.lemmas.List.Sums.{sum_by-cons}
use Rattle.jh_num.proofs.Public.{Contains_cases, Contains_head, Contains_tail}
use Rattle.jh_edit.specs.declared.stage.Seat.{Seat}
use Rattle.jh_edit.specs.declared.stage.Tree.{Tree}
use Rattle.jh_edit.specs.Forest.{AreApart, is_root}
use Rattle.jh_edit.specs.Stages.{untreed}
use Rattle.jh_edit.proofs.ForestLemmas.{sum_alike, sum_up}

-- ---- pairs

pub pairs_rest : {X : Type 0} (R : X → X → Type 0) (x : X) (xs : List X) → AllPairs R (x ∷ xs) → AllPairs R xs
pairs_rest R x xs all = λ i j d less below. all (suc i) (suc j) d (omega arith) (omega arith)

pub pairs_head : {X : Type 0} (R : X → X → Type 0) (x : X) (xs : List X) (y : X) → AllPairs R (x ∷ xs) → Contains xs y → R x y
pairs_head {X} R x xs y all (k, below, is) = let P : X → Type 0 = R x in subst P is (all zero (suc k) y (omega arith) (omega arith))

pub pairs_map : {X : Type 0} (R : X → X → Type 0) (h : X → X) (xs : List X) → ((x y : X) → R x y → R (h x) (h y)) → AllPairs R xs → AllPairs R (map h xs)
pairs_map R h xs each all = λ i j d less below.
    let size : length (map h xs) ≡ length xs = length-map xs h in
    let one : get_or (map h xs) i d ≡ h (get_or xs i d) = get_or-map h xs i d d (omega arith) in
    let other : get_or (map h xs) j d ≡ h (get_or xs j d) = get_or-map h xs j d d (omega arith) in
    rw (one, other) (each (get_or xs i d) (get_or xs j d) (all i j d less (omega arith)))

-- ---- one seat of many

-- two seats with one id are one
pub one_seat : (seats : List Seat) (a b : Seat) → AllPairs AreApart seats → Contains seats a → Contains seats b → a.id ≡ b.id → a ≡ b
one_seat [] a b apart (k, below, is) other same = absurd (omega arith)
one_seat (seat ∷ seats) a b apart one other same =
    ⊎_elim
    (λ (first : seat ≡ a). ⊎_elim
    (λ (first' : seat ≡ b). sym first ∙ first')
    (λ (later : Contains seats b). absurd ((pairs_head AreApart seat seats b apart later).ids (ap (λ (s : Seat). s.id) first ∙ same)))
    (Contains_cases seat seats b other))
    (λ (later : Contains seats a). ⊎_elim
    (λ (first' : seat ≡ b). absurd ((pairs_head AreApart seat seats a apart later).ids (ap (λ (s : Seat). s.id) first' ∙ sym same)))
    (λ (later' : Contains seats b). one_seat seats a b (pairs_rest AreApart seat seats apart) later later' same)
    (Contains_cases seat seats b other))
    (Contains_cases seat seats a one)

-- the terms of two seats together are at most the sum
pub two_terms : (f : Seat → ℕ) (seats : List Seat) (a b : Seat) → AllPairs AreApart seats → Contains seats a → Contains seats b → a.id ≢ b.id → f a + f b ≤ sum_by f seats
two_terms f [] a b apart (k, below, is) other differ = absurd (omega arith)
two_terms f (seat ∷ seats) a b apart one other differ =
    let all : sum_by f (seat ∷ seats) ≡ f seat + sum_by f seats = sum_by-cons f seat seats in
    ⊎_elim
    (λ (first : seat ≡ a).
    let e : f seat ≡ f a = ap f first in
    ⊎_elim
    (λ (first' : seat ≡ b). absurd (differ (ap (λ (s : Seat). s.id) (sym first ∙ first'))))
    (λ (later : Contains seats b). let up : f b ≤ sum_by f seats = sum_up f seats b later in omega arith)
    (Contains_cases seat seats b other))
    (λ (later : Contains seats a). ⊎_elim
    (λ (first' : seat ≡ b). let e : f seat ≡ f b = ap f first' in let up : f a ≤ sum_by f seats = sum_up f seats a later in omega arith)
    (λ (later' : Contains seats b). let both : f a + f b ≤ sum_by f seats = two_terms f seats a b (pairs_rest AreApart seat seats apart) later later' differ in omega arith)
    (Contains_cases seat seats b other))
    (Contains_cases seat seats a one)

-- where the terms of all other seats are the same, the sum moves as the term of the one does
pub sum_moved : (f g : Seat → ℕ) (seats : List Seat) (a : Seat) → AllPairs AreApart seats → Contains seats a → ((b : Seat) → Contains seats b → b.id ≢ a.id → g b ≡ f b) → sum_by g seats + f a ≡ sum_by f seats + g a
sum_moved f g [] a apart (k, below, is) same = absurd (omega arith)
sum_moved f g (seat ∷ seats) a apart one same =
    let allf : sum_by f (seat ∷ seats) ≡ f seat + sum_by f seats = sum_by-cons f seat seats in
    let allg : sum_by g (seat ∷ seats) ≡ g seat + sum_by g seats = sum_by-cons g seat seats in
    ⊎_elim
    (λ (first : seat ≡ a).
    let ef : f seat ≡ f a = ap f first in
    let eg : g seat ≡ g a = ap g first in
    let rest : sum_by g seats ≡ sum_by f seats =
    sum_alike g f seats (λ b among. same b (Contains_tail seat seats b among) (λ e. (pairs_head AreApart seat seats b apart among).ids (ap (λ (s : Seat). s.id) first ∙ sym e)))
    in omega arith)
    (λ (later : Contains seats a).
    let here : g seat ≡ f seat = same seat (Contains_head seat seats) (pairs_head AreApart seat seats a apart later).ids in
    let rest : sum_by g seats + f a ≡ sum_by f seats + g a = sum_moved f g seats a (pairs_rest AreApart seat seats apart) later (λ b among differ. same b (Contains_tail seat seats b among) differ) in
    omega arith)
    (Contains_cases seat seats a one)

pub sum_map : (f : Seat → ℕ) (h : Seat → Seat) (seats : List Seat) → sum_by f (map h seats) ≡ sum_by (λ s. f (h s)) seats
sum_map f h [] = refl
sum_map f h (seat ∷ seats) =
    let here : sum_by f (h seat ∷ map h seats) ≡ f (h seat) + sum_by f (map h seats) = sum_by-cons f (h seat) (map h seats) in
    let there : sum_by (λ s. f (h s)) (seat ∷ seats) ≡ f (h seat) + sum_by (λ s. f (h s)) seats = sum_by-cons (λ s. f (h s)) seat seats in
    let rest : sum_by f (map h seats) ≡ sum_by (λ s. f (h s)) seats = sum_map f h seats in
    omega arith

-- the terms of two functions add up to those of a third
pub sum_both : (f g k : Seat → ℕ) (seats : List Seat) → ((s : Seat) → f s + g s ≡ k s) → sum_by f seats + sum_by g seats ≡ sum_by k seats
sum_both f g k [] each = refl
sum_both f g k (seat ∷ seats) each =
    let a : sum_by f (seat ∷ seats) ≡ f seat + sum_by f seats = sum_by-cons f seat seats in
    let b : sum_by g (seat ∷ seats) ≡ g seat + sum_by g seats = sum_by-cons g seat seats in
    let c : sum_by k (seat ∷ seats) ≡ k seat + sum_by k seats = sum_by-cons k seat seats in
    let here : f seat + g seat ≡ k seat = each seat in
    let rest : sum_by f seats + sum_by g seats ≡ sum_by k seats = sum_both f g k seats each in
    omega arith

-- ---- a cell that may have no tables any more

-- the seat as it is, or without tables where it is that of the id
abbrev pub untreed_if : Bool → ℕ → Seat → Seat
untreed_if true id seat = untreed id seat
untreed_if false id seat = seat

without_tree : (b : Bool) (seat : Seat) → ((if b then record seat { tree = None } else seat).id ≡ seat.id) × ((if b then record seat { tree = None } else seat).comm ≡ seat.comm)
without_tree true seat = (refl, refl)
without_tree false seat = (refl, refl)

pub untreed_id : (over : Bool) (id : ℕ) (seat : Seat) → (untreed_if over id seat).id ≡ seat.id
untreed_id true id seat = (without_tree (nat_eq seat.id id) seat).0
untreed_id false id seat = refl

pub untreed_comm : (over : Bool) (id : ℕ) (seat : Seat) → (untreed_if over id seat).comm ≡ seat.comm
untreed_comm true id seat = (without_tree (nat_eq seat.id id) seat).1
untreed_comm false id seat = refl

pub untreed_other : (over : Bool) (id : ℕ) (seat : Seat) → seat.id ≢ id → untreed_if over id seat ≡ seat
untreed_other true id seat differ = ap (λ b. if b then record seat { tree = None } else seat) (ne_eqb seat.id id differ)
untreed_other false id seat differ = refl

had_tree : (b : Bool) (seat : Seat) (tree : Tree) → (if b then record seat { tree = None } else seat).tree ≡ Some tree → seat.tree ≡ Some tree
had_tree true seat tree is = let no : ⊥ = cc in absurd no
had_tree false seat tree is = is

-- tables that are there after were there before
pub untreed_had : (over : Bool) (id : ℕ) (seat : Seat) (tree : Tree) → (untreed_if over id seat).tree ≡ Some tree → seat.tree ≡ Some tree
untreed_had true id seat tree is = had_tree (nat_eq seat.id id) seat tree is
untreed_had false id seat tree is = is

pub untreed_none : (over : Bool) (id : ℕ) (seat : Seat) → over ≡ true → seat.id ≡ id → (untreed_if over id seat).tree ≡ None
untreed_none true id seat over is = let same : nat_eq seat.id id ≡ true = eq-eqb seat.id id is in ap (λ b. (if b then record seat { tree = None } else seat).tree) same
untreed_none false id seat over is = absurd (false≢true over)

pub untreed_still : (over : Bool) (id : ℕ) (seats : List Seat) → over ≡ false → map (untreed_if over id) seats ≡ seats
untreed_still true id seats over = absurd (false≢true (sym over))
untreed_still false id seats over = map-id seats

-- root is one
pub one_root : (seats : List Seat) (a b : Seat) → AllPairs AreApart seats → Contains seats a → Contains seats b → is_root a ≡ true → is_root b ≡ true → a ≡ b
one_root [] a b apart (k, below, is) other root root' = absurd (omega arith)
one_root (seat ∷ seats) a b apart one other root root' =
    ⊎_elim
    (λ (first : seat ≡ a). ⊎_elim
    (λ (first' : seat ≡ b). sym first ∙ first')
    (λ (later : Contains seats b). absurd (false≢true (sym (pairs_head AreApart seat seats b apart later).cell ∙ root')))
    (Contains_cases seat seats b other))
    (λ (later : Contains seats a). absurd (false≢true (sym (pairs_head AreApart seat seats a apart later).cell ∙ root)))
    (Contains_cases seat seats a one)

sum_kept : (f : Seat → ℕ) (seat : Seat) (seats : List Seat) (rest : ℕ) (b : Bool) → sum_by f seats ≡ rest → (b ≡ false → f seat ≡ 0) → sum_by f (cond b (seat ∷ seats) seats) ≡ f seat + rest
sum_kept f seat seats rest true same none = let one = sum_by-cons f seat seats in omega arith
sum_kept f seat seats rest false same none = let zero' = none refl in omega arith

-- a sum without terms that are 0
pub sum_filter : (f : Seat → ℕ) (p : Seat → Bool) (seats : List Seat) → ((s : Seat) → Contains seats s → p s ≡ false → f s ≡ 0) → sum_by f (filter p seats) ≡ sum_by f seats
sum_filter f p [] none = refl
sum_filter f p (seat ∷ seats) none =
    let rest : sum_by f (filter p seats) ≡ sum_by f seats = sum_filter f p seats (λ s among. none s (Contains_tail seat seats s among)) in
    let all : sum_by f (seat ∷ seats) ≡ f seat + sum_by f seats = sum_by-cons f seat seats in
    sum_kept f seat (filter p seats) (sum_by f seats) (p seat) rest (none seat (Contains_head seat seats)) ∙ sym all
