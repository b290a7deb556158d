-- Two maps of one cell are the same list.
use Rattle.std.proofs.Common.{◌≡◌, ℕ, suc, ◌+◌, ◌-◌, ◌<◌, ◌≤◌, Bool, true, false, cond, List, [], ◌∷◌, length, get_or, refl, sym, ap, subst, ◌∙◌, ⊎_elim, arith}
use Rattle.std.specs.Prelude.{AllPairs, Contains}
use Rattle.std.proofs.lemmas.Bool.{both_ways, cases_order}
use Rattle.std.proofs.lemmas.List.{get_or_default}
use Rattle.std.proofs.lemmas.List.Elements.{All-contains}
use Rattle.jh_num.proofs.Public.{Contains_cases, Contains_head, Contains_tail}
use Rattle.jh_cellcfg.specs.declared.region.Region.{Region}
use Rattle.jh_cellcfg.specs.Regions.{is_comm, place_in, byte_in}
use Rattle.jh_cellcfg.proofs.Public.{has_address_first}
use Rattle.jh_map.specs.declared.run.Run.{Run}
use Rattle.jh_map.specs.Maps.{is_granted, leads_to, IsIn, IsRunOf, IsRunIn, EndsBefore, IsMap}
use Rattle.jh_map.proofs.MapLemmas.{first_granted, granted_has}

-- two runs of one region that have an address in common have the same ends
not_earlier : (closed : ℕ → Bool) (r : Region) (one other : Run) (at : ℕ) → IsRunOf closed r one → IsRunOf closed r other → IsIn one at → IsIn other at → one.start < other.start → ⊥
not_earlier closed r one other at of other_of has other_has lt =
    let first = other_has.first in
    let last = has.last in
    both_ways (is_granted closed r (other.start - 1)) (other_of.before (other.start - 1) (omega arith)) (of.each (other.start - 1) (record { first = omega arith; last = omega arith }))

not_shorter : (closed : ℕ → Bool) (r : Region) (one other : Run) (at : ℕ) → IsRunOf closed r one → IsRunOf closed r other → IsIn one at → IsIn other at → one.end < other.end → ⊥
not_shorter closed r one other at of other_of has other_has lt =
    let first = other_has.first in
    let last = has.last in
    both_ways (is_granted closed r one.end) of.behind (other_of.each one.end (record { first = omega arith; last = lt }))

same_number : (m n : ℕ) → (m < n → ⊥) → (n < m → ⊥) → m ≡ n
same_number m n up down = ⊎_elim (λ (e : m ≡ n). e) (λ o. ⊎_elim (λ (lt : m < n). absurd (up lt)) (λ (gt : n < m). absurd (down gt)) o) (cases_order m n)

same_fields : (one other : Run) → one.start ≡ other.start → one.end ≡ other.end → one.place ≡ other.place → one.comm ≡ other.comm → one.rights ≡ other.rights → one.page ≡ other.page → one ≡ other
same_fields one other s e p c r g = λ i. record { start = s i; end = e i; place = p i; comm = c i; rights = r i; page = g i }

-- so they are one
pub same_run : (closed : ℕ → Bool) (r : Region) (one other : Run) (at : ℕ) → IsRunOf closed r one → IsRunOf closed r other → IsIn one at → IsIn other at → one ≡ other
same_run closed r one other at of other_of has other_has =
    let start : one.start ≡ other.start = same_number one.start other.start (λ lt. not_earlier closed r one other at of other_of has other_has lt) (λ gt. not_earlier closed r other one at other_of of other_has has gt) in
    let end : one.end ≡ other.end = same_number one.end other.end (λ lt. not_shorter closed r one other at of other_of has other_has lt) (λ gt. not_shorter closed r other one at other_of of other_has has gt) in
    same_fields one other start end (of.place ∙ ap (leads_to r) start ∙ sym other_of.place) (of.comm ∙ sym other_of.comm) (of.rights ∙ sym other_of.rights) (of.page ∙ sym other_of.page)

leads_on_by : (b : Bool) (r : Region) (start at : ℕ) → r.virt_start ≤ start → start ≤ at → cond b (byte_in r at) (place_in r at) ≡ cond b (byte_in r start) (place_in r start) + (at - start)
leads_on_by true r start at low first = omega arith
leads_on_by false r start at low first = omega arith

leads_on : (r : Region) (start at : ℕ) → r.virt_start ≤ start → start ≤ at → leads_to r at ≡ leads_to r start + (at - start)
leads_on r start at low first = leads_on_by (is_comm r) r start at low first

-- where the address leads, by the run that has it
pub leads_behind : (closed : ℕ → Bool) (r : Region) (run : Run) (at : ℕ) → IsRunOf closed r run → IsIn run at → leads_to r at ≡ run.place + (at - run.start)
leads_behind closed r run at of has =
    let start = has_address_first r run.start (granted_has closed r run.start (first_granted closed r run of)) in
    let first = has.first in
    leads_on r run.start at start first ∙ ap (λ p. p + (at - run.start)) (sym of.place)

-- the runs of a map aren't empty
pub run_some : (closed : ℕ → Bool) (regions : List Region) (runs : List Run) (run : Run) → IsMap closed regions runs → Contains runs run → run.start < run.end
run_some closed regions runs run is held = (All-contains (IsRunIn closed regions) runs run is.own held).of.some

-- a run of the one map is one of the other
pub same_member : (closed : ℕ → Bool) (regions : List Region) (runs others : List Run) (run : Run) → IsMap closed regions runs → IsMap closed regions others → Contains runs run → Contains others run
same_member closed regions runs others run is other held =
    let own = All-contains (IsRunIn closed regions) runs run is.own held in
    let told = other.whole own.region run.start own.among (first_granted closed own.region run own.of) in
    let some = own.of.some in
    let same = same_run closed own.region told.run run run.start told.of own.of told.has (record { first = omega arith; last = some }) in
    let P : Run → Type 0 = λ x. Contains others x in
    subst P same told.among

-- two lists of runs, each of which ends before the next begins, with the same members
pair_head : (x : Run) (xs : List Run) (r : Run) → AllPairs EndsBefore (x ∷ xs) → Contains xs r → EndsBefore x r
pair_head x xs r pairs (k, lt, is) =
    let P : Run → Type 0 = λ y. EndsBefore x y in
    subst P is (pairs 0 (suc k) r (omega arith) (omega arith))

pair_tail : (x : Run) (xs : List Run) → AllPairs EndsBefore (x ∷ xs) → AllPairs EndsBefore xs
pair_tail x xs pairs i j d lt jl = pairs (suc i) (suc j) d (omega arith) (omega arith)

pub Some : List Run → Type 0
Some xs = (r : Run) → Contains xs r → r.start < r.end

pub In : List Run → List Run → Type 0
In xs ys = (r : Run) → Contains xs r → Contains ys r

some_tail : (x : Run) (xs : List Run) → Some (x ∷ xs) → Some xs
unfolding Some
some_tail x xs some r held = some r (Contains_tail x xs r held)

same_head : (x : Run) (xs : List Run) (y : Run) (ys : List Run) → AllPairs EndsBefore (x ∷ xs) → AllPairs EndsBefore (y ∷ ys) → Some (x ∷ xs) → Some (y ∷ ys) → In (x ∷ xs) (y ∷ ys) → In (y ∷ ys) (x ∷ xs) → y ≡ x
unfolding Some In
same_head x xs y ys up other_up some other_some there back =
    ⊎_elim
    (λ (e : y ≡ x). e)
    (λ (later : Contains ys x).
    let le = pair_head y ys x other_up later in
    ⊎_elim
    (λ (e : x ≡ y). sym e)
    (λ (behind : Contains xs y).
    let ge = pair_head x xs y up behind in
    let x_some = some x (Contains_head x xs) in
    let y_some = other_some y (Contains_head y ys) in
    absurd (omega arith))
    (Contains_cases x xs y (back y (Contains_head y ys))))
    (Contains_cases y ys x (there x (Contains_head x xs)))

-- a member of the rest isn't the first
in_tail : (x : Run) (xs : List Run) (y : Run) (ys : List Run) → AllPairs EndsBefore (x ∷ xs) → Some (x ∷ xs) → y ≡ x → In (x ∷ xs) (y ∷ ys) → In xs ys
unfolding Some In
in_tail x xs y ys up some same there r held =
    ⊎_elim
    (λ (e : y ≡ r).
    let le = pair_head x xs r up held in
    let x_some = some x (Contains_head x xs) in
    let start : x.start ≡ r.start = ap (λ (z : Run). z.start) (sym same ∙ e) in
    absurd (omega arith))
    (λ (later : Contains ys r). later)
    (Contains_cases y ys r (there r (Contains_tail x xs r held)))

pub same_list : (xs ys : List Run) → AllPairs EndsBefore xs → AllPairs EndsBefore ys → Some xs → Some ys → In xs ys → In ys xs → xs ≡ ys
unfolding In
same_list [] [] up other_up some other_some there back = refl
same_list [] (y ∷ ys) up other_up some other_some there back = let b = back y (Contains_head y ys) in absurd (omega (arith, b.1))
same_list (x ∷ xs) [] up other_up some other_some there back = let b = there x (Contains_head x xs) in absurd (omega (arith, b.1))
same_list (x ∷ xs) (y ∷ ys) up other_up some other_some there back =
    let head = same_head x xs y ys up other_up some other_some there back in
    let rest = same_list xs ys (pair_tail x xs up) (pair_tail y ys other_up) (some_tail x xs some) (some_tail y ys other_some) (in_tail x xs y ys up some head there) (in_tail y ys x xs other_up other_some (sym head) back) in
    λ i. sym head i ∷ rest i

pub same_map : (closed : ℕ → Bool) (regions : List Region) (one other : List Run) → IsMap closed regions one → IsMap closed regions other → one ≡ other
unfolding Some In
same_map closed regions one other is other_is =
    same_list one other is.order other_is.order
    (λ run held. run_some closed regions one run is held)
    (λ run held. run_some closed regions other run other_is held)
    (λ run held. same_member closed regions one other run is other_is held)
    (λ run held. same_member closed regions other one run other_is is held)

-- no address is in two runs of a map
pub single : (closed : ℕ → Bool) (regions : List Region) (runs : List Run) (one other : Run) (at : ℕ) → IsMap closed regions runs → Contains runs one → Contains runs other → IsIn one at → IsIn other at → one ≡ other
single closed regions runs one other at is (i, il, i_is) (j, jl, j_is) has other_has =
    ⊎_elim
    (λ (e : i ≡ j). sym i_is ∙ ap (λ k. get_or runs k one) e ∙ get_or_default runs j one other jl ∙ j_is)
    (λ o. ⊎_elim
    (λ (lt : i < j). absurd (not_both runs one other at is.order i j lt jl i_is j_is has other_has))
    (λ (gt : j < i). absurd (not_both runs other one at is.order j i gt il j_is i_is other_has has))
    o)
    (cases_order i j)
  where
    not_both : (runs : List Run) (one other : Run) (at : ℕ) → AllPairs EndsBefore runs → (i j : ℕ) → i < j → j < length runs → get_or runs i one ≡ one → get_or runs j other ≡ other → IsIn one at → IsIn other at → ⊥
    not_both runs one other at up i j lt jl i_is j_is has other_has =
        let pair = up i j one lt jl in
        let low : get_or runs i one ≡ one = i_is in
        let high : get_or runs j one ≡ other = get_or_default runs j one other jl ∙ j_is in
        let P : Run → Type 0 = λ x. EndsBefore x (get_or runs j one) in
        let Q : Run → Type 0 = λ y. EndsBefore one y in
        let le : EndsBefore one other = subst Q high (subst P low pair) in
        let last = has.last in
        let first = other_has.first in
        omega arith
