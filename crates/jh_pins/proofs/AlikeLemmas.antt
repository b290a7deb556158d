-- Two lists of the runs of one set are the same list, and so are two lists of the clashes of the same cells, and two
-- texts of the same pins.
use Rattle.std.proofs.Common.{◌≡◌, ℕ, suc, ◌+◌, ◌-◌, ◌<◌, ◌≤◌, Bool, true, false, List, [], ◌∷◌, ◌++◌, refl, sym, ap, subst, ◌∙◌, ⊎_elim, inl, inr, arith}
use Rattle.std.specs.Prelude.{◌⊎◌, AllPairs, Contains, map}
use Rattle.std.proofs.lemmas.Bool.{both_ways, cases_order}
use Rattle.std.proofs.lemmas.List.Elements.{All-contains}
use Rattle.jh_num.proofs.Public.{Contains_cases, Contains_head, Contains_tail}
use Rattle.jh_cellcfg.specs.declared.config.CellConfig.{CellConfig}
use Rattle.jh_pins.specs.declared.pin.Pin.{Pin}
use Rattle.jh_pins.specs.declared.pin.PinRun.{PinRun}
use Rattle.jh_pins.specs.declared.pin.Clash.{Clash}
use Rattle.jh_pins.specs.Claims.{Claim}
use Rattle.jh_pins.specs.TableView.{TableView}
use Rattle.jh_pins.specs.Holders.{is_held_by}
use Rattle.jh_pins.specs.Runs.{pin_of, IsIn, IsRunOf, IsInRun, StandsBefore, AreRuns}
use Rattle.jh_pins.specs.Clashes.{is_named_by_both, clash_of, AreClashesOf, AreClashesWith, AreClashes}
use Rattle.jh_pins.specs.Texts.{held_text, clashes_text, AreHeld, ArePinsOf}

-- ---- two runs of one set that have a pin in common are one

not_earlier : (has : Pin → Bool) (one other : PinRun) (chip at : ℕ) → IsRunOf has one → IsRunOf has other → one.chip ≡ chip → other.chip ≡ chip → at ≤ one.last → other.first ≤ at → one.first < other.first → ⊥
not_earlier has one other chip at of other_of is other_is last first lt =
    let P : ℕ → Type 0 = λ c. has (pin_of c (other.first - 1)) ≡ true in
    let Q : ℕ → Type 0 = λ c. has (pin_of c (other.first - 1)) ≡ false in
    both_ways (has (pin_of chip (other.first - 1))) (subst Q other_is (other_of.before (other.first - 1) (omega arith))) (subst P is (of.each (other.first - 1) (omega arith) (omega arith)))

not_shorter : (has : Pin → Bool) (one other : PinRun) (chip at : ℕ) → IsRunOf has one → IsRunOf has other → one.chip ≡ chip → other.chip ≡ chip → at ≤ one.last → other.first ≤ at → one.last < other.last → ⊥
not_shorter has one other chip at of other_of is other_is last first lt =
    let P : ℕ → Type 0 = λ c. has (pin_of c (one.last + 1)) ≡ true in
    let Q : ℕ → Type 0 = λ c. has (pin_of c (one.last + 1)) ≡ false in
    both_ways (has (pin_of chip (one.last + 1))) (subst Q is of.behind) (subst P other_is (other_of.each (one.last + 1) (omega arith) (omega arith)))

-- of two numbers of which neither is the lower
same_number : (m n : ℕ) → ((m < n) ⊎ (n < m) → ⊥) → m ≡ n
same_number m n differ = let up : m < n → ⊥ = λ lt. differ (inl lt) in let down : n < m → ⊥ = λ gt. differ (inr gt) in ⊎_elim (λ (e : m ≡ n). e) (λ o. ⊎_elim (λ (lt : m < n). absurd (up lt)) (λ (gt : n < m). absurd (down gt)) o) (cases_order m n)

same_fields : (one other : PinRun) → one.chip ≡ other.chip → one.first ≡ other.first → one.last ≡ other.last → one ≡ other
same_fields one other c f l = λ i. record { chip = c i; first = f i; last = l i }

same_run : (has : Pin → Bool) (one other : PinRun) (pin : Pin) → IsRunOf has one → IsRunOf has other → IsIn one pin → IsIn other pin → one ≡ other
same_run has one other pin of other_of is other_is =
    let at = pin.number in
    let low = is.first in
    let high = is.last in
    let other_low = other_is.first in
    let other_high = other_is.last in
    let c : one.chip ≡ pin.chip = sym is.chip in
    let d : other.chip ≡ pin.chip = sym other_is.chip in
    let first : one.first ≡ other.first = same_number one.first other.first (λ o. ⊎_elim (λ lt. not_earlier has one other pin.chip at of other_of c d high other_low lt) (λ gt. not_earlier has other one pin.chip at other_of of d c other_high low gt) o) in
    let last : one.last ≡ other.last = same_number one.last other.last (λ o. ⊎_elim (λ lt. not_shorter has one other pin.chip at of other_of c d high other_low lt) (λ gt. not_shorter has other one pin.chip at other_of of d c other_high low gt) o) in
    same_fields one other (c ∙ sym d) first last

same_member : (has : Pin → Bool) (runs others : List PinRun) (run : PinRun) → AreRuns has runs → AreRuns has others → Contains runs run → Contains others run
same_member has runs others run are other_are held =
    let own : IsRunOf has run = All-contains (IsRunOf has) runs run are.own held in
    let some = own.some in
    let told : IsInRun others (pin_of run.chip run.first) = other_are.whole (pin_of run.chip run.first) (own.each run.first (omega arith) some) in
    let told_own : IsRunOf has told.run = All-contains (IsRunOf has) others told.run other_are.own told.among in
    let same = same_run has told.run run (pin_of run.chip run.first) told_own own told.has (record { chip = refl; first = omega arith; last = some }) in
    let P : PinRun → Type 0 = λ x. Contains others x in
    subst P same told.among

-- ---- two lists of runs in order, with the same members

pair_head : (x : PinRun) (xs : List PinRun) (r : PinRun) → AllPairs StandsBefore (x ∷ xs) → Contains xs r → StandsBefore x r
pair_head x xs r pairs (k, lt, is) =
    let P : PinRun → Type 0 = λ y. StandsBefore x y in
    subst P is (pairs 0 (suc k) r (omega arith) (omega arith))

pair_tail : (x : PinRun) (xs : List PinRun) → AllPairs StandsBefore (x ∷ xs) → AllPairs StandsBefore xs
pair_tail x xs pairs i j d lt jl = pairs (suc i) (suc j) d (omega arith) (omega arith)

abbrev Some : List PinRun → Type 0
Some xs = (r : PinRun) → Contains xs r → r.first ≤ r.last

abbrev In : List PinRun → List PinRun → Type 0
In xs ys = (r : PinRun) → Contains xs r → Contains ys r

some_tail : (x : PinRun) (xs : List PinRun) → Some (x ∷ xs) → Some xs
some_tail x xs some r held = some r (Contains_tail x xs r held)

-- of two runs that aren't empty only one stands before the other
one_way : (x y : PinRun) → x.first ≤ x.last → y.first ≤ y.last → StandsBefore x y → StandsBefore y x → ⊥
one_way x y some other_some (inl lt) (inl gt) = omega arith
one_way x y some other_some (inl lt) (inr back) = let e = back.0 in omega arith
one_way x y some other_some (inr there) (inl gt) = let e = there.0 in omega arith
one_way x y some other_some (inr there) (inr back) = let a = there.1 in let b = back.1 in omega arith

same_head : (x : PinRun) (xs : List PinRun) (y : PinRun) (ys : List PinRun) → AllPairs StandsBefore (x ∷ xs) → AllPairs StandsBefore (y ∷ ys) → Some (x ∷ xs) → Some (y ∷ ys) → In (x ∷ xs) (y ∷ ys) → In (y ∷ ys) (x ∷ xs) → y ≡ x
same_head x xs y ys up other_up some other_some there back =
    ⊎_elim
    (λ (e : y ≡ x). e)
    (λ (later : Contains ys x).
    ⊎_elim
    (λ (e : x ≡ y). sym e)
    (λ (behind : Contains xs y). absurd (one_way x y (some x (Contains_head x xs)) (other_some y (Contains_head y ys)) (pair_head x xs y up behind) (pair_head y ys x other_up later)))
    (Contains_cases x xs y (back y (Contains_head y ys))))
    (Contains_cases y ys x (there x (Contains_head x xs)))

-- a member of the rest isn't the first
in_tail : (x : PinRun) (xs : List PinRun) (y : PinRun) (ys : List PinRun) → AllPairs StandsBefore (x ∷ xs) → Some (x ∷ xs) → y ≡ x → In (x ∷ xs) (y ∷ ys) → In xs ys
in_tail x xs y ys up some same there r held =
    ⊎_elim
    (λ (e : y ≡ r).
    let x_some = some x (Contains_head x xs) in
    let P : PinRun → Type 0 = λ z. StandsBefore x z in
    let itself : StandsBefore x x = subst P (sym (sym same ∙ e)) (pair_head x xs r up held) in
    absurd (one_way x x x_some x_some itself itself))
    (λ (later : Contains ys r). later)
    (Contains_cases y ys r (there r (Contains_tail x xs r held)))

same_list : (xs ys : List PinRun) → AllPairs StandsBefore xs → AllPairs StandsBefore ys → Some xs → Some ys → In xs ys → In ys xs → xs ≡ ys
same_list [] [] up other_up some other_some there back = refl
same_list [] (y ∷ ys) up other_up some other_some there back = let b = back y (Contains_head y ys) in absurd (omega (arith, b.1))
same_list (x ∷ xs) [] up other_up some other_some there back = let b = there x (Contains_head x xs) in absurd (omega (arith, b.1))
same_list (x ∷ xs) (y ∷ ys) up other_up some other_some there back =
    let head = same_head x xs y ys up other_up some other_some there back in
    let rest = same_list xs ys (pair_tail x xs up) (pair_tail y ys other_up) (some_tail x xs some) (some_tail y ys other_some) (in_tail x xs y ys up some head there) (in_tail y ys x xs other_up other_some (sym head) back) in
    λ i. sym head i ∷ rest i

run_some : (has : Pin → Bool) (runs : List PinRun) → AreRuns has runs → Some runs
run_some has runs are run held = (All-contains (IsRunOf has) runs run are.own held).some

pub same_runs : (has : Pin → Bool) (one other : List PinRun) → AreRuns has one → AreRuns has other → one ≡ other
same_runs has one other are other_are =
    same_list one other are.order other_are.order (run_some has one are) (run_some has other other_are)
    (λ run held. same_member has one other run are other_are held)
    (λ run held. same_member has other one run other_are are held)

-- ---- clashes

same_clashes_of : (one other : Claim) (here there : List Clash) → AreClashesOf one other here → AreClashesOf one other there → here ≡ there
same_clashes_of one other here there (runs, are, is) (more, more_are, more_is) =
    is ∙ ap (map (clash_of one other)) (same_runs (is_named_by_both one other) runs more are more_are) ∙ sym more_is

joined : (now then rest more here there : List Clash) → now ≡ then → rest ≡ more → here ≡ now ++ rest → there ≡ then ++ more → here ≡ there
joined now then rest more here there p q is other_is = is ∙ ap (λ (l : List Clash). l ++ rest) p ∙ ap (λ (l : List Clash). then ++ l) q ∙ sym other_is

same_clashes_with : (one : Claim) (others : List Claim) (here there : List Clash) → AreClashesWith one others here → AreClashesWith one others there → here ≡ there
same_clashes_with one [] here there is other_is = is ∙ sym other_is
same_clashes_with one (other ∷ others) here there (now, rest, of, with_rest, is) (then, more, other_of, with_more, other_is) =
    joined now then rest more here there (same_clashes_of one other now then of other_of) (same_clashes_with one others rest more with_rest with_more) is other_is

pub same_clashes : (cells : List Claim) (here there : List Clash) → AreClashes cells here → AreClashes cells there → here ≡ there
same_clashes [] here there is other_is = is ∙ sym other_is
same_clashes (one ∷ others) here there (now, rest, of, with_rest, is) (then, more, other_of, with_more, other_is) =
    joined now then rest more here there (same_clashes_with one others now then of other_of) (same_clashes others rest more with_rest with_more) is other_is

-- ---- texts

same_held : (table : TableView) (cells : List CellConfig) (one other : List ℕ) → AreHeld table cells one → AreHeld table cells other → one ≡ other
same_held table [] one other is other_is = is ∙ sym other_is
same_held table (cell ∷ cells) one other (runs, rest, are, is, behind) (more, last, other_are, other_is, other_behind) =
    let same : runs ≡ more = same_runs (is_held_by table cell.id) runs more are other_are in
    let end : rest ≡ last = same_held table cells rest last behind other_behind in
    is ∙ (λ i. held_text cell (same i) ++ end i) ∙ sym other_is

pub same_text : (table : TableView) (cells : List CellConfig) (one other : List ℕ) → ArePinsOf table cells one → ArePinsOf table cells other → one ≡ other
same_text table cells one other are other_are =
    let front : are.held ≡ other_are.held = same_held table cells are.held other_are.held are.own other_are.own in
    let end : are.clashes ≡ other_are.clashes = same_clashes table.cells are.clashes other_are.clashes are.common other_are.common in
    are.whole ∙ (λ i. front i ++ clashes_text (end i)) ∙ sym other_are.whole
