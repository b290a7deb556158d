-- Lists of findings, one item more at a time.
use Rattle.std.proofs.Common.{◌≡◌, ℕ, ◌+◌, ◌<◌, ◌≤◌, zero, suc, Bool, ◌&&◌, true, false, ◌||◌, List, [], ◌∷◌, ◌++◌, length, get_or, take, drop, refl, sym, ap, subst, ◌∙◌, append_assoc, add-zero, arith}
use Rattle.std.proofs.lemmas.List.{take-append-le, drop_more, get_or-take, length-take, append-nil}
use Rattle.std.specs.List.{list_all}
use Rattle.std.proofs.lemmas.Bool.{or_left, or_right}
use Rattle.std.proofs.Math.ListN.{drop_of_length-le}
use Rattle.jh_check.specs.declared.finding.Finding.{Finding}
use Rattle.jh_check.specs.Lists.{found_from, only_if, capped, is_any}

-- under a name that a function's tactic can cite
pub append_nil : {X : Type 0} (xs : List X) → xs ++ [] ≡ xs
append_nil xs = append-nil xs

-- what is left of a list, one item on
pub found_drop : {X : Type 0} (found : ℕ → X → List Finding) (xs : List X) (i : ℕ) (d : X) → i < length xs → found_from found i (drop i xs) ≡ found i (get_or xs i d) ++ found_from found (i + 1) (drop (i + 1) xs)
unfolding found_from
found_drop found xs i d h = ap (found_from found i) (drop_more xs i d h)

-- and at its end
pub found_end : {X : Type 0} (found : ℕ → X → List Finding) (xs : List X) (i : ℕ) → length xs ≤ i → found_from found i (drop i xs) ≡ []
unfolding found_from
found_end found xs i h = ap (found_from found i) (drop_of_length-le xs h)

take_take_append : {X : Type 0} (n : ℕ) (xs ys : List X) → take n (take n xs ++ ys) ≡ take n (xs ++ ys)
take_take_append zero xs ys = refl
take_take_append (suc n) [] ys = refl
take_take_append (suc n) (x ∷ xs) ys = ap (λ rest. x ∷ rest) (take_take_append n xs ys)

-- the first thousand of two lists depend on the first thousand of the first
pub capped_append : (a b more : List Finding) → capped a ≡ capped b → capped (a ++ more) ≡ capped (b ++ more)
unfolding capped
capped_append a b more e =
    sym (take_take_append 1000 a more) ∙ ap (λ xs. take 1000 (xs ++ more)) e ∙ take_take_append 1000 b more

-- where there are a thousand, no more are told
pub capped_full : (found more : List Finding) → 1000 ≤ length found → capped found ≡ capped (found ++ more)
unfolding capped
capped_full found more h = sym (take-append-le 1000 found more h)

-- a step of a loop over a list, and its end; `goal` is what the whole leads to
pub found_step : {X : Type 0} (found : ℕ → X → List Finding) (xs : List X) (i : ℕ) (d : X) (old new goal : List Finding) → i < length xs → capped new ≡ capped (old ++ found i (get_or xs i d)) → capped (old ++ found_from found i (drop i xs)) ≡ goal → capped (new ++ found_from found (i + 1) (drop (i + 1) xs)) ≡ goal
found_step found xs i d old new goal h e g =
    let here = found i (get_or xs i d) in
    let rest = found_from found (i + 1) (drop (i + 1) xs) in
    let split : capped ((old ++ here) ++ rest) ≡ capped (old ++ (here ++ rest)) = ap capped (append_assoc old here rest) in
    let joined : capped (old ++ (here ++ rest)) ≡ capped (old ++ found_from found i (drop i xs)) = ap (λ xs. capped (old ++ xs)) (sym (found_drop found xs i d h)) in
    capped_append new (old ++ here) rest e ∙ split ∙ joined ∙ g

pub found_done : {X : Type 0} (found : ℕ → X → List Finding) (xs : List X) (i : ℕ) (new goal : List Finding) → length xs ≤ i → capped (new ++ found_from found i (drop i xs)) ≡ goal → capped new ≡ goal
found_done found xs i new goal h g =
    ap capped (sym (append-nil new)) ∙ ap (λ xs. capped (new ++ xs)) (sym (found_end found xs i h)) ∙ g

-- two parts of a list, one after the other
pub capped_then : (old mid new one more : List Finding) → capped mid ≡ capped (old ++ one) → capped new ≡ capped (mid ++ more) → capped new ≡ capped (old ++ (one ++ more))
capped_then old mid new one more e f = f ∙ capped_append mid (old ++ one) more e ∙ ap capped (append_assoc old one more)

-- what is left of the first of a list, one item on, where all are to pass a test
pub all_drop_take : {X : Type 0} (p : X → Bool) (xs : List X) (n i : ℕ) (x : X) → i < n → n ≤ length xs → x ≡ get_or xs i x → list_all p (drop i (take n xs)) ≡ (p x && list_all p (drop (i + 1) (take n xs)))
all_drop_take p xs n i x h k e =
    let within : i < length (take n xs) = omega (arith, length-take n xs) in
    let here : get_or (take n xs) i x ≡ x = get_or-take n xs i x h ∙ sym e in
    ap (list_all p) (drop_more (take n xs) i x within) ∙ ap (λ y. p y && list_all p (drop (i + 1) (take n xs))) here

-- nothing is found where each item gives nothing
pub found_none : {X : Type 0} (found : ℕ → X → List Finding) (n : ℕ) (xs : List X) (d : X) → ((i : ℕ) → i < length xs → found (n + i) (get_or xs i d) ≡ []) → found_from found n xs ≡ []
unfolding found_from
found_none found n [] d h = refl
found_none found n (x ∷ xs) d h =
    let here : found n x ≡ [] = subst (λ m. found m x ≡ []) (add-zero n) (h 0 (omega arith)) in
    let later : (i : ℕ) → i < length xs → found ((n + 1) + i) (get_or xs i d) ≡ [] = λ i k. subst (λ m. found m (get_or xs i d) ≡ []) (let e : n + suc i ≡ (n + 1) + i = omega arith in e) (h (suc i) (omega arith)) in
    ap (λ ys. ys ++ found_from found (n + 1) xs) here ∙ found_none found (n + 1) xs d later

-- the same from the number 0 on
pub found_none0 : {X : Type 0} (found : ℕ → X → List Finding) (xs : List X) (d : X) → ((i : ℕ) → i < length xs → found i (get_or xs i d) ≡ []) → found_from found 0 xs ≡ []
found_none0 found xs d h = found_none found 0 xs d (λ i k. subst (λ m. found m (get_or xs i d) ≡ []) (let e : i ≡ 0 + i = omega arith in e) (h i k))

pub is_any_append : (xs ys : List Finding) → is_any (xs ++ ys) ≡ (is_any xs || is_any ys)
is_any_append [] ys = refl
is_any_append (x ∷ xs) ys = refl

-- whether anything is found, one item on, and at the end
pub any_step : {X : Type 0} (found : ℕ → X → List Finding) (xs : List X) (i : ℕ) (d : X) (goal : Bool) → i < length xs → is_any (found i (get_or xs i d)) ≡ false → is_any (found_from found i (drop i xs)) ≡ goal → is_any (found_from found (i + 1) (drop (i + 1) xs)) ≡ goal
any_step found xs i d goal h e g =
    let rest = found_from found (i + 1) (drop (i + 1) xs) in
    sym (ap is_any (found_drop found xs i d h) ∙ is_any_append (found i (get_or xs i d)) rest ∙ ap (λ b. b || is_any rest) e) ∙ g

pub any_hit : {X : Type 0} (found : ℕ → X → List Finding) (xs : List X) (i : ℕ) (d : X) (goal : Bool) → i < length xs → is_any (found i (get_or xs i d)) ≡ true → is_any (found_from found i (drop i xs)) ≡ goal → true ≡ goal
any_hit found xs i d goal h e g =
    let rest = found_from found (i + 1) (drop (i + 1) xs) in
    sym (ap is_any (found_drop found xs i d h) ∙ is_any_append (found i (get_or xs i d)) rest ∙ ap (λ b. b || is_any rest) e) ∙ g

pub any_done : {X : Type 0} (found : ℕ → X → List Finding) (xs : List X) (i : ℕ) (goal : Bool) → length xs ≤ i → is_any (found_from found i (drop i xs)) ≡ goal → false ≡ goal
any_done found xs i goal h g = sym (ap is_any (found_end found xs i h)) ∙ g

-- something is found where an item gives something
pub any_at : {X : Type 0} (found : ℕ → X → List Finding) (n : ℕ) (xs : List X) (i : ℕ) (d : X) → i < length xs → is_any (found (n + i) (get_or xs i d)) ≡ true → is_any (found_from found n xs) ≡ true
unfolding found_from
any_at found n [] i d h e = absurd (omega arith)
any_at found n (x ∷ xs) zero d h e =
    let rest = found_from found (n + 1) xs in
    is_any_append (found n x) rest ∙ or_left (is_any (found n x)) (is_any rest) (subst (λ m. is_any (found m x) ≡ true) (add-zero n) e)
any_at found n (x ∷ xs) (suc i) d h e =
    let rest = found_from found (n + 1) xs in
    let place : n + suc i ≡ (n + 1) + i = omega arith in
    is_any_append (found n x) rest
    ∙ or_right (is_any (found n x)) (is_any rest) (any_at found (n + 1) xs i d (omega arith) (subst (λ m. is_any (found m (get_or xs i d)) ≡ true) place e))

-- a finding stands alone exactly where its test says so
pub any_only : (test : Bool) (finding : Finding) → is_any (only_if test finding) ≡ test
unfolding only_if
any_only true finding = refl
any_only false finding = refl
