-- What an element of a list tells of `find`, `list_any`, `filter` and `map`, and what they tell of one.
-- What std has of them stands in `std.proofs.lemmas.List.Elements` (`Contains-append_left`,
-- `All-contains`, `filter_passes` ..) and `.Folds` (`find-append`, `list_any-append`, `list_any_more` ..).
use Rattle.std.proofs.Common.{◌≡◌, ℕ, ltb, zero, suc, ◌<◌, Bool, true, false, cond, ◌||◌, List, [], ◌∷◌, length, get_or, map, Option, Some, None, refl, sym, ap, subst, ◌∙◌, inl, inr, ◌⊎◌, ⊎_elim, arith}
use Rattle.std.specs.Prelude.{filter, option_map, position, replicate}
use Rattle.std.specs.List.{find, list_any, list_all, Contains, position_or_len, remove}
use Rattle.std.proofs.lemmas.Bool.{cases_Bool, both_ways, and_from, false_from_ne_true, lt-ltb, le-ltb}
use Rattle.std.proofs.lemmas.Option.{none-some, same_Some, slice_get-get_or, get_or_from_slice_get}
use Rattle.std.proofs.lemmas.List.Sums.{position_or_len_is}
use Rattle.std.proofs.lemmas.List.Folds.{list_any_at, Any-from_list_any}

-- an element is the first, or one of the rest
pub Contains_head : {X : Type 0} (x : X) (xs : List X) → Contains (x ∷ xs) x
Contains_head x xs = (0, omega arith, refl)

pub Contains_tail : {X : Type 0} (y : X) (ys : List X) (x : X) → Contains ys x → Contains (y ∷ ys) x
Contains_tail y ys x (k, below, is) = (suc k, omega arith, is)

pub Contains_cases : {X : Type 0} (y : X) (ys : List X) (x : X) → Contains (y ∷ ys) x → (y ≡ x) ⊎ Contains ys x
Contains_cases y ys x (zero, below, is) = inl is
Contains_cases y ys x (suc k, below, is) = inr (k, omega arith, is)

-- the element passes, and is one of the list
pub record IsFound {X : Type 0} (p : X → Bool) (xs : List X) (x : X) : Type 0 where
  pub among : Contains xs x
  pub passes : p x ≡ true

found_by : {X : Type 0} (p : X → Bool) (y : X) (ys : List X) (x : X) (b : Bool) → p y ≡ b → (find p ys ≡ Some x → IsFound p ys x) → cond b (Some y) (find p ys) ≡ Some x → IsFound p (y ∷ ys) x
found_by {X} p y ys x true is rest e =
    let P : X → Type 0 = λ z. IsFound p (y ∷ ys) z in
    subst P (same_Some y x e) (record { among = Contains_head y ys; passes = is })
found_by p y ys x false is rest e = let r = rest e in record { among = Contains_tail y ys x r.among; passes = r.passes }

-- what is found is such an element
pub IsFound_from_find : {X : Type 0} (p : X → Bool) (xs : List X) (x : X) → find p xs ≡ Some x → IsFound p xs x
IsFound_from_find p [] x e = absurd (none-some x e)
IsFound_from_find p (y ∷ ys) x e = found_by p y ys x (p y) refl (λ h. IsFound_from_find p ys x h) e

-- where none is found, no element passes
none_by : {X : Type 0} (p : X → Bool) (y : X) (ys : List X) (x : X) (b : Bool) → p y ≡ b → (find p ys ≡ None → Contains ys x → p x ≡ false) → cond b (Some y) (find p ys) ≡ None → Contains (y ∷ ys) x → p x ≡ false
none_by p y ys x true is rest e h = absurd (none-some y (sym e))
none_by p y ys x false is rest e h = ⊎_elim (λ (same : y ≡ x). ap p (sym same) ∙ is) (λ (later : Contains ys x). rest e later) (Contains_cases y ys x h)

pub find_None : {X : Type 0} (p : X → Bool) (xs : List X) (x : X) → find p xs ≡ None → Contains xs x → p x ≡ false
find_None p [] x e (k, below, is) = absurd (omega arith)
find_None p (y ∷ ys) x e h = none_by p y ys x (p y) refl (λ e' h'. find_None p ys x e' h') e h

-- where no element passes, none is found
pub find_nothing : {X : Type 0} (p : X → Bool) (xs : List X) → ((x : X) → Contains xs x → p x ≡ false) → find p xs ≡ None
find_nothing p [] h = refl
find_nothing p (y ∷ ys) h = rw (h y (Contains_head y ys)) (find_nothing p ys (λ x k. h x (Contains_tail y ys x k)))

-- where an element passes, one is found
some_by : {X : Type 0} (p : X → Bool) (xs : List X) (x : X) (o : Option X) → find p xs ≡ o → Contains xs x → p x ≡ true → (y : X) × (find p xs ≡ Some y)
some_by p xs x None e h passes = absurd (both_ways (p x) (find_None p xs x e h) passes)
some_by p xs x (Some y) e h passes = (y, e)

pub find_some : {X : Type 0} (p : X → Bool) (xs : List X) (x : X) → Contains xs x → p x ≡ true → (y : X) × (find p xs ≡ Some y)
find_some p xs x h passes = some_by p xs x (find p xs) refl h passes

-- and where it is the only one, it is that one
pub find_unique : {X : Type 0} (p : X → Bool) (xs : List X) (x : X) → Contains xs x → p x ≡ true → ((y : X) → Contains xs y → p y ≡ true → y ≡ x) → find p xs ≡ Some x
find_unique p xs x h passes only =
    let some = find_some p xs x h passes in
    let found = IsFound_from_find p xs some.0 some.1 in
    some.1 ∙ ap Some (only some.0 found.among found.passes)

-- an element of the list that passes
pub IsFound_from_list_any : {X : Type 0} (p : X → Bool) (xs : List X) → list_any p xs ≡ true → (x : X) × IsFound p xs x
IsFound_from_list_any p xs h = let f = Any-from_list_any p xs h in (f.1, record { among = (f.0, f.2, f.3); passes = f.4 })

pub list_any_from_Contains : {X : Type 0} (p : X → Bool) (xs : List X) (x : X) → Contains xs x → p x ≡ true → list_any p xs ≡ true
list_any_from_Contains p xs x (k, below, is) passes = list_any_at p xs k x below (ap p is ∙ passes)

-- where none passes, no element does, and the other way round
pub list_any_false : {X : Type 0} (p : X → Bool) (xs : List X) (x : X) → list_any p xs ≡ false → Contains xs x → p x ≡ false
list_any_false p xs x none h =
    ⊎_elim (λ (yes : p x ≡ true). absurd (both_ways (list_any p xs) none (list_any_from_Contains p xs x h yes))) (λ no. no) (cases_Bool (p x))

pub list_any_nothing : {X : Type 0} (p : X → Bool) (xs : List X) → ((x : X) → Contains xs x → p x ≡ false) → list_any p xs ≡ false
list_any_nothing p [] h = refl
list_any_nothing p (y ∷ ys) h = rw (h y (Contains_head y ys)) (list_any_nothing p ys (λ x k. h x (Contains_tail y ys x k)))

-- a test that all elements pass
pub list_all_each : {X : Type 0} (p : X → Bool) (xs : List X) → ((x : X) → Contains xs x → p x ≡ true) → list_all p xs ≡ true
list_all_each p [] h = refl
list_all_each p (y ∷ ys) h = and_from (p y) (list_all p ys) (h y (Contains_head y ys)) (list_all_each p ys (λ x k. h x (Contains_tail y ys x k)))

-- two tests that agree on the elements
pub list_any_agree : {X : Type 0} (p q : X → Bool) (xs : List X) → ((x : X) → Contains xs x → p x ≡ q x) → list_any p xs ≡ list_any q xs
list_any_agree p q [] h = refl
list_any_agree p q (y ∷ ys) h =
    ap (λ b. b || list_any p ys) (h y (Contains_head y ys))
    ∙ ap (λ b. q y || b) (list_any_agree p q ys (λ x k. h x (Contains_tail y ys x k)))

-- a list whose elements are mapped
pub list_any_map : {X Y : Type 0} (f : X → Y) (p : Y → Bool) (xs : List X) → list_any p (map f xs) ≡ list_any (λ x. p (f x)) xs
list_any_map f p [] = refl
list_any_map f p (x ∷ xs) = ap (λ (b : Bool). p (f x) || b) (list_any_map f p xs)

pub find_map : {X Y : Type 0} (f : X → Y) (p : Y → Bool) (xs : List X) → find p (map f xs) ≡ option_map f (find (λ x. p (f x)) xs)
find_map f p [] = refl
find_map {X = X} f p (x ∷ xs) =
    ap (λ o. cond (p (f x)) (Some (f x)) o) (find_map f p xs)
    ∙ elim (p (f x)) as (λ b. cond b (Some (f x)) (option_map f (find (λ (z : X). p (f z)) xs)) ≡ option_map f (cond b (Some x) (find (λ (z : X). p (f z)) xs))) [ true ↦ refl | false ↦ refl ]

-- an element of the mapped list is that of an element
pub Contains_map : {X Y : Type 0} (f : X → Y) (xs : List X) (x : X) → Contains xs x → Contains (map f xs) (f x)
Contains_map f [] x (k, below, is) = absurd (omega arith)
Contains_map {Y = Y} f (y ∷ ys) x h =
    let P : Y → Type 0 = λ z. Contains (f y ∷ map f ys) z in
    ⊎_elim
    (λ (same : y ≡ x). subst P (ap f same) (Contains_head (f y) (map f ys)))
    (λ (later : Contains ys x). Contains_tail (f y) (map f ys) (f x) (Contains_map f ys x later))
    (Contains_cases y ys x h)

pub Contains_from_map : {X Y : Type 0} (f : X → Y) (xs : List X) (y : Y) → Contains (map f xs) y → (x : X) × Contains xs x × (f x ≡ y)
Contains_from_map f [] y (k, below, is) = absurd (omega arith)
Contains_from_map f (x ∷ xs) y h =
    ⊎_elim
    (λ (same : f x ≡ y). (x, Contains_head x xs, same))
    (λ (later : Contains (map f xs) y). let r = Contains_from_map f xs y later in (r.0, Contains_tail x xs r.0 r.1, r.2))
    (Contains_cases (f x) (map f xs) y h)

-- an element of the filtered list is one that passes
filtered_by : {X : Type 0} (p : X → Bool) (y : X) (ys : List X) (x : X) (b : Bool) → p y ≡ b → (Contains (filter p ys) x → IsFound p ys x) → Contains (cond b (y ∷ filter p ys) (filter p ys)) x → IsFound p (y ∷ ys) x
filtered_by {X} p y ys x true is rest h =
    let P : X → Type 0 = λ z. IsFound p (y ∷ ys) z in
    ⊎_elim
    (λ (same : y ≡ x). subst P same (record { among = Contains_head y ys; passes = is }))
    (λ (later : Contains (filter p ys) x). let r = rest later in record { among = Contains_tail y ys x r.among; passes = r.passes })
    (Contains_cases y (filter p ys) x h)
filtered_by p y ys x false is rest h = let r = rest h in record { among = Contains_tail y ys x r.among; passes = r.passes }

pub IsFound_from_filter : {X : Type 0} (p : X → Bool) (xs : List X) (x : X) → Contains (filter p xs) x → IsFound p xs x
IsFound_from_filter p [] x (k, below, is) = absurd (omega arith)
IsFound_from_filter p (y ∷ ys) x h = filtered_by p y ys x (p y) refl (λ k. IsFound_from_filter p ys x k) h

pub Contains_filter : {X : Type 0} (p : X → Bool) (xs : List X) (x : X) → Contains xs x → p x ≡ true → Contains (filter p xs) x
Contains_filter p [] x (k, below, is) passes = absurd (omega arith)
Contains_filter {X} p (y ∷ ys) x h passes =
    let P : X → Type 0 = λ z. p z ≡ true → Contains (cond (p y) (y ∷ filter p ys) (filter p ys)) z in
    ⊎_elim
    (λ (same : y ≡ x). subst P same (λ e. rw e (Contains_head y (filter p ys))) passes)
    (λ (later : Contains ys x).
    let rest : Contains (filter p ys) x = Contains_filter p ys x later passes in
    elim (p y) as (λ b. Contains (cond b (y ∷ filter p ys) (filter p ys)) x) [ true ↦ Contains_tail y (filter p ys) x rest | false ↦ rest ])
    (Contains_cases y ys x h)

-- a filter drops nothing of a list whose elements all pass
pub filter_all : {X : Type 0} (p : X → Bool) (xs : List X) → ((x : X) → Contains xs x → p x ≡ true) → filter p xs ≡ xs
filter_all p [] h = refl
filter_all p (x ∷ xs) h = rw (h x (Contains_head x xs)) (ap (λ l. x ∷ l) (filter_all p xs (λ y k. h y (Contains_tail x xs y k))))

-- an element is taken out before the others are mapped, or behind it
pub map_remove : {X Y : Type 0} (f : X → Y) (xs : List X) (k : ℕ) → map f (remove xs k) ≡ remove (map f xs) k
map_remove f [] zero = refl
map_remove f [] (suc k) = refl
map_remove f (x ∷ xs) zero = refl
map_remove {Y = Y} f (x ∷ xs) (suc k) = ap (λ (rest : List Y). f x ∷ rest) (map_remove f xs k)

-- every element of a list of equal ones is that one, where it is also the default
pub get_or_same : {X : Type 0} (n k : ℕ) (x : X) → get_or (replicate n x) k x ≡ x
get_or_same zero k x = refl
get_or_same (suc n) zero x = refl
get_or_same (suc n) (suc k) x = get_or_same n k x

-- an element read by its own default
pub read_again : {X : Type 0} (xs : List X) (i : ℕ) (d : X) → i < length xs → get_or xs i d ≡ get_or xs i (get_or xs i d)
read_again xs i d lt = sym (get_or_from_slice_get xs i (get_or xs i d) (get_or xs i d) (slice_get-get_or xs i d lt))

-- what is kept has all that the test passes
pub find_kept : {X : Type 0} (p keep : X → Bool) (xs : List X) → ((x : X) → p x ≡ true → keep x ≡ true) → find p (filter keep xs) ≡ find p xs
find_kept p keep [] h = refl
find_kept p keep (x ∷ xs) h = elim (cases_Bool (keep x)) as (λ _. find p (filter keep (x ∷ xs)) ≡ find p (x ∷ xs)) [
  | inl stays ↦
      ap (λ (b : Bool). find p (cond b (x ∷ filter keep xs) (filter keep xs))) stays
      ∙ ap (λ o. cond (p x) (Some x) o) (find_kept p keep xs h)
  | inr goes ↦
      let fails : p x ≡ false = false_from_ne_true (p x) (λ passes. both_ways (keep x) goes (h x passes)) in
      ap (λ (b : Bool). find p (cond b (x ∷ filter keep xs) (filter keep xs))) goes
      ∙ find_kept p keep xs h
      ∙ ap (λ (b : Bool). cond b (Some x) (find p xs)) (sym fails)
]

-- the place of the first that passes, and none where none does
pub position_here : {X : Type 0} (p : X → Bool) (xs : List X) (k : ℕ) (d : X) → k < length xs → ((j : ℕ) → j < k → p (get_or xs j d) ≡ false) → p (get_or xs k d) ≡ true → Some k ≡ position p xs
position_here p xs k d lt before passes =
    let first : position_or_len p xs ≡ k = position_or_len_is p xs k d (omega arith) before (λ h. passes) in
    let test : ltb k (length xs) ≡ true = lt-ltb k (length xs) lt in
    sym (ap (λ m. cond (ltb m (length xs)) (Some m) None) first ∙ ap (λ b. cond b (Some k) None) test)

pub position_nowhere : {X : Type 0} (p : X → Bool) (xs : List X) (d : X) → ((j : ℕ) → j < length xs → p (get_or xs j d) ≡ false) → None ≡ position p xs
position_nowhere p xs d none =
    let first : position_or_len p xs ≡ length xs = position_or_len_is p xs (length xs) d (omega arith) none (λ h. absurd (omega arith)) in
    let test : ltb (length xs) (length xs) ≡ false = le-ltb (length xs) (length xs) (omega arith) in
    sym (ap (λ m. cond (ltb m (length xs)) (Some m) None) first ∙ ap (λ b. cond b (Some (length xs)) None) test)
