-- Lists from which some are taken out, and lists with one more.
use Rattle.std.proofs.Common.{◌≡◌, ℕ, zero, suc, ◌+◌, ◌-◌, ◌<◌, ◌≤◌, Bool, true, false, not, cond, List, [], ◌∷◌, ◌++◌, length, take, drop, set, get_or, Option, Some, None, refl, sym, ap, ◌∙◌, append-nil, arith}
use Rattle.std.specs.Prelude.{map}
use Rattle.std.specs.List.{filter, find}
use Rattle.std.specs.Option.{option_map, option_or}
use Rattle.std.proofs.lemmas.List.{length-append, length-drop, length-map, length-take, take_all, drop_all, take-append-le}
use Rattle.std.proofs.lemmas.List.Edits.{map_over_more}
use Rattle.std.proofs.lemmas.List.Folds.{find-append}
use Rattle.std.proofs.lemmas.List.Sums.{count_by-le-length, length-filter}
use Rattle.std.proofs.lemmas.Bool.{cond-true, cond-false}
use Rattle.jh_num.proofs.Public.{read_again}

pub none_tail : {X : Type 0} (b : Bool) (x : X) (o : Option X) → cond b (Some x) o ≡ None → o ≡ None
none_tail true x o e = cc
none_tail false x o e = e

pub find_drop : {X : Type 0} (q : X → Bool) (n : ℕ) (xs : List X) → find q xs ≡ None → find q (drop n xs) ≡ None
find_drop q zero xs e = e
find_drop q (suc n) [] e = e
find_drop q (suc n) (x ∷ xs) e = find_drop q n xs (none_tail (q x) x (find q xs) e)

-- one more at the end, which is looked for or isn't
pub find_last : {X : Type 0} (q : X → Bool) (xs : List X) (t : X) → find q xs ≡ None → q t ≡ true → find q (xs ++ t ∷ []) ≡ Some t
find_last q xs t e is =
    find-append q xs (t ∷ []) ∙ ap (λ o. option_or o (find q (t ∷ []))) e ∙ cond-true (q t) (Some t) None is

pub find_more : {X : Type 0} (q : X → Bool) (xs : List X) (t : X) → q t ≡ false → find q (xs ++ t ∷ []) ≡ find q xs
find_more q [] t other = cond-false (q t) (Some t) None other
find_more q (x ∷ xs) t other = ap (λ o. cond (q x) (Some x) o) (find_more q xs t other)

-- a filter leaves no more than there are
pub filter_few : {X : Type 0} (keep : X → Bool) (xs : List X) → length (filter keep xs) ≤ length xs
filter_few keep xs = omega (arith, length-filter keep xs, count_by-le-length keep xs)

fewer_by_cases : {X : Type 0} (b : Bool) (x : X) (ys : List X) (o : Option X) (n : ℕ) → length ys ≤ n → ((o ≡ None → ⊥) → length ys + 1 ≤ n) → (cond b (Some x) o ≡ None → ⊥) → length (cond (not b) (x ∷ ys) ys) + 1 ≤ suc n
fewer_by_cases true x ys o n le h ne = omega arith
fewer_by_cases false x ys o n le h ne = let less : length ys + 1 ≤ n = h ne in omega arith

-- where one is found, taking such out leaves fewer
pub filter_fewer : {X : Type 0} (p : X → Bool) (xs : List X) → (find p xs ≡ None → ⊥) → length (filter (λ x. not (p x)) xs) + 1 ≤ length xs
filter_fewer p [] ne = absurd (ne refl)
filter_fewer p (x ∷ xs) ne = fewer_by_cases (p x) x (filter (λ y. not (p y)) xs) (find p xs) (length xs) (filter_few (λ y. not (p y)) xs) (filter_fewer p xs) ne

-- the newest of a list that is full, or isn't
pub newest_full : {X : Type 0} (xs : List X) → length xs ≡ 64 → drop 1 xs ≡ drop (length xs - 63) xs
newest_full xs e = let one : length xs - 63 ≡ 1 = omega arith in rw one refl

pub newest_few : {X : Type 0} (xs : List X) → length xs ≤ 63 → drop (length xs - 63) xs ≡ xs
newest_few xs le = let none : length xs - 63 ≡ 0 = omega arith in rw none refl

-- a list of lists, mapped up to an index, and read
mapped_length : {X : Type 0} (f : X → X) (xs : List X) (i : ℕ) → length (map f (take i xs) ++ drop i xs) ≡ length xs
mapped_length f xs i =
    let two = length-append (map f (take i xs)) (drop i xs) in
    let mapped = length-map (take i xs) f in
    let front = length-take i xs in
    let back = length-drop i xs in
    omega arith

pub one_mapped : {X : Type 0} (f : X → X) (xs now : List X) (i : ℕ) (new item : X) → i < length xs → now ≡ map f (take i xs) ++ drop i xs → new ≡ f (get_or now i item) → set now i new ≡ map f (take (i + 1) xs) ++ drop (i + 1) xs
one_mapped f xs now i new item lt so_far e =
    let same : length now ≡ length xs = ap length so_far ∙ mapped_length f xs i in
    let inside : i < length now = omega arith in
    ap (set now i) e ∙ map_over_more f xs now i (get_or now i item) lt so_far (read_again now i item inside)

pub all_mapped : {X : Type 0} (f : X → X) (xs now : List X) (i : ℕ) → length xs ≤ i → now ≡ map f (take i xs) ++ drop i xs → now ≡ map f xs
all_mapped f xs now i past e = e ∙ rw (take_all i xs past, drop_all i xs past) (append-nil (map f xs))

-- what was written over all of a list
pub all_written : {X : Type 0} (new old : List X) (n : ℕ) → length new ≡ n → take n (new ++ drop (length new) old) ≡ new
all_written new old n e =
    let le : n ≤ length new = omega arith in
    take-append-le n new (drop (length new) old) le ∙ take_all n new (omega arith)

pub mapped_at : {X : Type 0} (f : List X → List X) (xs : List (List X)) (k : ℕ) → f [] ≡ [] → get_or (map f xs) k [] ≡ f (get_or xs k [])
mapped_at f [] k e = sym e
mapped_at f (x ∷ xs) zero e = refl
mapped_at f (x ∷ xs) (suc k) e = mapped_at f xs k e

-- one empty list more among empty lists
pub empty_more : {X : Type 0} (xs : List (List X)) (list : List X) → list ≡ [] → ((k : ℕ) → get_or xs k [] ≡ []) → (k : ℕ) → get_or (xs ++ list ∷ []) k [] ≡ []
empty_more [] list e all zero = e
empty_more [] list e all (suc k) = refl
empty_more (x ∷ xs) list e all zero = all 0
empty_more (x ∷ xs) list e all (suc k) = empty_more xs list e (λ j. all (suc j)) k

-- the first that is looked for, of two lists, one behind the other
before_by_cases : {X Y : Type 0} (f : X → Y) (b : Bool) (x : X) (o all : Option X) (y : Y) → (option_map f o ≡ Some y → option_map f all ≡ Some y) → option_map f (cond b (Some x) o) ≡ Some y → option_map f (cond b (Some x) all) ≡ Some y
before_by_cases f true x o all y h e = e
before_by_cases f false x o all y h e = h e

pub found_before : {X Y : Type 0} (f : X → Y) (p : X → Bool) (xs ys : List X) (y : Y) → option_map f (find p xs) ≡ Some y → option_map f (find p (xs ++ ys)) ≡ Some y
found_before f p [] ys y e = cc
found_before f p (x ∷ xs) ys y e = before_by_cases f (p x) x (find p xs) (find p (xs ++ ys)) y (found_before f p xs ys y) e

behind_by_cases : {X Y : Type 0} (f : X → Y) (b : Bool) (x : X) (o all rest : Option X) → (option_map f o ≡ None → option_map f all ≡ option_map f rest) → option_map f (cond b (Some x) o) ≡ None → option_map f (cond b (Some x) all) ≡ option_map f rest
behind_by_cases f true x o all rest h e = cc
behind_by_cases f false x o all rest h e = h e

pub found_behind : {X Y : Type 0} (f : X → Y) (p : X → Bool) (xs ys : List X) → option_map f (find p xs) ≡ None → option_map f (find p (xs ++ ys)) ≡ option_map f (find p ys)
found_behind f p [] ys e = refl
found_behind f p (x ∷ xs) ys e = behind_by_cases f (p x) x (find p xs) (find p (xs ++ ys)) (find p ys) (found_behind f p xs ys) e
