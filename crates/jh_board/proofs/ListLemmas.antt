-- What all elements of a list have, or each two, where lists stand one behind the other, or an element is taken out or
-- found; and the elements of a list of equal ones.
use Rattle.std.proofs.Common.{◌≡◌, ℕ, zero, suc, ◌+◌, ◌<◌, Bool, List, [], ◌∷◌, ◌++◌, length, get_or, remove, Some, ◌∙◌, ap, subst, arith}
use Rattle.std.specs.Prelude.{All, AllPairs, Contains, find, replicate, slice_get}
use Rattle.std.specs.List.{AllByRecursion}
use Rattle.std.proofs.lemmas.Option.{slice_get-get_or}
use Rattle.std.proofs.lemmas.List.{length-append, length-replicate, get_or_append_left, get_or-append-add, get_or_default, get_or-replicate}
use Rattle.std.proofs.lemmas.List.Elements.{All-contains, All-from_recursion, recursion_from_All}
use Rattle.jh_num.proofs.Public.{IsFound_from_find}

-- ---- one list behind the other

pub All_left : {X : Type 0} (P : X → Type 0) (xs ys : List X) → All P (xs ++ ys) → All P xs
All_left P xs ys all k d below =
    let more = length-append xs ys in
    let within : k < length (xs ++ ys) = omega arith in
    subst P (get_or_append_left xs ys d k below) (all k d within)

pub All_right : {X : Type 0} (P : X → Type 0) (xs ys : List X) → All P (xs ++ ys) → All P ys
All_right P xs ys all k d below =
    let more = length-append xs ys in
    let within : length xs + k < length (xs ++ ys) = omega arith in
    subst P (get_or-append-add xs ys k d) (all (length xs + k) d within)

-- what each two have, an element of the one list has with one of the other
pub pair_apart : {X : Type 0} (R : X → X → Type 0) (xs ys : List X) (a b : X) → AllPairs R (xs ++ ys) → Contains xs a → Contains ys b → R a b
pair_apart {X} R xs ys a b apart first later =
    let more = length-append xs ys in
    let i = first.0 in
    let j = length xs + later.0 in
    let low : i < length xs = first.1 in
    let high : later.0 < length ys = later.1 in
    let before : i < j = omega arith in
    let within : j < length (xs ++ ys) = omega arith in
    let own : get_or (xs ++ ys) i a ≡ a = get_or_append_left xs ys a i low ∙ first.2 in
    let other : get_or (xs ++ ys) j a ≡ b = get_or-append-add xs ys later.0 a ∙ get_or_default ys later.0 a b high ∙ later.2 in
    let P : X → Type 0 = λ x. R x (get_or (xs ++ ys) j a) in
    let Q : X → Type 0 = λ y. R a y in
    subst Q other (subst P own (apart i j a before within))

-- ---- one element

removed : {X : Type 0} (Q : X → Type 0) (xs : List X) (k : ℕ) → AllByRecursion Q xs → AllByRecursion Q (remove xs k)
removed Q [] zero all = tt
removed Q [] (suc k) all = tt
removed Q (x ∷ xs) zero all = all.1
removed Q (x ∷ xs) (suc k) all = (all.0, removed Q xs k all.1)

-- what all have, all that are left have
pub All_removed : {X : Type 0} (Q : X → Type 0) (xs : List X) (k : ℕ) → All Q xs → All Q (remove xs k)
All_removed Q xs k all = All-from_recursion Q (remove xs k) (removed Q xs k (recursion_from_All Q xs all))

-- and one that is found has it
pub All_from_find : {X : Type 0} (p : X → Bool) (Q : X → Type 0) (xs : List X) (x : X) → find p xs ≡ Some x → All Q xs → Q x
All_from_find p Q xs x e all = All-contains Q xs x all (IsFound_from_find p xs x e).among

-- an element of equal elements
pub slice_get_replicate : {X : Type 0} (n i : ℕ) (x : X) → i < n → slice_get (replicate n x) i ≡ Some x
slice_get_replicate n i x lt = slice_get-get_or (replicate n x) i x (rw (length-replicate n x) lt) ∙ ap Some (get_or-replicate n i x x lt)
