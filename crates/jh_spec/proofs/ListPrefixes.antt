-- What the loop over a list's items has read.
use Rattle.std.proofs.Common.{◌≡◌, ℕ, suc, ◌+◌, ◌<◌, ◌≤◌, List, [], ◌∷◌, ◌++◌, length, get_or, drop, Option, Some, None, option_map, refl, sym, ap, ◌∙◌, append_assoc, add-one}
use Rattle.std.specs.Prelude.{◌≢◌, ◌==◌, option_and_then, if◌then◌else◌}
use Rattle.std.proofs.lemmas.Bool.{eq-eqb, ne_eqb}
use Rattle.std.proofs.Math.Seq.{drop-cons}
use Rattle.std.proofs.lemmas.List.{append-nil, drop_all}
use Rattle.serde_json.specs.Data.{Data}
use Rattle.serde_json.specs.declared.value.Value.{Value}
use Rattle.serde_json.specs.View.{view, items_view}
use Rattle.jh_spec.specs.Json.{items_told}

-- what is told in front of what is told later
abbrev pub before : {X : Type 0} → List X → Option (List X) → Option (List X)
before xs later = option_map (λ ys. xs ++ ys) later

pub record IsListPrefix {X : Type 0} (tells : Data → Option X) (values : List Value) (count : ℕ) (xs : List X) : Type 0 where
  pub told : before xs (items_told tells (items_view (drop count values))) ≡ items_told tells (items_view values)

before_all : {X : Type 0} (later : Option (List X)) → before [] later ≡ later
before_all None = refl
before_all (Some ys) = refl

before_more : {X : Type 0} (xs : List X) (x : X) (later : Option (List X)) → before (xs ++ x ∷ []) later ≡ before xs (option_map (λ ys. x ∷ ys) later)
before_more xs x None = refl
before_more xs x (Some ys) = ap Some (append_assoc xs (x ∷ []) ys)

-- what an item and those behind it tell
abbrev item_and : {X : Type 0} → Option X → Option (List X) → Option (List X)
item_and x later = option_and_then (λ y. option_map (λ ys. y ∷ ys) later) x

next_item : {X : Type 0} (tells : Data → Option X) (values : List Value) (n : ℕ) (v : Value) → n < length values → v ≡ get_or values n v
    → items_told tells (items_view (drop n values)) ≡ item_and (tells (view v)) (items_told tells (items_view (drop (n + 1) values)))
next_item tells values n v lt is =
    let split : drop n values ≡ v ∷ drop (n + 1) values = rw add-one (drop-cons values n v lt ∙ (λ i. sym is i ∷ drop (suc n) values)) in
    ap (λ (vs : List Value). items_told tells (items_view vs)) split

pub none_told : {X : Type 0} (tells : Data → Option X) (values : List Value) → IsListPrefix tells values 0 []
none_told tells values = record { told = before_all (items_told tells (items_view values)) }

pub one_told : {X : Type 0} (tells : Data → Option X) (values : List Value) (n : ℕ) (xs : List X) (v : Value) (x : X) → n < length values → v ≡ get_or values n v
    → tells (view v) ≡ Some x → IsListPrefix tells values n xs → IsListPrefix tells values (n + 1) (xs ++ x ∷ [])
one_told tells values n xs v x lt is told so_far =
    let later = items_told tells (items_view (drop (n + 1) values)) in
    record { told = before_more xs x later ∙ ap (before xs) (sym (next_item tells values n v lt is ∙ ap (λ o. item_and o later) told)) ∙ so_far.told }

pub told_none : {X : Type 0} (tells : Data → Option X) (values : List Value) (n : ℕ) (xs : List X) (v : Value) → n < length values → v ≡ get_or values n v
    → tells (view v) ≡ None → IsListPrefix tells values n xs → items_told tells (items_view values) ≡ None
told_none tells values n xs v lt is told so_far =
    let later = items_told tells (items_view (drop (n + 1) values)) in
    sym so_far.told ∙ ap (before xs) (next_item tells values n v lt is ∙ ap (λ o. item_and o later) told)

pub all_told : {X : Type 0} (tells : Data → Option X) (values : List Value) (n : ℕ) (xs : List X) → length values ≤ n → IsListPrefix tells values n xs → items_told tells (items_view values) ≡ Some xs
all_told tells values n xs le so_far =
    sym so_far.told ∙ ap (λ (vs : List Value). before xs (items_told tells (items_view vs))) (drop_all n values le) ∙ ap Some (append-nil xs)

-- ---- a list tells as many as it has items

abbrev LengthIs : {X : Type 0} → Option (List X) → ℕ → Type 0
LengthIs None n = Unit {0}
LengthIs (Some xs) n = length xs ≡ n

LengthIs_more : {X : Type 0} (x : Option X) (later : Option (List X)) (n : ℕ) → LengthIs later n → LengthIs (item_and x later) (suc n)
LengthIs_more None later n h = tt
LengthIs_more (Some x) None n h = tt
LengthIs_more (Some x) (Some xs) n h = ap suc h

LengthIs_items : {X : Type 0} (tells : Data → Option X) (values : List Value) → LengthIs (items_told tells (items_view values)) (length values)
LengthIs_items tells [] = refl
LengthIs_items tells (v ∷ vs) = LengthIs_more (tells (view v)) (items_told tells (items_view vs)) (length vs) (LengthIs_items tells vs)

-- so many words, and no others
abbrev pub counted : ℕ → Option (List ℕ) → Option (List ℕ)
counted count words = option_and_then (λ (ws : List ℕ). if length ws == count then Some ws else None) words

counted_none : (count n : ℕ) (words : Option (List ℕ)) → LengthIs words n → n ≢ count → counted count words ≡ None
counted_none count n None h other = refl
counted_none count n (Some ws) h other = let differs : length ws ≢ count = λ e. other (sym h ∙ e) in rw (ne_eqb (length ws) count differs)

pub words_none : (tells : Data → Option ℕ) (count : ℕ) (values : List Value) → length values ≢ count → counted count (items_told tells (items_view values)) ≡ None
words_none tells count values other = counted_none count (length values) (items_told tells (items_view values)) (LengthIs_items tells values) other

pub words_some : (count : ℕ) (words : List ℕ) → length words ≡ count → counted count (Some words) ≡ Some words
words_some count words is = rw (eq-eqb (length words) count is)
