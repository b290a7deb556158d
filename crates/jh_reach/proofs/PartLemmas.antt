-- An access is looked at part by part, each in one page: the second only where the first is given.
use Rattle.std.proofs.Common.{◌≡◌, ℕ, ◌+◌, ◌-◌, ◌%◌, ◌<◌, ◌≤◌, ◌⊎◌, inl, inr, zero, suc, Bool, true, false, leb, ◌&&◌, is_some, if◌then◌else◌, List, [], ◌∷◌, ◌++◌, Option, Some, None, refl, sym, ap, subst, ◌∙◌, arith}
use Rattle.std.specs.List.{list_all, filter_map, flat_map}
use Rattle.std.specs.Option.{option_map, option_and_then}
use Rattle.std.proofs.lemmas.Bool.{cases_lt, le-leb, lt-leb, ne_eqb}
use Rattle.std.proofs.lemmas.List.{append-nil}
use Rattle.std.proofs.lemmas.List.Elements.{filter_map-append}
use Rattle.std.proofs.lemmas.Grind.{flat_map-append}
use Rattle.jh_num.specs.declared.address.TheConstants.{ADDRESS_END}
use Rattle.jh_reach.specs.declared.access.Access.{Access}
use Rattle.jh_reach.specs.Places.{Sight, given, place_given, places_from, places_given}
use Rattle.jh_reach.specs.Looks.{look_at, looks_at, page_of, pages_in, pages_of, reads_at, reads_of, up_to_refused}
use Rattle.jh_reach.specs.Private.Parts.{are_given, low_of, high_of, IsSplit}

-- ---- places

map_nil : (o : Option (List ℕ)) → o ≡ option_map (λ (qs : List ℕ). [] ++ qs) o
map_nil None = refl
map_nil (Some qs) = refl

more_inside : (p : ℕ) (a b : Option (List ℕ)) → option_map (λ (qs : List ℕ). p ∷ qs) (option_and_then (λ (ps : List ℕ). option_map (λ (qs : List ℕ). ps ++ qs) b) a) ≡ option_and_then (λ (ps : List ℕ). option_map (λ (qs : List ℕ). ps ++ qs) b) (option_map (λ (ps : List ℕ). p ∷ ps) a)
more_inside p None b = refl
more_inside p (Some ps) None = refl
more_inside p (Some ps) (Some qs) = refl

more_places : (o : Option ℕ) (whole a b : Option (List ℕ)) → whole ≡ option_and_then (λ (ps : List ℕ). option_map (λ (qs : List ℕ). ps ++ qs) b) a
    → option_and_then (λ (p : ℕ). option_map (λ (ps : List ℕ). p ∷ ps) whole) o ≡ option_and_then (λ (ps : List ℕ). option_map (λ (qs : List ℕ). ps ++ qs) b) (option_and_then (λ (p : ℕ). option_map (λ (ps : List ℕ). p ∷ ps) a) o)
more_places None whole a b is = refl
more_places (Some p) whole a b is = ap (option_map (λ (ps : List ℕ). p ∷ ps)) is ∙ more_inside p a b

-- so many addresses and those behind them
pub places_joined : (f : ℕ → Option ℕ) (at m n : ℕ) → places_from f at (m + n) ≡ option_and_then (λ (ps : List ℕ). option_map (λ (qs : List ℕ). ps ++ qs) (places_from f (at + m) n)) (places_from f at m)
places_joined f at zero n =
    let none : 0 + n ≡ n = omega arith in
    let here : at ≡ at + 0 = omega arith in
    ap (places_from f at) none ∙ map_nil (places_from f at n) ∙ ap (λ k. option_map (λ (qs : List ℕ). [] ++ qs) (places_from f k n)) here
places_joined f at (suc m) n =
    let next : at + 1 + m ≡ at + suc m = omega arith in
    let count : suc m + n ≡ suc (m + n) = omega arith in
    let rest : places_from f (at + 1) (m + n) ≡ option_and_then (λ (ps : List ℕ). option_map (λ (qs : List ℕ). ps ++ qs) (places_from f (at + suc m) n)) (places_from f (at + 1) m) =
    places_joined f (at + 1) m n ∙ ap (λ k. option_and_then (λ (ps : List ℕ). option_map (λ (qs : List ℕ). ps ++ qs) (places_from f k n)) (places_from f (at + 1) m)) next in
    ap (places_from f at) count ∙ more_places (f at) (places_from f (at + 1) (m + n)) (places_from f (at + 1) m) (places_from f (at + suc m) n) rest

-- ---- pages

pub no_page : (at width : ℕ) → width ≡ 0 → pages_of at width ≡ []
no_page at width none = subst (λ n. pages_of at n ≡ []) (sym none) refl

pub one_page : (at width : ℕ) → 0 < width → at % 4096 + width ≤ 4096 → pages_of at width ≡ page_of at ∷ []
one_page at width some within =
    ap (λ (b : Bool). if b then [] else (if leb (at % 4096 + width) 4096 then page_of at ∷ [] else page_of at ∷ (page_of at + 4096) ∷ [])) (ne_eqb width 0 (λ none. absurd (omega arith)))
    ∙ ap (λ (b : Bool). if b then page_of at ∷ [] else page_of at ∷ (page_of at + 4096) ∷ []) (le-leb (at % 4096 + width) 4096 within)

pub two_pages : (at width : ℕ) → 0 < width → 4096 < at % 4096 + width → pages_of at width ≡ page_of at ∷ (page_of at + 4096) ∷ []
two_pages at width some beyond =
    ap (λ (b : Bool). if b then [] else (if leb (at % 4096 + width) 4096 then page_of at ∷ [] else page_of at ∷ (page_of at + 4096) ∷ [])) (ne_eqb width 0 (λ none. absurd (omega arith)))
    ∙ ap (λ (b : Bool). if b then page_of at ∷ [] else page_of at ∷ (page_of at + 4096) ∷ []) (lt-leb (at % 4096 + width) 4096 beyond)

pub in_pages : (access : Access) → access.at + access.width ≤ ADDRESS_END → pages_in access ≡ pages_of access.at access.width
in_pages access within = ap (λ (b : Bool). if b then pages_of access.at access.width else []) (le-leb (access.at + access.width) ADDRESS_END within)

parts_by : (at width here : ℕ) → width ≤ 8 → here ≤ width → at % 4096 + here ≤ 4096 → (here < width → at % 4096 + here ≡ 4096) → (here < width) ⊎ (width ≤ here) → pages_of at width ≡ pages_of at here ++ pages_of (at + here) (width - here)
parts_by at width here few fewer page all (inl lt) =
    let full : at % 4096 + here ≡ 4096 = all lt in
    let next : page_of at + 4096 ≡ page_of (at + here) = omega arith in
    two_pages at width (omega arith) (omega arith)
    ∙ ap (λ (n : ℕ). page_of at ∷ n ∷ []) next
    ∙ sym (ap (λ (l : List ℕ). l ++ pages_of (at + here) (width - here)) (one_page at here (omega arith) page)
    ∙ ap (λ (l : List ℕ). page_of at ∷ l) (one_page (at + here) (width - here) (omega arith) (omega arith)))
parts_by at width here few fewer page all (inr le) =
    let same : width ≡ here = omega arith in
    ap (pages_of at) same
    ∙ sym (append-nil (pages_of at here))
    ∙ sym (ap (λ (l : List ℕ). pages_of at here ++ l) (no_page (at + here) (width - here) (omega arith)))

pub pages_joined : (access : Access) (here : ℕ) → IsSplit access here → pages_in access ≡ pages_in (low_of access here) ++ pages_in (high_of access here)
pages_joined access here split =
    let within : access.at + access.width ≤ ADDRESS_END = split.within in
    let fewer : here ≤ access.width = split.fewer in
    in_pages access split.within
    ∙ parts_by access.at access.width here split.few split.fewer split.page split.all (cases_lt here access.width)
    ∙ sym (ap (λ (l : List ℕ). l ++ pages_in (high_of access here)) (in_pages (low_of access here) (omega arith))
    ∙ ap (λ (l : List ℕ). pages_of access.at here ++ l) (in_pages (high_of access here) (omega arith)))

up_to_by : (b : Bool) (x : ℕ) (whole a c : List ℕ) (rest : Bool) → whole ≡ a ++ (if rest then c else []) → x ∷ (if b then whole else []) ≡ (x ∷ (if b then a else [])) ++ (if b && rest then c else [])
up_to_by true x whole a c rest is = ap (λ (l : List ℕ). x ∷ l) is
up_to_by false x whole a c rest is = refl

up_to_joined : (g : ℕ → Bool) (xs ys : List ℕ) → up_to_refused g (xs ++ ys) ≡ up_to_refused g xs ++ (if list_all g xs then up_to_refused g ys else [])
up_to_joined g [] ys = refl
up_to_joined g (x ∷ xs) ys = up_to_by (g x) x (up_to_refused g (xs ++ ys)) (up_to_refused g xs) (up_to_refused g ys) (list_all g xs) (up_to_joined g xs ys)

pub looked_joined : (s : Sight) (access : Access) (here : ℕ) → IsSplit access here → up_to_refused (λ page. is_some (given s access.needs page)) (pages_in access) ≡ up_to_refused (λ page. is_some (given s access.needs page)) (pages_in (low_of access here)) ++ (if are_given s (low_of access here) then up_to_refused (λ page. is_some (given s access.needs page)) (pages_in (high_of access here)) else [])
looked_joined s access here split =
    ap (up_to_refused (λ page. is_some (given s access.needs page))) (pages_joined access here split)
    ∙ up_to_joined (λ page. is_some (given s access.needs page)) (pages_in (low_of access here)) (pages_in (high_of access here))

-- ---- looks

pub looks_both : (s : Sight) (access : Access) (here : ℕ) → IsSplit access here → are_given s (low_of access here) ≡ true → looks_at s access ≡ looks_at s (low_of access here) ++ looks_at s (high_of access here)
looks_both s access here split is =
    let low : List ℕ = up_to_refused (λ page. is_some (given s access.needs page)) (pages_in (low_of access here)) in
    let high : List ℕ = up_to_refused (λ page. is_some (given s access.needs page)) (pages_in (high_of access here)) in
    ap (filter_map (look_at s access.needs)) (looked_joined s access here split ∙ ap (λ (b : Bool). low ++ (if b then high else [])) is)
    ∙ filter_map-append (look_at s access.needs) low high

pub reads_low : (s : Sight) (access : Access) (here : ℕ) → IsSplit access here → are_given s (low_of access here) ≡ false → reads_of s access ≡ reads_of s (low_of access here)
reads_low s access here split not =
    let low : List ℕ = up_to_refused (λ page. is_some (given s access.needs page)) (pages_in (low_of access here)) in
    ap (flat_map (reads_at s)) (looked_joined s access here split
    ∙ ap (λ (b : Bool). low ++ (if b then up_to_refused (λ page. is_some (given s access.needs page)) (pages_in (high_of access here)) else [])) not
    ∙ append-nil low)

pub reads_both : (s : Sight) (access : Access) (here : ℕ) → IsSplit access here → are_given s (low_of access here) ≡ true → reads_of s access ≡ reads_of s (low_of access here) ++ reads_of s (high_of access here)
reads_both s access here split is =
    let low : List ℕ = up_to_refused (λ page. is_some (given s access.needs page)) (pages_in (low_of access here)) in
    let high : List ℕ = up_to_refused (λ page. is_some (given s access.needs page)) (pages_in (high_of access here)) in
    ap (flat_map (reads_at s)) (looked_joined s access here split ∙ ap (λ (b : Bool). low ++ (if b then high else [])) is)
    ∙ flat_map-append (reads_at s) low high

-- ---- the places of both parts

pub given_both : (s : Sight) (access : Access) (here : ℕ) → IsSplit access here → places_given s access ≡ option_and_then (λ (ps : List ℕ). option_map (λ (qs : List ℕ). ps ++ qs) (places_from (place_given s access.needs) (access.at + here) (access.width - here))) (places_from (place_given s access.needs) access.at here)
given_both s access here split =
    let fewer : here ≤ access.width = split.fewer in
    ap (λ (b : Bool). if b then places_from (place_given s access.needs) access.at access.width else None) (le-leb (access.at + access.width) ADDRESS_END split.within)
    ∙ ap (places_from (place_given s access.needs) access.at) (omega arith)
    ∙ places_joined (place_given s access.needs) access.at here (access.width - here)

-- the first part has none
pub given_not_low : (s : Sight) (access : Access) (here : ℕ) → IsSplit access here → places_from (place_given s access.needs) access.at here ≡ None → places_given s access ≡ None
given_not_low s access here split none =
    given_both s access here split ∙ ap (option_and_then (λ (ps : List ℕ). option_map (λ (qs : List ℕ). ps ++ qs) (places_from (place_given s access.needs) (access.at + here) (access.width - here)))) none

not_after : (o : Option (List ℕ)) → option_and_then (λ (ps : List ℕ). option_map (λ (qs : List ℕ). ps ++ qs) None) o ≡ None
not_after None = refl
not_after (Some ps) = refl

-- the second part has none
pub given_not_high : (s : Sight) (access : Access) (here : ℕ) → IsSplit access here → places_from (place_given s access.needs) (access.at + here) (access.width - here) ≡ None → places_given s access ≡ None
given_not_high s access here split none =
    given_both s access here split ∙ ap (λ (o : Option (List ℕ)). option_and_then (λ (ps : List ℕ). option_map (λ (qs : List ℕ). ps ++ qs) o) (places_from (place_given s access.needs) access.at here)) none ∙ not_after (places_from (place_given s access.needs) access.at here)

pub given_runs : (s : Sight) (access : Access) (here : ℕ) (ps qs : List ℕ) → IsSplit access here → places_from (place_given s access.needs) access.at here ≡ Some ps → places_from (place_given s access.needs) (access.at + here) (access.width - here) ≡ Some qs → places_given s access ≡ Some (ps ++ qs)
given_runs s access here ps qs split one other =
    given_both s access here split
    ∙ ap (λ (o : Option (List ℕ)). option_and_then (λ (ps : List ℕ). option_map (λ (qs : List ℕ). ps ++ qs) o) (places_from (place_given s access.needs) access.at here)) other
    ∙ ap (option_and_then (λ (ps' : List ℕ). option_map (λ (qs : List ℕ). ps' ++ qs) (Some qs))) one
