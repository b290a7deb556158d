-- What is wanted of the slots of a table, region by region.
use Rattle.std.proofs.Common.{◌≡◌, ℕ, ◌+◌, ◌<◌, Bool, true, false, ◌&&◌, ◌||◌, cond, nat_le, nat_lt, List, [], ◌∷◌, ◌++◌, length, drop, get_or, take, Option, Some, None, Contains, AllPairs, ⊎_elim, refl, sym, ap, subst, ◌∙◌, arith}
use Rattle.std.specs.List.{list_any}
use Rattle.std.specs.Option.{option_or}
use Rattle.std.proofs.lemmas.Bool.{and_from, and_parts, cases_Bool, cond-false, cond-true, le-leb, lt-ltb}
use Rattle.std.proofs.lemmas.List.{take-append-drop, take_more}
use Rattle.std.proofs.lemmas.List.Elements.{Contains-append_left}
use Rattle.std.proofs.lemmas.List.Folds.{find-append, list_any-append}
use Rattle.std.proofs.Math.Bool.{or-false, or-true}
use Rattle.jh_num.specs.Levels.{slot_size}
use Rattle.jh_num.proofs.Public.{IsFound_from_find, read_again}
use Rattle.jh_cellcfg.specs.declared.region.Region.{Region}
use Rattle.jh_cellcfg.specs.Regions.{SharesNoAddress, has_address, virt_end}
use Rattle.jh_cellcfg.proofs.Public.{same_region}
use Rattle.jh_shape.specs.declared.want.Want.{Want}
use Rattle.jh_shape.specs.declared.want.Want.TheVariants.{Table}
use Rattle.jh_shape.specs.Claims.{Claims}
use Rattle.jh_shape.specs.Intervals.{touches}
use Rattle.jh_shape.specs.Private.Marks.{want_by}
use Rattle.jh_shape.specs.Shapes.{is_leaf_by, is_mapped, is_met, is_met_by, leaf_of, leaf_region, want_from, want_of, want_without_leaf}
use Rattle.jh_shape.proofs.LawLemmas.{size_some, touch_there}
use Rattle.jh_shape.proofs.WantLemmas.{leaf_parts}

-- the cell with these regions in place of its own
abbrev pub with_regions : Claims → List Region → Claims
with_regions claims regions = record claims { regions = regions }

-- what makes a leaf of a slot has an address in it
pub leaf_met : (claims : Claims) (level start : ℕ) (region : Region) → is_leaf_by claims level start region ≡ true → is_met_by level start region ≡ true
leaf_met claims level start region h =
    let l = leaf_parts claims level start region h in
    let low = l.low in
    let high = l.high in
    let size = size_some level in
    and_from (is_mapped region) (touches region.virt_start (virt_end region) start (slot_size level)) l.mapped
    (and_from (nat_lt region.virt_start (virt_end region)) (nat_lt region.virt_start (start + slot_size level) && nat_lt start (virt_end region)) (lt-ltb region.virt_start (virt_end region) (omega arith))
    (and_from (nat_lt region.virt_start (start + slot_size level)) (nat_lt start (virt_end region)) (lt-ltb region.virt_start (start + slot_size level) (omega arith)) (lt-ltb start (virt_end region) (omega arith))))

-- what has an address in a slot that another makes a leaf is that one
met_is_leaf : (claims : Claims) (regions : List Region) (level start : ℕ) (leaf region : Region) → AllPairs SharesNoAddress regions → Contains regions leaf → Contains regions region → is_leaf_by claims level start leaf ≡ true → is_met_by level start region ≡ true → leaf ≡ region
met_is_leaf claims regions level start leaf region disjoint held here h met =
    let l = leaf_parts claims level start leaf h in
    let low = l.low in
    let high = l.high in
    let m = and_parts (is_mapped region) (touches region.virt_start (virt_end region) start (slot_size level)) met in
    let t = touch_there region.virt_start (virt_end region) start (slot_size level) m.1 (size_some level) in
    let at = t.0 in
    let a = t.1 in
    let b = t.2 in
    let own : has_address region at ≡ true = and_from (nat_le region.virt_start at) (nat_lt at (virt_end region)) (le-leb region.virt_start at t.3) (lt-ltb at (virt_end region) t.4) in
    let its : has_address leaf at ≡ true = and_from (nat_le leaf.virt_start at) (nat_lt at (virt_end leaf)) (le-leb leaf.virt_start at (omega arith)) (lt-ltb at (virt_end leaf) (omega arith)) in
    same_region regions leaf region at disjoint held here its own

-- one region more, behind those so far
leaf_more : (claims : Claims) (xs : List Region) (region : Region) (level start : ℕ) → leaf_region (with_regions claims (xs ++ region ∷ [])) level start ≡ option_or (leaf_region (with_regions claims xs) level start) (cond (is_leaf_by claims level start region) (Some region) None)
leaf_more claims xs region level start = find-append (λ (r : Region). is_leaf_by claims level start r) xs (region ∷ [])

met_more : (claims : Claims) (xs : List Region) (region : Region) (level start : ℕ) → is_met (with_regions claims (xs ++ region ∷ [])) level start ≡ (is_met (with_regions claims xs) level start || is_met_by level start region)
met_more claims xs region level start =
    list_any-append (λ (r : Region). is_met_by level start r) xs (region ∷ [])
    ∙ ap (λ b. list_any (λ (r : Region). is_met_by level start r) xs || b) (or-false (is_met_by level start region))

-- what is wanted with it
abbrev wanted_with : Claims → ℕ → ℕ → Bool → Option Region → Want
wanted_with claims level start met None = want_without_leaf met
wanted_with claims level start met (Some region) = leaf_of claims region start

split : (claims : Claims) (xs : List Region) (level start : ℕ) (o : Option Region) → want_from (with_regions claims xs) level start o ≡ wanted_with claims level start (is_met (with_regions claims xs) level start) o
split claims xs level start None = refl
split claims xs level start (Some region) = refl

step_by : (claims : Claims) (level start : ℕ) (region : Region) (before : Bool) (o : Option Region) → ((leaf : Region) → o ≡ Some leaf → is_met_by level start region ≡ true → (leaf ≡ region) × (is_leaf_by claims level start leaf ≡ true)) → wanted_with claims level start (before || is_met_by level start region) (option_or o (cond (is_leaf_by claims level start region) (Some region) None)) ≡ cond (is_met_by level start region) (want_by claims level start region) (wanted_with claims level start before o)
step_by claims level start region before (Some leaf) same =
    ⊎_elim
    (λ met.
    let is = same leaf refl met in
    let own : is_leaf_by claims level start region ≡ true = subst (λ (r : Region). is_leaf_by claims level start r ≡ true) is.0 is.1 in
    ap (λ (r : Region). leaf_of claims r start) is.0
    ∙ sym (cond-true (is_leaf_by claims level start region) (leaf_of claims region start) Table own)
    ∙ sym (cond-true (is_met_by level start region) (want_by claims level start region) (leaf_of claims leaf start) met))
    (λ unmet. sym (cond-false (is_met_by level start region) (want_by claims level start region) (leaf_of claims leaf start) unmet))
    (cases_Bool (is_met_by level start region))
step_by claims level start region before None same =
    let W : Option Region → Want = λ o. wanted_with claims level start (before || is_met_by level start region) o in
    let is_leaf = is_leaf_by claims level start region in
    let met_test = is_met_by level start region in
    ⊎_elim
    (λ leaf.
    let met = leaf_met claims level start region leaf in
    ap W (cond-true is_leaf (Some region) None leaf)
    ∙ sym (cond-true is_leaf (leaf_of claims region start) Table leaf)
    ∙ sym (cond-true met_test (want_by claims level start region) (want_without_leaf before) met))
    (λ none.
    ap W (cond-false is_leaf (Some region) None none)
    ∙ ⊎_elim
    (λ met.
    ap want_without_leaf (ap (λ b. before || b) met ∙ or-true before)
    ∙ sym (cond-false is_leaf (leaf_of claims region start) Table none)
    ∙ sym (cond-true met_test (want_by claims level start region) (want_without_leaf before) met))
    (λ unmet.
    ap want_without_leaf (ap (λ b. before || b) unmet ∙ or-false before)
    ∙ sym (cond-false met_test (want_by claims level start region) (want_without_leaf before) unmet))
    (cases_Bool met_test))
    (cases_Bool is_leaf)

-- an element of the first so many is one of the list
within_take : {X : Type 0} (xs : List X) (n : ℕ) (x : X) → Contains (take n xs) x → Contains xs x
within_take xs n x h = subst (λ (ys : List _). Contains ys x) (take-append-drop n xs) (Contains-append_left (take n xs) (drop n xs) x h)

pub one_region_more : (claims : Claims) (regions : List Region) (i level start : ℕ) (d : Region) → AllPairs SharesNoAddress regions → i < length regions → want_of (with_regions claims (take (i + 1) regions)) level start ≡ cond (is_met_by level start (get_or regions i d)) (want_by claims level start (get_or regions i d)) (want_of (with_regions claims (take i regions)) level start)
one_region_more claims regions i level start d disjoint l =
    let region = get_or regions i d in
    let xs = take i regions in
    let here : Contains regions region = (i, l, sym (read_again regions i d l)) in
    let o = leaf_region (with_regions claims xs) level start in
    let met = is_met (with_regions claims xs) level start in
    let same : (leaf : Region) → o ≡ Some leaf → is_met_by level start region ≡ true → (leaf ≡ region) × (is_leaf_by claims level start leaf ≡ true) = λ leaf e m.
    (let f = IsFound_from_find (λ (r : Region). is_leaf_by claims level start r) xs leaf e in
    (met_is_leaf claims regions level start leaf region disjoint (within_take regions i leaf f.among) here f.passes m, f.passes)) in
    ap (λ (rs : List Region). want_of (with_regions claims rs) level start) (take_more regions i d l)
    ∙ split claims (xs ++ region ∷ []) level start (leaf_region (with_regions claims (xs ++ region ∷ [])) level start)
    ∙ ap (λ b. wanted_with claims level start b (leaf_region (with_regions claims (xs ++ region ∷ [])) level start)) (met_more claims xs region level start)
    ∙ ap (λ p. wanted_with claims level start (met || is_met_by level start region) p) (leaf_more claims xs region level start)
    ∙ step_by claims level start region met o same
    ∙ ap (λ w. cond (is_met_by level start region) (want_by claims level start region) w) (sym (split claims xs level start o))

pub some_either : (b : Bool) (x y : Want) → cond b (Some x) (Some y) ≡ Some (cond b x y)
some_either true x y = refl
some_either false x y = refl
