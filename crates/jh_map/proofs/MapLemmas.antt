-- The map of no region, of two lists of regions, and of the same regions in another order.
use Rattle.std.proofs.Common.{◌≡◌, ℕ, ◌+◌, ◌-◌, ◌<◌, ◌≤◌, Bool, true, ◌||◌, not, List, [], ◌∷◌, ◌++◌, length, get_or, take, sym, subst, ◌∙◌, ⊎_elim, arith}
use Rattle.std.specs.Prelude.{AllPairs, Contains}
use Rattle.std.specs.List.Sorted.{IsPermutation, IsNonDecreasingBy}
use Rattle.std.proofs.lemmas.Bool.{and_parts, cases_lt}
use Rattle.std.proofs.lemmas.List.{get_or-take, get_or_default, take_more, length-take-le}
use Rattle.std.proofs.lemmas.List.Elements.{All-weaker, All-append, Contains-append_left, Contains-append_right, Contains-append_cases}
use Rattle.std.proofs.lemmas.List.Sorted.{Contains-permutation, IsPermutation-sym}
use Rattle.jh_num.proofs.Public.{Contains_cases}
use Rattle.jh_cellcfg.specs.declared.region.Region.{Region}
use Rattle.jh_cellcfg.specs.Regions.{has_address, is_comm, place_in, SharesNoAddress}
use Rattle.jh_cellcfg.proofs.Public.{has_address_first, has_address_last, has_address_from}
use Rattle.jh_map.specs.declared.run.Run.{Run}
use Rattle.jh_map.specs.Maps.{is_granted, IsRunOf, IsRunIn, IsInRun, EndsBefore, IsMap}
use Rattle.jh_map.proofs.ListLemmas.{all_pairs_append, all_pairs_moved}

-- an address that is granted is the region's
pub granted_has : (closed : ℕ → Bool) (r : Region) (at : ℕ) → is_granted closed r at ≡ true → has_address r at ≡ true
granted_has closed r at h = (and_parts (has_address r at) (is_comm r || not (closed (place_in r at))) h).0

-- so are the ends of a run
pub first_granted : (closed : ℕ → Bool) (r : Region) (run : Run) → IsRunOf closed r run → is_granted closed r run.start ≡ true
first_granted closed r run of = let some = of.some in of.each run.start (record { first = omega arith; last = some })

pub last_granted : (closed : ℕ → Bool) (r : Region) (run : Run) → IsRunOf closed r run → is_granted closed r (run.end - 1) ≡ true
last_granted closed r run of = let some = of.some in of.each (run.end - 1) (record { first = omega arith; last = omega arith })

-- the regions are one
pub alone : (r s : Region) → Contains (r ∷ []) s → r ≡ s
alone r s held = ⊎_elim (λ (e : r ≡ s). e) (λ (later : Contains [] s). absurd (omega (arith, later.1))) (Contains_cases r [] s held)

-- the addresses that the one region grants are below those of the other
pub Precedes : (ℕ → Bool) → Region → Region → Type 0
Precedes closed r s = (a b : ℕ) → is_granted closed r a ≡ true → is_granted closed s b ≡ true → a < b

ends_before : (closed : ℕ → Bool) (r s : Region) (one other : Run) → Precedes closed r s → IsRunOf closed r one → IsRunOf closed s other → EndsBefore one other
unfolding Precedes
ends_before closed r s one other before of other_of =
    let lt = before (one.end - 1) other.start (last_granted closed r one of) (first_granted closed s other other_of) in
    let some = of.some in
    omega arith

own_left : (closed : ℕ → Bool) (xs ys : List Region) (run : Run) → IsRunIn closed xs run → IsRunIn closed (xs ++ ys) run
own_left closed xs ys run is = record { region = is.region; among = Contains-append_left xs ys is.region is.among; of = is.of }

own_right : (closed : ℕ → Bool) (xs ys : List Region) (run : Run) → IsRunIn closed ys run → IsRunIn closed (xs ++ ys) run
own_right closed xs ys run is = record { region = is.region; among = Contains-append_right xs ys is.region is.among; of = is.of }

told_left : (closed : ℕ → Bool) (rs ss : List Run) (r : Region) (at : ℕ) → IsInRun closed rs r at → IsInRun closed (rs ++ ss) r at
told_left closed rs ss r at is = record { run = is.run; among = Contains-append_left rs ss is.run is.among; of = is.of; has = is.has }

told_right : (closed : ℕ → Bool) (rs ss : List Run) (r : Region) (at : ℕ) → IsInRun closed ss r at → IsInRun closed (rs ++ ss) r at
told_right closed rs ss r at is = record { run = is.run; among = Contains-append_right rs ss is.run is.among; of = is.of; has = is.has }

-- the map of regions, and that of others whose addresses are above
pub joined_map : (closed : ℕ → Bool) (xs ys : List Region) (rs ss : List Run) → ((r s : Region) → Contains xs r → Contains ys s → Precedes closed r s) → IsMap closed xs rs → IsMap closed ys ss → IsMap closed (xs ++ ys) (rs ++ ss)
joined_map closed xs ys rs ss before one other = record {
  own = All-append (IsRunIn closed (xs ++ ys)) rs ss
      (All-weaker (IsRunIn closed xs) (IsRunIn closed (xs ++ ys)) (λ run is. own_left closed xs ys run is) rs one.own)
      (All-weaker (IsRunIn closed ys) (IsRunIn closed (xs ++ ys)) (λ run is. own_right closed xs ys run is) ss other.own);
  whole = λ r at held is. ⊎_elim
      (λ (low : Contains xs r). told_left closed rs ss r at (one.whole r at low is))
      (λ (high : Contains ys r). told_right closed rs ss r at (other.whole r at high is))
      (Contains-append_cases xs ys r held);
  order = all_pairs_append EndsBefore rs ss one.order other.order
      (λ i j d il jl.
      let low = one.own i d il in
      let high = other.own j d jl in
      ends_before closed low.region high.region (get_or rs i d) (get_or ss j d) (before low.region high.region low.among high.among) low.of high.of);
}

-- the map of the same regions in another order
pub moved_map : (closed : ℕ → Bool) (xs ys : List Region) (runs : List Run) → IsPermutation xs ys → IsMap closed ys runs → IsMap closed xs runs
moved_map closed xs ys runs moved is = record {
  own = All-weaker (IsRunIn closed ys) (IsRunIn closed xs)
      (λ run own. record { region = own.region; among = Contains-permutation ys xs own.region (IsPermutation-sym xs ys moved) own.among; of = own.of })
      runs is.own;
  whole = λ r at held granted. is.whole r at (Contains-permutation xs ys r moved held) granted;
  order = is.order;
}

-- of regions in the order of their first addresses, of which no two share one, each precedes each later one
precedes : (closed : ℕ → Bool) (r s : Region) → r.virt_start ≤ s.virt_start → SharesNoAddress r s → Precedes closed r s
unfolding Precedes
precedes closed r s le apart a b a_is b_is =
    let a_has = granted_has closed r a a_is in
    let b_has = granted_has closed s b b_is in
    let a_high = has_address_last r a a_has in
    let b_low = has_address_first s b b_has in
    let b_high = has_address_last s b b_has in
    ⊎_elim
    (λ (lt : a < b). lt)
    (λ (ge : b ≤ a). absurd (apart s.virt_start (has_address_from r s.virt_start le (omega arith)) (has_address_from s s.virt_start (omega arith) (omega arith))))
    (cases_lt a b)

flip_apart : (r s : Region) → SharesNoAddress r s → SharesNoAddress s r
flip_apart r s apart at s_has r_has = apart at r_has s_has

pub sorted_precedes : (closed : ℕ → Bool) (regions sorted : List Region) (k : ℕ) (d : Region) → IsPermutation regions sorted → IsNonDecreasingBy (λ (r : Region). r.virt_start) sorted → AllPairs SharesNoAddress regions → k < length sorted
    → (r : Region) → Contains (take k sorted) r → Precedes closed r (get_or sorted k d)
sorted_precedes closed regions sorted k d moved up apart lt r (j, jl, j_is) =
    let n : length (take k sorted) ≡ k = length-take-le k sorted (omega arith) in
    let jk : j < k = omega arith in
    let pairs = all_pairs_moved SharesNoAddress flip_apart regions sorted moved apart in
    let is : get_or sorted j d ≡ r = get_or_default sorted j d r (omega arith) ∙ sym (get_or-take k sorted j r jk) ∙ j_is in
    let P : Region → Type 0 = λ x. Precedes closed x (get_or sorted k d) in
    subst P is (precedes closed (get_or sorted j d) (get_or sorted k d) (up j k d (omega arith) lt) (pairs j k d jk lt))

-- so the map of the first of them grows by that of the next
pub more_map : (closed : ℕ → Bool) (regions sorted : List Region) (k : ℕ) (d : Region) (rs ss : List Run) → IsPermutation regions sorted → IsNonDecreasingBy (λ (r : Region). r.virt_start) sorted → AllPairs SharesNoAddress regions → k < length sorted
    → IsMap closed (take k sorted) rs → IsMap closed (get_or sorted k d ∷ []) ss → IsMap closed (take (k + 1) sorted) (rs ++ ss)
more_map closed regions sorted k d rs ss moved up apart lt one other =
    let P : List Region → Type 0 = λ xs. IsMap closed xs (rs ++ ss) in
    subst P (sym (take_more sorted k d lt))
    (joined_map closed (take k sorted) (get_or sorted k d ∷ []) rs ss
    (λ r s r_held s_held.
    let Q : Region → Type 0 = λ y. Precedes closed r y in
    subst Q (alone (get_or sorted k d) s s_held) (sorted_precedes closed regions sorted k d moved up apart lt r r_held))
    one other)
