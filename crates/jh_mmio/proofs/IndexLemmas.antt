-- The search by halving finds the one region that has the address.
use Rattle.std.proofs.Common.{◌≡◌, ℕ, ◌-◌, ◌<◌, ◌≤◌, List, true, false, leb, Option, Some, None, refl, sym, ◌∙◌, ap, subst, inl, inr, arith, length, get_or}
use Rattle.std.specs.Prelude.{slice_get, AllPairs, Contains, IsTrue, IsPermutation}
use Rattle.std.specs.Option.{option_map_or}
use Rattle.std.specs.List.Sorted.{IsPartitionPoint, IsNonDecreasingBy}
use Rattle.std.proofs.lemmas.Bool.{cases_lt}
use Rattle.std.proofs.lemmas.Bool.Decides.{nat_tests}
use Rattle.std.proofs.lemmas.Option.{slice_get_within, get_or_from_slice_get, slice_get-get_or}
use Rattle.std.proofs.lemmas.List.Sorted.{Contains-permutation, All-permutation}
use Rattle.jh_cellcfg.specs.declared.region.Region.{Region}
use Rattle.jh_cellcfg.specs.Regions.{has_address, SharesNoAddress}
use Rattle.jh_cellcfg.proofs.Public.{has_address_first, has_address_last, has_address_from}
use Rattle.jh_mmio.specs.Index.{AreNumbers, IsOrder, size_at, start_at}
use Rattle.jh_mmio.specs.Private.Numbers.{IsNumberAt}

pub leb_at : (a b : ℕ) → leb a b ≡ true → a ≤ b
leb_at a b h = grind (arith, nat_tests)

leb_not : (a b : ℕ) → leb a b ≡ false → a ≤ b → ⊥
leb_not a b h le = grind (arith, nat_tests)

-- a number with a size is that of a region
some_of : (o : Option Region) → 0 < option_map_or (λ (r : Region). r.size) o 0 → (r : Region) × (o ≡ Some r)
some_of None h = absurd (omega arith)
some_of (Some r) h = (r, refl)

-- of two numbers whose regions have an address, the first isn't the lower
not_before : (regions : List Region) (k c : ℕ) (r s : Region) (at : ℕ) → AllPairs SharesNoAddress regions → slice_get regions k ≡ Some r → slice_get regions c ≡ Some s → IsTrue (has_address r at) → IsTrue (has_address s at) → k < c → ⊥
not_before regions k c r s at apart k_is c_is in_r in_s lt =
    let P : Region → Type 0 = λ x. IsTrue (has_address x at) in
    apart k c r lt (slice_get_within regions c s c_is) at
    (subst P (sym (get_or_from_slice_get regions k r r k_is)) in_r)
    (subst P (sym (get_or_from_slice_get regions c s r c_is)) in_s)

-- so they are one
pub one_number : (regions : List Region) (k c : ℕ) (r s : Region) (at : ℕ) → AllPairs SharesNoAddress regions → slice_get regions k ≡ Some r → slice_get regions c ≡ Some s → IsTrue (has_address r at) → IsTrue (has_address s at) → c ≡ k
one_number regions k c r s at apart k_is c_is in_r in_s = elim (cases_lt k c) [
  | inl lt ↦ absurd (not_before regions k c r s at apart k_is c_is in_r in_s lt)
  | inr le ↦ elim (cases_lt c k) [
    | inl lt ↦ absurd (not_before regions c k s r at apart c_is k_is in_s in_r lt)
    | inr le' ↦ omega arith
  ]
]

-- where the number of a region that has the address stands in the order
place_before : (regions : List Region) (order : List ℕ) (at n : ℕ) → IsOrder regions order → IsPartitionPoint (λ k. leb (start_at regions k) at ≡ true) (λ k. leb (start_at regions k) at ≡ false) order n
    → (k : ℕ) (r : Region) → slice_get regions k ≡ Some r → IsTrue (has_address r at) → (j : ℕ) × (j < n) × (j < length order) × (get_or order j 0 ≡ k)
place_before regions order at n is point k r k_is has =
    let low = has_address_first r at has in
    let high = has_address_last r at has in
    let size : size_at regions k ≡ r.size = ap (λ (o : Option Region). option_map_or (λ (x : Region). x.size) o 0) k_is in
    let start : start_at regions k ≡ r.virt_start = ap (λ (o : Option Region). option_map_or (λ (x : Region). x.virt_start) o 0) k_is in
    let listed : Contains order k = is.numbers.whole k (omega arith) in
    let j : ℕ = listed.0 in
    let j_lt : j < length order = listed.1 in
    let j_is : get_or order j 0 ≡ k = number_read order j k j_lt listed.2 in
    let before : j < n = elim (cases_lt j n) [
      | inl lt ↦ lt
      | inr le ↦
          let beyond : leb (start_at regions (get_or order j 0)) at ≡ false = point.1 j 0 le j_lt in
          let P : ℕ → Type 0 = λ x. leb (start_at regions x) at ≡ false in
          absurd (leb_not (start_at regions k) at (subst P j_is beyond) (omega arith))
    ] in
    (j, before, j_lt, j_is)
  where
    number_read : (order : List ℕ) (j k : ℕ) → j < length order → get_or order j k ≡ k → get_or order j 0 ≡ k
    number_read order j k lt e = get_or_from_slice_get order j k 0 (slice_get-get_or order j k lt ∙ ap Some e)

-- the number before the point is that of the region
pub only_before : (regions : List Region) (order : List ℕ) (at n : ℕ) → IsOrder regions order → AllPairs SharesNoAddress regions → IsPartitionPoint (λ k. leb (start_at regions k) at ≡ true) (λ k. leb (start_at regions k) at ≡ false) order n
    → 0 < n → n ≤ length order → (k : ℕ) (r : Region) → slice_get regions k ≡ Some r → IsTrue (has_address r at) → get_or order (n - 1) 0 ≡ k
only_before regions order at n is apart point some within k r k_is has =
    let place = place_before regions order at n is point k r k_is has in
    let j : ℕ = place.0 in
    let j_lt : j < n = place.1 in
    let c : ℕ = get_or order (n - 1) 0 in
    let last : n - 1 < length order = omega arith in
    let sorted : start_at regions (get_or order j 0) ≤ start_at regions c = is.sorted j (n - 1) 0 (omega arith) last in
    let K : ℕ → Type 0 = λ x. start_at regions x ≤ start_at regions c in
    let k_first : start_at regions k ≤ start_at regions c = subst K place.3 sorted in
    let k_start : start_at regions k ≡ r.virt_start = ap (λ (o : Option Region). option_map_or (λ (x : Region). x.virt_start) o 0) k_is in
    let c_low : start_at regions c ≤ at = leb_at (start_at regions c) at (point.0 (n - 1) 0 (omega arith) (omega arith)) in
    let found = some_of (slice_get regions c) (is.numbers.some (n - 1) 0 last) in
    let s : Region = found.0 in
    let c_is : slice_get regions c ≡ Some s = found.1 in
    let c_size : size_at regions c ≡ s.size = ap (λ (o : Option Region). option_map_or (λ (x : Region). x.size) o 0) c_is in
    let c_start : start_at regions c ≡ s.virt_start = ap (λ (o : Option Region). option_map_or (λ (x : Region). x.virt_start) o 0) c_is in
    let c_some : 0 < size_at regions c = is.numbers.some (n - 1) 0 last in
    let high = has_address_last r at has in
    one_number regions k c r s s.virt_start apart k_is c_is (has_address_from r s.virt_start (omega arith) (omega arith)) (has_address_from s s.virt_start (omega arith) (omega arith))

pub IsNumberAt_none : (regions : List Region) (order : List ℕ) (at n : ℕ) → IsOrder regions order → IsPartitionPoint (λ k. leb (start_at regions k) at ≡ true) (λ k. leb (start_at regions k) at ≡ false) order n
    → n ≡ 0 → IsNumberAt regions at None
IsNumberAt_none regions order at n is point zero = record {
  own = tt;
  only = λ k r k_is has. let place = place_before regions order at n is point k r k_is has in let lt : place.0 < n = place.1 in absurd (omega arith);
}

pub IsNumberAt_some : (regions : List Region) (order : List ℕ) (at n : ℕ) → IsOrder regions order → AllPairs SharesNoAddress regions → IsPartitionPoint (λ k. leb (start_at regions k) at ≡ true) (λ k. leb (start_at regions k) at ≡ false) order n
    → 0 < n → n ≤ length order → IsNumberAt regions at (Some (get_or order (n - 1) 0))
IsNumberAt_some regions order at n is apart point some within =
    let last : n - 1 < length order = omega arith in
    let found = some_of (slice_get regions (get_or order (n - 1) 0)) (is.numbers.some (n - 1) 0 last) in record {
      own = slice_get_within regions (get_or order (n - 1) 0) found.0 found.1;
      only = λ k r k_is has. ap Some (only_before regions order at n is apart point some within k r k_is has);
    }

-- the numbers in order
pub IsOrder_sorted : (regions : List Region) (numbers order : List ℕ) → AreNumbers regions numbers → IsPermutation numbers order → IsNonDecreasingBy (start_at regions) order → IsOrder regions order
IsOrder_sorted regions numbers order are moved sorted = record {
  numbers = record {
    some = All-permutation (λ k. 0 < size_at regions k) numbers order moved are.some;
    whole = λ k h. Contains-permutation numbers order k moved (are.whole k h);
  };
  sorted = sorted;
}
