-- Windows that are sought behind what stands in the way.
use Rattle.std.proofs.Common.{◌≡◌, ℕ, ◌+◌, ◌^◌, ◌<◌, ◌≤◌, inl, inr, true, false, ◌&&◌, nat_lt, List, Option, Some, None, lit<, arith, find}
use Rattle.std.proofs.lemmas.Bool.{cases_lt, both_ways, and_parts, and_from, ltb-true, lt-ltb}
use Rattle.jh_num.proofs.Public.{IsFound_from_find, find_None, list_any_from_Contains, list_any_nothing}
use Rattle.jh_cellcfg.specs.declared.region.Region.{Region}
use Rattle.jh_cellcfg.specs.Regions.{has_size, virt_end, virt_meet}
use Rattle.jh_talk.specs.declared.window.TheConstants.{WINDOW_SIZE}
use Rattle.jh_talk.specs.Addresses.{addresses_from, is_met}
use Rattle.jh_talk.specs.Windows.{IsWindow, HasNoWindow}
use Rattle.jh_talk.specs.Private.Steps.{IsPageBehind}

-- two regions meet where each begins before the other ends, and both have a size
pub record Meets (x y : Region) : Type 0 where
  pub some : 0 < x.size
  pub other : 0 < y.size
  pub begins : x.virt_start < virt_end y
  pub ends : y.virt_start < virt_end x

pub meets_to : (x y : Region) → virt_meet x y ≡ true → Meets x y
meets_to x y e =
    let p = and_parts (has_size x && has_size y) (nat_lt x.virt_start (virt_end y) && nat_lt y.virt_start (virt_end x)) e in
    let s = and_parts (has_size x) (has_size y) p.0 in
    let l = and_parts (nat_lt x.virt_start (virt_end y)) (nat_lt y.virt_start (virt_end x)) p.1 in
    record {
      some = ltb-true 0 x.size s.0;
      other = ltb-true 0 y.size s.1;
      begins = ltb-true x.virt_start (virt_end y) l.0;
      ends = ltb-true y.virt_start (virt_end x) l.1;
    }

pub meets_from : (x y : Region) → Meets x y → virt_meet x y ≡ true
meets_from x y m =
    let sizes = and_from (has_size x) (has_size y) (lt-ltb 0 x.size m.some) (lt-ltb 0 y.size m.other) in
    let ends = and_from (nat_lt x.virt_start (virt_end y)) (nat_lt y.virt_start (virt_end x)) (lt-ltb x.virt_start (virt_end y) m.begins) (lt-ltb y.virt_start (virt_end x) m.ends) in
    and_from (has_size x && has_size y) (nat_lt x.virt_start (virt_end y) && nat_lt y.virt_start (virt_end x)) sizes ends

-- the first of the regions that is in the way of windows there
abbrev pub met_of : List Region → ℕ → Option Region
met_of obstacles first = find (virt_meet (addresses_from first WINDOW_SIZE)) obstacles

pub clear_where_none : (obstacles : List Region) (first : ℕ) → met_of obstacles first ≡ None → is_met obstacles first WINDOW_SIZE ≡ false
clear_where_none obstacles first none = list_any_nothing (virt_meet (addresses_from first WINDOW_SIZE)) obstacles (λ x. find_None (virt_meet (addresses_from first WINDOW_SIZE)) obstacles x none)

-- where windows meet a region, those that begin at or above the first of them and before the region's end do too
still_met : (obstacles : List Region) (first other : ℕ) (met : Region) → met_of obstacles first ≡ Some met → first ≤ other → other < virt_end met → is_met obstacles other WINDOW_SIZE ≡ true
still_met obstacles first other met is above before =
    let here = addresses_from first WINDOW_SIZE in
    let there = addresses_from other WINDOW_SIZE in
    let found = IsFound_from_find (virt_meet here) obstacles met is in
    let m = meets_to here met found.passes in
    let again : Meets there met = record { some = lit< tt; other = m.other; begins = before; ends = omega (arith, m.ends) } in
    list_any_from_Contains (virt_meet there) obstacles met found.among (meets_from there met again)

pub ends_behind : (obstacles : List Region) (first : ℕ) (met : Region) → met_of obstacles first ≡ Some met → first < virt_end met
ends_behind obstacles first met is =
    let here = addresses_from first WINDOW_SIZE in
    (meets_to here met (IsFound_from_find (virt_meet here) obstacles met is).passes).begins

-- each window begins at or behind the page behind what was met
pub still_least : (obstacles : List Region) (first next : ℕ) (met : Region) → met_of obstacles first ≡ Some met → IsPageBehind met next → ((other : ℕ) → IsWindow obstacles other → first ≤ other) → (other : ℕ) → IsWindow obstacles other → next ≤ other
still_least obstacles first next met is page least other window =
    elim (cases_lt other (virt_end met)) as (λ w. next ≤ other) [
      | inl before ↦ absurd (both_ways (is_met obstacles other WINDOW_SIZE) window.clear (still_met obstacles first other met is (least other window) before))
      | inr behind ↦ page.least other window.aligned behind
    ]

-- where what was met ends behind the addresses of 32 bits, there are no windows
pub none_behind : (obstacles : List Region) (first : ℕ) (met : Region) → met_of obstacles first ≡ Some met → 2 ^ 32 < virt_end met → ((other : ℕ) → IsWindow obstacles other → first ≤ other) → HasNoWindow obstacles
none_behind obstacles first met is past least other window =
    both_ways (is_met obstacles other WINDOW_SIZE) window.clear (still_met obstacles first other met is (least other window) (omega (arith, window.below)))

pub none_above : (obstacles : List Region) (first : ℕ) → 2 ^ 32 < first + WINDOW_SIZE → ((other : ℕ) → IsWindow obstacles other → first ≤ other) → HasNoWindow obstacles
none_above obstacles first past least other window = let above = least other window in let below = window.below in absurd (omega arith)
