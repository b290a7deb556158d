-- The greatest free place in a region, and over the regions.
use Rattle.std.proofs.Common.{◌≡◌, ℕ, ◌+◌, ◌<◌, ◌≤◌, true, false, ◌&&◌, not, nat_lt, List, Option, Some, None, option_and_then, refl, sym, ap, subst, ◌∙◌, inl, inr, cond, length, arith, find}
use Rattle.std.specs.Prelude.{IfSome, MatchOption}
use Rattle.std.specs.List.{All, Contains}
use Rattle.std.proofs.lemmas.Bool.{ltb-true, lt-ltb, le-ltb, cases_lt, cases_eq, both_ways, and_parts, and_from}
use Rattle.std.proofs.lemmas.Option.{none-some, same_Some, slice_get_within, get_or_from_slice_get}
use Rattle.jh_num.proofs.Public.{IsFound, IsFound_from_find, find_None, list_any_from_Contains, list_any_nothing}
use Rattle.jh_num.specs.declared.address.TheConstants.{ADDRESS_END}
use Rattle.jh_cellcfg.specs.declared.region.Region.{Region}
use Rattle.jh_cellcfg.specs.declared.config.CellConfig.{CellConfig}
use Rattle.jh_cellcfg.specs.Regions.{has_size, is_comm, phys_end, phys_meet}
use Rattle.jh_check.specs.Laws.{IsItem}
use Rattle.jh_plan.specs.Places.{are_taken, bytes_at, has_met, is_met, is_room, HasNoPlace, IsFreeIn, IsFreePlace, IsHighestPlace}
use Rattle.jh_plan.specs.Private.Searches.{greater, EndsWithin, IsAtMost, IsHighestIn, IsLast}

-- ---- what is met

-- two regions meet where each begins before the other ends, and both have a size
pub record Meets (x y : Region) : Type 0 where
  pub some : 0 < x.size
  pub other : 0 < y.size
  pub begins : x.phys_start < phys_end y
  pub ends : y.phys_start < phys_end x

meets_to : (x y : Region) → phys_meet x y ≡ true → Meets x y
meets_to x y e =
    let p = and_parts (has_size x && has_size y) (nat_lt x.phys_start (phys_end y) && nat_lt y.phys_start (phys_end x)) e in
    let s = and_parts (has_size x) (has_size y) p.0 in
    let l = and_parts (nat_lt x.phys_start (phys_end y)) (nat_lt y.phys_start (phys_end x)) p.1 in
    record {
      some = ltb-true 0 x.size s.0;
      other = ltb-true 0 y.size s.1;
      begins = ltb-true x.phys_start (phys_end y) l.0;
      ends = ltb-true y.phys_start (phys_end x) l.1;
    }

pub meets_from : (x y : Region) → Meets x y → phys_meet x y ≡ true
meets_from x y m =
    let sizes = and_from (has_size x) (has_size y) (lt-ltb 0 x.size m.some) (lt-ltb 0 y.size m.other) in
    let ends = and_from (nat_lt x.phys_start (phys_end y)) (nat_lt y.phys_start (phys_end x)) (lt-ltb x.phys_start (phys_end y) m.begins) (lt-ltb y.phys_start (phys_end x) m.ends) in
    and_from (has_size x && has_size y) (nat_lt x.phys_start (phys_end y) && nat_lt y.phys_start (phys_end x)) sizes ends

abbrev pub met_of : Region → List CellConfig → Option Region
met_of bytes cells = option_and_then (λ (cell : CellConfig). find (is_met bytes) cell.memory_regions) (find (has_met bytes) cells)

-- what is met is memory of one of the cells
record IsOf (bytes : Region) (cells : List CellConfig) (taken : Region) : Type 0 where
  cell : CellConfig
  among : Contains cells cell
  found : IsFound (is_met bytes) cell.memory_regions taken

met_in : (bytes : Region) (cells : List CellConfig) (taken : Region) (o : Option CellConfig) → find (has_met bytes) cells ≡ o → option_and_then (λ (cell : CellConfig). find (is_met bytes) cell.memory_regions) o ≡ Some taken → IsOf bytes cells taken
met_in bytes cells taken None f e = absurd (none-some taken e)
met_in bytes cells taken (Some cell) f e = record {
  cell = cell;
  among = (IsFound_from_find (has_met bytes) cells cell f).among;
  found = IsFound_from_find (is_met bytes) cell.memory_regions taken e;
}

met_some : (bytes : Region) (cells : List CellConfig) (taken : Region) → met_of bytes cells ≡ Some taken → IsOf bytes cells taken
met_some bytes cells taken e = met_in bytes cells taken (find (has_met bytes) cells) refl e

met_there : (bytes : Region) (cells : List CellConfig) (taken : Region) → met_of bytes cells ≡ Some taken → phys_meet taken bytes ≡ true
met_there bytes cells taken e =
    let f = met_some bytes cells taken e in
    (and_parts (not (is_comm taken)) (phys_meet taken bytes) f.found.passes).1

-- what else it meets is taken too
met_others : (bytes other : Region) (cells : List CellConfig) (taken : Region) → met_of bytes cells ≡ Some taken → phys_meet taken other ≡ true → are_taken cells other ≡ true
met_others bytes other cells taken e h =
    let f = met_some bytes cells taken e in
    let memory = (and_parts (not (is_comm taken)) (phys_meet taken bytes) f.found.passes).0 in
    let met : is_met other taken ≡ true = and_from (not (is_comm taken)) (phys_meet taken other) memory h in
    let has : has_met other f.cell ≡ true = list_any_from_Contains (is_met other) f.cell.memory_regions taken f.found.among met in
    list_any_from_Contains (has_met other) cells f.cell f.among has

none_in : (bytes : Region) (cells : List CellConfig) (o : Option CellConfig) → find (has_met bytes) cells ≡ o → option_and_then (λ (cell : CellConfig). find (is_met bytes) cell.memory_regions) o ≡ None → are_taken cells bytes ≡ false
none_in bytes cells None f e = list_any_nothing (has_met bytes) cells (λ cell c. find_None (has_met bytes) cells cell f c)
none_in bytes cells (Some cell) f e =
    let yes : has_met bytes cell ≡ true = (IsFound_from_find (has_met bytes) cells cell f).passes in
    let no : has_met bytes cell ≡ false = list_any_nothing (is_met bytes) cell.memory_regions (λ x c. find_None (is_met bytes) cell.memory_regions x e c) in
    absurd (both_ways (has_met bytes cell) no yes)

-- where nothing is met, nothing is taken
pub met_none : (bytes : Region) (cells : List CellConfig) → met_of bytes cells ≡ None → are_taken cells bytes ≡ false
met_none bytes cells e = none_in bytes cells (find (has_met bytes) cells) refl e

-- ---- one step down

-- each free place up to one that meets something lets its bytes end where that begins
pub apart_below : (room taken : Region) (cells : List CellConfig) (size place other : ℕ) → met_of (bytes_at place size) cells ≡ Some taken → IsFreeIn room cells size other → other ≤ place → other + size ≤ taken.phys_start
apart_below room taken cells size place other e free below =
    let m = meets_to taken (bytes_at place size) (met_there (bytes_at place size) cells taken e) in
    elim (cases_lt taken.phys_start (other + size)) [
      | inl l ↦
          let meets : Meets taken (bytes_at other size) = record { some = m.some; other = m.other; begins = l; ends = omega (arith, m.ends) } in
          absurd (both_ways (are_taken cells (bytes_at other size)) free.free (met_others (bytes_at place size) (bytes_at other size) cells taken e (meets_from taken (bytes_at other size) meets)))
      | inr over ↦ omega arith
    ]

-- what is met begins before the bytes end
pub begins_before : (taken : Region) (cells : List CellConfig) (size place : ℕ) → met_of (bytes_at place size) cells ≡ Some taken → taken.phys_start < place + size
begins_before taken cells size place e = (meets_to taken (bytes_at place size) (met_there (bytes_at place size) cells taken e)).begins

-- the next place down is still above each that is free
pub still_highest : (room taken : Region) (cells : List CellConfig) (size place next : ℕ) → met_of (bytes_at place size) cells ≡ Some taken → IsLast taken.phys_start size next → ((other : ℕ) → IsFreeIn room cells size other → other ≤ place) → (other : ℕ) → IsFreeIn room cells size other → other ≤ next
still_highest room taken cells size place next e last highest other free =
    last.last other free.aligned (apart_below room taken cells size place other e free (highest other free))

-- none is free where the next place down would begin below 0
pub none_below : (room taken : Region) (cells : List CellConfig) (size place : ℕ) → met_of (bytes_at place size) cells ≡ Some taken → taken.phys_start < size → ((other : ℕ) → IsFreeIn room cells size other → other ≤ place) → IsHighestIn room cells size None
none_below room taken cells size place e short highest other free =
    let fits = apart_below room taken cells size place other e free (highest other free) in
    absurd (omega arith)

-- ---- the best of the regions so far

-- no place that is free in a region before that number lies above the best
abbrev pub AreBelow : CellConfig → List CellConfig → ℕ → ℕ → Option ℕ → Type 0
AreBelow root cells size number best =
    (n : ℕ) (region : Region) (place : ℕ) → n < number → IsItem root n region → is_room root n region ≡ true → IsFreeIn region cells size place → IsAtMost best place

greater_first : (one other place : ℕ) → place ≤ one → place ≤ cond (nat_lt one other) other one
greater_first one other place le = elim (cases_lt one other) [
  | inl l ↦ rw (lt-ltb one other l) (omega arith)
  | inr n ↦ rw (le-ltb one other (omega arith)) le
]

greater_second : (one other place : ℕ) → place ≤ other → place ≤ cond (nat_lt one other) other one
greater_second one other place le = elim (cases_lt one other) [
  | inl l ↦ rw (lt-ltb one other l) le
  | inr n ↦ rw (le-ltb one other (omega arith)) (omega arith)
]

most_first : (one other : Option ℕ) (place : ℕ) → IsAtMost one place → IsAtMost (greater one other) place
most_first None other place none = absurd none
most_first (Some one) None place le = le
most_first (Some one) (Some other) place le = greater_first one other place le

most_second : (one other : Option ℕ) (place : ℕ) → IsAtMost other place → IsAtMost (greater one other) place
most_second None other place le = le
most_second (Some one) None place none = absurd none
most_second (Some one) (Some other) place le = greater_second one other place le

pub free_greater : (P : ℕ → Type 0) (one other : Option ℕ) → IfSome one P → IfSome other P → IfSome (greater one other) P
free_greater P None other p q = q
free_greater P (Some one) None p q = p
free_greater P (Some one) (Some other) p q = elim (nat_lt one other) as (λ t. P (cond t other one)) [ true ↦ q | false ↦ p ]

-- what is free in a region of root that has room is free for a cell
pub free_of : (root : CellConfig) (cells : List CellConfig) (size number : ℕ) (region : Region) (next : Option ℕ) → IsItem root number region → is_room root number region ≡ true → IfSome next (IsFreeIn region cells size) → IfSome next (IsFreePlace root cells size)
free_of root cells size number region None item room free = tt
free_of root cells size number region (Some place) item room free = record { number = number; region = region; item = item; room = room; free = free }

pub best_more : (root : CellConfig) (cells : List CellConfig) (size number : ℕ) (region : Region) (best next : Option ℕ) → IsItem root number region → AreBelow root cells size number best → IsHighestIn region cells size next → AreBelow root cells size (number + 1) (greater best next)
best_more root cells size number region best next item before highest n x place below is room free = elim (cases_eq n number) [
  | inl e ↦
      let IsAt : ℕ → Type 0 = λ k. IsItem root k x in
      let same : x ≡ region = same_Some x region (sym (subst IsAt e is) ∙ item) in
      let Free : Region → Type 0 = λ r. IsFreeIn r cells size place in
      most_second best next place (highest place (subst Free same free))
  | inr ne ↦ most_first best next place (before n x place (omega arith) is room free)
]

pub best_skipped : (root : CellConfig) (cells : List CellConfig) (size number : ℕ) (region : Region) (best : Option ℕ) → IsItem root number region → AreBelow root cells size number best → is_room root number region ≡ false → AreBelow root cells size (number + 1) best
best_skipped root cells size number region best item before none n x place below is room free = elim (cases_eq n number) [
  | inl e ↦
      let IsAt : ℕ → Type 0 = λ k. IsItem root k x in
      let same : x ≡ region = same_Some x region (sym (subst IsAt e is) ∙ item) in
      let here : is_room root number region ≡ true = sym (ap (λ (k : ℕ). is_room root k region) e) ∙ sym (ap (λ (r : Region). is_room root n r) same) ∙ room in
      absurd (both_ways (is_room root number region) none here)
  | inr ne ↦ before n x place (omega arith) is room free
]

pub best_of_all : (root : CellConfig) (cells : List CellConfig) (size number : ℕ) (best : Option ℕ) → length root.memory_regions ≤ number → IfSome best (IsFreePlace root cells size) → AreBelow root cells size number best → MatchOption best (HasNoPlace root cells size) (IsHighestPlace root cells size)
best_of_all root cells size number None all free below =
    λ place f. below f.number f.region place (let w = slice_get_within root.memory_regions f.number f.region f.item in omega arith) f.item f.room f.free
best_of_all root cells size number (Some best) all free below = record {
  free = free;
  highest = λ other f. below f.number f.region other (let w = slice_get_within root.memory_regions f.number f.region f.item in omega arith) f.item f.room f.free;
}

-- ---- where regions end

-- memory at a free place ends within the places
pub free_ends : (root : CellConfig) (cells : List CellConfig) (size place : ℕ) → 0 < size → All EndsWithin root.memory_regions → IsFreePlace root cells size place → place + size ≤ ADDRESS_END
free_ends root cells size place some within free =
    let region = free.region in
    let at = get_or_from_slice_get root.memory_regions free.number region region free.item in
    let End : Region → Type 0 = λ r. EndsWithin r in
    let ends = subst End at (within free.number region (slice_get_within root.memory_regions free.number region free.item)) in
    let begins = free.free.begins in
    let fits = free.free.ends in
    let end = ends (let some_size : 0 < region.size = omega arith in some_size) in
    omega arith

-- and so does its size
pub free_within : (root : CellConfig) (cells : List CellConfig) (size place : ℕ) → 0 < size → All EndsWithin root.memory_regions → IsFreePlace root cells size place → size ≤ ADDRESS_END
free_within root cells size place some within free = omega (arith, free_ends root cells size place some within free)
