-- Ranges that close places: how many there are, and what they close.
use Rattle.std.proofs.Common.{◌≡◌, ℕ, zero, suc, ◌+◌, ◌<◌, ◌≤◌, Bool, true, false, ◌||◌, ◌&&◌, not, List, [], ◌∷◌, ◌++◌, length, get_or, take, map, eqb, refl, sym, ap, subst, ◌∙◌, ⊎_elim, arith}
use Rattle.std.specs.Prelude.{Some, nat_le, nat_lt, slice_get}
use Rattle.std.proofs.lemmas.Option.{none-some, same_Some}
use Rattle.std.specs.Cmp.{nat_eq_equiv}
use Rattle.std.specs.List.{list_any, IsDistinct, AllByRecursion}
use Rattle.std.proofs.lemmas.Bool.{false≢true, both_ways, or_left, or_right, or_cases, or_parts, and_right, eq-eqb, ne_eqb, eqb-true}
use Rattle.std.proofs.lemmas.Bool.Decides.{nat_tests}
use Rattle.std.proofs.Math.Bool.{or-false}
use Rattle.std.proofs.lemmas.List.{length-map, get_or-map, take_all}
use Rattle.std.proofs.lemmas.List.Folds.{list_any_more, list_any-append}
use Rattle.std.proofs.lemmas.List.Sums.{sum_by_more, sum_by-take-le}
use Rattle.std.proofs.lemmas.Map.Made.{length-le_from_is_member}
use Rattle.jh_num.specs.declared.range.Range.{Range}
use Rattle.jh_num.specs.Bytes.{in_range, has_byte, AreApart, AreApartFrom}
use Rattle.jh_num.proofs.Public.{list_any_map, above_range, within_range, absent_below}
use Rattle.jh_cellcfg.specs.declared.config.CellConfig.{CellConfig}
use Rattle.jh_cellcfg.specs.declared.region.Region.{Region}
use Rattle.jh_cellcfg.specs.declared.live.Live.{Live}
use Rattle.jh_cellcfg.specs.Regions.{has_place, is_unshared, is_loadable}
use Rattle.jh_shape.specs.Claims.{Holder}
use Rattle.jh_shape.specs.Shapes.{takes, holder_of_live}
use Rattle.jh_shape.specs.Lives.{is_loadable_at, configs_of}
use Rattle.jh_closed.specs.Closed.{is_taken, is_closed_by, all_regions, count_regions}
use Rattle.jh_closed.proofs.Public.{takes_live, closed_lives}

abbrev end_of : Range → ℕ
end_of range = range.end

-- ---- how many

-- the byte before the end of the first range is in the list, and the one at it isn't
last_in : (low : ℕ) (x : Range) (xs : List Range) (b : ℕ) → x.end ≡ suc b → AreApartFrom low (x ∷ xs) → has_byte (x ∷ xs) b ≡ true
last_in low x xs b e apart = let t = apart.1 in rw (within_range x b (omega arith) (omega arith)) refl

next_out : (low : ℕ) (x : Range) (xs : List Range) → AreApartFrom low (x ∷ xs) → has_byte (x ∷ xs) x.end ≡ false
next_out low x xs apart = rw (above_range x x.end (omega arith)) (absent_below (x.end + 1) xs x.end apart.2 (omega arith))

-- where the byte after one of a range isn't in it, it is its end
ends_at : (y : Range) (b : ℕ) → in_range y b ≡ true → in_range y (suc b) ≡ false → suc b ≡ y.end
ends_at y b here next = grind (arith, nat_tests)

-- where the byte after one of a list isn't in it, a range of the list ends there
ended_in : (ys : List Range) (b : ℕ) → has_byte ys b ≡ true → has_byte ys (suc b) ≡ false → list_any (eqb (suc b)) (map end_of ys) ≡ true
ended_in [] b here next = here
ended_in (y ∷ ys) b here next =
    let parts = or_parts (in_range y (suc b)) (has_byte ys (suc b)) next in
    ⊎_elim
    (λ own. or_left (eqb (suc b) y.end) (list_any (eqb (suc b)) (map end_of ys)) (eq-eqb (suc b) y.end (ends_at y b own parts.0)))
    (λ later. or_right (eqb (suc b) y.end) (list_any (eqb (suc b)) (map end_of ys)) (ended_in ys b later parts.1))
    (or_cases (in_range y b) (has_byte ys b) here)

-- each end is that of a range which was there, or of the new one
ends_in : (low : ℕ) (xs ys : List Range) (r : Range) → AreApartFrom low xs → ((b : ℕ) → low ≤ b → has_byte xs b ≡ (has_byte ys b || in_range r b)) → (q : ℕ)
    → list_any (eqb q) (map end_of xs) ≡ true → list_any (eqb q) (map end_of (r ∷ ys)) ≡ true
ends_in low [] ys r apart same q h = absurd (both_ways false refl h)
ends_in low (x ∷ xs) ys r apart same q h =
    ⊎_elim
    (λ first. first_end x.end refl (eqb-true q x.end first))
    (λ later. ends_in (x.end + 1) xs ys r apart.2 (λ b le. rest b (omega arith) ∙ same b (omega (arith, apart.0, apart.1))) q later)
    (or_cases (eqb q x.end) (list_any (eqb q) (map end_of xs)) h)
  where
    rest : (b : ℕ) → x.end ≤ b → has_byte xs b ≡ has_byte (x ∷ xs) b
    rest b le = rw (above_range x b le) refl

    first_end : (e : ℕ) → x.end ≡ e → q ≡ x.end → list_any (eqb q) (map end_of (r ∷ ys)) ≡ true
    first_end zero e is = absurd (omega (arith, apart.1))
    first_end (suc b) e is =
        let here = sym (same b (omega (arith, apart.0, apart.1))) ∙ last_in low x xs b e apart in
        let out : has_byte (x ∷ xs) (suc b) ≡ false = subst (λ k. has_byte (x ∷ xs) k ≡ false) e (next_out low x xs apart) in
        let parts = or_parts (has_byte ys (suc b)) (in_range r (suc b)) (sym (same (suc b) (omega (arith, apart.0, apart.1))) ∙ out) in
        let at : q ≡ suc b = is ∙ e in
        subst (λ k. list_any (eqb k) (map end_of (r ∷ ys)) ≡ true) (sym at)
        (⊎_elim
        (λ was. or_right (eqb (suc b) r.end) (list_any (eqb (suc b)) (map end_of ys)) (ended_in ys b was parts.0))
        (λ new. or_left (eqb (suc b) r.end) (list_any (eqb (suc b)) (map end_of ys)) (eq-eqb (suc b) r.end (ends_at r b new parts.1)))
        (or_cases (has_byte ys b) (in_range r b) here))

-- ranges that are apart have different ends
later_ends : (low k : ℕ) (xs : List Range) → k < low → AreApartFrom low xs → AllByRecursion (λ y. eqb k y ≡ false) (map end_of xs)
later_ends low k [] lt apart = tt
later_ends low k (x ∷ xs) lt apart = (ne_eqb k x.end (λ e. omega (arith, apart.0, apart.1)), later_ends (x.end + 1) k xs (omega (arith, apart.0, apart.1)) apart.2)

ends_differ : (low : ℕ) (xs : List Range) → AreApartFrom low xs → IsDistinct eqb (map end_of xs)
unfolding IsDistinct
ends_differ low [] apart = tt
ends_differ low (x ∷ xs) apart = (later_ends (x.end + 1) x.end xs (omega arith) apart.2, ends_differ (x.end + 1) xs apart.2)

-- a range that is put in makes one more at most
pub few_inserted : (xs ys : List Range) (r : Range) → AreApart xs → ((b : ℕ) → has_byte xs b ≡ (has_byte ys b || in_range r b)) → length xs ≤ length ys + 1
few_inserted xs ys r apart same =
    let le = length-le_from_is_member nat_eq_equiv (map end_of xs) (map end_of (r ∷ ys)) (ends_differ 0 xs apart) (λ q h. ends_in 0 xs ys r apart (λ b _. same b) q h) in
    let a : length (map end_of xs) ≡ length xs = length-map xs end_of in
    let b : length (map end_of (r ∷ ys)) ≡ length (r ∷ ys) = length-map (r ∷ ys) end_of in
    omega arith

-- ---- what they close
-- one cell more, as at a step of a loop
pub closed_more : (lives : List Live) (i : ℕ) (d : Live) (place : ℕ) → i < length lives
    → is_closed_by (take (i + 1) lives) place ≡ (is_closed_by (take i lives) place || is_taken (get_or lives i d).loadable (get_or lives i d).config.memory_regions place)
closed_more lives i d place lt =
    closed_lives (take (i + 1) lives) place
    ∙ list_any_more (takes_live place) lives i d lt
    ∙ ap (λ b. b || takes_live place (get_or lives i d)) (sym (closed_lives (take i lives) place))

-- the cell at an index, by its regions and its mark
record IsLiveAt (lives : List Live) (i : ℕ) (regions : List Region) (mark : Bool) (d : Live) : Type 0 where
  within : i < length lives
  regions_is : (get_or lives i d).config.memory_regions ≡ regions
  mark_is : (get_or lives i d).loadable ≡ mark

live_at : (lives : List Live) (lists : List (List Region)) (i : ℕ) (mark : Bool) (regions : List Region) (d : Live) → all_regions lives ≡ lists → i < length lists → regions ≡ get_or lists i regions → mark ≡ is_loadable_at lives i
    → IsLiveAt lives i regions mark d
live_at lives lists i mark regions d same lt is marked =
    let len : length (configs_of lives) ≡ length lives = length-map lives (λ (l : Live). l.config) in
    let count : length (all_regions lives) ≡ length (configs_of lives) = length-map (configs_of lives) (λ (c : CellConfig). c.memory_regions) in
    let all : length (all_regions lives) ≡ length lists = ap (λ (l : List (List Region)). length l) same in
    let within : i < length lives = omega arith in
    record {
      within = within;
      regions_is = ap (λ (c : CellConfig). c.memory_regions) (sym (get_or-map (λ (l : Live). l.config) lives i d d.config within))
          ∙ sym (get_or-map (λ (c : CellConfig). c.memory_regions) (configs_of lives) i d.config regions (omega arith))
          ∙ ap (λ (l : List (List Region)). get_or l i regions) same
          ∙ sym is;
      mark_is = sym (get_or-map (λ (l : Live). l.loadable) lives i d false within) ∙ sym marked;
    }

step_at : (lives : List Live) (i : ℕ) (mark : Bool) (regions : List Region) (d : Live) (before after : Bool) (place : ℕ) → IsLiveAt lives i regions mark d
    → before ≡ is_closed_by (take i lives) place → after ≡ (before || is_taken mark regions place) → after ≡ is_closed_by (take (i + 1) lives) place
step_at lives i mark regions d before after place at was then =
    then
    ∙ ap (λ b. b || is_taken mark regions place) was
    ∙ ap (λ m. is_closed_by (take i lives) place || is_taken m regions place) (sym at.mark_is)
    ∙ ap (λ (r : List Region). is_closed_by (take i lives) place || is_taken (get_or lives i d).loadable r place) (sym at.regions_is)
    ∙ sym (closed_more lives i d place at.within)

-- what was closed by the cells before, and what the next one takes
pub closed_step : (lives : List Live) (lists : List (List Region)) (i : ℕ) (mark : Bool) (regions : List Region) (before after : Bool) (place : ℕ)
    → all_regions lives ≡ lists → i < length lists → regions ≡ get_or lists i regions → mark ≡ is_loadable_at lives i
    → before ≡ is_closed_by (take i lives) place → after ≡ (before || is_taken mark regions place) → after ≡ is_closed_by (take (i + 1) lives) place
closed_step [] lists i mark regions before after place same lt is marked was then =
    let none : 0 ≡ length lists = ap (λ (l : List (List Region)). length l) same in absurd (omega arith)
closed_step (x ∷ xs) lists i mark regions before after place same lt is marked was then =
    step_at (x ∷ xs) i mark regions x before after place (live_at (x ∷ xs) lists i mark regions x same lt is marked) was then

-- once all cells are looked at
pub closed_all : (lives : List Live) (lists : List (List Region)) (i : ℕ) (place : ℕ) → all_regions lives ≡ lists → length lists ≤ i → is_closed_by (take i lives) place ≡ is_closed_by lives place
closed_all lives lists i place same le =
    let len : length (configs_of lives) ≡ length lives = length-map lives (λ (l : Live). l.config) in
    let count : length (all_regions lives) ≡ length (configs_of lives) = length-map (configs_of lives) (λ (c : CellConfig). c.memory_regions) in
    let all : length (all_regions lives) ≡ length lists = ap (λ (l : List (List Region)). length l) same in
    ap (λ (ls : List Live). is_closed_by ls place) (take_all i lives (omega arith))

-- the regions of the cells up to one are no more than all
pub few_regions : (lists : List (List Region)) (i : ℕ) (d : List Region) → i < length lists → (count_regions (take (i + 1) lists) ≡ count_regions (take i lists) + length (get_or lists i d)) × (count_regions (take (i + 1) lists) ≤ count_regions lists)
few_regions lists i d lt = (sum_by_more (λ (r : List Region). length r) lists i d lt, sum_by-take-le (λ (r : List Region). length r) lists (i + 1))

-- nothing is in what all bytes were taken from
pub none_left : (xs old : List Range) (end : ℕ) (x : Range) → AreApart xs → slice_get xs 0 ≡ Some x → ((b : ℕ) → has_byte xs b ≡ (has_byte old b && not (nat_le 0 b && nat_lt b end))) → x.end ≤ end → ⊥
none_left [] old end x apart is same within = none-some x is
none_left (y ∷ ys) old end x apart is same within =
    let first : y ≡ x = same_Some y x is in
    let end_of_first : y.end ≡ x.end = ap (λ (r : Range). r.end) first in
    let some : y.start < y.end = apart.1 in
    let here : has_byte (y ∷ ys) y.start ≡ true = rw (within_range y y.start (omega arith) some) refl in
    let below : y.start < end = omega arith in
    let taken : (nat_le 0 y.start && nat_lt y.start end) ≡ true = grind (arith, nat_tests) in
    both_ways (has_byte (y ∷ ys) y.start) (same y.start ∙ rw taken (and_right (has_byte old y.start) false refl)) here

-- one region more, as at a step of a loop
pub taken_more : (loadable : Bool) (regions : List Region) (k : ℕ) (d : Region) (before after : Bool) (place : ℕ) → k < length regions
    → before ≡ is_taken loadable (take k regions) place → after ≡ (before || takes loadable (get_or regions k d) place) → after ≡ is_taken loadable (take (k + 1) regions) place
taken_more loadable regions k d before after place lt was then =
    then
    ∙ ap (λ b. b || takes loadable (get_or regions k d) place) was
    ∙ sym (list_any_more (λ (r : Region). takes loadable r place) regions k d lt)

-- ---- what a cell takes while it is loadable

lent_or_not : (unshared loadable has : Bool) → (unshared && loadable) ≡ false → (unshared && (not (true && loadable) && has)) ≡ (unshared && (not (false && loadable) && has))
lent_or_not false loadable has none = refl
lent_or_not true false has none = refl
lent_or_not true true has none = absurd (false≢true (sym none))

-- where no region is root's while its cell is loadable, the cell takes the same
pub same_taken : (regions : List Region) (place : ℕ) → list_any (λ (r : Region). is_unshared r && is_loadable r) regions ≡ false → is_taken true regions place ≡ is_taken false regions place
same_taken [] place none = refl
same_taken (r ∷ rs) place none =
    let parts = or_parts (is_unshared r && is_loadable r) (list_any (λ (r : Region). is_unshared r && is_loadable r) rs) none in
    rw (lent_or_not (is_unshared r) (is_loadable r) (has_place r place) parts.0, same_taken rs place parts.1) refl
