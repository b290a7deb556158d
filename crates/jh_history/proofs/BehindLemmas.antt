-- What answers an access where no memory does.
use Rattle.std.proofs.Common.{◌≡◌, ℕ, zero, suc, ◌+◌, ◌-◌, ◌<◌, ◌≤◌, Bool, true, false, ◌&&◌, ◌||◌, not, cond, leb, List, [], Option, Some, None, refl, ap, sym, ◌∙◌, subst, arith}
use Rattle.std.specs.List.{list_any, range_with_len}
use Rattle.std.specs.Option.{option_map_or}
use Rattle.std.proofs.lemmas.Bool.{and_parts, not-true, ltb-true, lt-leb, le-leb}
use Rattle.jh_num.specs.declared.address.TheConstants.{ADDRESS_END}
use Rattle.jh_cellcfg.specs.declared.live.Live.{Live}
use Rattle.jh_cellcfg.specs.declared.region.Region.{Region}
use Rattle.jh_cellcfg.specs.Regions.{has_size, is_page_mapped, is_comm, place_in, virt_end}
use Rattle.jh_mmio.specs.Dispatch.{lies_between, is_at_closed, takes_all, has_whole, has_right}
use Rattle.jh_script.specs.declared.image.Image.{Image}
use Rattle.jh_history.specs.declared.place.Place.{Place}
use Rattle.jh_history.specs.declared.place.Place.TheVariants.{Physical, Page}
use Rattle.jh_history.specs.declared.access.Access.{Access}
use Rattle.jh_history.specs.declared.access.Access.TheVariants.{Read, Write, Fetch}
use Rattle.jh_history.specs.declared.access.Wanted.{Wanted}
use Rattle.jh_history.specs.declared.access.Reach.{Reach}
use Rattle.jh_history.specs.declared.access.Reach.TheVariants.{Subpage, Nothing}
use Rattle.jh_history.specs.Places.{places_in_row}
use Rattle.jh_history.specs.Access.{place_in_cell}
use Rattle.jh_history.specs.Behind.{Asked, Behind, asked_by, is_write, by_region, without_region, region_or_window, unless_fetch, answer_behind, answer}
use Rattle.jh_history.specs.Grants.{is_closed_to}

-- ---- a region that has an access

pub takes_all_size : (closed : ℕ → Bool) (at n : ℕ) (r : Region) → takes_all closed at n r ≡ true → 0 < r.size
takes_all_size closed at n r h =
    let whole = and_parts (has_whole at n r) (not (is_at_closed closed at n r)) h in
    let subpage = and_parts (has_size r && not (is_page_mapped r)) (lies_between r.virt_start (virt_end r) at n) whole.0 in
    ltb-true 0 r.size (and_parts (has_size r) (not (is_page_mapped r)) subpage.0).0

pub takes_all_subpage : (closed : ℕ → Bool) (at n : ℕ) (r : Region) → takes_all closed at n r ≡ true → is_page_mapped r ≡ false
takes_all_subpage closed at n r h =
    let whole = and_parts (has_whole at n r) (not (is_at_closed closed at n r)) h in
    let subpage = and_parts (has_size r && not (is_page_mapped r)) (lies_between r.virt_start (virt_end r) at n) whole.0 in
    not-true (is_page_mapped r) (and_parts (has_size r) (not (is_page_mapped r)) subpage.0).1

-- where it has all of it, it takes it unless a byte is at a closed place
pub whole_takes : (closed : ℕ → Bool) (at n : ℕ) (r : Region) → has_whole at n r ≡ true → takes_all closed at n r ≡ not (is_at_closed closed at n r)
whole_takes closed at n r h = ap (λ (b : Bool). b && not (is_at_closed closed at n r)) h

-- ---- its places, and what is kept of them

row_kept : (kept : Place → Bool) (p n : ℕ) → list_any kept (places_in_row (Physical p) n) ≡ list_any (λ q. kept (Physical q)) (range_with_len p n)
row_kept kept p zero = refl
row_kept kept p (suc n) = ap (λ (b : Bool). kept (Physical p) || b) (row_kept kept (p + 1) n)

any_same : (f g : ℕ → Bool) (a b n : ℕ) → ((k : ℕ) → f (a + k) ≡ g (b + k)) → list_any f (range_with_len a n) ≡ list_any g (range_with_len b n)
any_same f g a b zero h = refl
any_same f g a b (suc n) h =
    let first : a ≡ a + 0 = omega arith in
    let second : b + 0 ≡ b = omega arith in
    ap (λ (c : Bool). c || list_any f (range_with_len (a + 1) n)) (ap f first ∙ h 0 ∙ ap g second)
    ∙ ap (λ (c : Bool). g b || c) (any_same f g (a + 1) (b + 1) n (λ k.
    let left : (a + 1) + k ≡ a + (k + 1) = omega arith in
    let right : b + (k + 1) ≡ (b + 1) + k = omega arith in
    ap f left ∙ h (k + 1) ∙ ap g right))

row_open : (kept : Place → Bool) (id offset n : ℕ) → ((k : ℕ) → kept (Page id k) ≡ false) → list_any kept (places_in_row (Page id offset) n) ≡ false
row_open kept id offset zero h = refl
row_open kept id offset (suc n) h = ap (λ (b : Bool). b || list_any kept (places_in_row (Page id (offset + 1)) n)) (h offset) ∙ row_open kept id (offset + 1) n h

kept_by : (kept : Place → Bool) (id at n : ℕ) (r : Region) (comm : Bool) → r.virt_start ≤ at → ((k : ℕ) → kept (Page id k) ≡ false)
    → list_any kept (places_in_row (cond comm (Page id (at - r.virt_start)) (Physical (place_in r at))) n) ≡ not comm && list_any (λ a. kept (Physical (place_in r a))) (range_with_len at n)
kept_by kept id at n r true low pages = row_open kept id (at - r.virt_start) n pages
kept_by kept id at n r false low pages =
    row_kept kept (place_in r at) n
    ∙ any_same (λ q. kept (Physical q)) (λ a. kept (Physical (place_in r a))) (place_in r at) at n (λ k.
    let e : place_in r at + k ≡ place_in r (at + k) = omega arith in
    ap (λ q. kept (Physical q)) e)

-- a cell is kept from one of the places of an access where one of its bytes is at a place that it is kept from
pub kept_row : (image : Image) (cells : List Live) (id at n : ℕ) (r : Region) → r.virt_start ≤ at
    → list_any (is_closed_to image cells id) (places_in_row (place_in_cell id r at) n) ≡ is_at_closed (λ p. is_closed_to image cells id (Physical p)) at n r
kept_row image cells id at n r low = kept_by (is_closed_to image cells id) id at n r (is_comm r) low (λ k. refl)

-- ---- what answers

pub answer_within : (behind : Behind) (wanted : Wanted) → wanted.at + wanted.width ≤ ADDRESS_END → answer behind wanted ≡ answer_behind (asked_by behind wanted) wanted
unfolding answer
answer_within behind wanted h = ap (λ (b : Bool). cond b (answer_behind (asked_by behind wanted) wanted) Nothing) (le-leb (wanted.at + wanted.width) ADDRESS_END h)

pub answer_beyond : (behind : Behind) (wanted : Wanted) → ADDRESS_END < wanted.at + wanted.width → answer behind wanted ≡ Nothing
unfolding answer
answer_beyond behind wanted h = ap (λ (b : Bool). cond b (answer_behind (asked_by behind wanted) wanted) Nothing) (lt-leb (wanted.at + wanted.width) ADDRESS_END h)

-- an access of no bytes
abbrev no_bytes : Access → ℕ → Wanted
no_bytes access at = record { access = access; at = at; width = 0 }

no_bytes_through : (b : Bool) (found : Reach) → cond (b && false) found Nothing ≡ Nothing
no_bytes_through true found = refl
no_bytes_through false found = refl

no_bytes_by : (asked : Asked) (access : Access) (at : ℕ) (o : Option Region) → option_map_or (by_region asked.cell (no_bytes access at)) o (without_region asked.windows (no_bytes access at)) ≡ Nothing
no_bytes_by asked access at None = refl
no_bytes_by asked access at (Some r) = no_bytes_through (has_right (is_write access) r) (Subpage [])

unless_none : (access : Access) (found : Reach) → found ≡ Nothing → unless_fetch access found ≡ Nothing
unless_none Read found none = none
unless_none Write found none = none
unless_none Fetch found none = refl

no_bytes_within : (asked : Asked) (access : Access) (at : ℕ) (b : Bool) → cond b (answer_behind asked (no_bytes access at)) Nothing ≡ Nothing
no_bytes_within asked access at true = unless_none access (region_or_window asked (no_bytes access at)) (no_bytes_by asked access at asked.region)
no_bytes_within asked access at false = refl

-- an access of no bytes is answered by nothing
pub answer_no_bytes : (behind : Behind) (wanted : Wanted) → wanted.width ≡ 0 → answer behind wanted ≡ Nothing
unfolding answer
answer_no_bytes behind wanted none =
    let P : ℕ → Type 0 = λ n.
    let short : Wanted = record wanted { width = n } in
    cond (leb (wanted.at + n) ADDRESS_END) (answer_behind (asked_by behind short) short) Nothing ≡ Nothing
    in
    subst P (sym none) (no_bytes_within (asked_by behind (no_bytes wanted.access wanted.at)) wanted.access wanted.at (leb (wanted.at + 0) ADDRESS_END))
