-- What a cell is granted where others live, by what its regions give.
use Rattle.std.proofs.Common.{◌≡◌, ℕ, zero, suc, ◌+◌, ◌<◌, ◌≤◌, Bool, true, false, cond, ◌&&◌, ◌||◌, eqb, List, [], ◌∷◌, ◌++◌, Option, Some, None, refl, sym, ap, ◌∙◌, inl, inr, arith}
use Rattle.std.specs.Prelude.{IsTrue, ◌↔◌, option_map, option_and_then, nat_le, nat_lt}
use Rattle.std.specs.List.{list_any}
use Rattle.std.proofs.lemmas.Bool.{cases_Bool, cases_eq, eq-eqb, ne_eqb, both_ways, and_from, and_parts, or_left, or_right}
use Rattle.std.specs.Option.{option_map_or}
use Rattle.std.proofs.lemmas.Bool.Decides.{nat_tests}
use Rattle.std.proofs.lemmas.List.Folds.{list_any-append}
use Rattle.jh_num.proofs.Public.{within_both}
use Rattle.jh_cellcfg.specs.declared.config.CellConfig.{CellConfig}
use Rattle.jh_cellcfg.specs.declared.live.Live.{Live}
use Rattle.jh_script.specs.declared.image.Image.{Image}
use Rattle.jh_history.specs.declared.place.Place.{Place}
use Rattle.jh_history.specs.declared.place.Place.TheVariants.{Physical, Page}
use Rattle.jh_history.specs.declared.access.Access.{Access}
use Rattle.jh_history.specs.Places.{places_in_row}
use Rattle.jh_history.specs.Access.{places_from, place_of}
use Rattle.jh_history.specs.Grants.{is_closed_to, unless, granted_in}
use Rattle.jh_history.specs.Lives.{live_in, regions_in}
use Rattle.jh_closed.specs.Closed.{is_closed_by}
use Rattle.jh_board.specs.Private.Found.{live_regions}

-- ---- which places root is kept from

abbrev kept_from : Image → List Live → Place → Bool
kept_from image lives = is_closed_to image lives image.system.root.id

kept_closed : (image : Image) (lives : List Live) (p : ℕ) → kept_from image lives (Physical p) ≡ is_closed_by lives p
kept_closed image lives p = let own : eqb image.system.root.id image.system.root.id ≡ true = eq-eqb image.system.root.id image.system.root.id refl in rw own refl

row_open : (image : Image) (lives : List Live) (start n : ℕ) → ((p : ℕ) → start ≤ p → p < start + n → is_closed_by lives p ≡ false) → list_any (kept_from image lives) (places_in_row (Physical start) n) ≡ false
row_open image lives start zero none = refl
row_open image lives start (suc n) none =
    let here : kept_from image lives (Physical start) ≡ false = kept_closed image lives start ∙ none start (omega arith) (omega arith) in
    rw here (row_open image lives (start + 1) n (λ p low high. none p (omega arith) (omega arith)))

row_met : (image : Image) (lives : List Live) (start n p : ℕ) → start ≤ p → p < start + n → is_closed_by lives p ≡ true → list_any (kept_from image lives) (places_in_row (Physical start) n) ≡ true
row_met image lives start zero p low high is = absurd (omega arith)
row_met image lives start (suc n) p low high is = elim (cases_eq p start) [
  | inl e ↦ or_left (kept_from image lives (Physical start)) (list_any (kept_from image lives) (places_in_row (Physical (start + 1)) n)) (kept_closed image lives start ∙ ap (is_closed_by lives) (sym e) ∙ is)
  | inr m ↦ or_right (kept_from image lives (Physical start)) (list_any (kept_from image lives) (places_in_row (Physical (start + 1)) n)) (row_met image lives (start + 1) n p (omega arith) (omega arith) is)
]

within_low : (start end p : ℕ) → (nat_le start p && nat_lt p end) ≡ true → start ≤ p
within_low start end p h = grind (arith, nat_tests)

within_high : (start end p : ℕ) → (nat_le start p && nat_lt p end) ≡ true → p < end
within_high start end p h = grind (arith, nat_tests)

-- a test whether a place of the range is closed
kept_row : (image : Image) (lives : List Live) (start n : ℕ) (b : Bool) → (IsTrue b ↔ ((p : ℕ) × IsTrue ((nat_le start p && nat_lt p (start + n)) && is_closed_by lives p)))
    → b ≡ list_any (kept_from image lives) (places_in_row (Physical start) n)
kept_row image lives start n true told =
    let met = told.0 refl in
    let parts = and_parts (nat_le start met.0 && nat_lt met.0 (start + n)) (is_closed_by lives met.0) met.1 in
    sym (row_met image lives start n met.0 (within_low start (start + n) met.0 parts.0) (within_high start (start + n) met.0 parts.0) parts.1)
kept_row image lives start n false told =
    sym (row_open image lives start n (λ p low high. elim (cases_Bool (is_closed_by lives p)) [
      | inl met ↦ absurd (both_ways false refl (told.1 (p, and_from (nat_le start p && nat_lt p (start + n)) (is_closed_by lives p) (within_both start (start + n) p low high) met)))
      | inr free ↦ free
    ]))

pub kept_run : (image : Image) (lives : List Live) (start n m : ℕ) (b : Bool) → m ≡ n → (IsTrue b ↔ ((p : ℕ) × IsTrue ((nat_le start p && nat_lt p (start + m)) && is_closed_by lives p)))
    → b ≡ list_any (kept_from image lives) (places_in_row (Physical start) n)
kept_run image lives start n m b same told = kept_row image lives start m b told ∙ ap (λ k. list_any (kept_from image lives) (places_in_row (Physical start) k)) same

-- no place of a communication page is kept, and from a cell besides root none is
pub kept_pages : (image : Image) (lives : List Live) (cell offset n : ℕ) → false ≡ list_any (kept_from image lives) (places_in_row (Page cell offset) n)
kept_pages image lives cell offset zero = refl
kept_pages image lives cell offset (suc n) = kept_pages image lives cell (offset + 1) n

kept_other : (image : Image) (lives : List Live) (id : ℕ) (p : Place) → eqb id image.system.root.id ≡ false → is_closed_to image lives id p ≡ false
kept_other image lives id (Physical p) other = rw other refl
kept_other image lives id (Page cell offset) other = refl

kept_none : (image : Image) (lives : List Live) (id : ℕ) (places : List Place) → eqb id image.system.root.id ≡ false → false ≡ list_any (is_closed_to image lives id) places
kept_none image lives id [] other = refl
kept_none image lives id (p ∷ ps) other = rw (kept_other image lives id p other) (kept_none image lives id ps other)

pub kept_others : (image : Image) (lives : List Live) (id : ℕ) (places : List Place) → (id ≡ image.system.root.id → ⊥) → false ≡ list_any (is_closed_to image lives id) places
kept_others image lives id places other = kept_none image lives id places (ne_eqb id image.system.root.id other)

-- the places of two rows
pub kept_rows : (image : Image) (lives : List Live) (id : ℕ) (low high places : List Place) (a b : Bool) → id ≡ image.system.root.id → places ≡ low ++ high
    → a ≡ list_any (kept_from image lives) low → b ≡ list_any (kept_from image lives) high → (a || b) ≡ list_any (is_closed_to image lives id) places
kept_rows image lives id low high places a b own is first second =
    ap (λ x. x || b) first ∙ ap (λ x. list_any (kept_from image lives) low || x) second
    ∙ sym (list_any-append (kept_from image lives) low high)
    ∙ ap (λ (ps : List Place). list_any (kept_from image lives) ps) (sym is)
    ∙ ap (λ (k : ℕ). list_any (is_closed_to image lives k) places) (sym own)

-- ---- what is reached

abbrev open_all : (Place → Bool) → List Place → Option (List Place)
open_all kept places = cond (list_any kept places) None (Some places)

abbrev open_place : (Place → Bool) → (ℕ → Option Place) → ℕ → Option Place
open_place kept place at = option_and_then (unless kept) (place at)

open_more : (kept : Place → Bool) (p : Place) (b : Bool) (rest : Option (List Place)) → kept p ≡ b
    → cond b None (option_map (λ (ps : List Place). p ∷ ps) (option_and_then (open_all kept) rest)) ≡ option_and_then (open_all kept) (option_map (λ (ps : List Place). p ∷ ps) rest)
open_more kept p true None is = refl
open_more kept p true (Some ps) is = rw is refl
open_more kept p false None is = refl
open_more kept p false (Some ps) is = rw is (elim (list_any kept ps) as (λ b. option_map (λ (qs : List Place). p ∷ qs) (cond b None (Some ps)) ≡ cond b None (Some (p ∷ ps))) [ true ↦ refl | false ↦ refl ])

open_by : (kept : Place → Bool) (p : Place) (b : Bool) (rest : Option (List Place)) → kept p ≡ b
    → option_and_then (λ (q : Place). option_map (λ (ps : List Place). q ∷ ps) rest) (cond b None (Some p)) ≡ cond b None (option_map (λ (ps : List Place). p ∷ ps) rest)
open_by kept p true rest is = refl
open_by kept p false rest is = refl

open_step : (kept : Place → Bool) (o : Option Place) (rest other : Option (List Place)) → other ≡ option_and_then (open_all kept) rest
    → option_and_then (λ (q : Place). option_map (λ (ps : List Place). q ∷ ps) other) (option_and_then (unless kept) o) ≡ option_and_then (open_all kept) (option_and_then (λ (q : Place). option_map (λ (ps : List Place). q ∷ ps) rest) o)
open_step kept None rest other same = refl
open_step kept (Some p) rest other same =
    open_by kept p (kept p) other refl
    ∙ ap (λ (o : Option (List Place)). cond (kept p) None (option_map (λ (ps : List Place). p ∷ ps) o)) same
    ∙ open_more kept p (kept p) rest refl

places_open : (kept : Place → Bool) (place : ℕ → Option Place) (at n : ℕ) → places_from (open_place kept place) at n ≡ option_and_then (open_all kept) (places_from place at n)
places_open kept place at zero = refl
places_open kept place at (suc n) = open_step kept (place at) (places_from place (at + 1) n) (places_from (open_place kept place) (at + 1) n) (places_open kept place (at + 1) n)

-- the places of a row that root is granted: none where one of them is kept
row_open_all : (image : Image) (lives : List Live) (id : ℕ) (access : Access) (at n : ℕ) (found : Option (List Place)) → found ≡ places_from (place_of id (regions_in image lives id) access) at n
    → option_and_then (open_all (is_closed_to image lives id)) found ≡ places_from (granted_in image lives id access) at n
row_open_all image lives id access at n found is =
    ap (option_and_then (open_all (is_closed_to image lives id))) is ∙ sym (places_open (is_closed_to image lives id) (place_of id (regions_in image lives id) access) at n)

pub row_kept : (image : Image) (lives : List Live) (id : ℕ) (access : Access) (at n : ℕ) (row : List Place) (b : Bool) → Some row ≡ places_from (place_of id (regions_in image lives id) access) at n
    → b ≡ list_any (is_closed_to image lives id) row → b ≡ true → None ≡ places_from (granted_in image lives id access) at n
row_kept image lives id access at n row b is kept shut =
    let e : list_any (is_closed_to image lives id) row ≡ true = sym kept ∙ shut in
    let none : open_all (is_closed_to image lives id) row ≡ None = rw e refl in
    sym none ∙ row_open_all image lives id access at n (Some row) is

pub row_granted : (image : Image) (lives : List Live) (id : ℕ) (access : Access) (at n : ℕ) (row : List Place) (b : Bool) → Some row ≡ places_from (place_of id (regions_in image lives id) access) at n
    → b ≡ list_any (is_closed_to image lives id) row → b ≡ false → Some row ≡ places_from (granted_in image lives id access) at n
row_granted image lives id access at n row b is kept free =
    let e : list_any (is_closed_to image lives id) row ≡ false = sym kept ∙ free in
    let whole : open_all (is_closed_to image lives id) row ≡ Some row = rw e refl in
    sym whole ∙ row_open_all image lives id access at n (Some row) is

pub row_lacking : (image : Image) (lives : List Live) (id : ℕ) (access : Access) (at n : ℕ) → None ≡ places_from (place_of id (regions_in image lives id) access) at n → None ≡ places_from (granted_in image lives id access) at n
row_lacking image lives id access at n is = row_open_all image lives id access at n None is

-- the regions of root, and of a cell that lives besides it
pub regions_root : (image : Image) (lives : List Live) (id : ℕ) → id ≡ image.system.root.id → regions_in image lives id ≡ image.system.root.memory_regions
regions_root image lives id own = ap (λ (b : Bool). option_map_or (λ (c : CellConfig). c.memory_regions) (cond b (Some image.system.root) (live_in lives id)) []) (eq-eqb id image.system.root.id own)

pub regions_live : (image : Image) (lives : List Live) (id : ℕ) → (id ≡ image.system.root.id → ⊥) → regions_in image lives id ≡ live_regions lives id
regions_live image lives id other = ap (λ (b : Bool). option_map_or (λ (c : CellConfig). c.memory_regions) (cond b (Some image.system.root) (live_in lives id)) []) (ne_eqb id image.system.root.id other)

-- the first row decides, or the second
pub kept_low : (image : Image) (lives : List Live) (id : ℕ) (low high places : List Place) (a : Bool) → id ≡ image.system.root.id → places ≡ low ++ high
    → a ≡ list_any (kept_from image lives) low → a ≡ true → a ≡ list_any (is_closed_to image lives id) places
kept_low image lives id low high places a own is first yes_low =
    let b = list_any (kept_from image lives) high in
    yes_low ∙ sym (or_left a b yes_low) ∙ kept_rows image lives id low high places a b own is first refl

pub kept_high : (image : Image) (lives : List Live) (id : ℕ) (low high places : List Place) (a b : Bool) → id ≡ image.system.root.id → places ≡ low ++ high
    → a ≡ list_any (kept_from image lives) low → a ≡ false → b ≡ list_any (kept_from image lives) high → b ≡ list_any (is_closed_to image lives id) places
kept_high image lives id low high places a b own is first no_low second = sym (ap (λ x. x || b) no_low) ∙ kept_rows image lives id low high places a b own is first second
