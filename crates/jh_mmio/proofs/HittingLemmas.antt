-- What answers, by the region or the window that is found.
use Rattle.std.proofs.Common.{◌≡◌, ℕ, ◌<◌, Bool, true, false, ◌&&◌, not, cond, List, Option, Some, None, length, get_or, refl, sym, ◌∙◌, ap, subst, arith, IsTrue}
use Rattle.std.specs.Prelude.{find, position, slice_get}
use Rattle.std.specs.Option.{option_map_or}
use Rattle.std.proofs.lemmas.Bool.{and_parts, and_from, not-true, false_from_ne_true, both_ways}
use Rattle.std.proofs.lemmas.Option.{none-some, same_Some, slice_get-get_or}
use Rattle.jh_num.proofs.Public.{IsFound_from_find, find_None, position_here, position_nowhere}
use Rattle.jh_num.specs.declared.range.Range.{Range}
use Rattle.jh_cellcfg.specs.declared.region.Region.{Region}
use Rattle.jh_cellcfg.specs.Regions.{has_address, has_size, is_page_mapped, virt_end}
use Rattle.jh_cellcfg.proofs.Public.{has_address_from}
use Rattle.jh_mmio.specs.declared.hitting.Window.{Window}
use Rattle.jh_mmio.specs.declared.hitting.Hitting.TheVariants.{Subpage, Nothing}
use Rattle.jh_mmio.specs.Index.{IsRegionAt}
use Rattle.jh_mmio.specs.Private.Numbers.{IsNumberAt}
use Rattle.jh_mmio.specs.Dispatch.{lies_between, is_at_closed, takes_all, has_whole, unless_closed, has_right, lets_through, by_subpage, by_ecam, by_window, window_has, hitting_behind_regions, hitting}
use Rattle.jh_num.specs.Numbers.{item_number}
use Rattle.jh_mmio.proofs.AccessLemmas.{lies_parts}

-- a region that has all bytes has the first
pub takes_all_has : (closed : ℕ → Bool) (at n : ℕ) (r : Region) → 0 < n → takes_all closed at n r ≡ true → IsTrue (has_address r at)
takes_all_has closed at n r some h =
    let open_whole = and_parts (has_whole at n r) (not (is_at_closed closed at n r)) h in
    let whole = and_parts (has_size r && not (is_page_mapped r)) (lies_between r.virt_start (virt_end r) at n) open_whole.0 in
    let parts = lies_parts r.virt_start (virt_end r) at n some whole.1 in
    has_address_from r at parts.0 (omega arith)

-- so it has the number that the index tells
pub number_taken : (regions : List Region) (closed : ℕ → Bool) (at n : ℕ) (found : Option ℕ) → 0 < n → IsNumberAt regions at found → (j : ℕ) (d : Region) → j < length regions → takes_all closed at n (get_or regions j d) ≡ true → found ≡ Some j
number_taken regions closed at n found some is j d lt takes =
    is.only j (get_or regions j d) (slice_get-get_or regions j d lt) (takes_all_has closed at n (get_or regions j d) some takes)

pub subpage_found : (regions : List Region) (closed : ℕ → Bool) (at n k : ℕ) (d : Region) → 0 < n → IsNumberAt regions at (Some k) → takes_all closed at n (get_or regions k d) ≡ true → Some k ≡ position (takes_all closed at n) regions
subpage_found regions closed at n k d some is takes =
    position_here (takes_all closed at n) regions k d is.own
    (λ j lt. false_from_ne_true (takes_all closed at n (get_or regions j d)) (λ h. let e : k ≡ j = same_Some k j (number_taken regions closed at n (Some k) some is j d (omega (arith, is.own)) h) in omega arith))
    takes

pub subpage_other : (regions : List Region) (closed : ℕ → Bool) (at n k : ℕ) (d : Region) → 0 < n → IsNumberAt regions at (Some k) → takes_all closed at n (get_or regions k d) ≡ false → None ≡ position (takes_all closed at n) regions
subpage_other regions closed at n k d some is lacks =
    position_nowhere (takes_all closed at n) regions d
    (λ j lt. false_from_ne_true (takes_all closed at n (get_or regions j d)) (λ h.
    let e : k ≡ j = same_Some k j (number_taken regions closed at n (Some k) some is j d lt h) in
    let P : ℕ → Type 0 = λ m. takes_all closed at n (get_or regions m d) ≡ false in
    both_ways (takes_all closed at n (get_or regions j d)) (subst P e lacks) h))

pub subpage_none : (regions : List Region) (closed : ℕ → Bool) (at n : ℕ) (d : Region) → 0 < n → IsNumberAt regions at None → None ≡ position (takes_all closed at n) regions
subpage_none regions closed at n d some is =
    position_nowhere (takes_all closed at n) regions d
    (λ j lt. false_from_ne_true (takes_all closed at n (get_or regions j d)) (λ h. none-some j (number_taken regions closed at n None some is j d lt h)))

-- the one region that can have the address decides whether a subpage region has the access
whole_parts : (closed : ℕ → Bool) (at n : ℕ) (r : Region) → takes_all closed at n r ≡ true → (has_whole at n r ≡ true) × (is_at_closed closed at n r ≡ false)
whole_parts closed at n r h =
    let parts = and_parts (has_whole at n r) (not (is_at_closed closed at n r)) h in (parts.0, not-true (is_at_closed closed at n r) parts.1)

whole_from : (closed : ℕ → Bool) (at n : ℕ) (r : Region) → has_whole at n r ≡ true → is_at_closed closed at n r ≡ false → takes_all closed at n r ≡ true
whole_from closed at n r h open_is =
    and_from (has_whole at n r) (not (is_at_closed closed at n r)) h (ap not open_is)

found_is : (regions : List Region) (closed : ℕ → Bool) (at n : ℕ) (o : Option Region) (s : Region) → 0 < n → IsRegionAt regions at o → find (takes_all closed at n) regions ≡ Some s → o ≡ Some s
found_is regions closed at n o s some is e =
    let found = IsFound_from_find (takes_all closed at n) regions s e in
    is.only s found.among (takes_all_has closed at n s some found.passes)

found_by : (regions : List Region) (closed : ℕ → Bool) (at n : ℕ) (r : Region) (f : Option Region) (b : Bool) → 0 < n → IsRegionAt regions at (Some r) → has_whole at n r ≡ true → find (takes_all closed at n) regions ≡ f → is_at_closed closed at n r ≡ b → f ≡ cond b None (Some r)
found_by regions closed at n r None true some is whole e closed_is = refl
found_by regions closed at n r None false some is whole e closed_is = absurd (both_ways (takes_all closed at n r) (find_None (takes_all closed at n) regions r e is.own) (whole_from closed at n r whole closed_is))
found_by regions closed at n r (Some s) b some is whole e closed_is =
    let same : r ≡ s = same_Some r s (found_is regions closed at n (Some r) s some is e) in
    let open_is : is_at_closed closed at n r ≡ false = ap (is_at_closed closed at n) same ∙ (whole_parts closed at n s (IsFound_from_find (takes_all closed at n) regions s e).passes).1 in
    ap Some (sym same) ∙ sym (ap (λ c. cond c None (Some r)) (sym closed_is ∙ open_is))

pub whole_found : (regions : List Region) (at n : ℕ) (r : Region) → 0 < n → IsRegionAt regions at (Some r) → has_whole at n r ≡ true
    → (closed : ℕ → Bool) → find (takes_all closed at n) regions ≡ unless_closed closed at n (Some r)
whole_found regions at n r some is whole closed = found_by regions closed at n r (find (takes_all closed at n) regions) (is_at_closed closed at n r) some is whole refl refl

other_by : (regions : List Region) (closed : ℕ → Bool) (at n : ℕ) (r : Region) (f : Option Region) → 0 < n → IsRegionAt regions at (Some r) → has_whole at n r ≡ false → find (takes_all closed at n) regions ≡ f → f ≡ None
other_by regions closed at n r None some is lacks e = refl
other_by regions closed at n r (Some s) some is lacks e =
    let same : r ≡ s = same_Some r s (found_is regions closed at n (Some r) s some is e) in
    absurd (both_ways (has_whole at n r) lacks (ap (has_whole at n) same ∙ (whole_parts closed at n s (IsFound_from_find (takes_all closed at n) regions s e).passes).0))

pub whole_other : (regions : List Region) (at n : ℕ) (r : Region) → 0 < n → IsRegionAt regions at (Some r) → has_whole at n r ≡ false
    → (closed : ℕ → Bool) → find (takes_all closed at n) regions ≡ None
whole_other regions at n r some is lacks closed = other_by regions closed at n r (find (takes_all closed at n) regions) some is lacks refl

none_by : (regions : List Region) (closed : ℕ → Bool) (at n : ℕ) (f : Option Region) → 0 < n → IsRegionAt regions at None → find (takes_all closed at n) regions ≡ f → f ≡ None
none_by regions closed at n None some is e = refl
none_by regions closed at n (Some s) some is e = absurd (none-some s (found_is regions closed at n None s some is e))

pub whole_none : (regions : List Region) (at n : ℕ) → 0 < n → IsRegionAt regions at None → (closed : ℕ → Bool) → find (takes_all closed at n) regions ≡ None
whole_none regions at n some is closed = none_by regions closed at n (find (takes_all closed at n) regions) some is refl

-- behind the regions, by the window that is found
pub behind_window : (ecam : Range) (windows : List Window) (at n : ℕ) (first : Option ℕ) → lies_between ecam.start ecam.end at n ≡ false → first ≡ position (window_has at n) windows → option_map_or (by_window at n) first Nothing ≡ hitting_behind_regions ecam.start ecam.end windows at n
behind_window ecam windows at n first past is =
    ap (λ (o : Option ℕ). option_map_or (by_window at n) o Nothing) is
    ∙ sym (ap (λ b. cond b (by_ecam ecam.start at n) (option_map_or (by_window at n) (position (window_has at n) windows) Nothing)) past)

pub behind_ecam : (ecam : Range) (windows : List Window) (at n : ℕ) → lies_between ecam.start ecam.end at n ≡ true → by_ecam ecam.start at n ≡ hitting_behind_regions ecam.start ecam.end windows at n
behind_ecam ecam windows at n lies = sym (ap (λ b. cond b (by_ecam ecam.start at n) (option_map_or (by_window at n) (position (window_has at n) windows) Nothing)) lies)

-- and all of it
pub hitting_first : (regions : List Region) (closed : ℕ → Bool) (ecam : Range) (windows : List Window) (at n : ℕ) (write : Bool) (first : Option ℕ) → first ≡ position (takes_all closed at n) regions
    → option_map_or (by_subpage regions at n write) first (hitting_behind_regions ecam.start ecam.end windows at n) ≡ hitting regions closed ecam windows at n write
unfolding hitting
hitting_first regions closed ecam windows at n write first is = ap (λ (o : Option ℕ). option_map_or (by_subpage regions at n write) o (hitting_behind_regions ecam.start ecam.end windows at n)) is

-- an access of no bytes is no access
no_bytes_through : (b : Bool) (k : ℕ) → Nothing ≡ cond (b && false) (Subpage (item_number k)) Nothing
no_bytes_through true k = refl
no_bytes_through false k = refl

no_bytes_at : (at k : ℕ) (write : Bool) (o : Option Region) → Nothing ≡ cond (option_map_or (lets_through at 0 write) o false) (Subpage (item_number k)) Nothing
no_bytes_at at k write None = refl
no_bytes_at at k write (Some r) = no_bytes_through (has_right write r) k

no_bytes_by : (regions : List Region) (ecam : Range) (windows : List Window) (at : ℕ) (write : Bool) (first : Option ℕ) → Nothing ≡ option_map_or (by_subpage regions at 0 write) first (hitting_behind_regions ecam.start ecam.end windows at 0)
no_bytes_by regions ecam windows at write None = refl
no_bytes_by regions ecam windows at write (Some k) = no_bytes_at at k write (slice_get regions k)

pub hitting_no_bytes : (regions : List Region) (closed : ℕ → Bool) (ecam : Range) (windows : List Window) (at n : ℕ) (write : Bool) → n ≡ 0 → Nothing ≡ hitting regions closed ecam windows at n write
unfolding hitting
hitting_no_bytes regions closed ecam windows at n write zero =
    let P : ℕ → Type 0 = λ m. Nothing ≡ hitting regions closed ecam windows at m write in
    subst P (sym zero) (no_bytes_by regions ecam windows at write (position (takes_all closed at 0) regions))
