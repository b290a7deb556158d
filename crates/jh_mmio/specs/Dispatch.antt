-- Which device answers an access that no memory answers. The cases, of which the first decides:
--
--   1. it lies wholly in one subpage region, none of its bytes at a closed place: the region answers
--      where the right is there, the width is allowed, and the address is a multiple of the width or the
--      region allows any address
--   2. it lies wholly in the ECAM window: configuration space answers where the width is 1, 2 or 4 and
--      the offset from the window's start is a multiple of it
--   3. it lies wholly in a window of a device: the first such window answers where the width is 4 and the
--      address is a multiple of 4
--   4. nothing answers
--
-- A case that holds and whose tests fail ends the search: nothing answers. Closed places are those that
-- other cells hold; only root has some. An answer names the region or the window by its number, in 32
-- bits; those that have no number of 32 bits share the last one.
use Rattle.std.specs.Prelude.{ℕ, ◌+◌, ◌-◌, ◌%◌, Bool, true, false, ◌&&◌, ◌||◌, not, ◌==◌, nat_lt, nat_le, if◌then◌else◌, List, Option, Some, None, position, slice_get}
use Rattle.std.specs.List.{list_all, list_any, range_with_len}
use Rattle.std.specs.Option.{option_map_or}
use Rattle.jh_num.specs.declared.range.Range.{Range}
use Rattle.jh_num.specs.Numbers.{item_number}
use Rattle.jh_cellcfg.specs.declared.region.Region.{Region}
use Rattle.jh_cellcfg.specs.Regions.{has_flags, has_size, virt_end, is_comm, is_page_mapped, place_in, allows_width, allows_unaligned}
use Rattle.jh_mmio.specs.declared.hitting.Window.{Window}
use Rattle.jh_mmio.specs.declared.hitting.Hitting.{Hitting}
use Rattle.jh_mmio.specs.declared.hitting.Hitting.TheVariants.{Subpage, Ecam, Bar, Nothing}

-- the address is one from `start` on, up to and without `end`
abbrev pub is_between : ℕ → ℕ → ℕ → Bool
is_between start end at = nat_le start at && nat_lt at end

-- all bytes of the access, of so many from `at` on, are from `start` on, before `end`
abbrev pub lies_between : ℕ → ℕ → ℕ → ℕ → Bool
lies_between start end at width = list_all (is_between start end) (range_with_len at width)

-- a byte of the access is at a closed place of the region; a communication region has no places
abbrev pub is_at_closed : (ℕ → Bool) → ℕ → ℕ → Region → Bool
is_at_closed closed at width r = not (is_comm r) && list_any (λ a. closed (place_in r a)) (range_with_len at width)

-- the region is a subpage region that has all bytes of the access
abbrev pub has_whole : ℕ → ℕ → Region → Bool
has_whole at width r = (has_size r && not (is_page_mapped r)) && lies_between r.virt_start (virt_end r) at width

-- the region has all bytes of the access, none of them at a closed place
abbrev pub takes_all : (ℕ → Bool) → ℕ → ℕ → Region → Bool
takes_all closed at width r = has_whole at width r && not (is_at_closed closed at width r)

-- the region, where no byte of the access is at a closed place of it
abbrev pub unless_closed : (ℕ → Bool) → ℕ → ℕ → Option Region → Option Region
unless_closed closed at width None = None
unless_closed closed at width (Some r) = if is_at_closed closed at width r then None else Some r

-- the region has the right to read, or to write
abbrev pub has_right : Bool → Region → Bool
has_right false r = has_flags 0x1 r
has_right true r = has_flags 0x2 r

-- the region lets an access that is its own through
abbrev pub lets_through : ℕ → ℕ → Bool → Region → Bool
lets_through at width write r = has_right write r && (allows_width width r && (allows_unaligned r || (at % width == 0)))

-- the answer of the region with the number
abbrev pub by_subpage : List Region → ℕ → ℕ → Bool → ℕ → Hitting
by_subpage regions at width write k =
    if option_map_or (lets_through at width write) (slice_get regions k) false then Subpage (item_number k) else Nothing

-- the answer of configuration space, whose window begins at the start
abbrev pub by_ecam : ℕ → ℕ → ℕ → Hitting
by_ecam start at width = if (width == 1 || width == 2 || width == 4) && ((at - start) % width == 0) then Ecam else Nothing

-- the answer of the window with the number
abbrev pub by_window : ℕ → ℕ → ℕ → Hitting
by_window at width k = if width == 4 && (at % 4 == 0) then Bar (item_number k) else Nothing

-- the window has all bytes of the access
abbrev pub window_has : ℕ → ℕ → Window → Bool
window_has at width w = lies_between w.start (w.start + w.size) at width

-- what answers where no subpage region takes the access, by the ECAM window, which begins at the start and ends before
-- the end, and the windows of devices
abbrev pub hitting_behind_regions : ℕ → ℕ → List Window → ℕ → ℕ → Hitting
hitting_behind_regions start end windows at width =
    if lies_between start end at width
    then by_ecam start at width
    else option_map_or (by_window at width) (position (window_has at width) windows) Nothing

-- what answers the access; `write` tells a write from a read
unfoldable pub hitting : List Region → (ℕ → Bool) → Range → List Window → ℕ → ℕ → Bool → Hitting
hitting regions closed ecam windows at width write =
    option_map_or (by_subpage regions at width write) (position (takes_all closed at width) regions)
    (hitting_behind_regions ecam.start ecam.end windows at width)
