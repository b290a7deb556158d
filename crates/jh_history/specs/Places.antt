-- Where bytes are kept, and what a write over places leaves.
use Rattle.std.specs.Prelude.{ℕ, zero, suc, ◌+◌, ◌/◌, ◌%◌, ◌^◌, ◌<◌, Bool, false, ◌&&◌, ◌==◌, if◌then◌else◌, List, [], ◌∷◌}
use Rattle.jh_history.specs.declared.place.Place.{Place}
use Rattle.jh_history.specs.declared.place.Place.TheVariants.{Physical, Page}
use Rattle.jh_history.specs.declared.place.Row.{Row}

-- the two are one place
abbrev pub is_same : Place → Place → Bool
is_same (Physical p) (Physical q) = p == q
is_same (Physical p) (Page cell offset) = false
is_same (Page cell offset) (Physical q) = false
is_same (Page cell offset) (Page other at) = (cell == other) && (offset == at)

-- the number of the place in what it is a place of
abbrev pub number_of : Place → ℕ
number_of (Physical p) = p
number_of (Page cell offset) = offset

-- the place that lies so many places further
abbrev pub further : Place → ℕ → Place
further (Physical p) n = Physical (p + n)
further (Page cell offset) n = Page cell (offset + n)

-- the places in a row from the first on, so many of them
abbrev pub places_in_row : Place → ℕ → List Place
places_in_row place zero = []
places_in_row place (suc count) = place ∷ places_in_row (further place 1) count

-- the places of the row
abbrev pub places_of_row : Row → List Place
places_of_row row = places_in_row row.first row.count

-- the sum of the number of the row's first place and its count is below 2^64
abbrev pub IsRow : Row → Type 0
IsRow row = number_of row.first + row.count < 2 ^ 64

-- the bytes, with one changed
abbrev pub with_byte : (Place → ℕ) → Place → ℕ → Place → ℕ
with_byte byte place value q = if is_same q place then value else byte q

-- the bytes, with the value written over the places, the lowest byte first
abbrev pub written : (Place → ℕ) → List Place → ℕ → Place → ℕ
written byte [] value = byte
written byte (place ∷ places) value = written (with_byte byte place (value % 256)) places (value / 256)

-- the byte of a place after the value is written over the places, where it was b
abbrev pub overlaid : List Place → ℕ → Place → ℕ → ℕ
overlaid [] value q b = b
overlaid (place ∷ places) value q b = overlaid places (value / 256) q (if is_same q place then value % 256 else b)
