-- Which bytes ranges have, and when a list of ranges is the one form of its set of bytes.
use Rattle.std.specs.Prelude.{ℕ, ◌+◌, ◌<◌, ◌≤◌, Bool, ◌&&◌, nat_lt, nat_le, List, [], ◌∷◌}
use Rattle.std.specs.List.{list_any}
use Rattle.jh_num.specs.declared.range.Range.{Range}

-- the byte is in the range
abbrev pub in_range : Range → ℕ → Bool
in_range range at = nat_le range.start at && nat_lt at range.end

-- the byte is in one of the ranges
abbrev pub has_byte : List Range → ℕ → Bool
has_byte ranges at = list_any (λ (range : Range). in_range range at) ranges

-- the first range starts at the byte `low` or later, none is empty, and between a range and the next
-- there is a byte at least
abbrev pub AreApartFrom : ℕ → List Range → Type 0
AreApartFrom low [] = Unit {0}
AreApartFrom low (range ∷ ranges) =
    (low ≤ range.start) × (range.start < range.end) × AreApartFrom (range.end + 1) ranges

-- the ranges are in order, none is empty, and between one and the next is a byte at least
abbrev pub AreApart : List Range → Type 0
AreApart = AreApartFrom 0
