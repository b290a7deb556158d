-- The numbers that words of communication pages are.
use Rattle.std.specs.Prelude.{ℕ, ◌+◌, ◌*◌}
use Rattle.jh_history.specs.declared.place.Place.TheVariants.{Page}
use Rattle.jh_history.specs.Facts.{Facts}

-- the number of 32 bits at the offset of the cell's communication page, the lowest byte first
abbrev pub number_in_page : Facts → ℕ → ℕ → ℕ
number_in_page f id at = f.byte (Page id at) + 256 * f.byte (Page id (at + 1)) + 65536 * f.byte (Page id (at + 2)) + 16777216 * f.byte (Page id (at + 3))
