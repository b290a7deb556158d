-- What is left of ranges that a range is cut from.
use Rattle.std.specs.Prelude.{nat_lt, List, [], ◌∷◌, if◌then◌else◌}
use Rattle.jh_num.specs.declared.range.Range.{Range}

-- the range alone, where it isn't empty, and else none
abbrev pub pieces : Range → List Range
pieces range = if nat_lt range.start range.end then range ∷ [] else []
