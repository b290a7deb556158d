-- How much a text of demands may have.
use Rattle.std.specs.Prelude.{ℕ}

-- how many demands a text may have
abbrev pub most_demands : ℕ
most_demands = 15
