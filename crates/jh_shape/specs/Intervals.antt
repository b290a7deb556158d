-- Intervals: the numbers from `start` on, below `end`, against `size` numbers from `at` on.
use Rattle.std.specs.Prelude.{ℕ, ◌+◌, Bool, ◌&&◌, nat_lt, nat_le}

-- the interval has one of the numbers, of which there is one at least; an interval without numbers has none
abbrev pub touches : ℕ → ℕ → ℕ → ℕ → Bool
touches start end at size = nat_lt start end && (nat_lt start (at + size) && nat_lt at end)

-- each of the numbers is in the interval
abbrev pub spans : ℕ → ℕ → ℕ → ℕ → Bool
spans start end at size = nat_le start at && nat_le (at + size) end
