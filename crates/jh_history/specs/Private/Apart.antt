-- Ranges of numbers that have none in common.
use Rattle.std.specs.Prelude.{ℕ, ◌+◌, Bool, ◌&&◌, nat_lt, nat_le, IsTrue}

-- the number is one of the range's: those from its start on, as many as its length
abbrev pub is_among : ℕ → ℕ → ℕ → Bool
is_among start len k = nat_le start k && nat_lt k (start + len)

-- no number is one of both ranges
abbrev pub HasNoneOf : ℕ → ℕ → ℕ → ℕ → Type 0
HasNoneOf a a_len b b_len = (k : ℕ) → IsTrue (is_among a a_len k) → IsTrue (is_among b b_len k) → ⊥
