-- Sums over the numbers below a bound, and tests of them.
use Rattle.std.specs.Prelude.{ℕ, ◌+◌, Bool, false, ◌||◌, zero, suc}

-- the sum of the function's values at the numbers below n
unfoldable pub sum_below : ℕ → (ℕ → ℕ) → ℕ
sum_below zero f = 0
sum_below (suc n) f = sum_below n f + f n

-- a number below the given one passes the test
unfoldable pub any_below : (ℕ → Bool) → ℕ → Bool
any_below test zero = false
any_below test (suc n) = any_below test n || test n
