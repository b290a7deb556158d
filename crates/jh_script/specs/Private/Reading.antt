-- How the reader makes a number of digits, one after the other.
use Rattle.std.specs.Prelude.{◌&&◌, ℕ, ◌+◌, ◌*◌, ◌^◌, nat_lt, if◌then◌else◌, Option, Some, None, List, [], ◌∷◌}
use Rattle.std.specs.Char.{digit_value, is_digit}
use Rattle.jh_script.specs.Operations.{◌>>=◌}

-- the number with one more digit
abbrev pub next_value : ℕ → ℕ → ℕ → Option ℕ
next_value base n c =
    if is_digit c base && nat_lt (n * base + digit_value c) (2 ^ 64) then Some (n * base + digit_value c) else None

-- the number that the digits write after those of n
unfoldable pub value_after : ℕ → ℕ → List ℕ → Option ℕ
value_after base n [] = Some n
value_after base n (c ∷ cs) = next_value base n c >>= λ m. value_after base m cs
