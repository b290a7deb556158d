-- The numbers of a text.
use Rattle.std.specs.Prelude.{◌&&◌, ℕ, ◌^◌, Bool, ◌==◌, nat_lt, nat_le, if◌then◌else◌, Option, Some, None, List, [], ◌∷◌, length, drop, codes, nat_eq}
use Rattle.std.specs.Char.{is_digit}
use Rattle.std.specs.List.{list_all, starts_with}
use Rattle.std.specs.Str.Parse.{digits_value}

-- each byte is a digit of the base, where letters are of either case
unfoldable pub are_digits : ℕ → List ℕ → Bool
are_digits base digits = list_all (λ c. is_digit c base) digits

-- the number that the digits write in the base, where each byte is one and the number is below 2 ^ 64
unfoldable pub value_of : ℕ → List ℕ → Option ℕ
value_of base digits =
    if are_digits base digits && nat_lt (digits_value base digits) (2 ^ 64) then Some (digits_value base digits) else None

-- the number that a word writes in decimal: one digit or more, without a leading zero
unfoldable pub decimal_of : List ℕ → Option ℕ
decimal_of [] = None
decimal_of (digit ∷ []) = value_of 10 (digit ∷ [])
decimal_of (first ∷ second ∷ digits) = if first == 48 then None else value_of 10 (first ∷ second ∷ digits)

-- the number that 1 to 16 hexadecimal digits write, which stand behind a `0x`
unfoldable pub hexadecimal_of : List ℕ → Option ℕ
hexadecimal_of digits = if nat_lt 0 (length digits) && nat_le (length digits) 16 then value_of 16 digits else None

-- the number that a word writes: in hexadecimal where it begins with `0x`, else in decimal
unfoldable pub number_written : List ℕ → Option ℕ
number_written word = if starts_with nat_eq word (codes "0x") then hexadecimal_of (drop 2 word) else decimal_of word
