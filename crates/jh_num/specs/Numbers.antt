-- Numbers that stop at the last one of their width.
use Rattle.std.specs.Prelude.{ℕ, ◌+◌, ◌-◌, ◌^◌, min}

-- the count and one more, or still the last number of 64 bits
abbrev pub counted_up : ℕ → ℕ
counted_up count = min (count + 1) (2 ^ 64 - 1)

-- an item by its number, of 32 bits: all items from the last such number on have that one
abbrev pub item_number : ℕ → ℕ
item_number index = min index 0xffffffff
