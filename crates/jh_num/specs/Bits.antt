-- The bits of a number.
use Rattle.std.specs.Prelude.{ℕ, Bool, ◌==◌, if◌then◌else◌}
use Rattle.std.specs.Int.{bit_at}

-- the bit of that number is set
abbrev pub has_bit : ℕ → ℕ → Bool
has_bit mask index = bit_at mask index == 1

-- the bits where the fact holds, else 0
abbrev pub bits_where : Bool → ℕ → ℕ
bits_where fact bits = if fact then bits else 0
