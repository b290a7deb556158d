-- The pins of one word of an irqchip's bitmap.
use Rattle.std.specs.Prelude.{ℕ, ◌-◌, Bool, ◌&&◌, nat_le, nat_lt}
use Rattle.jh_num.specs.Bits.{has_bit}

-- the number is that of a bit of the word that is set, where the pin of its bit 0 has the number `first`
abbrev pub is_in_word : ℕ → ℕ → ℕ → Bool
is_in_word word first number = nat_le first number && (nat_lt (number - first) 32 && has_bit word (number - first))
