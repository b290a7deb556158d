-- Bytes as functions of their places, and the numbers that bytes spell.
use Rattle.std.specs.Prelude.{ℕ, zero, suc, ◌+◌, ◌-◌, ◌*◌, ◌^◌, ◌&&◌, nat_lt, nat_le, if◌then◌else◌, List, [], ◌∷◌, length, slice_index}

-- the number that the bytes spell, the lowest first
abbrev pub spelled : List ℕ → ℕ
spelled [] = 0
spelled (b ∷ bs) = b + 256 * spelled bs

-- the number of so many bytes of which byte k counts 256 ^ k
abbrev pub little_endian : ℕ → (ℕ → ℕ) → ℕ
little_endian zero byte = 0
little_endian (suc count) byte = little_endian count byte + byte count * 256 ^ count

-- the bytes, with the list's from `at` on
abbrev pub stored : (ℕ → ℕ) → ℕ → List ℕ → ℕ → ℕ
stored byte at bytes q = if nat_le at q && nat_lt q (at + length bytes) then slice_index bytes (q - at) else byte q
