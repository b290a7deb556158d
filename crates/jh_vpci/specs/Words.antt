-- Configuration space read by words of 32 bits. An access is aligned, so it lies in one word.
use Rattle.std.specs.Prelude.{ℕ, ◌+◌, ◌-◌, ◌*◌, ◌/◌, ◌%◌, ◌^◌, ◌==◌, not, List, [], ◌∷◌, unwrap_or}
use Rattle.std.specs.Map.{lookup}
use Rattle.jh_num.specs.Bits.{bits_where}
use Rattle.jh_vpci.specs.declared.function.FunctionSpec.{FunctionSpec}
use Rattle.jh_vpci.specs.Space.{Space, has_vectors}

-- command: bit 1 memory space, bit 2 bus master, bit 10 interrupts off
abbrev pub command_bits : Space → ℕ
command_bits space =
    bits_where space.memory 0x2 + bits_where space.bus_master 0x4 + bits_where space.interrupts_off 0x400

-- control of MSI-X: the number of vectors less 1, bit 14 the function mask, bit 15 enable
abbrev pub control_bits : Space → ℕ
control_bits space =
    (space.spec.vectors - 1) + bits_where space.masked 0x4000 + bits_where space.enabled 0x8000

-- the number where the function has MSI-X vectors, else 0
abbrev pub with_vectors : FunctionSpec → ℕ → ℕ
with_vectors spec n = bits_where (has_vectors spec) n

-- the words that aren't always 0, by their offset: device above vendor; status above command; class, protocol
-- and revision; the BARs; where the capabilities begin; the interrupt pin; the vendor's capability with
-- privileged control on top; the sizes of the state table, the read/write section and one output section, and
-- the address of the state table; the capability of MSI-X, its table at the start of BAR 1 and its pending
-- bits at 100h there
abbrev pub words_of : Space → List (ℕ × ℕ)
words_of space = let spec = space.spec in
    (0x00, 0x4106 * 2 ^ 16 + 0x110a)
    ∷ (0x04, 0x0010 * 2 ^ 16 + command_bits space)
    ∷ (0x08, 0xff * 2 ^ 24 + spec.protocol * 2 ^ 8)
    ∷ (0x10, space.bar0)
    ∷ (0x14, space.bar1)
    ∷ (0x34, 0x40)
    ∷ (0x3c, bits_where (not (has_vectors spec)) 1 * 2 ^ 8)
    ∷ (0x40, bits_where space.one_shot 1 * 2 ^ 24 + 0x20 * 2 ^ 16 + with_vectors spec 0x60 * 2 ^ 8 + 0x09)
    ∷ (0x44, spec.state_size)
    ∷ (0x48, spec.rw_size % 2 ^ 32)
    ∷ (0x4c, spec.rw_size / 2 ^ 32)
    ∷ (0x50, spec.out_size % 2 ^ 32)
    ∷ (0x54, spec.out_size / 2 ^ 32)
    ∷ (0x58, spec.address % 2 ^ 32)
    ∷ (0x5c, spec.address / 2 ^ 32)
    ∷ (0x60, with_vectors spec (control_bits space * 2 ^ 16 + 0x11))
    ∷ (0x64, with_vectors spec 0x001)
    ∷ (0x68, with_vectors spec 0x101)
    ∷ []

-- the word at the offset, 0 where none is listed
unfoldable pub word_of : Space → ℕ → ℕ
word_of space offset = unwrap_or (lookup (λ listed. listed == offset) (words_of space)) 0

-- the offset at which the word begins that has the byte
abbrev pub word_offset : ℕ → ℕ
word_offset at = at / 4 * 4

-- the number of so many bytes from `at` on, the lowest first
abbrev pub read_of : Space → ℕ → ℕ → ℕ
read_of space at width = word_of space (word_offset at) / 2 ^ (8 * (at % 4)) % 2 ^ (8 * width)
