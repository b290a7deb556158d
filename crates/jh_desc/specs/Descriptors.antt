-- Descriptors of stage-2 tables and their words (Arm ARM, VMSAv8-64 stage 2 with a 4 KB granule).
--
--   0         valid
--   1         1: a table above the last level, a page at it; 0: a block at levels 1 and 2, else invalid
--   5 to 2    memory: 1111 normal write-back, 0001 Device-nGnRE; device wherever 5 and 4 are 00
--   6, 7      may be read, may be written
--   9 to 8    11, inner shareable
--   10        1, accessed
--   47 to 12  the address: of a table or a page from bit 12 on, of a block from bit 21 or 30 on
--   54        execute never
use Rattle.std.specs.Prelude.{◌≡◌, ℕ, ◌+◌, ◌-◌, ◌*◌, ◌/◌, ◌%◌, ◌^◌, ◌<◌, Bool, ◌&&◌, not, ◌==◌, nat_lt, if◌then◌else◌}
use Rattle.jh_num.specs.declared.rights.Rights.{Rights}
use Rattle.jh_desc.specs.declared.descriptor.Descriptor.{Descriptor}
use Rattle.jh_desc.specs.declared.descriptor.Descriptor.TheVariants.{Invalid, Table, Leaf}
use Rattle.jh_num.specs.declared.level.TheConstants.{LAST_LEVEL}
use Rattle.jh_num.specs.Bits.{bits_where, has_bit}
use Rattle.jh_num.specs.Levels.{slot_size}

-- the address in the word, of a slot of that many bytes
abbrev pub address_in : ℕ → ℕ → ℕ
address_in size word = word % 2 ^ 48 - word % 2 ^ 48 % size

-- the rights that the word of a leaf gives
abbrev pub rights_in : ℕ → Rights
rights_in word = record { read = has_bit word 6; write = has_bit word 7; execute = not (has_bit word 54) }

-- the word of a leaf says that its memory is a device's
abbrev pub is_device : ℕ → Bool
is_device word = (word / 2 ^ 4 % 4) == 0

-- the leaf that the word says at the level
abbrev pub leaf_in : ℕ → ℕ → Descriptor
leaf_in level word = Leaf (address_in (slot_size level) word) (rights_in word) (is_device word)

-- the level has blocks, as levels 1 and 2 do
abbrev pub has_blocks : ℕ → Bool
has_blocks level = nat_lt 0 level && nat_lt level LAST_LEVEL

-- what the word says at the level
abbrev pub read_of : ℕ → ℕ → Descriptor
read_of word level =
    if has_bit word 0
    then (if has_bit word 1
    then (if level == LAST_LEVEL then leaf_in level word else Table (address_in 4096 word))
    else (if has_blocks level then leaf_in level word else Invalid))
    else Invalid

-- the bits of a leaf below its address, and bit 54
abbrev pub leaf_bits : ℕ → Rights → Bool → ℕ
leaf_bits level rights device =
    1 + bits_where (level == LAST_LEVEL) 2 + (if device then 1 else 15) * 2 ^ 2
    + bits_where rights.read (2 ^ 6) + bits_where rights.write (2 ^ 7) + 3 * 2 ^ 8 + 2 ^ 10
    + bits_where (not rights.execute) (2 ^ 54)

-- the word that says the descriptor at the level
abbrev pub word_of : Descriptor → ℕ → ℕ
word_of Invalid level = 0
word_of (Table next) level = next + 3
word_of (Leaf out rights device) level = out + leaf_bits level rights device

-- the level may have the descriptor: an invalid one, a table above the last level, at a multiple of 4,096, or a leaf
-- from level 1 on, at a multiple of the size of the level's slots; the latter two below 2^48
abbrev pub IsWritable : Descriptor → ℕ → Type 0
IsWritable Invalid level = Unit {0}
IsWritable (Table next) level = (level < LAST_LEVEL) × (next % 4096 ≡ 0) × (next < 2 ^ 48)
IsWritable (Leaf out rights device) level = (0 < level) × (out % slot_size level ≡ 0) × (out < 2 ^ 48)
