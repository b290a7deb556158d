-- What a write leaves in configuration space.
use Rattle.std.specs.Prelude.{ℕ, ◌+◌, ◌*◌, ◌/◌, ◌%◌, ◌^◌, ◌<◌, ◌≤◌, ◌≡◌, ◌&&◌, ◌==◌, if◌then◌else◌}
use Rattle.std.specs.Int.{bit_at}
use Rattle.jh_num.specs.Bits.{has_bit}
use Rattle.jh_vpci.specs.Space.{Space, has_vectors}
use Rattle.jh_vpci.specs.Words.{word_of, word_offset, with_vectors}

-- the word with the lowest bytes of the value in place of its bytes from `at` on
abbrev pub spliced : ℕ → ℕ → ℕ → ℕ → ℕ
spliced word at width value =
    let low = 8 * (at % 4) in
    let high = low + 8 * width in
    word % 2 ^ low + value % 2 ^ (8 * width) * 2 ^ low + word / 2 ^ high * 2 ^ high

-- the space after this word is put at the offset: of its bits those count that can be written
unfoldable pub with_word : Space → ℕ → ℕ → Space
with_word space offset word =
    if offset == 0x04 then record space {
      memory = has_bit word 1;
      bus_master = has_bit word 2;
      interrupts_off = has_bit word 10;
    }
    else (if offset == 0x10 then record space { bar0 = word / 0x1000 * 0x1000 }
    else (if (offset == 0x14) && has_vectors space.spec then record space { bar1 = word / 0x200 * 0x200 }
    else (if offset == 0x40 then record space { one_shot = has_bit word 24 }
    else (if (offset == 0x60) && has_vectors space.spec then record space {
      masked = has_bit word 30;
      enabled = has_bit word 31;
    }
    else space))))

-- the space after a write of so many bytes at `at`
abbrev pub written : Space → ℕ → ℕ → ℕ → Space
written space at width value =
    with_word space (word_offset at) (spliced (word_of space (word_offset at)) at width value)

-- the bits of the word at the offset that can be written: bits 1, 2 and 10 of command, all of BAR 0 from bit
-- 12 on, all of BAR 1 from bit 9 on, bit 0 of privileged control, bits 14 and 15 of control of MSI-X; BAR 1
-- and MSI-X only with vectors
abbrev pub writable_bits : Space → ℕ → ℕ
writable_bits space offset =
    if offset == 0x04 then 0x0406
    else (if offset == 0x10 then 0xfffff000
    else (if offset == 0x14 then with_vectors space.spec 0xfffffe00
    else (if offset == 0x40 then 0x01000000
    else (if offset == 0x60 then with_vectors space.spec 0xc0000000
    else 0))))

-- the bit of a word is one of the written bytes' and can be written
abbrev pub IsPut : Space → ℕ → ℕ → ℕ → Type 0
IsPut space at width k =
    (bit_at (writable_bits space (word_offset at)) k ≡ 1) × (8 * (at % 4) ≤ k) × (k < 8 * (at % 4) + 8 * width)
