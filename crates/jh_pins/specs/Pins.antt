-- Which pins an interrupt controller gives to a cell, and which a cell names.
use Rattle.std.specs.Prelude.{◌≡◌, ℕ, ◌+◌, ◌-◌, ◌*◌, ◌/◌, ◌%◌, ◌<◌, Bool, true, ◌&&◌, ◌==◌, nat_lt, nat_le, List, slice_index}
use Rattle.std.specs.List.{list_any}
use Rattle.jh_num.specs.Bits.{has_bit}
use Rattle.jh_cellcfg.specs.declared.config.CellConfig.{CellConfig}
use Rattle.jh_cellcfg.specs.declared.config.Irqchip.{Irqchip}
use Rattle.jh_pins.specs.declared.pin.Pin.{Pin}
use Rattle.jh_pins.specs.Claims.{Claim}

-- the bit of that index is set in the bitmap of four words: bit b of word w has index 32 w + b
abbrev pub is_set : List ℕ → ℕ → Bool
is_set words index = nat_lt index 128 && has_bit (slice_index words (index / 32)) (index % 32)

-- the irqchip gives the pin: the pin is of the chip at the irqchip's address, and its number is the base and the index
-- of a bit that is set
abbrev pub is_given_by : Pin → Irqchip → Bool
is_given_by pin irqchip = (irqchip.address == pin.chip) && (nat_le irqchip.pin_base pin.number && is_set irqchip.pin_bitmap (pin.number - irqchip.pin_base))

-- the cell names the pin: one of its irqchips gives it
abbrev pub is_named_by : Pin → Claim → Bool
is_named_by pin claim = list_any (is_given_by pin) claim.irqchips

-- what the cell with the configuration claims: all pins that its irqchips give
abbrev pub claim_of : CellConfig → Claim
claim_of config = record { id = config.id; irqchips = config.irqchips }

-- the pin is the one of bit b of word w of the irqchip's bitmap, which is set
pub record IsPinOf (irqchip : Irqchip) (pin : Pin) : Type 0 where
  pub word : ℕ
  pub bit : ℕ
  pub few_words : word < 4
  pub few_bits : bit < 32
  pub set : has_bit (slice_index irqchip.pin_bitmap word) bit ≡ true
  pub chip : pin.chip ≡ irqchip.address
  pub number : pin.number ≡ irqchip.pin_base + 32 * word + bit
