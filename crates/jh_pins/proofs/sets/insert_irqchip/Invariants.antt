-- The pins of the words so far.
use Rattle.std.proofs.Common.{◌≡◌, ℕ, ◌*◌, ◌||◌}
use Rattle.jh_num.specs.Bytes.{has_byte}
use Rattle.jh_pins.proofs.PinLemmas.{bit_of, passes_below}
use Rattle.jh_pins.proofs.sets.insert_irqchip.Given as goal

abbrev pub invariant-loop-index : goal.invariant-loop-index
invariant-loop-index l = (number : ℕ) → has_byte l.pins.ranges number ≡ (has_byte l.fn.pins.ranges number || passes_below (bit_of l.irqchip.pin_bitmap) l.irqchip.pin_base (32 * l.index) number)
