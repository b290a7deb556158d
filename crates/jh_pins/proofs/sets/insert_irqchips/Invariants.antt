-- The pins of the irqchips so far.
use Rattle.std.proofs.Common.{take}
use Rattle.jh_pins.specs.Pins.{is_given_by}
use Rattle.jh_pins.specs.Runs.{pin_of}
use Rattle.jh_pins.proofs.PinLemmas.{AreMore}
use Rattle.jh_pins.proofs.sets.insert_irqchips.Given as goal

abbrev pub invariant-loop-irqchip : goal.invariant-loop-irqchip
invariant-loop-irqchip l = AreMore (λ number. is_given_by (pin_of l.chip number)) (take l.irqchip-index l.irqchips) l.fn.pins.ranges l.pins.ranges
