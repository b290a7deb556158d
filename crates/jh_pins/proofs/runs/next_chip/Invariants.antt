-- The least address so far.
use Rattle.std.proofs.Common.{take}
use Rattle.jh_pins.specs.Private.Given.{IsNextChip}
use Rattle.jh_pins.proofs.runs.next_chip.Given as goal

abbrev pub invariant-loop-irqchip : goal.invariant-loop-irqchip
invariant-loop-irqchip l = IsNextChip (take l.irqchip-index l.irqchips) l.last l.next
