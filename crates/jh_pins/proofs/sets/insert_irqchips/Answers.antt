-- One irqchip more.
use Rattle.std.proofs.Common.{arith}
use Rattle.jh_pins.specs.Pins.{is_given_by}
use Rattle.jh_pins.specs.Runs.{pin_of}
use Rattle.jh_pins.proofs.PinLemmas.{those_of_one}
use Rattle.jh_pins.proofs.sets.insert_irqchips.Goals as goal

pub loop-irqchip-preserved : goal.loop-irqchip-preserved
loop-irqchip-preserved c =
    those_of_one (λ number. is_given_by (pin_of c.args.chip number)) c.args.irqchips.now c.loop-irqchip.irqchip-index _
    c.args.pins.now.ranges c.loop-irqchip.pins.ranges c.insert_if_of.new.pins.ranges
    (omega arith) c.loop-irqchip.invariant c.in_ok-insert_if_of.ensures
