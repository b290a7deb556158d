-- One irqchip more.
use Rattle.std.proofs.Common.{ℕ, ◌+◌, take, Option, sym, subst, arith}
use Rattle.jh_pins.specs.Private.Given.{IsNextChip}
use Rattle.jh_pins.proofs.RunLemmas.{nearer_more}
use Rattle.jh_pins.proofs.runs.next_chip.Goals as goal

pub loop-irqchip-preserved : goal.loop-irqchip-preserved
loop-irqchip-preserved c =
    let P : Option ℕ → Type 0 = λ next. IsNextChip (take (c.loop-irqchip.irqchip-index + 1) c.args.irqchips.now) c.args.last next in
    subst P (sym c.nearer-next.ensures) (nearer_more c.args.last c.loop-irqchip.next c.args.irqchips.now c.loop-irqchip.irqchip-index _ (omega arith) c.loop-irqchip.invariant)
