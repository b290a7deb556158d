-- CPU by CPU, up to the first that is named and mustn't be.
use Rattle.std.proofs.Common.{◌+◌, ◌∙◌, sym, refl, arith}
use Rattle.jh_num.specs.Bits.{has_bit}
use Rattle.jh_check.specs.Refusals.{is_beyond}
use Rattle.jh_num.proofs.Public.{below_at, below_none, below_more}
use Rattle.jh_check.proofs.refusal.any_beyond.Goals as goal

pub returns-then-is_beyond : goal.returns-then-is_beyond
returns-then-is_beyond c =
    sym (below_at (is_beyond (has_bit c.args.may) c.args.cell.now.cpu_set) 16 c.loop-cpu.cpu c.loop-cpu-test.true (sym c.is_beyond.ensures ∙ c.if-is_beyond.true))

pub loop-cpu-init : goal.loop-cpu-init
loop-cpu-init c = below_none (is_beyond (has_bit c.args.may) c.args.cell.now.cpu_set) 0 refl

pub loop-cpu-preserved : goal.loop-cpu-preserved
loop-cpu-preserved c =
    below_more (is_beyond (has_bit c.args.may) c.args.cell.now.cpu_set) c.loop-cpu.cpu (c.loop-cpu.cpu + 1) (omega arith) c.loop-cpu.invariant (sym c.is_beyond.ensures ∙ c.if-is_beyond.false)
