-- CPU by CPU, up to the first that the cell has.
use Rattle.std.proofs.Common.{◌+◌, ◌∙◌, sym, refl, arith}
use Rattle.jh_cellcfg.specs.Cells.{is_cpu_set}
use Rattle.jh_num.proofs.Public.{below_at, below_none, below_more}
use Rattle.jh_plan.proofs.cpus.has_lower.Goals as goal

pub returns-then-has_cpu : goal.returns-then-has_cpu
returns-then-has_cpu c =
    sym (below_at (is_cpu_set c.args.cell.now.cpu_set) c.args.cpu c.loop-lower.lower c.loop-lower-test.true (sym c.has_cpu.ensures ∙ c.if-has_cpu.true))

pub loop-lower-init : goal.loop-lower-init
loop-lower-init c = below_none (is_cpu_set c.args.cell.now.cpu_set) 0 refl

pub loop-lower-preserved : goal.loop-lower-preserved
loop-lower-preserved c =
    below_more (is_cpu_set c.args.cell.now.cpu_set) c.loop-lower.lower (c.loop-lower.lower + 1) (omega arith) c.loop-lower.invariant (sym c.has_cpu.ensures ∙ c.if-has_cpu.false)
