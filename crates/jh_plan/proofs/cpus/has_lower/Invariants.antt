-- The cell has none of the CPUs so far.
use Rattle.std.proofs.Common.{◌≡◌, false}
use Rattle.jh_num.specs.Below.{any_below}
use Rattle.jh_cellcfg.specs.Cells.{is_cpu_set}
use Rattle.jh_plan.proofs.cpus.has_lower.Given as goal

abbrev pub invariant-loop-lower : goal.invariant-loop-lower
invariant-loop-lower l = any_below (is_cpu_set l.cell.cpu_set) l.lower ≡ false
