-- None of the CPUs so far passes.
use Rattle.std.proofs.Common.{◌≡◌, ◌<◌, ℕ, false}
use Rattle.jh_cellcfg.specs.Cells.{is_cpu_set}
use Rattle.jh_talk.proofs.cpus.follower_of.Given as goal

abbrev pub invariant-loop-cpu : goal.invariant-loop-cpu
invariant-loop-cpu l = (lower : ℕ) → lower < l.cpu → is_cpu_set l.cell.cpu_set lower ≡ false
