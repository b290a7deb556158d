-- The CPUs so far that the set names.
use Rattle.std.proofs.Common.{◌≡◌}
use Rattle.jh_plan.specs.SpecText.{cpus_below}
use Rattle.jh_plan.proofs.text.cpus_of.Given as goal

abbrev pub invariant-loop-cpu : goal.invariant-loop-cpu
invariant-loop-cpu l = l.cpus.items ≡ cpus_below l.cell.cpu_set l.cpu
