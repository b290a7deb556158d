-- The CPUs so far.
use Rattle.jh_history.specs.Lives.{is_on_board}
use Rattle.jh_cli.proofs.CpuLemmas.{AreBelow}
use Rattle.jh_cli.proofs.schedule.cpu_mask_of.Given as goal

abbrev pub invariant-loop-cpu : goal.invariant-loop-cpu
invariant-loop-cpu l = AreBelow (is_on_board l.image) l.cpu l.cpus
