-- The CPUs so far.
use Rattle.std.proofs.Common.{◌≡◌}
use Rattle.std.specs.Prelude.{filter}
use Rattle.jh_history.specs.Lives.{is_on_board}
use Rattle.jh_history.specs.Items.{below}
use Rattle.jh_run.proofs.schedule.cpus_of.Given as goal

abbrev pub invariant-loop-cpu : goal.invariant-loop-cpu
invariant-loop-cpu l = l.cpus.items ≡ filter (is_on_board l.image) (below l.cpu)
