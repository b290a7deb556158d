-- The rounds so far.
use Rattle.std.proofs.Common.{false}
use Rattle.jh_history.specs.Items.{rounds}
use Rattle.jh_run.specs.Private.Ran.{Ran}
use Rattle.jh_run.proofs.schedule.finish.Given as goal

abbrev pub invariant-loop-n : goal.invariant-loop-n
invariant-loop-n l = Ran l.fn.board (rounds l.n l.cpus) false l.board
