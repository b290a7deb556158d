-- The items so far.
use Rattle.std.proofs.Common.{take, false}
use Rattle.jh_run.specs.Private.Ran.{Ran}
use Rattle.jh_run.proofs.schedule.follow_on.Given as goal

abbrev pub invariant-loop-cpu : goal.invariant-loop-cpu
invariant-loop-cpu l = Ran l.fn.board (take l.cpu-index l.cpus) false l.board
