-- The rounds so far.
use Rattle.std.proofs.Common.{◌≡◌}
use Rattle.jh_run.specs.Soak.{rounds_ops}
use Rattle.jh_run.proofs.soak.rounds_ops.Given as goal

abbrev pub invariant-loop-r : goal.invariant-loop-r
invariant-loop-r l = l.ops ≡ rounds_ops l.r
