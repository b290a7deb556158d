-- The writes so far stand behind the others.
use Rattle.std.proofs.Common.{◌≡◌, ◌++◌}
use Rattle.jh_run.specs.Soak.{number_writes}
use Rattle.jh_run.proofs.soak.push_writes.Given as goal

abbrev pub invariant-loop-i : goal.invariant-loop-i
invariant-loop-i l = l.ops ≡ l.initial.ops ++ number_writes l.base l.first l.i
