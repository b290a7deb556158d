-- The reads so far stand behind the others.
use Rattle.std.proofs.Common.{◌≡◌, ◌++◌}
use Rattle.jh_run.specs.Soak.{number_reads}
use Rattle.jh_run.proofs.soak.push_reads.Given as goal

abbrev pub invariant-loop-i : goal.invariant-loop-i
invariant-loop-i l = l.ops ≡ l.initial.ops ++ number_reads l.base l.i
