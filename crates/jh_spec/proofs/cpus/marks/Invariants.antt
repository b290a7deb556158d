-- Whether all are new rests on the CPUs left, and those so far alone are marked.
use Rattle.jh_spec.proofs.Marks.{MarkedSoFar}
use Rattle.jh_spec.proofs.cpus.marks.Given as goal

abbrev pub invariant-loop-cpu : goal.invariant-loop-cpu
invariant-loop-cpu l = MarkedSoFar l.limit l.cpus l.cpu-index l.marks.items
