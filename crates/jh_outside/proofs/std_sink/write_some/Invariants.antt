-- So far each write was interrupted: nothing was taken, and no fault is counted.
use Rattle.std.proofs.Common.{◌≡◌}
use Rattle.std.specs.Io.KnownBytes.{Keeps}
use Rattle.jh_outside.proofs.std_sink.write_some.Given as goal

abbrev pub invariant-loop : goal.invariant-loop
invariant-loop g l = Keeps (g.W.Write.contents l.initial.out) (g.W.Write.contents l.out) × (l.faults ≡ l.initial.faults)
