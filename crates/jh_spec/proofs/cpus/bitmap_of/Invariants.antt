-- The bytes so far are a bitmap of the CPUs whose bits they have.
use Rattle.std.proofs.Common.{◌≡◌}
use Rattle.jh_spec.specs.Cpus.{bitmap}
use Rattle.jh_spec.proofs.cpus.bitmap_of.Given as goal

abbrev pub invariant-loop-k : goal.invariant-loop-k
invariant-loop-k l = l.bitmap.items ≡ bitmap l.k l.cpus
