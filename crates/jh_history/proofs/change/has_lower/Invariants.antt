-- None of the CPUs so far has this owner.
use Rattle.std.proofs.Common.{◌≡◌, ℕ, ◌==◌, false}
use Rattle.jh_num.specs.Below.{any_below}
use Rattle.jh_cpu.specs.declared.cpu.Cpu.{Cpu}
use Rattle.jh_history.specs.Cpus.{ListsCpus}
use Rattle.jh_history.proofs.change.has_lower.Given as goal

abbrev pub invariant-loop-k : goal.invariant-loop-k
invariant-loop-k l = (state : ℕ → Cpu) → ListsCpus l.cpus state → (l.owner ≡ (state l.i).owner) × (any_below (λ k. (state k).owner == l.owner) l.k ≡ false)
