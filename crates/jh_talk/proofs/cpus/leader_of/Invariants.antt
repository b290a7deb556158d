-- None of the CPUs so far passes.
use Rattle.std.proofs.Common.{◌≡◌, ◌<◌, ℕ, false}
use Rattle.jh_talk.specs.Cpus.{is_left}
use Rattle.jh_talk.proofs.cpus.leader_of.Given as goal

abbrev pub invariant-loop-cpu : goal.invariant-loop-cpu
invariant-loop-cpu l = (lower : ℕ) → lower < l.cpu → is_left l.root l.cell lower ≡ false
