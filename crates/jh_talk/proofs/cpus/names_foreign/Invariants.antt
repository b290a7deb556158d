-- None of the CPUs so far passes.
use Rattle.std.proofs.Common.{◌≡◌, ◌<◌, ℕ, false}
use Rattle.jh_talk.specs.Private.Seats.{is_foreign}
use Rattle.jh_talk.proofs.cpus.names_foreign.Given as goal

abbrev pub invariant-loop-cpu : goal.invariant-loop-cpu
invariant-loop-cpu l = (lower : ℕ) → lower < l.cpu → is_foreign l.root l.cell lower ≡ false
