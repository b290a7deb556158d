-- Which of the CPUs so far are root's.
use Rattle.std.proofs.Common.{◌≡◌, ◌==◌, ◌&&◌, ℕ, ◌<◌, ◌≤◌, false}
use Rattle.jh_num.specs.Bits.{has_bit}
use Rattle.jh_history.specs.Cpus.{ListsCpus}
use Rattle.jh_history.specs.Facts.{Facts}
use Rattle.jh_history.specs.Lives.{is_on_board}
use Rattle.jh_history.proofs.creation.cpus_of_root.Given as goal

abbrev pub invariant-loop-cpu : goal.invariant-loop-cpu
invariant-loop-cpu l = record {
  done : (f : Facts) → ListsCpus l.cpus f.cpu → (k : ℕ) → k < l.cpu → has_bit l.owned k ≡ (is_on_board l.image k && ((f.cpu k).owner == l.image.system.root.id));
  rest : (k : ℕ) → l.cpu ≤ k → has_bit l.owned k ≡ false;
}
