-- The CPUs so far are changed, and the others aren't yet.
use Rattle.std.proofs.Common.{◌≡◌, ℕ, ◌<◌, ◌≤◌, Some, slice_get}
use Rattle.std.specs.Option.{option_copied}
use Rattle.jh_history.specs.Facts.{Facts}
use Rattle.jh_history.specs.Cpus.{cpu_after, ListsCpus}
use Rattle.jh_history.proofs.change.act_on_all.Given as goal

abbrev pub invariant-loop-i : goal.invariant-loop-i
invariant-loop-i l = record {
  done : (f : Facts) → f.form ≡ l.form → f.call ≡ option_copied l.call → ListsCpus l.fn.cpus f.cpu → (k : ℕ) → k < l.i → slice_get l.cpus k ≡ Some (cpu_after l.image f l.entry k);
  rest : (k : ℕ) → l.i ≤ k → slice_get l.cpus k ≡ slice_get l.fn.cpus k;
}
