-- All windows begin at the page that is tried or behind it.
use Rattle.std.proofs.Common.{◌≡◌, ◌≤◌, ◌+◌, ◌-◌, ◌%◌, ◌^◌, ◌∷◌, ℕ}
use Rattle.jh_num.specs.declared.address.TheConstants.{PAGE_SIZE}
use Rattle.jh_talk.specs.Windows.{IsWindow}
use Rattle.jh_talk.proofs.window.least_window.Given as goal

abbrev pub invariant-loop-first : goal.invariant-loop-first
invariant-loop-first l = record {
  aligned : l.first % PAGE_SIZE ≡ 0;
  above : PAGE_SIZE ≤ l.first;
  low : l.first ≤ 2 ^ 32;
  least : (other : ℕ) → IsWindow (l.ecam ∷ l.regions) other → l.first ≤ other;
}

abbrev pub decreases-loop-first : goal.decreases-loop-first
decreases-loop-first l = 2 ^ 32 + 1 - l.first
