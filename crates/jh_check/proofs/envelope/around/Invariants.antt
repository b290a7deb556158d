-- The numbers of the envelopes so far lie from the first to the last.
use Rattle.std.proofs.Common.{ℕ, ◌<◌, ◌≤◌, get_or}
use Rattle.jh_check.specs.declared.envelope.Envelope.{Envelope}
use Rattle.jh_check.proofs.envelope.around.Given as goal

abbrev pub invariant-loop-envelope : goal.invariant-loop-envelope
invariant-loop-envelope l = record {
  first : (k : ℕ) (d : Envelope) → k < l.envelope-index → l.first ≤ (get_or l.envelopes k d).item;
  last : (k : ℕ) (d : Envelope) → k < l.envelope-index → (get_or l.envelopes k d).item ≤ l.last;
}
