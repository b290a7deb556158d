-- Each span so far has an envelope that ends no earlier, and none goes beyond the farthest end.
use Rattle.jh_check.proofs.EnvelopeLemmas.{AreEnvelopesTo}
use Rattle.jh_check.proofs.envelope.of_each.Given as goal

abbrev pub invariant-loop-span : goal.invariant-loop-span
invariant-loop-span l = AreEnvelopesTo l.spans l.envelopes.items l.span-index l.end
