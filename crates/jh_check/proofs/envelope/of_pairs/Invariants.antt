-- Where a span so far begins within an earlier one, an envelope has the place, and envelopes rise.
use Rattle.jh_check.proofs.EnvelopeLemmas.{ArePairsTo}
use Rattle.jh_check.proofs.envelope.of_pairs.Given as goal

abbrev pub invariant-loop-span : goal.invariant-loop-span
invariant-loop-span l = ArePairsTo l.spans l.envelopes.items l.span-index l.farthest l.end l.item
