-- No span so far ends before its start, or behind the start of a later one.
use Rattle.jh_check.specs.Private.Spans.{AreApartTo}
use Rattle.jh_check.proofs.spans.are_apart.Given as goal

abbrev pub invariant-loop-k : goal.invariant-loop-k
invariant-loop-k l = AreApartTo l.spans l.k
