-- Regions so far that take part begin behind each other, and none ends beyond the known end.
use Rattle.jh_check.specs.Private.Spans.{AreDisjointTo}
use Rattle.jh_check.proofs.spans.are_disjoint.Given as goal

abbrev pub invariant-loop-item : goal.invariant-loop-item
invariant-loop-item l = AreDisjointTo l.rule l.regions l.item l.end
