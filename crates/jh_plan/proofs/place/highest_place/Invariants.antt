-- The best place so far is free, and no free place of the regions so far lies above it.
use Rattle.std.specs.Prelude.{IfSome}
use Rattle.jh_plan.specs.Places.{IsFreePlace}
use Rattle.jh_plan.proofs.PlaceLemmas.{AreBelow}
use Rattle.jh_plan.proofs.place.highest_place.Given as goal

abbrev pub invariant-loop-number : goal.invariant-loop-number
invariant-loop-number l = record {
  free : IfSome l.best (IsFreePlace l.root l.cells l.size);
  below : AreBelow l.root l.cells l.size l.number l.best;
}
