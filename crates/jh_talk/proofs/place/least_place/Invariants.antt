-- The best place so far serves, and is the least of those in the regions so far.
use Rattle.std.specs.Prelude.{IfSome}
use Rattle.jh_talk.specs.Places.{IsPlace}
use Rattle.jh_talk.specs.Private.Rooms.{IsBest}
use Rattle.jh_talk.proofs.place.least_place.Given as goal

abbrev pub invariant-loop-number : goal.invariant-loop-number
invariant-loop-number l = record {
  is : IfSome l.best (IsPlace l.root l.count);
  least : IsBest l.root l.count l.number l.best;
}
