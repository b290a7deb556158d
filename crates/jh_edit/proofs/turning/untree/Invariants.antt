-- The seats so far are mapped.
use Rattle.std.proofs.Common.{◌≡◌, ◌++◌, take, drop, map}
use Rattle.jh_edit.specs.Stages.{untreed}
use Rattle.jh_edit.proofs.turning.untree.Given as goal

abbrev pub invariant-loop-seat : goal.invariant-loop-seat
invariant-loop-seat l = l.seats ≡ map (untreed l.id) (take l.seat-index l.initial.seats) ++ drop l.seat-index l.initial.seats
