-- Claims that fail leave the seat as it was.
use Rattle.std.proofs.Common.{◌≡◌}
use Rattle.jh_turn.specs.Private.Stages.{IsSameSeat}
use Rattle.jh_turn.proofs.shared.Shared.claim.Given as goal

abbrev pub invariant-loop : goal.invariant-loop
invariant-loop g l = IsSameSeat l.initial.seat l.seat × (l.seat.me ≡ l.initial.seat.me)
