-- The front of the text that was sent is appended, and the faults are no fewer than at first.
use Rattle.std.proofs.Common.{◌≤◌, ◌-◌, length, take}
use Rattle.jh_outside.specs.Writes.{Appended}
use Rattle.jh_outside.proofs.whole.write_all.Given as goal

abbrev pub invariant-loop-sent : goal.invariant-loop-sent
invariant-loop-sent g l =
    (l.sent ≤ length l.text)
    × Appended (g.K.Sink.written l.initial.out) (g.K.Sink.written l.out) (take l.sent l.text)
    × (g.K.Sink.faults l.initial.out ≤ g.K.Sink.faults l.out)

abbrev pub decreases-loop-sent : goal.decreases-loop-sent
decreases-loop-sent g l = length l.text - l.sent
