-- The bytes found so far and those that the two rests share are all that the lists share.
use Rattle.std.proofs.Common.{◌+◌, ◌-◌, length}
use Rattle.jh_num.proofs.MeetingLemmas.{Meets}
use Rattle.jh_num.proofs.splice.meeting.Given as goal

abbrev pub invariant-both_left : goal.invariant-both_left
invariant-both_left l = Meets l.xs l.ys l.i l.j l.met.items

abbrev pub decreases-both_left : goal.decreases-both_left
decreases-both_left l = (length l.xs - l.i) + (length l.ys - l.j)
