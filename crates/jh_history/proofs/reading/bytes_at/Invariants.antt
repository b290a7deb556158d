-- The bytes so far.
use Rattle.std.proofs.Common.{◌≡◌, ◌-◌, ◌≤◌, Some}
use Rattle.jh_history.specs.ReadView.{bytes_by}
use Rattle.jh_history.proofs.reading.bytes_at.Given as goal

abbrev pub invariant-loop-next : goal.invariant-loop-next
invariant-loop-next g l = (l.at ≤ l.next) × (l.next ≤ l.end) × (bytes_by (g.R.RootBytes.readable l.root) l.at (l.next - l.at) ≡ Some l.bytes.items)

abbrev pub decreases-loop-next : goal.decreases-loop-next
decreases-loop-next g l = l.end - l.next
