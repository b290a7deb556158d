-- In form One each CPU runs, in form Two the lowest.
use Rattle.std.proofs.Common.{not, refl, ap}
use Rattle.jh_history.proofs.change.runs_by_start.Goals as goal

pub returns-in-One : goal.returns-in-One
returns-in-One c = λ f e h. rw (e, c.in-One.is) refl

pub returns-in-Two : goal.returns-in-Two
returns-in-Two c = λ f e h. rw (e, c.in-Two.is) (ap not (c.has_lower.ensures f.cpu h))
