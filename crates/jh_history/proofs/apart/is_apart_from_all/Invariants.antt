-- The item has nothing in common with the others so far.
use Rattle.std.proofs.Common.{ℕ, ◌<◌, get_or}
use Rattle.jh_history.proofs.apart.is_apart_from_all.Given as goal

abbrev pub invariant-loop-other : goal.invariant-loop-other
invariant-loop-other g l = (k : ℕ) (d : g.row.T.Denot) → k < l.other-index → g.T.Apart.IsApart l.item (get_or l.others k d)
