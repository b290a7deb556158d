-- Each item so far has nothing in common with any later one.
use Rattle.std.proofs.Common.{ℕ, ◌<◌, length, get_or}
use Rattle.jh_history.proofs.apart.are_apart.Given as goal

abbrev pub invariant-loop-i : goal.invariant-loop-i
invariant-loop-i g l = (i j : ℕ) (d : g.row.T.Denot) → i < l.i → i < j → j < length l.items → g.T.Apart.IsApart (get_or l.items i d) (get_or l.items j d)
