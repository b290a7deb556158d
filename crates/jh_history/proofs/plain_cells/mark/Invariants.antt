-- The marks so far are put.
use Rattle.std.proofs.Common.{◌≡◌}
use Rattle.jh_history.proofs.LiveLemmas.{marks_to}
use Rattle.jh_history.proofs.plain_cells.mark.Given as goal

abbrev pub invariant-loop-i : goal.invariant-loop-i
invariant-loop-i l = l.marks ≡ marks_to l.i l.id l.loadable l.cells l.fn.marks
