-- What is left of the cells has the one sought.
use Rattle.std.proofs.Common.{◌≡◌, false, drop}
use Rattle.jh_history.proofs.LiveLemmas.{told_from}
use Rattle.jh_history.proofs.calling.next_recipient.Given as goal

abbrev pub invariant-loop-cell : goal.invariant-loop-cell
invariant-loop-cell l = told_from l.is_behind l.about l.id (drop l.cell-index l.cells) ≡ told_from false l.about l.id l.cells
