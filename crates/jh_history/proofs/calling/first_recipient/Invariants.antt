-- What is left of the cells has the one sought.
use Rattle.std.proofs.Common.{◌≡◌, drop}
use Rattle.std.specs.Prelude.{find}
use Rattle.jh_history.specs.Calls.{is_recipient_by}
use Rattle.jh_history.proofs.calling.first_recipient.Given as goal

abbrev pub invariant-loop-cell : goal.invariant-loop-cell
invariant-loop-cell l = find (is_recipient_by l.about) (drop l.cell-index l.cells) ≡ find (is_recipient_by l.about) l.cells
