-- What is left of the cells has the one sought.
use Rattle.std.proofs.Common.{◌≡◌, drop}
use Rattle.std.specs.Prelude.{find}
use Rattle.jh_history.proofs.LiveLemmas.{has_number}
use Rattle.jh_history.proofs.pages.live_in.Given as goal

abbrev pub invariant-loop-cell : goal.invariant-loop-cell
invariant-loop-cell l = find (has_number l.id) (drop l.cell-index l.cells) ≡ find (has_number l.id) l.cells
