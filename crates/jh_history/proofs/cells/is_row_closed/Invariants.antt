-- None of the places so far.
use Rattle.std.proofs.Common.{◌≡◌, false}
use Rattle.std.specs.List.{list_any}
use Rattle.jh_history.specs.Grants.{is_closed_to}
use Rattle.jh_history.specs.Places.{places_in_row}
use Rattle.jh_history.proofs.cells.is_row_closed.Given as goal

abbrev pub invariant-loop-k : goal.invariant-loop-k
invariant-loop-k l = list_any (is_closed_to l.image l.cells l.cell) (places_in_row l.row.first l.k) ≡ false
