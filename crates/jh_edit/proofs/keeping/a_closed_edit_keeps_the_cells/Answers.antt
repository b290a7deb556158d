-- Memory and the pool stay, and a cell that went has no seat.
use Rattle.jh_edit.proofs.KeepingLemmas.{closed_keeps, closed_sitters}
use Rattle.jh_edit.proofs.keeping.a_closed_edit_keeps_the_cells.Goals as goal

pub returns-clause-cells : goal.returns-clause-cells
returns-clause-cells c = λ editing stage stage' closed. closed_keeps editing stage stage' closed

pub returns-clause-seats : goal.returns-clause-seats
returns-clause-seats c = λ editing stage stage' closed. closed_sitters editing stage stage' closed
