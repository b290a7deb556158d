-- Its memory ends within the places, and its name is padded with zero bytes.
use Rattle.jh_plan.proofs.CreateLemmas.{planned_cell, written}
use Rattle.jh_plan.proofs.laws.planned_cells_can_be_written.Goals as goal

pub returns : goal.returns
returns c = record {
  typed = λ of cell among. (written of cell (planned_cell of cell among)).0;
  limits = λ of cell among. (written of cell (planned_cell of cell among)).1;
}
