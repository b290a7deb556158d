-- By a CPU of each cell.
use Rattle.jh_history.proofs.DueFewLemmas.{few_cells}
use Rattle.jh_history.proofs.due_facts.few_cells_live.Goals as goal

pub returns : goal.returns
returns c = few_cells
