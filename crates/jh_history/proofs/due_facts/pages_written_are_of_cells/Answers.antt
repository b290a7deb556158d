-- By the act.
use Rattle.jh_history.proofs.DuePageLemmas.{page_cells}
use Rattle.jh_history.proofs.due_facts.pages_written_are_of_cells.Goals as goal

pub returns : goal.returns
returns c = λ image f entry write h. page_cells image f entry write h.sound h.due
