-- By what the check says of all cells with it.
use Rattle.jh_history.proofs.DueCreateLemmas.{decided_lives, comes_lives}
use Rattle.jh_history.proofs.due_facts.a_cell_that_comes_may_live.Goals as goal

pub returns : goal.returns
returns c = record { decided = decided_lives; comes = comes_lives }
