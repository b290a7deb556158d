-- By the region that gives the address.
use Rattle.jh_history.proofs.DueReachLemmas.{reach_cells, write_cells}
use Rattle.jh_history.proofs.due_facts.places_reached_are_of_cells.Goals as goal

pub returns : goal.returns
returns c = record { reach = reach_cells; write = write_cells }
