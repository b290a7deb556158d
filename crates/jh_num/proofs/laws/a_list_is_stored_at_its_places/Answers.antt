-- A place is compared with both ends of the list: it is within, below or behind.
use Rattle.jh_num.proofs.MemoryLemmas.{stored_there, stored_before, stored_behind}
use Rattle.jh_num.proofs.laws.a_list_is_stored_at_its_places.Goals as goal

pub returns : goal.returns
returns c = record { there = stored_there; before = stored_before; behind = stored_behind }
