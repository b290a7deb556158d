-- The newest 63 of the others are kept, and what the new one replaces is none of them.
use Rattle.jh_cache.proofs.LawLemmas.{filled_full, filled_room, filled_again}
use Rattle.jh_cache.proofs.laws.a_fill_drops_the_oldest_alone.Goals as goal

pub returns-clause-full : goal.returns-clause-full
returns-clause-full c = λ t oldest list full absent. filled_full t oldest list full absent

pub returns-clause-room : goal.returns-clause-room
returns-clause-room c = λ t list room absent. filled_room t list room absent

pub returns-clause-again : goal.returns-clause-again
returns-clause-again c = λ t list few there. filled_again t list few there
