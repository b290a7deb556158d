-- What is written is granted, and a place that is held is granted to few.
use Rattle.jh_laws.proofs.PlacesHeldLemmas.{held_at, page_at}
use Rattle.jh_laws.proofs.held.what_a_cell_holds_is_its_own.Goals as goal

pub returns-clause-memory : goal.returns-clause-memory
returns-clause-memory c = λ m live number place held changed. held_at m.image m.form m.before m.rest m.entry live number held.0 place m.admitted m.legal held.1 changed

pub returns-clause-pages : goal.returns-clause-pages
returns-clause-pages c = λ m cell offset changed. page_at m.image m.form m.before m.rest m.entry cell offset m.admitted m.legal changed
