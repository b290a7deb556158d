-- No two addresses of a cell have one place.
use Rattle.jh_laws.proofs.WrittenLemmas.{entry_writes, entry_keeps}
use Rattle.jh_laws.proofs.writes.entries_write_what_they_say.Goals as goal

pub returns-clause-written : goal.returns-clause-written
returns-clause-written c = λ m place byte h. entry_writes m.image m.form m.before m.rest m.entry place byte m.admitted m.legal h

pub returns-clause-others : goal.returns-clause-others
returns-clause-others c = λ m place none. entry_keeps m.image m.form m.before m.rest m.entry place m.admitted m.legal none
