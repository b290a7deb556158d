-- An operation that is due comes to an act, and no other does.
use Rattle.jh_laws.proofs.ReadyLemmas.{ready_from_due, due_from_ready, quiet_not_ready, quiet_from_none}
use Rattle.jh_laws.proofs.root_alone.ready_cpus_of_root_alone_have_an_entry_due.Goals as goal

pub returns-clause-ready : goal.returns-clause-ready
returns-clause-ready c = λ j cpu. (ready_from_due j.image j.form j.entries cpu (record { admitted = j.admitted; bare = j.bare; silent = j.silent }) j.legal, due_from_ready j.image j.form j.entries cpu (record { admitted = j.admitted; bare = j.bare; silent = j.silent }) j.legal)

pub returns-clause-quiet : goal.returns-clause-quiet
returns-clause-quiet c = λ j. (quiet_not_ready j.image j.form j.entries (record { admitted = j.admitted; bare = j.bare; silent = j.silent }) j.legal, quiet_from_none j.image j.form j.entries (record { admitted = j.admitted; bare = j.bare; silent = j.silent }) j.legal)
