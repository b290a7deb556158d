-- By what is due.
use Rattle.jh_laws.proofs.EntryLemmas.{cell_at, runs_at, operation_at}
use Rattle.jh_laws.proofs.states.entries_are_their_cpus_own.Goals as goal

pub returns-clause-board : goal.returns-clause-board
returns-clause-board c = λ m. (cell_at m.image m.form m.before m.rest m.entry m.legal).0

pub returns-clause-cell : goal.returns-clause-cell
returns-clause-cell c = λ m. (cell_at m.image m.form m.before m.rest m.entry m.legal).1

pub returns-clause-runs : goal.returns-clause-runs
returns-clause-runs c = λ m other. runs_at m.image m.form m.before m.rest m.entry m.admitted m.legal other

pub returns-clause-operation : goal.returns-clause-operation
returns-clause-operation c = λ m op is. operation_at m.image m.form m.before m.rest m.entry op m.admitted m.legal is
