-- By the call that was begun.
use Rattle.jh_laws.proofs.StatesLemmas.{begin_cpus, settle_cpus, commit_cpus, finish_cpus, cpus_stay}
use Rattle.jh_laws.proofs.states.calls_change_cpus.Goals as goal

pub returns-clause-begin : goal.returns-clause-begin
returns-clause-begin c = λ m code a b cpu act. begin_cpus m.image m.form m.before m.entry code a b cpu act

pub returns-clause-settle : goal.returns-clause-settle
returns-clause-settle c = λ m call cpu. settle_cpus m.image m.form m.before m.rest m.entry call cpu m.admitted m.legal

pub returns-clause-commit : goal.returns-clause-commit
returns-clause-commit c = λ m call cpu. commit_cpus m.image m.form m.before m.rest m.entry call cpu m.admitted m.legal

pub returns-clause-finish : goal.returns-clause-finish
returns-clause-finish c = λ m answer cpu act. finish_cpus m.image m.form m.before m.rest m.entry answer cpu m.admitted m.legal act

pub returns-clause-stay : goal.returns-clause-stay
returns-clause-stay c = λ m cpu none. cpus_stay m.image m.form m.before m.entry cpu none
