-- By what each act does to the call.
use Rattle.jh_laws.proofs.CallLemmas.{open_call_begun, begins_alone, phases_own}
use Rattle.jh_laws.proofs.calls.one_call_is_open.Goals as goal

pub returns-clause-open : goal.returns-clause-open
returns-clause-open c = λ j. open_call_begun j.image j.form j.entries

pub returns-clause-begins : goal.returns-clause-begins
returns-clause-begins c = λ m code a b is. begins_alone m.image m.form m.before m.rest m.entry code a b m.admitted m.legal is

pub returns-clause-phases : goal.returns-clause-phases
returns-clause-phases c = λ m phase. phases_own m.image m.form m.before m.rest m.entry m.admitted m.legal phase
