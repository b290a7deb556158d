-- A Decide is due with what was decided.
use Rattle.jh_laws.proofs.DecisionLemmas.{decides}
use Rattle.jh_laws.proofs.calls.calls_are_decided_by_their_cause.Goals as goal

pub returns : goal.returns
returns c = λ m call refused. decides m.image m.form m.before m.rest m.entry call refused m.admitted m.legal
