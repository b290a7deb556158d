-- By the act.
use Rattle.jh_laws.proofs.StatesLemmas.{own_steps, own_ends, own_stops, others_kept}
use Rattle.jh_laws.proofs.states.entries_change_their_cpu.Goals as goal

pub returns-clause-moved : goal.returns-clause-moved
returns-clause-moved c = λ m call stop good off. own_steps m.image m.form m.before m.rest m.entry m.admitted m.legal call stop good off

pub returns-clause-failed : goal.returns-clause-failed
returns-clause-failed c = λ m fails. own_ends m.image m.form m.before m.rest m.entry m.admitted m.legal fails

pub returns-clause-stopped : goal.returns-clause-stopped
returns-clause-stopped c = λ m stops. own_stops m.image m.form m.before m.entry stops

pub returns-clause-others : goal.returns-clause-others
returns-clause-others c = λ m cpu none other. others_kept m.image m.form m.before m.entry cpu none other
