-- By what is due.
use Rattle.jh_laws.proofs.TypedLemmas.{cpu_small, cell_small, told_at}
use Rattle.jh_laws.proofs.typed.numbers_keep_to_their_types.Goals as goal

pub returns-clause-cpu : goal.returns-clause-cpu
returns-clause-cpu c = λ m. cpu_small m.image m.form m.before m.rest m.entry m.admitted m.legal

pub returns-clause-cell : goal.returns-clause-cell
returns-clause-cell c = λ m opens. cell_small m.image m.form m.before m.rest m.entry m.admitted opens m.legal

pub returns-clause-told : goal.returns-clause-told
returns-clause-told c = λ m opens. told_at m.image m.form m.before m.rest m.entry m.admitted opens m.legal
