-- They are asked to stop, and have stopped.
use Rattle.jh_laws.proofs.CallLemmas.{suspended_roots, suspended_cells}
use Rattle.jh_laws.proofs.calls.suspended_cpus_make_no_entry.Goals as goal

pub returns-clause-roots : goal.returns-clause-roots
returns-clause-roots c = λ s. suspended_roots s.image s.form s.before s.between s.rest s.first s.last s.admitted s.legal

pub returns-clause-cells : goal.returns-clause-cells
returns-clause-cells c = λ s call. suspended_cells s.image s.form s.before s.between s.rest s.first s.last call s.admitted s.legal
