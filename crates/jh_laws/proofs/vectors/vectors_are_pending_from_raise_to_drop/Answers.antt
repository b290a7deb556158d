-- By what each entry does to an endpoint.
use Rattle.std.proofs.Common.{⊎_elim}
use Rattle.jh_laws.proofs.VectorLemmas.{opening_none, pending_behind, raised_behind, kept_behind}
use Rattle.jh_laws.proofs.vectors.vectors_are_pending_from_raise_to_drop.Goals as goal

pub returns-clause-opening : goal.returns-clause-opening
returns-clause-opening c = opening_none

pub returns-clause-entries : goal.returns-clause-entries
returns-clause-entries c = λ m id n v. (
  λ pending. pending_behind m.image m.form m.before m.rest m.entry id n v m.admitted m.legal pending,
  λ cause. ⊎_elim
      (λ raised. raised_behind m.image m.form m.before m.rest m.entry id n v m.admitted m.legal raised)
      (λ kept. kept_behind m.image m.form m.before m.rest m.entry id n v m.admitted m.legal kept)
      cause,
)
