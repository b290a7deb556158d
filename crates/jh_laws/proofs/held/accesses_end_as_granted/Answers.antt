-- By the operation that the CPU is at.
use Rattle.jh_laws.proofs.EndsLemmas.{ends_at}
use Rattle.jh_laws.proofs.held.accesses_end_as_granted.Goals as goal

pub returns : goal.returns
returns c = λ m. ends_at m.image m.form m.before m.rest m.entry m.admitted m.legal
