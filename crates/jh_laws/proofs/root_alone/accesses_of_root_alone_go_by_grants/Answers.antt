-- By what root is granted.
use Rattle.jh_laws.proofs.OutcomeLemmas.{outcome_at}
use Rattle.jh_laws.proofs.root_alone.accesses_of_root_alone_go_by_grants.Goals as goal

pub returns : goal.returns
returns c = λ m. outcome_at m.image m.form m.before m.rest m.entry (record { admitted = m.admitted; bare = m.bare; silent = m.silent }) m.legal
