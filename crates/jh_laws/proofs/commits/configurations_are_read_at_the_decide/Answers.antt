-- The phase keeps the configuration.
use Rattle.jh_laws.proofs.CommitLemmas.{created_as_read}
use Rattle.jh_laws.proofs.commits.configurations_are_read_at_the_decide.Goals as goal

pub returns : goal.returns
returns c = λ s at is act next.
    let h = created_as_read s.image s.form s.before s.between s.rest s.first s.last at s.admitted s.legal is act next.others next.own in
    record { config = h.0; read = h.1; joins = h.2 }
