-- The id that the call carries from its Commit on.
use Rattle.jh_laws.proofs.NewIdLemmas.{new_id}
use Rattle.jh_laws.proofs.calls.a_create_answers_the_new_cells_id.Goals as goal

pub returns : goal.returns
returns c = λ s live answer made. new_id s.image s.form s.before s.between s.rest s.first s.last made.at live answer s.admitted s.legal made.call made.act made.joins
