-- Of the claims only what stands is asked.
use Rattle.jh_edit.proofs.EndingLemmas.{alike_forest}
use Rattle.jh_edit.proofs.ends.forests_ask_for_wants_alone.Goals as goal

pub returns : goal.returns
returns c = λ claims claims' stage same forest. alike_forest claims claims' stage same forest
