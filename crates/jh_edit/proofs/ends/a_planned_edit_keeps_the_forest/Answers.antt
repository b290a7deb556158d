-- No page is ahead yet, and no cell is gone.
use Rattle.jh_edit.proofs.PlannedLemmas.{edit_beside, planned_forest}
use Rattle.jh_edit.proofs.ends.a_planned_edit_keeps_the_forest.Goals as goal

pub returns-clause-forest : goal.returns-clause-forest
returns-clause-forest c = λ claims editing stage still forest planned. planned_forest claims editing stage still forest planned

pub returns-clause-edit : goal.returns-clause-edit
returns-clause-edit c = λ rootward coming editing stage is. edit_beside rootward coming editing stage is
