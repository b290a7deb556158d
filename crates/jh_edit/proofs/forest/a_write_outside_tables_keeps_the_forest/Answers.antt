-- What a write outside tables leaves as it was.
use Rattle.jh_edit.proofs.ForestEditLemmas.{written_edit}
use Rattle.jh_edit.proofs.ForestLemmas.{written_forest}
use Rattle.jh_edit.proofs.forest.a_write_outside_tables_keeps_the_forest.Goals as goal

pub returns : goal.returns
returns c = record {
  forest = λ claims stage after forest writes. written_forest claims stage after forest writes;
  edit = λ claims rootward coming stage editing after on forest is writes. written_edit claims rootward coming stage editing after on forest is writes;
}
