-- A table that is reached has a use, so it is a taken page of the pool.
use Rattle.jh_edit.proofs.ForestLemmas.{tables_of_seat}
use Rattle.jh_edit.proofs.forest.each_cell_has_tables_of_its_own.Goals as goal

pub returns : goal.returns
returns c = λ claims stage seat tree forest sits has. tables_of_seat claims stage forest seat tree sits has
