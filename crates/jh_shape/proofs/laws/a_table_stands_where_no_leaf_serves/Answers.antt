-- What meets a slot, and what serves it, is told by single addresses and places, both ways.
use Rattle.jh_shape.proofs.LawLemmas.{met_there, met_back, leaf_there, leaf_back, table_there, table_back}
use Rattle.jh_shape.proofs.laws.a_table_stands_where_no_leaf_serves.Goals as goal

pub returns : goal.returns
returns c = record {
  met = λ claims level start. (met_there claims level start, met_back claims level start);
  leaf = λ claims level start. (leaf_there claims level start, leaf_back claims level start);
  table = λ claims level start. (table_there claims level start, table_back claims level start);
}
