-- No cause of a refusal holds, and the cell is what is read.
use Rattle.jh_plan.proofs.CreateLemmas.{created}
use Rattle.jh_plan.proofs.laws.planned_cells_may_be_created.Goals as goal

pub returns : goal.returns
returns c = λ board cell caller at create. created board cell caller at (record {
  keeps = c.more_holders_keep_tables.ensures;
  counts = c.each_wanted_table_is_counted.ensures;
  told = λ is limits. record {
    size = c.size_is_length.ensures.size cell is limits;
    fault = c.size_is_length.ensures.fault cell is limits;
    tells = c.a_spelling_tells_its_configuration.ensures cell is limits;
  };
}) create
