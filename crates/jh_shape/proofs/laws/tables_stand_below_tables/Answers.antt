-- What meets a slot meets the one around it, and what serves that one serves the slot too.
use Rattle.jh_shape.proofs.LawLemmas.{parent_is_table}
use Rattle.jh_shape.proofs.laws.tables_stand_below_tables.Goals as goal

pub returns : goal.returns
returns c = parent_is_table
