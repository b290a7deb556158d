-- At levels 1 and 2 a table is wanted exactly in the slots that are counted.
use Rattle.jh_shape.proofs.LawLemmas.{counted_by_wants}
use Rattle.jh_shape.proofs.laws.each_wanted_table_is_counted.Goals as goal

pub returns : goal.returns
returns c = counted_by_wants
