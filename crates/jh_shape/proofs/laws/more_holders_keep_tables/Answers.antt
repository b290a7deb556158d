-- What one of the first cells cuts, one of the second cuts too.
use Rattle.jh_shape.proofs.BesideLemmas.{table_stays}
use Rattle.jh_shape.proofs.laws.more_holders_keep_tables.Goals as goal

pub returns : goal.returns
returns c = table_stays
