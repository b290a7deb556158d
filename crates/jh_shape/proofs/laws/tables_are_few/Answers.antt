-- Besides the first table, no level has more tables than slots below the end of addresses.
use Rattle.jh_shape.proofs.PageLemmas.{tables_le}
use Rattle.jh_shape.proofs.laws.tables_are_few.Goals as goal

pub returns : goal.returns
returns c = tables_le
