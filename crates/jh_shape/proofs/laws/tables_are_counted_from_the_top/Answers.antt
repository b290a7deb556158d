-- Where no table is wanted none is wanted below, so that the sum of all slots is the sum below tables.
use Rattle.jh_shape.proofs.TopLemmas.{counted_from_top}
use Rattle.jh_shape.proofs.laws.tables_are_counted_from_the_top.Goals as goal

pub returns : goal.returns
returns c = counted_from_top
