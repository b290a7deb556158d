-- Each run of the one map is one of the other, and they stand in one order.
use Rattle.jh_map.proofs.AlikeLemmas.{same_map}
use Rattle.jh_map.proofs.laws.maps_of_one_cell_are_equal.Goals as goal

pub returns : goal.returns
returns c = same_map
