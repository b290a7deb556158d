-- A closed place leads to a live cell's region that takes it, and such a region closes the place.
use Rattle.jh_shape.proofs.LawLemmas.{taken_there, taken_back}
use Rattle.jh_shape.proofs.laws.what_live_cells_hold_is_closed.Goals as goal

pub returns : goal.returns
returns c = λ cells place. (taken_there cells place, taken_back cells place)
