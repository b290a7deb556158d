-- One cell more turns leaves of root into tables, never back, and takes pages of its own.
use Rattle.jh_shape.proofs.OrderLemmas.{pages_of_fewer}
use Rattle.jh_shape.proofs.laws.fewer_cells_take_no_more_pages.Goals as goal

pub returns : goal.returns
returns c = pages_of_fewer c.args._root.now c.args._before.now c.args._gone.now c.args._behind.now
