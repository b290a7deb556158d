-- The list without its last cell takes no more pages.
use Rattle.jh_shape.proofs.OrderLemmas.{pages_of_more}
use Rattle.jh_shape.proofs.laws.a_new_cell_frees_no_page.Goals as goal

pub returns : goal.returns
returns c = pages_of_more c.args._root.now c.args._cells.now c.args._new.now
