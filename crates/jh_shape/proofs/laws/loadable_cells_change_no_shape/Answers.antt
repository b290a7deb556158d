-- Whichever cells are loadable, the same places are cut, so that neither choice has more tables.
use Rattle.jh_shape.proofs.OrderLemmas.{leaves_alike, tables_alike, pages_alike}
use Rattle.jh_shape.proofs.laws.loadable_cells_change_no_shape.Goals as goal

pub returns-clause-leaves : goal.returns-clause-leaves
returns-clause-leaves c = leaves_alike c.args._target.now c.args._loadable c.args._target.now.loadable

pub returns-clause-tables : goal.returns-clause-tables
returns-clause-tables c = tables_alike c.args._target.now c.args._loadable c.args._target.now.loadable

pub returns-clause-pages : goal.returns-clause-pages
returns-clause-pages c = pages_alike c.args._target.now c.args._loadable c.args._target.now.loadable
