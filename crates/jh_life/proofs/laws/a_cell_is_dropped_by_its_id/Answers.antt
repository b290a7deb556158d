-- No other cell has the id of the one at the index.
use Rattle.std.proofs.Common.{refl}
use Rattle.std.proofs.lemmas.Bool.{eq-eqb}
use Rattle.jh_life.proofs.ChangeLemmas.{single, remove_without}
use Rattle.jh_life.proofs.laws.a_cell_is_dropped_by_its_id.Goals as goal

pub returns : goal.returns
returns c = λ i cell is.
    let now = c.args.cells.now in
    let id = cell.config.id in
    remove_without i id now.lives cell (single now.system.root now.lives id c.live_cells_differ.ensures.differ) is (eq-eqb id id refl)
