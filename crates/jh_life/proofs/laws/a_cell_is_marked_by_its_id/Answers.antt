-- Only one cell has the id, and lists with the same configurations and marks are the same.
use Rattle.std.proofs.Common.{refl, sym, map, ◌∙◌}
use Rattle.std.proofs.lemmas.Bool.{eq-eqb}
use Rattle.jh_shape.specs.Lives.{marked}
use Rattle.jh_shape.proofs.Public.{configs_marked}
use Rattle.jh_life.proofs.ChangeLemmas.{single, lives_same, marked_marks}
use Rattle.jh_life.proofs.laws.a_cell_is_marked_by_its_id.Goals as goal

pub returns : goal.returns
returns c = λ i cell on new is put.
    let now = c.args.cells.now in
    let id = cell.config.id in
    lives_same new (map (marked id on) now.lives)
    (put.configs ∙ sym (configs_marked id on now.lives))
    (put.marks ∙ sym (marked_marks i id on now.lives cell (single now.system.root now.lives id c.live_cells_differ.ensures.differ) is (eq-eqb id id refl)))
