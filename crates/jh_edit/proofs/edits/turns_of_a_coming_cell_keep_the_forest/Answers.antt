-- A turn of the tables of the cell that comes.
use Rattle.std.proofs.Common.{◌≡◌, ◌+◌, ap, arith}
use Rattle.jh_edit.specs.Forest.{part_left}
use Rattle.jh_edit.specs.Plans.{EditView}
use Rattle.jh_edit.proofs.KindLemmas.{build_edit, build_forest}
use Rattle.jh_edit.proofs.edits.turns_of_a_coming_cell_keep_the_forest.Goals as goal

pub returns-clause-forest : goal.returns-clause-forest
returns-clause-forest c = λ claims rootward coming id edit edit' editing editing' stage stage' on forest is turn. build_forest c.walked_tells_grants.ensures.found claims rootward coming id edit edit' editing editing' stage stage' on forest is turn

pub returns-clause-edit : goal.returns-clause-edit
returns-clause-edit c = λ claims rootward coming id edit edit' editing editing' stage stage' on forest is turn. build_edit c.walked_tells_grants.ensures.found claims rootward coming id edit edit' editing editing' stage stage' on forest is turn

pub returns-clause-left : goal.returns-clause-left
returns-clause-left c = λ coming id edit edit' editing editing' stage stage' turn.
    let one : edit'.left + 1 ≡ edit.left = turn.turn.left in
    let was : part_left editing.cell ≡ edit.left = ap part_left turn.was in
    let is : part_left editing'.cell ≡ edit'.left = ap part_left turn.cell in
    let root : editing'.root.left ≡ editing.root.left = ap (λ (e : EditView). e.left) turn.root in
    omega arith
