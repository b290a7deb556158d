-- A turn of a removal.
use Rattle.std.proofs.Common.{◌≡◌, ◌+◌, ap, arith}
use Rattle.jh_edit.specs.Forest.{part_left}
use Rattle.jh_edit.specs.Plans.{EditView}
use Rattle.jh_edit.proofs.KindLemmas.{remove_edit, remove_forest}
use Rattle.jh_edit.proofs.edits.turns_of_a_removal_keep_the_forest.Goals as goal

pub returns-clause-forest : goal.returns-clause-forest
returns-clause-forest c = λ claims rootward coming want id edit edit' editing editing' stage stage' on forest is turn. remove_forest claims rootward coming want id edit edit' editing editing' stage stage' on forest is turn

pub returns-clause-edit : goal.returns-clause-edit
returns-clause-edit c = λ claims rootward coming want id edit edit' editing editing' stage stage' on forest is turn. remove_edit claims rootward coming want id edit edit' editing editing' stage stage' on forest is turn

pub returns-clause-left : goal.returns-clause-left
returns-clause-left c = λ want id edit edit' editing editing' stage stage' turn.
    let one : edit'.left + 1 ≡ edit.left = turn.turn.left in
    let was : part_left editing.cell ≡ edit.left = ap part_left turn.was in
    let is : part_left editing'.cell ≡ edit'.left = ap part_left turn.cell in
    let root : editing'.root.left ≡ editing.root.left = ap (λ (e : EditView). e.left) turn.root in
    omega arith
