-- A turn of root's tables is one of one cell's among all, and leaves the part of the cell that the call names.
use Rattle.std.proofs.Common.{◌≡◌, ◌+◌, ap, arith}
use Rattle.jh_edit.specs.Forest.{part_left}
use Rattle.jh_edit.proofs.KindLemmas.{root_edit, root_forest}
use Rattle.jh_edit.proofs.edits.turns_of_root_keep_the_forest.Goals as goal

pub returns-clause-forest : goal.returns-clause-forest
returns-clause-forest c = λ claims rootward coming editing editing' stage stage' on forest is turn. root_forest c.walked_tells_grants.ensures.found claims rootward coming editing editing' stage stage' on forest is turn

pub returns-clause-edit : goal.returns-clause-edit
returns-clause-edit c = λ claims rootward coming editing editing' stage stage' on forest is turn. root_edit c.walked_tells_grants.ensures.found claims rootward coming editing editing' stage stage' on forest is turn

pub returns-clause-left : goal.returns-clause-left
returns-clause-left c = λ rootward editing editing' stage stage' turn.
    let one : editing'.root.left + 1 ≡ editing.root.left = turn.turn.left in
    let same : part_left editing'.cell ≡ part_left editing.cell = ap part_left turn.cell in
    omega arith
