-- A turn writes its own page alone, which is no communication page.
use Rattle.jh_edit.specs.OneTurn.{is_root_next}
use Rattle.jh_edit.proofs.KeepingLemmas.{turn_keeps}
use Rattle.jh_edit.proofs.keeping.turns_keep_the_cells.Goals as goal

pub returns-clause-cells : goal.returns-clause-cells
returns-clause-cells c = λ claims rootward coming editing editing' stage stage' on forest is turn.
    (turn_keeps c.walked_tells_grants.ensures.found claims rootward coming (is_root_next editing) editing editing' stage stage' on forest is turn).cells

pub returns-clause-seats : goal.returns-clause-seats
returns-clause-seats c = λ claims rootward coming editing editing' stage stage' on forest is turn.
    (turn_keeps c.walked_tells_grants.ensures.found claims rootward coming (is_root_next editing) editing editing' stage stage' on forest is turn).seats
