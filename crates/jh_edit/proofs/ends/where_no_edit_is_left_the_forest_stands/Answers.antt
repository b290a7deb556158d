-- The tables of root and of the cell that came stand, and a cell that goes has none.
use Rattle.jh_edit.proofs.EndingLemmas.{closes, unplanned}
use Rattle.jh_edit.proofs.ends.where_no_edit_is_left_the_forest_stands.Goals as goal

pub returns-clause-closed : goal.returns-clause-closed
returns-clause-closed c = λ claims rootward coming editing stage stage' on forest is none closed.
    closes claims rootward coming editing stage stage' on
    (record { forest = forest; is = is; none = none; bare = c.a_finished_edit_stands.ensures.ahead; stands = c.a_finished_edit_stands.ensures.stands; pages = c.claims_want_pages_at_the_end.ensures }) closed

pub returns-clause-unplanned : goal.returns-clause-unplanned
returns-clause-unplanned c = λ claims rootward coming editing stage still forest is none cell.
    unplanned claims rootward coming editing stage still
    (record { forest = forest; is = is; none = none; bare = c.a_finished_edit_stands.ensures.ahead; stands = c.a_finished_edit_stands.ensures.stands; pages = c.claims_want_pages_at_the_end.ensures }) cell
