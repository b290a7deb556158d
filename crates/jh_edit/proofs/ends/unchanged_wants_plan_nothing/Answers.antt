-- Root's tables stand as they are wanted.
use Rattle.std.proofs.Common.{sym, subst}
use Rattle.jh_walk.specs.Walks.{levels}
use Rattle.jh_shape.specs.Shapes.{want_of}
use Rattle.jh_shape.specs.Wanted.{Wants}
use Rattle.jh_edit.specs.Tables.{words}
use Rattle.jh_edit.specs.Trees.{Stands}
use Rattle.jh_edit.proofs.EndingLemmas.{same_wants}
use Rattle.jh_edit.proofs.PlannedLemmas.{still_stands}
use Rattle.jh_edit.proofs.ends.unchanged_wants_plan_nothing.Goals as goal

pub returns : goal.returns
returns c = λ claims rootward stage root tree still forest sits has same.
    let P : Wants → Type 0 = λ want. Stands want (words stage.frames) levels tree.table 0 in
    c.where_nothing_is_left_tables_stand.ensures.left (want_of rootward) (words stage.frames) levels tree.table 0
    (subst P (sym (same_wants (want_of (claims root)) (want_of rootward) same)) (still_stands claims stage root tree still forest sits has))
