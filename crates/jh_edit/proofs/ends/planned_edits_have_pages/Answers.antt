-- What root lacks is what it wants more, and all other pages are taken already.
use Rattle.std.proofs.Common.{◌≡◌, ◌∙◌, ap, arith}
use Rattle.jh_pool.specs.Pages.{PoolView, used_of}
use Rattle.jh_shape.specs.Shapes.{want_of}
use Rattle.jh_walk.specs.Walks.{levels}
use Rattle.jh_edit.specs.Tables.{words}
use Rattle.jh_edit.specs.Trees.{lack_of}
use Rattle.jh_edit.proofs.PlannedLemmas.{create_pages, still_stands}
use Rattle.jh_edit.proofs.ends.planned_edits_have_pages.Goals as goal

pub returns-clause-create : goal.returns-clause-create
returns-clause-create c = λ claims rootward coming stage root tree is still forest sits root' has more enough.
    create_pages c.standing_tables_lack_the_difference.ensures.more c.tables_are_counted_from_the_top.ensures claims rootward coming stage root tree
    (ap (λ (pool : PoolView). used_of pool) is ∙ c.cells_take_their_pages.ensures claims stage is forest still) still forest sits root' has more enough

pub returns-clause-others : goal.returns-clause-others
returns-clause-others c = λ claims rootward stage root tree still forest sits has fewer.
    c.standing_tables_lack_the_difference.ensures.fewer (want_of (claims root)) (want_of rootward) (words stage.frames) levels tree.table 0 fewer (still_stands claims stage root tree still forest sits has)

pub returns-clause-enough : goal.returns-clause-enough
returns-clause-enough c = λ claims rootward stage root tree still forest sits has fewer.
    let none : lack_of (want_of rootward) (words stage.frames) levels tree.table 0 ≡ 0 =
    c.standing_tables_lack_the_difference.ensures.fewer (want_of (claims root)) (want_of rootward) (words stage.frames) levels tree.table 0 fewer (still_stands claims stage root tree still forest sits has)
    in
    omega arith
