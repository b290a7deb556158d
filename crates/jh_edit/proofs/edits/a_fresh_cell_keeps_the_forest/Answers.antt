-- A cell gets its first pages, which had no use.
use Rattle.jh_edit.proofs.FreshLemmas.{fresh_edit, fresh_forest, fresh_left}
use Rattle.jh_edit.proofs.KindLemmas.{part_is}
use Rattle.jh_edit.specs.declared.stage.CellPart.TheVariants.{Fresh}
use Rattle.jh_edit.proofs.edits.a_fresh_cell_keeps_the_forest.Goals as goal

pub returns-clause-forest : goal.returns-clause-forest
returns-clause-forest c = λ claims rootward coming id bound edit' editing editing' stage stage' on forest is turn.
    fresh_forest claims rootward coming id bound edit' editing editing' stage stage' (record { on = on; forest = forest; is = is; turn = turn; part = part_is rootward coming stage editing (Fresh id bound) turn.was is })

pub returns-clause-edit : goal.returns-clause-edit
returns-clause-edit c = λ claims rootward coming id bound edit' editing editing' stage stage' on forest is turn.
    fresh_edit c.tables_are_counted_from_the_top.ensures claims rootward coming id bound edit' editing editing' stage stage'
    (record { on = on; forest = forest; is = is; turn = turn; part = part_is rootward coming stage editing (Fresh id bound) turn.was is })

pub returns-clause-left : goal.returns-clause-left
returns-clause-left c = λ claims rootward coming id bound edit' editing editing' stage stage' on forest is turn.
    fresh_left c.a_wanted_leaf_may_be_written.ensures c.tables_are_counted_from_the_top.ensures claims rootward coming id bound edit' editing editing' stage stage'
    (record { on = on; forest = forest; is = is; turn = turn; part = part_is rootward coming stage editing (Fresh id bound) turn.was is })
