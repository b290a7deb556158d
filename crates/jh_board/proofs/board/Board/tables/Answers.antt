-- The leaves are those of the tables that stand, and those that the configurations want.
use Rattle.std.proofs.Common.{◌∙◌, subst}
use Rattle.jh_history.specs.History.{facts}
use Rattle.jh_history.specs.Sound.{AreSoundCells}
use Rattle.jh_shape.specs.Lives.{configs_of}
use Rattle.jh_board.specs.BoardView.{BoardView}
use Rattle.jh_board.proofs.LeavesLemmas.{told_wanted}
use Rattle.jh_board.proofs.board.Board.tables.Goals as goal

pub all_leaves-requires : goal.all_leaves-requires
all_leaves-requires c = record { forest = (_, c.stage.ensures.stage.forest) }

pub returns-clause-told : goal.returns-clause-told
returns-clause-told c = record { stage = c.stage.result.now; stands = c.stage.ensures.stands; pages = c.stage.ensures.pages; is = c.from_vec.ensures ∙ c.in_ok-leaves.ensures }

pub returns-clause-wanted : goal.returns-clause-wanted
returns-clause-wanted c =
    let inside = c.self.inside in
    let sound = c.legal_journals_are_sound.ensures.legal inside.image inside.journal.form inside.journal.entries c.self.invariant.admitted c.self.invariant.legal in
    let P : BoardView → Type 0 = λ b. AreSoundCells b.image.system (configs_of (facts b.image b.form b.entries).cells) in
    c.from_vec.ensures ∙ c.in_ok-leaves.ensures ∙ told_wanted _ _ c.stage.result.now (subst P c.self.view_is sound.cells) c.stage.ensures.stage
