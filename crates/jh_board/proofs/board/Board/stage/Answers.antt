-- The tables of all cells on a board.
use Rattle.std.proofs.Common.{sym, subst, refl, ap, ◌∙◌}
use Rattle.jh_history.specs.History.{facts}
use Rattle.jh_board.specs.declared.held.Held.{Held}
use Rattle.jh_board.specs.Means.{IsStageOf}
use Rattle.jh_board.specs.BoardView.{BoardView}
use Rattle.jh_board.specs.Tables.{AreKeptOut, HaveAllTables}
use Rattle.jh_board.proofs.StagedLemmas.{all_tables, taken_pages}
use Rattle.jh_board.proofs.board.Board.stage.Goals as goal

pub returns-clause-stands : goal.returns-clause-stands
returns-clause-stands c =
    let inside = c.self.inside in
    let lives = (facts inside.image inside.journal.form inside.journal.entries).cells in
    let sound = c.legal_journals_are_sound.ensures.legal inside.image inside.journal.form inside.journal.entries c.self.invariant.admitted c.self.invariant.legal in
    let stage = subst (IsStageOf inside.image lives) (sym (c.stage-stage.ensures ∙ ap (λ (held : Held). held.memory) c.deref.ensures)) c.self.invariant.means.stage in
    let P : BoardView → Type 0 = λ b. HaveAllTables b.image (facts b.image b.form b.entries).cells c.stage-stage.result.now in
    subst P c.self.view_is (all_tables c.standing_tables_walk_as_wanted.ensures (record { found = c.walked_tells_grants.ensures.found; nothing = c.walked_tells_grants.ensures.nothing })
    (record { apart = c.clean_cells_may_have_tables.ensures.apart; root = c.clean_cells_may_have_tables.ensures.root; cells = c.clean_cells_may_have_tables.ensures.cells }) inside.image lives c.stage-stage.result.now sound.cells stage)

pub returns-clause-outside : goal.returns-clause-outside
returns-clause-outside c = subst AreKeptOut (sym (c.stage-stage.ensures ∙ ap (λ (held : Held). held.memory) c.deref.ensures)) c.self.invariant.means.stage.forest.outside

pub returns-clause-pages : goal.returns-clause-pages
returns-clause-pages c =
    let inside = c.self.inside in
    let lives = (facts inside.image inside.journal.form inside.journal.entries).cells in
    let sound = c.legal_journals_are_sound.ensures.legal inside.image inside.journal.form inside.journal.entries c.self.invariant.admitted c.self.invariant.legal in
    let stage = subst (IsStageOf inside.image lives) (sym (c.stage-stage.ensures ∙ ap (λ (held : Held). held.memory) c.deref.ensures)) c.self.invariant.means.stage in
    rw (← c.self.view_is) (taken_pages (record { tables = c.marks_change_no_table.ensures.tables; pages = c.marks_change_no_table.ensures.pages; live = c.marks_change_no_table.ensures.live }) inside.image lives c.stage-stage.result.now sound.cells stage
    (c.cells_take_their_pages.ensures _ _ refl stage.forest stage.still))

pub returns-clause-stage : goal.returns-clause-stage
returns-clause-stage c =
    let inside = c.self.inside in
    let lives = (facts inside.image inside.journal.form inside.journal.entries).cells in
    let P : BoardView → Type 0 = λ b. IsStageOf b.image (facts b.image b.form b.entries).cells c.stage-stage.result.now in
    subst P c.self.view_is (subst (IsStageOf inside.image lives) (sym (c.stage-stage.ensures ∙ ap (λ (held : Held). held.memory) c.deref.ensures)) c.self.invariant.means.stage)
