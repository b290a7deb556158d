-- One cell more, which is none of those so far.
use Rattle.std.proofs.Common.{◌≡◌, ◌+◌, Some, None, sym, subst, ◌∙◌, arith}
use Rattle.std.specs.Prelude.{slice_get}
use Rattle.jh_history.specs.History.{facts}
use Rattle.jh_shape.specs.Lives.{configs_of, all_cells}
use Rattle.jh_pins.specs.TableView.{TableView}
use Rattle.jh_pins.specs.Holders.{IsNewId}
use Rattle.jh_pins.proofs.LiveLemmas.{behind_root, new_id, one_cell_more, there}
use Rattle.jh_pins.proofs.live.table_of_board.Goals as goal

pub add-requires : goal.add-requires
add-requires c =
    let image = c.args.board.now.image in
    let entries = c.args.board.now.entries in
    let root = image.system.root in
    let lives = (facts image c.args.board.now.form entries).cells in
    let index = c.loop-index.index in
    let cell = c.in-Some-cell.cell.now in
    let at : slice_get (all_cells root lives) (index + 1) ≡ Some cell = sym (rw c.in-Some-cell.is at c.cell-in-loop-index.ensures) in
    let sound = c.legal_journals_are_sound.ensures.legal image c.args.board.now.form entries c.journal.ensures.admitted c.journal.ensures.legal in
    let P : TableView → Type 0 = λ t. IsNewId t cell.id in
    subst P (sym c.loop-index.invariant) (new_id root (configs_of lives) index cell sound.cells.differ (sym (behind_root root (configs_of lives) index) ∙ at))

pub unreachable-requires-in-None : goal.unreachable-requires-in-None
unreachable-requires-in-None c =
    let image = c.args.board.now.image in
    let lives = (facts image c.args.board.now.form c.args.board.now.entries).cells in
    let all = all_cells image.system.root lives in
    let index = c.loop-index.index in
    let none : None ≡ slice_get all (index + 1) = rw c.in-None.is at c.cell-in-loop-index.ensures in
    let below = c.loop-index-test.true in
    let count = c.count-index-end.ensures in
    there all (index + 1) (omega arith) none

pub loop-index-preserved : goal.loop-index-preserved
loop-index-preserved c =
    let image = c.args.board.now.image in
    let root = image.system.root in
    let lives = (facts image c.args.board.now.form c.args.board.now.entries).cells in
    let index = c.loop-index.index in
    let cell = c.in-Some-cell.cell.now in
    let at : slice_get (all_cells root lives) (index + 1) ≡ Some cell = sym (rw c.in-Some-cell.is at c.cell-in-loop-index.ensures) in
    one_cell_more root (configs_of lives) index cell c.loop-index.table c.add.new.self (sym (behind_root root (configs_of lives) index) ∙ at) c.loop-index.invariant c.in_ok-add-in-Some-cell.ensures.ok
