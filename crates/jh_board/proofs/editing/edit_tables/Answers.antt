-- The edit is planned, made and closed.
use Rattle.std.proofs.Common.{◌≡◌, refl, sym, subst, arith}
use Rattle.jh_shape.specs.Claims.{Claims, claims_of}
use Rattle.jh_edit.specs.declared.stage.Seat.{Seat}
use Rattle.jh_edit.specs.declared.stage.Stage2.{Stage2}
use Rattle.jh_edit.specs.Forest.{IsForest, left_of, part_left}
use Rattle.jh_edit.specs.Keeping.{sitters, KeepsCells}
use Rattle.jh_edit.specs.OneTurn.{with_editing}
use Rattle.jh_board.proofs.EditingLemmas.{cells_both, cells_same, claims_done, part_planned, seated_after, seated_first}
use Rattle.jh_board.proofs.editing.edit_tables.Goals as goal

pub make_turns-requires-clause-under : goal.make_turns-requires-clause-under
make_turns-requires-clause-under c =
    let may = c.requires.may in
    let old : Stage2 = c.args.stage.now in
    let editing = c.plan-editing.result in
    record {
      editing = editing;
      now = refl;
      claims = may.claims;
      forest = c.a_planned_edit_keeps_the_forest.ensures.forest may.claims editing old may.still may.forest c.plan-editing.ensures.just;
      edit = c.a_planned_edit_keeps_the_forest.ensures.edit (claims_of c.args.root.now) (claims_of c.args.cell.now) editing old (c.plan-editing.ensures.edit (claims_of c.args.cell.now) may);
      turns = c.left_of-left.ensures;
      part = part_planned c.args.planned editing.cell c.plan-editing.ensures.kind;
      cells = cells_same (with_editing old editing);
      seats = seated_first editing.cell (sitters old) c.plan-editing.ensures.just.unmade;
    }

pub returns-clause-forest : goal.returns-clause-forest
returns-clause-forest c = λ claims h.
    let may = c.requires.may in
    let old : Stage2 = c.args.stage.now in
    let root = claims_of c.args.root.now in
    let cell = claims_of c.args.cell.now in
    let editing = c.plan-editing.result in
    let over = c.make_turns.ensures.over in
    let begun = c.a_planned_edit_keeps_the_forest.ensures.forest claims editing old may.still h c.plan-editing.ensures.just in
    let none = sym over.turns in
    let P : (Seat → Claims) → Type 0 = λ wanted. IsForest wanted c.close.new.self in
    subst P (claims_done c.args.planned root cell c.make_turns.new.stage over.editing claims over.part over.edit none)
    (c.where_no_edit_is_left_the_forest_stands.ensures.closed claims root cell over.editing c.make_turns.new.stage c.close.new.self over.now (c.make_turns.ensures.forest claims begun) over.edit none
    (c.close.ensures.closed over.editing over.now))

pub returns-clause-still : goal.returns-clause-still
returns-clause-still c =
    let over = c.make_turns.ensures.over in
    (c.close.ensures.closed over.editing over.now).still

pub returns-clause-cells : goal.returns-clause-cells
returns-clause-cells c =
    let old : Stage2 = c.args.stage.now in
    let begun : Stage2 = with_editing old c.plan-editing.result in
    let over = c.make_turns.ensures.over in
    let all : KeepsCells begun c.close.new.self =
    cells_both begun c.make_turns.new.stage c.close.new.self over.editing.cell over.seats over.cells (c.a_closed_edit_keeps_the_cells.ensures.cells over.editing c.make_turns.new.stage c.close.new.self (c.close.ensures.closed over.editing over.now)) in
    record { guests = all.guests; base = all.base; size = all.size; pool_base = all.pool_base; pool_size = all.pool_size; comms = λ seat comm k there is lt. all.comms seat comm k there is lt }

pub returns-clause-seats : goal.returns-clause-seats
returns-clause-seats c =
    let old : Stage2 = c.args.stage.now in
    let over = c.make_turns.ensures.over in
    let none : left_of over.editing ≡ 0 = sym over.turns in
    let last : part_left over.editing.cell ≡ 0 = omega arith in
    seated_after c.args.planned (claims_of c.args.cell.now) c.make_turns.new.stage over.editing.cell over.edit.lack (sitters old) (sitters c.make_turns.new.stage) (sitters c.close.new.self) over.part over.edit.cell last over.seats
    (c.a_closed_edit_keeps_the_cells.ensures.seats over.editing c.make_turns.new.stage c.close.new.self (c.close.ensures.closed over.editing over.now))
