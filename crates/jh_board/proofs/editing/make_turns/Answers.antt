-- One turn more, with fewer left.
use Rattle.std.proofs.Common.{arith}
use Rattle.jh_shape.specs.Claims.{claims_of}
use Rattle.jh_edit.specs.Keeping.{sitters}
use Rattle.jh_board.proofs.EditingLemmas.{cells_both, part_turned, seated_turned}
use Rattle.jh_board.proofs.editing.make_turns.Goals as goal

pub edit_turn-left-requires-clause-under : goal.edit_turn-left-requires-clause-under
edit_turn-left-requires-clause-under c =
    let known = c.loop-left.invariant.under in
    let turns = known.turns in
    let some = c.loop-left-test.true in
    record {
      editing = known.editing;
      now = known.now;
      under = record { claims = known.claims; forest = known.forest; edit = known.edit };
      left = omega arith;
    }

pub loop-left-preserved : goal.loop-left-preserved
loop-left-preserved c =
    let known = c.loop-left.invariant.under in
    let turned = c.edit_turn-left.ensures.turn known.editing known.now in
    let root = claims_of c.args.root.now in
    let cell = claims_of c.args.cell.now in
    let since = c.args.stage.now in
    let old = c.loop-left.stage in
    let new = c.edit_turn-left.new.self in
    let law = c.turns_keep_the_cells.ensures in
    record {
      forest = λ claims h. c.edit_turn-left.ensures.forest claims (c.loop-left.invariant.forest claims h);
      under = record {
        editing = turned.editing';
        now = turned.now;
        claims = known.claims;
        forest = c.edit_turn-left.ensures.forest known.claims known.forest;
        edit = c.edit_turn-left.ensures.edit turned.editing' turned.now;
        turns = c.edit_turn-left.ensures.left turned.editing' turned.now;
        part = part_turned c.args._planned root cell known.editing turned.editing' old new turned.turn known.part;
        cells = cells_both since old new known.editing.cell known.seats known.cells (law.cells known.claims root cell known.editing turned.editing' old new known.now known.forest known.edit turned.turn);
        seats = seated_turned (sitters since) root cell known.editing turned.editing' old new turned.turn (law.seats known.claims root cell known.editing turned.editing' old new known.now known.forest known.edit turned.turn) known.seats;
      };
    }

pub loop-left-smaller : goal.loop-left-smaller
loop-left-smaller c =
    let known = c.loop-left.invariant.under in
    let turns = known.turns in
    let falls = c.edit_turn-left.ensures.falls known.editing known.now in
    omega arith
