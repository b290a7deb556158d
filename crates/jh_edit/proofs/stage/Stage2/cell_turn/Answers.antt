-- Each part has its own kind of turn.
use Rattle.std.proofs.Common.{sym, subst}
use Rattle.jh_shape.specs.Claims.{claims_of}
use Rattle.jh_edit.specs.declared.stage.CellPart.{CellPart}
use Rattle.jh_edit.specs.OneTurn.{IsCellTurn, with_editing}
use Rattle.jh_edit.proofs.stage.Stage2.cell_turn.Goals as goal

pub returns-in-Fresh : goal.returns-in-Fresh
returns-in-Fresh c =
    let P : CellPart → Type 0 = λ part. IsCellTurn (claims_of c.args.root.now) (claims_of c.args.cell.now) part (record { root = c.args.editing.root; cell = part }) c.fresh_turn.result
    (with_editing c.args.self.now (record { root = c.args.editing.root; cell = part })) (with_editing c.fresh_turn.new.self c.fresh_turn.result)
    in
    subst P (sym c.in-Fresh.is) (c.fresh_turn.ensures c.in-Fresh.bound)
