-- The edit is under way with the turns that are left, and what tables stood for stands.
use Rattle.jh_shape.specs.Claims.{Claims, claims_of}
use Rattle.jh_edit.specs.declared.stage.Seat.{Seat}
use Rattle.jh_edit.specs.Forest.{IsForest}
use Rattle.jh_board.specs.Private.Editing.{IsEditing}
use Rattle.jh_board.proofs.editing.make_turns.Given as goal

abbrev pub invariant-loop-left : goal.invariant-loop-left
invariant-loop-left l = record {
  forest : (claims : Seat → Claims) → IsForest claims l.fn.stage → IsForest claims l.stage;
  under : IsEditing (claims_of l.root) (claims_of l.cell) l.fn._planned l.left l.fn.stage l.stage;
}

abbrev pub decreases-loop-left : goal.decreases-loop-left
decreases-loop-left l = l.left
