-- The next turn of an edit of the tables of all cells: whose it is, and what it does.
use Rattle.std.specs.Prelude.{◌≡◌, ℕ, ◌<◌, ◌&&◌, not, Bool, true, false, nat_eq, nat_lt, List, Option, Some, None, if◌then◌else◌}
use Rattle.jh_shape.specs.Claims.{Claims}
use Rattle.jh_shape.specs.Shapes.{want_of}
use Rattle.jh_edit.specs.declared.stage.CellPart.{CellPart}
use Rattle.jh_edit.specs.declared.stage.CellPart.TheVariants.{Unchanged, Fresh, Build, Remove}
use Rattle.jh_edit.specs.declared.stage.Editing.{Editing}
use Rattle.jh_edit.specs.declared.stage.Seat.{Seat}
use Rattle.jh_edit.specs.declared.stage.Stage2.{Stage2}
use Rattle.jh_edit.specs.Forest.{IsEdit, IsForest, left_of}
use Rattle.jh_edit.specs.Plans.{EditView}
use Rattle.jh_edit.specs.Seats.{cell_comm}
use Rattle.jh_edit.specs.Stages.{IsBuildTurn, IsFreshTurn, IsRemoveTurn, IsRootTurn}

-- ---- the turn of an edit

-- the stage with the edit under way
abbrev pub with_editing : Stage2 → Editing → Stage2
with_editing stage editing = record stage { editing = Some editing }

-- the tables of all cells, and an edit of them that is under way: what a turn begins with
pub record IsUnderWay (rootward coming : Claims) (stage : Stage2) (editing : Editing) : Type 0 where
  pub claims : Seat → Claims
  pub forest : IsForest claims stage
  pub edit : IsEdit rootward coming stage editing

-- a cell's tables are still to be taken away
abbrev pub is_removing : CellPart → Bool
is_removing Unchanged = false
is_removing (Fresh id bound) = false
is_removing (Build id edit) = false
is_removing (Remove id edit) = nat_lt 0 edit.left

-- the next turn is root's: it comes behind a removal, and before a cell is made
abbrev pub is_root_next : Editing → Bool
is_root_next editing = nat_lt 0 editing.root.left && not (is_removing editing.cell)

-- a turn of the cell's part
abbrev pub IsCellTurn : Claims → Claims → CellPart → Editing → Editing → Stage2 → Stage2 → Type 0
IsCellTurn rootward coming Unchanged editing editing' old new = ⊥
IsCellTurn rootward coming (Fresh id bound) editing editing' old new = (edit' : EditView) × IsFreshTurn coming id bound edit' editing editing' old new
IsCellTurn rootward coming (Build id edit) editing editing' old new = (edit' : EditView) × IsBuildTurn coming id edit edit' editing editing' old new
IsCellTurn rootward coming (Remove id edit) editing editing' old new = (edit' : EditView) × IsRemoveTurn (want_of rootward) id edit edit' editing editing' old new

abbrev pub IsTurnBy : Bool → Claims → Claims → Editing → Editing → Stage2 → Stage2 → Type 0
IsTurnBy true rootward coming editing editing' old new = IsRootTurn rootward editing editing' old new
IsTurnBy false rootward coming editing editing' old new = IsCellTurn rootward coming editing.cell editing editing' old new

-- one turn of the edit
abbrev pub IsOneTurn : Claims → Claims → Editing → Editing → Stage2 → Stage2 → Type 0
IsOneTurn rootward coming editing editing' old new = IsTurnBy (is_root_next editing) rootward coming editing editing' old new

-- a stage whose edit has a turn left
pub record HasTurn (rootward coming : Claims) (stage : Stage2) : Type 0 where
  pub editing : Editing
  pub now : stage.editing ≡ Some editing
  pub under : IsUnderWay rootward coming stage editing
  pub left : 0 < left_of editing

-- the stage after a turn of the edit
pub record IsTurned (rootward coming : Claims) (editing : Editing) (old new : Stage2) : Type 0 where
  pub editing' : Editing
  pub now : new.editing ≡ Some editing'
  pub turn : IsOneTurn rootward coming editing editing' old new

-- what a turn keeps: the tables of all cells, and the edit, with fewer turns left
pub record IsKept (claims : Seat → Claims) (rootward coming : Claims) (editing editing' : Editing) (new : Stage2) : Type 0 where
  pub forest : IsForest claims new
  pub edit : IsEdit rootward coming new editing'
  pub falls : left_of editing' < left_of editing

-- ---- the page of a cell that is gone

abbrev pub removed_comm : CellPart → List Seat → Option ℕ
removed_comm Unchanged seats = None
removed_comm (Fresh id bound) seats = None
removed_comm (Build id edit) seats = None
removed_comm (Remove id edit) seats = cell_comm id seats

-- the communication page of the cell that is gone: it goes, and no turn is left
abbrev pub gone_comm : Editing → List Seat → Option ℕ
gone_comm editing seats = if nat_eq (left_of editing) 0 then removed_comm editing.cell seats else None
