-- What is true of memory at every moment.
use Rattle.std.specs.Prelude.{◌≡◌, ℕ, None}
use Rattle.jh_shape.specs.Claims.{Claims}
use Rattle.jh_edit.specs.declared.stage.Seat.{Seat}
use Rattle.jh_edit.specs.declared.stage.Stage2.{Stage2}
use Rattle.jh_edit.specs.Forest.{IsForest}

-- the hypervisor's memory begins at the base; the tables of all cells stand there, for some claims; and no edit of them is
-- under way
pub record IsSoundMemory (base : ℕ) (stage : Stage2) : Type 0 where
  pub start : base ≡ stage.frames.own.base
  pub claims : Seat → Claims
  pub forest : IsForest claims stage
  pub still : stage.editing ≡ None
