-- The value is written where it reaches.
use Rattle.std.proofs.Common.{inl, inr}
use Rattle.jh_board.proofs.steps.make_write.Goals as goal

pub returns-in-Memory-clause-ok : goal.returns-in-Memory-clause-ok
returns-in-Memory-clause-ok c = elim c.in-Memory.is [
  | inl is ↦ rw is c.write_value.ensures.ok
  | inr is ↦ rw is c.write_value.ensures.ok
]
