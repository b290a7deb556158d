-- The configurations without their marks.
use Rattle.std.proofs.Common.{sym, ◌∙◌}
use Rattle.jh_shape.proofs.Public.{configs_joined}
use Rattle.jh_history.proofs.plain_cells.PlainCells.configs.Goals as goal

pub returns : goal.returns
returns c = rw (← c.self.view_is) (c.as_slice.ensures.value ∙ sym (configs_joined c.self.inside.configs.items c.self.inside.marks.items c.self.invariant))
