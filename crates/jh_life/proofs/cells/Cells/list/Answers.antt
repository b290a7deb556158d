-- Configurations paired with as many marks are the same configurations again.
use Rattle.std.proofs.Common.{List, length, sym, ap, ◌∙◌}
use Rattle.jh_shape.proofs.Public.{configs_joined, length_joined}
use Rattle.jh_cellcfg.specs.declared.config.CellConfig.{CellConfig}
use Rattle.jh_life.proofs.cells.Cells.list.Goals as goal

pub returns-clause-value : goal.returns-clause-value
returns-clause-value c =
    rw (← c.self.view_is) (c.as_slice.ensures.value ∙ sym (configs_joined c.self.inside.configs.items c.self.inside.marks.items c.self.invariant.even))

pub returns-clause-count : goal.returns-clause-count
returns-clause-count c =
    rw (← c.self.view_is)
    (ap (λ (cells : List CellConfig). length cells) c.as_slice.ensures.value ∙ sym (length_joined c.self.inside.configs.items c.self.inside.marks.items c.self.invariant.even))
