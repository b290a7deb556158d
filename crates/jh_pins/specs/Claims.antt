-- What contracts see of what a cell claims.
use Rattle.std.specs.Prelude.{ℕ, List}
use Rattle.jh_cellcfg.specs.declared.config.Irqchip.{Irqchip}

-- the id of the cell, and the irqchips that give it its pins
pub record Claim : Type 0 where
  pub id : ℕ
  pub irqchips : List Irqchip
