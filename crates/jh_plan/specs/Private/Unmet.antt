-- Why the demand behind the earlier ones isn't met.
use Rattle.std.specs.Prelude.{◌≡◌, ◌+◌, List, length}
use Rattle.jh_cellcfg.specs.declared.config.CellConfig.{CellConfig}
use Rattle.jh_cellcfg.specs.declared.config.SystemConfig.{SystemConfig}
use Rattle.jh_plan.specs.declared.demand.Demand.{Demand}
use Rattle.jh_plan.specs.declared.fault.PlanFault.{PlanFault}
use Rattle.jh_plan.specs.declared.fault.PlanFault.TheVariants.{Demand as AtDemand, NoMemory}
use Rattle.jh_plan.specs.Plans.{WhyNot}

-- the fault tells the number of the demand behind the earlier ones, and why it isn't met; want of memory tells nothing
abbrev pub IsUnmet : SystemConfig → List CellConfig → Demand → PlanFault → Type 0
IsUnmet system earlier demand (AtDemand number why) = (number ≡ length earlier + 1) × WhyNot system earlier demand why
IsUnmet system earlier demand NoMemory = Unit {0}
