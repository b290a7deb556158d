-- The words for a fault.
use Rattle.std.specs.Prelude.{ℕ, List, ◌++◌, codes}
use Rattle.std.specs.Fmt.{decimal}
use Rattle.jh_plan.specs.declared.fault.DemandsFault.{DemandsFault}
use Rattle.jh_plan.specs.declared.fault.DemandsFault.TheVariants.{Line, TooMany, NoMemory}
use Rattle.jh_plan.specs.declared.fault.Why.{Why}
use Rattle.jh_plan.specs.declared.fault.Why.TheVariants.{Taken, Cpus, Place, Pages}
use Rattle.jh_plan.specs.declared.fault.PlanFault.{PlanFault}
use Rattle.jh_plan.specs.declared.fault.PlanFault.TheVariants.{Demand, NoMemory as PlanNoMemory}

-- the words for a fault of a text of demands
abbrev pub demands_fault_text : DemandsFault → List ℕ
demands_fault_text (Line number) = codes "line " ++ (decimal number ++ codes ": syntax")
demands_fault_text TooMany = codes "demands too many"
demands_fault_text NoMemory = codes "want of memory"

-- the word for a cause
abbrev pub why_text : Why → List ℕ
why_text Taken = codes "taken"
why_text Cpus = codes "cpus"
why_text Place = codes "place"
why_text Pages = codes "pages"

-- the words for a fault of demands
abbrev pub plan_fault_text : PlanFault → List ℕ
plan_fault_text (Demand number why) = codes "demand " ++ (decimal number ++ (codes " " ++ why_text why))
plan_fault_text PlanNoMemory = codes "want of memory"
