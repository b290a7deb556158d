-- Which cells meet demands, one after the other, and why none does.
use Rattle.std.specs.Prelude.{◌≡◌, ◌≤◌, ◌<◌, ◌+◌, ◌⊎◌, ◌++◌, ℕ, true, false, List, [], ◌∷◌, length}
use Rattle.jh_num.specs.declared.address.TheConstants.{ADDRESS_END, PAGE_SIZE}
use Rattle.jh_cellcfg.specs.declared.region.Region.{Region}
use Rattle.jh_cellcfg.specs.declared.config.CellConfig.{CellConfig}
use Rattle.jh_cellcfg.specs.declared.config.SystemConfig.{SystemConfig}
use Rattle.jh_cellcfg.specs.Cells.{name_of, is_cpu_set}
use Rattle.jh_check.specs.Laws.{IsItem}
use Rattle.jh_shape.specs.Pages.{pages_of}
use Rattle.jh_history.specs.Admitted.{pool_pages}
use Rattle.jh_plan.specs.declared.demand.Demand.{Demand}
use Rattle.jh_plan.specs.declared.fault.Why.{Why}
use Rattle.jh_plan.specs.declared.fault.Why.TheVariants.{Taken, Cpus, Place, Pages}
use Rattle.jh_plan.specs.declared.fault.PlanFault.{PlanFault}
use Rattle.jh_plan.specs.declared.fault.PlanFault.TheVariants.{Demand as AtDemand, NoMemory}
use Rattle.jh_plan.specs.declared.planning.Planned.{Planned}
use Rattle.jh_plan.specs.Cpus.{cpus_with, is_spare}
use Rattle.jh_plan.specs.Fits.{comm_start, is_taken, Fits, HasCpus}
use Rattle.jh_plan.specs.Places.{HasNoPlace}

-- how many pages root and these cells take together
abbrev pub pages_with : SystemConfig → List CellConfig → ℕ
pages_with system cells = pages_of system.root.memory_regions cells

-- the demand is met by this cell after the earlier ones
pub record Plans (system : SystemConfig) (earlier : List CellConfig) (demand : Demand) (config : CellConfig) : Type 0 where
  pub fits : Fits system.root earlier demand config
  pub pages : pages_with system (earlier ++ config ∷ []) ≤ pool_pages system

-- why no cell meets the demand after the earlier ones: the first cause that holds
abbrev pub WhyNot : SystemConfig → List CellConfig → Demand → Why → Type 0
WhyNot system earlier demand Taken = is_taken system.root earlier demand ≡ true
WhyNot system earlier demand Cpus =
    (is_taken system.root earlier demand ≡ false) × (cpus_with (is_spare system.root earlier) < demand.cpus)
WhyNot system earlier demand Place =
    HasCpus system.root earlier demand
    × (HasNoPlace system.root earlier demand.size ⊎ (ADDRESS_END < comm_start demand.size + PAGE_SIZE))
WhyNot system earlier demand Pages =
    (config : CellConfig) × Fits system.root earlier demand config × (pool_pages system < pages_with system (earlier ++ config ∷ []))

-- the cells meet the demands one by one, each after the earlier cells and those of the demands before it
abbrev pub ArePlanned : SystemConfig → List CellConfig → List Demand → List CellConfig → Type 0
ArePlanned system earlier [] [] = Unit {0}
ArePlanned system earlier [] (cell ∷ cells) = ⊥
ArePlanned system earlier (demand ∷ demands) [] = ⊥
ArePlanned system earlier (demand ∷ demands) (cell ∷ cells) =
    Plans system earlier demand cell × ArePlanned system (earlier ++ cell ∷ []) demands cells

-- the demand of this number, from 1, is the first that no cell meets after those of the demands before it, for this
-- cause
pub record IsFirstUnmet (system : SystemConfig) (demands : List Demand) (number : ℕ) (why : Why) : Type 0 where
  pub before : List Demand
  pub demand : Demand
  pub rest : List Demand
  pub demands_are : demands ≡ before ++ demand ∷ rest
  pub number_is : number ≡ length before + 1
  pub cells : List CellConfig
  pub planned : ArePlanned system [] before cells
  pub unmet : WhyNot system cells demand why

-- the cell has what the demand wants: its name, its id, as many CPUs, and a first region of as many bytes
pub record HasWanted (demand : Demand) (cell : CellConfig) : Type 0 where
  pub name : name_of cell ≡ demand.name
  pub id : cell.id ≡ demand.id
  pub cpus : cpus_with (is_cpu_set cell.cpu_set) ≡ demand.cpus
  pub memory : (region : Region) × IsItem cell 0 region × (region.size ≡ demand.size)

-- the cells meet the demands, and these are the pages that root and all of them take
pub record IsPlan (system : SystemConfig) (demands : List Demand) (planned : Planned) : Type 0 where
  pub are : ArePlanned system [] demands planned.cells
  pub pages : planned.pages ≡ pages_with system planned.cells
  pub room : planned.pages ≤ pool_pages system

-- the fault tells the first demand that isn't met, and its cause; want of memory tells nothing
abbrev pub IsCause : SystemConfig → List Demand → PlanFault → Type 0
IsCause system demands (AtDemand number why) = IsFirstUnmet system demands number why
IsCause system demands NoMemory = Unit {0}
