-- What a cell is given, and why there is none.
use Rattle.std.specs.Prelude.{◌≡◌, ◌<◌, ◌+◌, ◌⊎◌, true, false, List}
use Rattle.jh_num.specs.declared.address.TheConstants.{ADDRESS_END, PAGE_SIZE}
use Rattle.jh_cellcfg.specs.declared.config.CellConfig.{CellConfig}
use Rattle.jh_plan.specs.declared.demand.Demand.{Demand}
use Rattle.jh_plan.specs.declared.cell.Seat.{Seat}
use Rattle.jh_plan.specs.declared.fault.Why.{Why}
use Rattle.jh_plan.specs.declared.fault.Why.TheVariants.{Taken, Cpus, Place, Pages}
use Rattle.jh_plan.specs.Cpus.{AreGreatestCpus, cpus_with, is_spare}
use Rattle.jh_plan.specs.Places.{IsHighestPlace, HasNoPlace}
use Rattle.jh_plan.specs.Fits.{is_taken, comm_start, HasCommRoom, HasCpus}

-- a cell with this set and its memory at this place meets the demand, if there are pages
pub record IsSeat (root : CellConfig) (earlier : List CellConfig) (demand : Demand) (seat : Seat) : Type 0 where
  pub unknown : is_taken root earlier demand ≡ false
  pub cpus : AreGreatestCpus root earlier demand.cpus seat.cpu_set
  pub highest : IsHighestPlace root earlier demand.size seat.place
  pub room : HasCommRoom demand

-- why there is none, pages aside
abbrev pub IsUnseated : CellConfig → List CellConfig → Demand → Why → Type 0
IsUnseated root earlier demand Taken = is_taken root earlier demand ≡ true
IsUnseated root earlier demand Cpus =
    (is_taken root earlier demand ≡ false) × (cpus_with (is_spare root earlier) < demand.cpus)
IsUnseated root earlier demand Place =
    HasCpus root earlier demand × (HasNoPlace root earlier demand.size ⊎ (ADDRESS_END < comm_start demand.size + PAGE_SIZE))
IsUnseated root earlier demand Pages = ⊥
