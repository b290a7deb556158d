-- Which cell meets a demand beside root and earlier cells, pages aside.
use Rattle.std.specs.Prelude.{◌≡◌, ◌≤◌, ◌+◌, ◌-◌, ◌*◌, ◌/◌, ◌++◌, ℕ, Bool, false, ◌||◌, ◌==◌, nat_eq, if◌then◌else◌, List, [], ◌∷◌, length, replicate}
use Rattle.std.specs.List.{list_any}
use Rattle.std.specs.Cmp.Lexicographic.{pointwise}
use Rattle.jh_num.specs.declared.address.TheConstants.{ADDRESS_END, PAGE_SIZE}
use Rattle.jh_cellcfg.specs.declared.region.Region.{Region}
use Rattle.jh_cellcfg.specs.declared.config.CellConfig.{CellConfig}
use Rattle.jh_cellcfg.specs.Cells.{name_of}
use Rattle.jh_cellcfg.specs.Empty.{empty_cell}
use Rattle.jh_plan.specs.declared.demand.Demand.{Demand}
use Rattle.jh_plan.specs.declared.place.TheConstants.{LARGE}
use Rattle.jh_plan.specs.Cpus.{AreGreatestCpus, cpus_with, is_spare}
use Rattle.jh_plan.specs.Places.{IsHighestPlace}

-- the cell has the id or the name that is wanted
abbrev pub has_taken : Demand → CellConfig → Bool
has_taken demand cell = (cell.id == demand.id) || pointwise nat_eq (name_of cell) demand.name

-- root or an earlier cell has the id or the name that is wanted
abbrev pub is_taken : CellConfig → List CellConfig → Demand → Bool
is_taken root earlier demand = list_any (has_taken demand) (root ∷ earlier)

-- where the communication region begins: at the first multiple of 2 MiB behind the memory
abbrev pub comm_start : ℕ → ℕ
comm_start size = (size + (LARGE - 1)) / LARGE * LARGE

-- the memory of a cell: at its addresses from 0 on, for reading, writing and execution
abbrev pub memory_region : Demand → ℕ → Region
memory_region demand place =
    record { phys_start = place; virt_start = 0; size = demand.size; flags = if demand.loadable then 0x47 else 0x7 }

-- the communication region of a cell, for reading and writing
abbrev pub comm_region : Demand → Region
comm_region demand = record { phys_start = 0; virt_start = comm_start demand.size; size = PAGE_SIZE; flags = 0x23 }

-- the name with zero bytes behind it, 32 bytes in all
abbrev pub padded : List ℕ → List ℕ
padded name = name ++ replicate (32 - length name) 0

-- the cell of a demand with this CPU set and its memory at this place; all else is 0 or empty
abbrev pub cell_of : Demand → List ℕ → ℕ → CellConfig
cell_of demand set place = record (empty_cell demand.id) {
  name = padded demand.name;
  cpu_set = set;
  memory_regions = memory_region demand place ∷ comm_region demand ∷ [];
}

-- the communication region ends within the addresses
abbrev pub HasCommRoom : Demand → Type 0
HasCommRoom demand = comm_start demand.size + PAGE_SIZE ≤ ADDRESS_END

-- what a cell is given: its CPU set, and where its memory begins
pub record Fits (root : CellConfig) (earlier : List CellConfig) (demand : Demand) (config : CellConfig) : Type 0 where
  pub unknown : is_taken root earlier demand ≡ false
  pub set : List ℕ
  pub cpus : AreGreatestCpus root earlier demand.cpus set
  pub place : ℕ
  pub highest : IsHighestPlace root earlier demand.size place
  pub room : HasCommRoom demand
  pub is : config ≡ cell_of demand set place

-- the id and the name are new, and there are CPUs enough
pub record HasCpus (root : CellConfig) (earlier : List CellConfig) (demand : Demand) : Type 0 where
  pub unknown : is_taken root earlier demand ≡ false
  pub enough : demand.cpus ≤ cpus_with (is_spare root earlier)
