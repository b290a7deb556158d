-- Which CPUs talk: one of root's, and one of the cell's.
use Rattle.std.specs.Prelude.{◌≡◌, ◌<◌, ℕ, Bool, true, false, ◌&&◌, not}
use Rattle.jh_cellcfg.specs.declared.config.CellConfig.{CellConfig}
use Rattle.jh_cellcfg.specs.Cells.{is_cpu_set}

-- the CPU is the lowest that passes the test
pub record IsLowest (test : ℕ → Bool) (cpu : ℕ) : Type 0 where
  pub passes : test cpu ≡ true
  pub lowest : (lower : ℕ) → lower < cpu → test lower ≡ false

-- the CPU stays root's when the cell lives: it is root's, and the cell doesn't name it
abbrev pub is_left : CellConfig → CellConfig → ℕ → Bool
is_left root cell cpu = is_cpu_set root.cpu_set cpu && not (is_cpu_set cell.cpu_set cpu)

-- the cell names a CPU that root lacks
pub record NamesForeignCpu (root cell : CellConfig) : Type 0 where
  pub cpu : ℕ
  pub named : is_cpu_set cell.cpu_set cpu ≡ true
  pub lacking : is_cpu_set root.cpu_set cpu ≡ false

-- the cell names all of root's CPUs
abbrev pub NamesAllCpus : CellConfig → CellConfig → Type 0
NamesAllCpus root cell = (cpu : ℕ) → is_left root cell cpu ≡ false
