-- The CPUs that talk, and why there are none.
use Rattle.std.specs.Prelude.{◌≡◌, ◌<◌, ◌⊎◌, ℕ, Bool, true, false, ◌&&◌, not, [], ◌∷◌}
use Rattle.jh_cellcfg.specs.declared.config.CellConfig.{CellConfig}
use Rattle.jh_cellcfg.specs.declared.config.SystemConfig.{SystemConfig}
use Rattle.jh_cellcfg.specs.Cells.{is_cpu_set}
use Rattle.jh_check.specs.Clean.{IsClean}
use Rattle.jh_check.specs.Refusals.{is_known}
use Rattle.jh_talk.specs.declared.cpus.Cpus.{Cpus}
use Rattle.jh_talk.specs.Cpus.{is_left, IsLowest, NamesAllCpus, NamesForeignCpu}

-- the cell names no CPU above 15
abbrev pub HasFewCpus : CellConfig → Type 0
HasFewCpus config = (cpu : ℕ) → is_cpu_set config.cpu_set cpu ≡ true → cpu < 16

-- the cell names no CPU
abbrev pub HasNoCpu : CellConfig → Type 0
HasNoCpu config = (cpu : ℕ) → is_cpu_set config.cpu_set cpu ≡ false

-- the cell names the CPU, and root lacks it
abbrev pub is_foreign : CellConfig → CellConfig → ℕ → Bool
is_foreign root cell cpu = is_cpu_set cell.cpu_set cpu && not (is_cpu_set root.cpu_set cpu)

-- the CPUs are those that talk
pub record AreCpus (root cell : CellConfig) (cpus : Cpus) : Type 0 where
  pub leader : IsLowest (is_left root cell) cpus.leader
  pub follower : IsLowest (is_cpu_set cell.cpu_set) cpus.follower
  pub known : NamesForeignCpu root cell → ⊥

-- no CPUs can talk
abbrev pub CannotBe : CellConfig → CellConfig → Type 0
CannotBe root cell = NamesForeignCpu root cell ⊎ NamesAllCpus root cell

-- the cell may join root: it has another name and id, and nothing is found in both
pub record IsJoining (system : SystemConfig) (cell : CellConfig) : Type 0 where
  pub unknown : is_known (system.root ∷ []) cell ≡ false
  pub clean : IsClean system (cell ∷ [])
