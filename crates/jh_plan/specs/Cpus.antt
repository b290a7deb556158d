-- Which CPUs a cell is given.
use Rattle.std.specs.Prelude.{◌≡◌, ◌≤◌, ◌<◌, ◌-◌, ◌+◌, ◌^◌, ℕ, Bool, ◌&&◌, not, nat_lt, List, length, All}
use Rattle.std.specs.List.{list_any}
use Rattle.jh_num.specs.Below.{any_below}
use Rattle.jh_cellcfg.specs.declared.config.CellConfig.{CellConfig}
use Rattle.jh_cellcfg.specs.Cells.{is_cpu_set}
use Rattle.jh_shape.specs.Pages.{count_below}

-- the CPU is spare: it is one of root's but not root's lowest, and no earlier cell has it
abbrev pub is_spare : CellConfig → List CellConfig → ℕ → Bool
is_spare root earlier cpu =
    is_cpu_set root.cpu_set cpu && any_below (is_cpu_set root.cpu_set) cpu
    && not (list_any (λ cell. is_cpu_set cell.cpu_set cpu) earlier)

-- how many CPUs of a board pass the test
abbrev pub cpus_with : (ℕ → Bool) → ℕ
cpus_with test = count_below test 16

-- how many CPUs of a board above this one pass the test
abbrev pub cpus_above : (ℕ → Bool) → ℕ → ℕ
cpus_above test cpu = cpus_with test - count_below test (cpu + 1)

-- the CPU is one of the greatest that pass the test, of which so many are taken: it passes, and fewer above it do
abbrev pub is_greatest : (ℕ → Bool) → ℕ → ℕ → Bool
is_greatest test count cpu = nat_lt cpu 16 && test cpu && nat_lt (cpus_above test cpu) count

-- the set has 8 bytes and names the greatest spare CPUs, so many of them
pub record AreGreatestCpus (root : CellConfig) (earlier : List CellConfig) (count : ℕ) (set : List ℕ) : Type 0 where
  pub bytes : length set ≡ 8
  pub each : All (λ byte. byte < 2 ^ 8) set
  pub enough : count ≤ cpus_with (is_spare root earlier)
  pub names : (cpu : ℕ) → is_cpu_set set cpu ≡ is_greatest (is_spare root earlier) count cpu
