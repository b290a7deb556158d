-- The greatest spare CPUs from this one on are in the set, and the others are left to be found.
use Rattle.std.proofs.Common.{◌≡◌, ◌≤◌, ◌<◌, ◌^◌, ℕ, length}
use Rattle.std.specs.List.{All}
use Rattle.jh_cellcfg.specs.Cells.{is_cpu_set}
use Rattle.jh_plan.specs.Cpus.{is_spare}
use Rattle.jh_plan.proofs.CpuLemmas.{left_at, named_from}
use Rattle.jh_plan.proofs.cpus.greatest_cpus.Given as goal

abbrev pub invariant-loop-cpu : goal.invariant-loop-cpu
invariant-loop-cpu l = record {
  within : l.cpu ≤ 16;
  bytes : length l.set ≡ 8;
  each : All (λ byte. byte < 2 ^ 8) l.set;
  left : l.left ≡ left_at (is_spare l.root l.earlier) l.count l.cpu;
  names : (k : ℕ) → is_cpu_set l.set k ≡ named_from (is_spare l.root l.earlier) l.count l.cpu k;
}

abbrev pub decreases-loop-cpu : goal.decreases-loop-cpu
decreases-loop-cpu l = l.cpu
