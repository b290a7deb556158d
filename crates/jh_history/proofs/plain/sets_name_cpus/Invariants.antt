-- So it is with the cells so far.
use Rattle.std.proofs.Common.{ℕ, ◌<◌, get_or}
use Rattle.jh_cellcfg.specs.declared.config.CellConfig.{CellConfig}
use Rattle.jh_check.specs.Clean.{IsSoundBitmap, IsSoundCpuSet}
use Rattle.jh_history.proofs.plain.sets_name_cpus.Given as goal

abbrev pub invariant-loop-cell : goal.invariant-loop-cell
invariant-loop-cell l = (k : ℕ) (d : CellConfig) → k < l.cell-index → IsSoundBitmap (get_or l.cells k d).cpu_set → IsSoundCpuSet (get_or l.cells k d).cpu_set
