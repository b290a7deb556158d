-- Each cell so far has its answer, and those that are said to be sound are.
use Rattle.std.proofs.Common.{◌≡◌, ℕ, ◌<◌, true, false, length, get_or}
use Rattle.jh_cellcfg.specs.declared.config.CellConfig.{CellConfig}
use Rattle.jh_check.specs.Private.Cells.{cells_of}
use Rattle.jh_check.specs.Private.Sound.{AreSound}
use Rattle.jh_check.proofs.search.sound_cells.Given as goal

abbrev pub invariant-loop-a : goal.invariant-loop-a
invariant-loop-a l = record {
  count : length l.sound.items ≡ l.a;
  known : (k : ℕ) (c : CellConfig) → k < l.a → get_or l.sound.items k false ≡ true → AreSound l.setup.hypervisor.now k (get_or (cells_of l.setup) k c).memory_regions;
}
