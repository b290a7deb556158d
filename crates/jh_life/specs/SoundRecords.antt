-- What holds of the records of live cells at every moment.
use Rattle.std.specs.Prelude.{◌≡◌, ℕ, ◌≤◌, Bool, List, ◌∷◌, length, map, sum_by, AllPairs}
use Rattle.jh_cellcfg.specs.declared.config.CellConfig.{CellConfig}
use Rattle.jh_check.specs.Refusals.{AreTwo}
use Rattle.jh_shape.specs.Pages.{own_pages}

-- each cell has a mark, there are at most 15, no two of them and root have one name or one id, and so many pages are
-- taken by each, and so many by them together: their tables, and a communication page for each
pub record AreSoundRecords (root : CellConfig) (configs : List CellConfig) (marks : List Bool) (own : List ℕ) (taken : ℕ) : Type 0 where
  pub even : length marks ≡ length configs
  pub few : length configs ≤ 15
  pub differ : AllPairs AreTwo (root ∷ configs)
  pub each : own ≡ map own_pages configs
  pub pages : taken ≡ sum_by own_pages configs
