-- Cells that creates make.
use Rattle.std.specs.Prelude.{◌≡◌, ℕ, [], ◌∷◌, ◌++◌, Some}
use Rattle.jh_cellcfg.specs.declared.config.CellConfig.{CellConfig}
use Rattle.jh_cellcfg.specs.declared.live.Live.{Live}
use Rattle.jh_shape.specs.Lives.{new_live}
use Rattle.jh_call.specs.declared.call.Call.TheVariants.{Create}
use Rattle.jh_history.specs.declared.entry.Act.TheVariants.{Commit}
use Rattle.jh_history.specs.Configs.{config_read, read_at}
use Rattle.jh_laws.specs.Moments.{AdmittedSpan, call_before_first, facts_before_first, facts_behind_first, facts_before_last, facts_behind_last}

-- the first entry is the Commit of a create, by which the live cell comes behind the others
pub record IsMadeByFirst (s : AdmittedSpan) (live : Live) : Type 0 where
  pub at : ℕ
  pub call : call_before_first s ≡ Some (Create at)
  pub act : s.first.act ≡ Commit
  pub joins : (facts_behind_first s).cells ≡ (facts_before_first s).cells ++ live ∷ []

-- by the last entry a new live cell comes behind the others, with the configuration that was read at the address just
-- before the first entry
pub record IsMadeAsRead (s : AdmittedSpan) (at : ℕ) : Type 0 where
  pub config : CellConfig
  pub read : config_read (read_at s.image (facts_before_first s) at) ≡ Some config
  pub joins : (facts_behind_last s).cells ≡ (facts_before_last s).cells ++ new_live config ∷ []
