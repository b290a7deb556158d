-- What the create of a cell is refused for, once its configuration was read.
use Rattle.std.specs.Prelude.{ℕ, ℤ, Bool, ◌&&◌, not, ◌==◌, [], ◌∷◌, ◌++◌, Option, Some, if◌then◌else◌}
use Rattle.jh_num.specs.declared.error.TheConstants.{EPERM}
use Rattle.jh_cellcfg.specs.declared.config.CellConfig.{CellConfig}
use Rattle.jh_check.specs.Refusals.{refusal_of}
use Rattle.jh_num.specs.Bits.{has_bit}
use Rattle.jh_shape.specs.Pages.{pages_of}
use Rattle.jh_life.specs.CellsView.{CellsView}
use Rattle.jh_shape.specs.Lives.{configs_of}

-- a CPU that may be given away: root's, and not the caller's
abbrev pub may_have : ℕ → ℕ → ℕ → Bool
may_have owned caller cpu = has_bit owned cpu && not (cpu == caller)

-- how many pages all cells with the new one need
abbrev pub pages_with : CellsView → CellConfig → ℕ
pages_with seen new = pages_of seen.system.root.memory_regions (configs_of seen.lives ++ new ∷ [])

-- A live cell is locked; or else the first of these that holds of the new one beside root and the live ones: it has
-- the name or the id of one, it names a CPU that mustn't be given away, the check finds something that names it, or
-- the pages of all with it are more than there are.
abbrev pub verdict_of_create : CellsView → Bool → CellConfig → ℕ → ℕ → ℕ → Option ℤ
verdict_of_create seen locked new owned caller pool =
    if locked then Some EPERM
    else refusal_of seen.system (configs_of seen.lives) new (may_have owned caller) (pages_with seen new) pool
