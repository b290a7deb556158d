-- Of what it sees the verdict asks the system and the configurations, and nothing else.
use Rattle.std.proofs.Common.{List, [], ◌∷◌, ◌++◌, Some, ap, ◌∙◌}
use Rattle.std.specs.Prelude.{Option, ℤ, if◌then◌else◌}
use Rattle.jh_num.specs.declared.error.TheConstants.{EPERM}
use Rattle.jh_cellcfg.specs.declared.config.CellConfig.{CellConfig}
use Rattle.jh_cellcfg.specs.declared.config.SystemConfig.{SystemConfig}
use Rattle.jh_check.specs.Refusals.{refusal_of}
use Rattle.jh_shape.specs.Pages.{pages_of}
use Rattle.jh_shape.specs.Lives.{configs_of}
use Rattle.jh_life.specs.Causes.{Create}
use Rattle.jh_life.specs.Verdict.{may_have}
use Rattle.jh_life.proofs.laws.a_verdict_goes_by_the_listed_cells.Goals as goal

abbrev verdict_by : Create → SystemConfig → List CellConfig → Option ℤ
verdict_by create system live =
    if create.locked then Some EPERM
    else refusal_of system live create.new (may_have create.owned create.caller) (pages_of system.root.memory_regions (live ++ create.new ∷ [])) create.pool

pub returns : goal.returns
returns c = λ one other create system cells.
    ap (λ (s : SystemConfig). verdict_by create s (configs_of one.lives)) system
    ∙ ap (λ (l : List CellConfig). verdict_by create other.system l) cells
