-- Each cell is sound for itself, and beside those before it.
use Rattle.jh_plan.proofs.CleanLemmas.{nothing_found}
use Rattle.jh_plan.proofs.laws.plans_are_clean.Goals as goal

pub returns : goal.returns
returns c = nothing_found c.args._system.now c.args._demands.now
