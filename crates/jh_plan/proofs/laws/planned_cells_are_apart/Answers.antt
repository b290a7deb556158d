-- The later cell was given what the earlier one doesn't have.
use Rattle.jh_plan.proofs.CleanLemmas.{no_cpu, no_place}
use Rattle.jh_plan.proofs.laws.planned_cells_are_apart.Goals as goal

pub returns : goal.returns
returns c = record {
  cpus = λ planned plan. no_cpu c.args._system.now c.args._demands.now planned.cells plan.are;
  places = λ planned plan. no_place c.args._system.now c.args._demands.now planned.cells plan.are;
}
