-- Each cell fits its demand after those before it.
use Rattle.std.proofs.Common.{[]}
use Rattle.jh_plan.proofs.WantedLemmas.{as_long, has_wanted}
use Rattle.jh_plan.proofs.laws.planned_cells_have_what_is_wanted.Goals as goal

pub returns : goal.returns
returns c = record {
  number = λ planned plan. as_long c.args._system.now [] c.args._demands.now planned.cells plan.are;
  each = λ planned good plan. has_wanted c.args._system.now c.args._demands.now planned good plan;
}
