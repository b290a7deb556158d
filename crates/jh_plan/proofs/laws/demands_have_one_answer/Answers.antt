-- One cell fits after the same earlier ones.
use Rattle.jh_plan.proofs.UniqueLemmas.{no_fault, one_fault, one_plan}
use Rattle.jh_plan.proofs.laws.demands_have_one_answer.Goals as goal

pub returns : goal.returns
returns c = record {
  plan = one_plan c.args._system.now c.args._demands.now;
  no_fault = no_fault c.args._system.now c.args._demands.now;
  fault = one_fault c.args._system.now c.args._demands.now;
}
