-- The search over the set's bits finds such a CPU, and each CPU named is within these bits.
use Rattle.jh_check.proofs.RefusalLemmas.{beyond_named, named_beyond}
use Rattle.jh_check.proofs.laws.beyond_is_a_cpu.Goals as goal

pub returns : goal.returns
returns c = λ may. (beyond_named may c.args._set.now, λ r. named_beyond may c.args._set.now r.0 r.1 r.2)
