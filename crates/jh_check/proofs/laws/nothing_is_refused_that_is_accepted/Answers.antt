-- Namesakes, CPUs, the verdict and the pages are asked in turn; none refuses where all are good.
use Rattle.jh_check.proofs.RefusalLemmas.{accepted_from, accepted_to}
use Rattle.jh_check.proofs.laws.nothing_is_refused_that_is_accepted.Goals as goal

pub returns : goal.returns
returns c = λ may pages pool.
    (accepted_from c.args._system.now c.args._live.now c.args._new.now may pages pool, accepted_to c.args._system.now c.args._live.now c.args._new.now may pages pool)
