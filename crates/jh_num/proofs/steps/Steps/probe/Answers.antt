-- With eight reads kept, the oldest is turned to the last place and written over.
use Rattle.jh_num.proofs.StepsLemmas.{oldest_goes}
use Rattle.jh_num.proofs.steps.Steps.probe.Goals as goal

pub returns-else-self-lt-KEPT-clause-probes : goal.returns-else-self-lt-KEPT-clause-probes
returns-else-self-lt-KEPT-clause-probes c =
    rw (c.rotate_left.ensures.after, ← c.self.view_is)
    (oldest_goes c.self.inside.last c.args.p c.self.inside.len c.self.invariant.1 c.if-self-lt-KEPT.false)
