-- The CPUs that a new cell is lent.
use Rattle.jh_history.proofs.change.commit.Goals as goal

pub returns-in-Create : goal.returns-in-Create
returns-in-Create c = rw c.in-Create.is (c.lend.ensures c.args.image.now c.args.runs c.in-Create.at)
