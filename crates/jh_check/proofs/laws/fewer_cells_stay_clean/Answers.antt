-- Each cell that stays was there under a number before, and their order is the same.
use Rattle.jh_check.proofs.JoinLemmas.{fewer_clean}
use Rattle.jh_check.proofs.laws.fewer_cells_stay_clean.Goals as goal

pub returns : goal.returns
returns c = fewer_clean c.args._system.now c.args._before.now c.args._after.now c.args._gone.now
