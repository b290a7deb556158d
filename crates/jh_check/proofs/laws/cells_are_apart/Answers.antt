-- Regions of two cells meet where both are shared or are one section; unshared leaves the latter.
use Rattle.jh_check.proofs.JoinLemmas.{clean_from_nothing}
use Rattle.jh_check.proofs.GivenLemmas.{cells_apart}
use Rattle.jh_check.proofs.laws.cells_are_apart.Goals as goal

pub returns : goal.returns
returns c = λ e. cells_apart c.args._system.now c.args._cells.now (clean_from_nothing c.args._system.now c.args._cells.now e)
