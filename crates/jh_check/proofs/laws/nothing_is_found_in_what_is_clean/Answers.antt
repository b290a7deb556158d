-- The tests of each rule fail everywhere exactly where what it asks for holds.
use Rattle.jh_check.proofs.JoinLemmas.{clean_from_nothing, nothing_from_clean}
use Rattle.jh_check.proofs.laws.nothing_is_found_in_what_is_clean.Goals as goal

pub returns : goal.returns
returns c = (clean_from_nothing c.args._system.now c.args._cells.now, nothing_from_clean c.args._system.now c.args._cells.now)
