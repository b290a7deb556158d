-- One change after another, from no cell on: what befalls another id leaves the one sought.
use Rattle.std.proofs.Common.{[]}
use Rattle.jh_life.proofs.ChangeLemmas.{changes_told}
use Rattle.jh_life.proofs.laws.a_cell_is_as_it_was_last_set.Goals as goal

pub returns : goal.returns
returns c = λ id changes new. changes_told id changes [] new
