-- Single places are one of the things that hold of what is clean.
use Rattle.jh_check.proofs.JoinLemmas.{clean_from_nothing}
use Rattle.jh_check.proofs.laws.places_are_single.Goals as goal

pub returns : goal.returns
returns c = λ e. (clean_from_nothing c.args._system.now c.args._cells.now e).places
