-- Where nothing is found the system is clean, which says this of addresses among others.
use Rattle.jh_check.proofs.JoinLemmas.{clean_from_nothing}
use Rattle.jh_check.proofs.laws.addresses_are_single.Goals as goal

pub returns : goal.returns
returns c = λ e. (clean_from_nothing c.args._system.now c.args._cells.now e).addresses
