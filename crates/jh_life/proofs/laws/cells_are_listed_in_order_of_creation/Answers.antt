-- After any changes those of the cells before stay that none drops, and the lasting ones follow.
use Rattle.std.proofs.Common.{[]}
use Rattle.jh_life.proofs.OrderLemmas.{listed}
use Rattle.jh_life.proofs.laws.cells_are_listed_in_order_of_creation.Goals as goal

pub returns : goal.returns
returns c = λ changes. listed changes []
