-- Each cause by what it writes, and back.
use Rattle.jh_laws.proofs.PageLawLemmas.{sends, sets, renews, stays}
use Rattle.jh_laws.proofs.pages.pages_change_by_their_causes.Goals as goal

pub returns-clause-message : goal.returns-clause-message
returns-clause-message c = λ m id message. sends m id message

pub returns-clause-state : goal.returns-clause-state
returns-clause-state c = λ m id state. sets m id state

pub returns-clause-fresh : goal.returns-clause-fresh
returns-clause-fresh c = λ m config state h bytes. renews m config state h bytes

pub returns-clause-others : goal.returns-clause-others
returns-clause-others c = λ m id offset none unput. stays m id offset none unput
