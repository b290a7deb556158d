-- By who is left to be told, entry by entry.
use Rattle.jh_laws.proofs.NoteLemmas.{told_some, told_all, told_few}
use Rattle.jh_laws.proofs.calls.other_cells_are_told_in_order.Goals as goal

pub returns-clause-some : goal.returns-clause-some
returns-clause-some c = λ m about h more. told_some m about h more

pub returns-clause-all : goal.returns-clause-all
returns-clause-all c = λ s about answer h more ends. told_all s about answer h more ends

pub returns-clause-few : goal.returns-clause-few
returns-clause-few c = λ m about h bytes. told_few m about h bytes
