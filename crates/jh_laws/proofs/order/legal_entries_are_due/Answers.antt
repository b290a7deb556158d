-- By the parts of a legal journal.
use Rattle.jh_history.proofs.Public.{due_split}
use Rattle.jh_laws.proofs.LegalLemmas.{IsLegal_from_due}
use Rattle.jh_laws.proofs.order.legal_entries_are_due.Goals as goal

pub returns-clause-due : goal.returns-clause-due
returns-clause-due c = λ image form entries before rest entry legal e. due_split image form before rest entry (rw e at legal)

pub returns-clause-legal : goal.returns-clause-legal
returns-clause-legal c = IsLegal_from_due
