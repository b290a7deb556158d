-- Each entry is the one due, so it is the same in both.
use Rattle.jh_laws.proofs.LegalLemmas.{IsLegal_same}
use Rattle.jh_laws.proofs.order.cpus_determine_the_journal.Goals as goal

pub returns : goal.returns
returns c = IsLegal_same
