-- Each item adds the entry that is due.
use Rattle.jh_laws.proofs.RunLemmas.{items_legal, played_legal}
use Rattle.jh_laws.proofs.items.played_journals_are_legal.Goals as goal

pub returns-clause-made : goal.returns-clause-made
returns-clause-made c = items_legal

pub returns-clause-schedule : goal.returns-clause-schedule
returns-clause-schedule c = played_legal
