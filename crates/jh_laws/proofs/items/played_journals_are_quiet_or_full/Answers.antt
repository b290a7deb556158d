-- A round in which nothing is due leaves a quiet journal, and every other adds an entry.
use Rattle.jh_laws.proofs.RunLemmas.{played_quiet, played_full, played_limit}
use Rattle.jh_laws.proofs.items.played_journals_are_quiet_or_full.Goals as goal

pub returns-clause-quiet : goal.returns-clause-quiet
returns-clause-quiet c = played_quiet

pub returns-clause-full : goal.returns-clause-full
returns-clause-full c = played_full

pub returns-clause-reached : goal.returns-clause-reached
returns-clause-reached c = played_limit
