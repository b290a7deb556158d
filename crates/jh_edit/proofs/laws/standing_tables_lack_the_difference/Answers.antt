-- Slot by slot: where a table stands both want one, else all that the other wants there is lacked.
use Rattle.jh_edit.proofs.LackLemmas.{lack_more_wanted, lack_none}
use Rattle.jh_edit.proofs.laws.standing_tables_lack_the_difference.Goals as goal

pub returns-clause-more : goal.returns-clause-more
returns-clause-more c = λ want other word n table start has stands. lack_more_wanted want other word has n table start stands

pub returns-clause-fewer : goal.returns-clause-fewer
returns-clause-fewer c = λ want other word n table start has stands. lack_none want other word has n table start stands
