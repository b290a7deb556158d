-- Only the page ahead comes to those that are reached.
use Rattle.jh_edit.proofs.MoveTableLemmas.{turn_tables}
use Rattle.jh_edit.proofs.turns.turns_keep_the_tables_apart.Goals as goal

pub returns : goal.returns
returns c = λ frames frames' old new want move pool tables of taken plans base size is. turn_tables frames frames' old new want move pool tables of taken plans base size is
