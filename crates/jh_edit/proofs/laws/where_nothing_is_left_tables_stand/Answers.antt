-- Each turn that is left is a leaf or a table that isn't as wanted, and each of these is a turn.
use Rattle.std.proofs.Common.{◌+◌, arith}
use Rattle.jh_edit.proofs.StandLemmas.{stand_none, none_stand}
use Rattle.jh_edit.proofs.laws.where_nothing_is_left_tables_stand.Goals as goal

pub returns-clause-stand : goal.returns-clause-stand
returns-clause-stand c = λ want word n table start wants begins none. stand_none want word wants (n + 1) table start begins (omega arith) none

pub returns-clause-left : goal.returns-clause-left
returns-clause-left c = λ want word n table start stands. none_stand want word n table start stands
