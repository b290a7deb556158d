-- Each kind changes words alone that aren't right.
use Rattle.jh_edit.specs.Tables.{words}
use Rattle.jh_edit.proofs.MoveRightLemmas.{moved_alone, moved_right}
use Rattle.jh_edit.proofs.turns.turns_leave_right_words.Goals as goal

pub returns-clause-right : goal.returns-clause-right
returns-clause-right c = λ frames frames' old new want move tables aims is.
    moved_right want (words frames) (words frames') old.table old.removing old.ahead move (record { once = tables.once; aligned = tables.aligned }) aims is.at is.moved

pub returns-clause-alone : goal.returns-clause-alone
returns-clause-alone c = λ frames frames' old new want move coherent tables aims is.
    moved_alone want coherent (words frames) (words frames') old.table old.removing old.ahead move (record { once = tables.once; aligned = tables.aligned }) aims is.at is.moved
