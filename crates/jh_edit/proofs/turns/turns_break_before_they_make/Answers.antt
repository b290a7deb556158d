-- A turn clears words, or writes words that read invalid, or a page that no table leads to.
use Rattle.jh_edit.specs.Tables.{words}
use Rattle.jh_edit.proofs.MoveBreakLemmas.{moved_breaks}
use Rattle.jh_edit.proofs.turns.turns_break_before_they_make.Goals as goal

pub returns : goal.returns
returns c = λ frames frames' old new want move tables is. moved_breaks want (words frames) (words frames') old.table move (record { once = tables.once; aligned = tables.aligned }) is.moved
