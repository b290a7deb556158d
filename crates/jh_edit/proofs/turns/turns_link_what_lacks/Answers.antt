-- A table that is made lacks all tables below it, and no other kind touches a slot where one is wanted.
use Rattle.jh_edit.specs.Tables.{words}
use Rattle.jh_edit.proofs.MoveLackLemmas.{moved_lack}
use Rattle.jh_edit.proofs.MoveSlotLemmas.{slot_lacks}
use Rattle.jh_edit.proofs.turns.turns_link_what_lacks.Goals as goal

pub returns-clause-lacks : goal.returns-clause-lacks
returns-clause-lacks c = λ word want table slot is. slot_lacks want word table slot is

pub returns-clause-linked : goal.returns-clause-linked
returns-clause-linked c = λ frames frames' old new want move tables aims is.
    moved_lack want (words frames) (words frames') old.table old.removing old.ahead move (record { once = tables.once; aligned = tables.aligned }) aims is.at is.moved
