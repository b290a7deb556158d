-- Cleared words lead nowhere, and those that are written are as wanted.
use Rattle.jh_edit.specs.Tables.{words}
use Rattle.jh_edit.proofs.MoveBreakLemmas.{moved_grows}
use Rattle.jh_edit.proofs.MoveWalkLemmas.{moved_walks}
use Rattle.jh_edit.proofs.turns.turns_lead_where_it_is_wanted.Goals as goal

pub returns-clause-leaves : goal.returns-clause-leaves
returns-clause-leaves c = λ frames frames' old new want move tables is at hit found.
    moved_walks want (words frames) (words frames') old.table old.removing old.ahead move (record { once = tables.once; aligned = tables.aligned }) is.at is.moved at hit found

pub returns-clause-grows : goal.returns-clause-grows
returns-clause-grows c = λ frames frames' old new want move tables is kept. moved_grows want (words frames) (words frames') old.table move (record { once = tables.once; aligned = tables.aligned }) is.moved kept
