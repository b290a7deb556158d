-- A page goes from the tables where it is given back, and comes to them or ahead of them where it is taken.
use Rattle.jh_edit.specs.Tables.{words}
use Rattle.jh_edit.proofs.MovePoolLemmas.{turn_fresh, turn_given, turn_pages, turn_room}
use Rattle.jh_edit.proofs.turns.turns_account_for_pages.Goals as goal

pub returns-clause-taken : goal.returns-clause-taken
returns-clause-taken c = λ frames frames' old new want move pool pool' tables plans taken is after page.
    turn_pages old new want (words frames) (words frames') move pool pool' (record { once = tables.once; aligned = tables.aligned }) plans taken is after page

pub returns-clause-fresh : goal.returns-clause-fresh
returns-clause-fresh c = λ frames frames' old new want move pool pool' tables plans is after page.
    turn_fresh old new want (words frames) (words frames') move pool pool' (record { once = tables.once; aligned = tables.aligned }) plans is after page

pub returns-clause-room : goal.returns-clause-room
returns-clause-room c = λ frames frames' old new want move pool pool' tables aims is after.
    turn_room old new want (words frames) (words frames') move pool pool' (record { once = tables.once; aligned = tables.aligned }) aims is after

pub returns-clause-given : goal.returns-clause-given
returns-clause-given c = λ frames frames' old new want move pool pool' away is after. turn_given old new want (words frames) (words frames') move pool pool' away is after
