-- It is the page of the table that changes, or the one that is made.
use Rattle.jh_edit.specs.Tables.{words}
use Rattle.jh_edit.proofs.MoveSpotLemmas.{turn_spot}
use Rattle.jh_edit.proofs.turns.turns_write_their_own_pages.Goals as goal

pub returns : goal.returns
returns c = λ frames frames' old new want move tables plans is. turn_spot old new want (words frames) (words frames') move (record { once = tables.once; aligned = tables.aligned }) plans is
