-- The places are those of the two rows.
use Rattle.jh_history.specs.Places.{places_of_row}
use Rattle.jh_board.specs.Private.Pages.{MayHold}
use Rattle.jh_board.proofs.BytesLemmas.{MayHold_same}
use Rattle.jh_board.proofs.ListLemmas.{All_right}
use Rattle.jh_board.proofs.memory.Memory.hold_places.Goals as goal

pub hold_row-requires-2-clause-may : goal.hold_row-requires-2-clause-may
hold_row-requires-2-clause-may c = λ k d lt.
    MayHold_same c.args.self.now c.hold_row.new.self c.hold_row.ensures.tables _
    (All_right (MayHold c.args.self.now) (places_of_row c.rows.result.0) (places_of_row c.rows.result.1) (rw c.rows.ensures.places at c.requires) k d lt)
