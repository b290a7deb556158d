-- One row behind the other.
use Rattle.jh_history.specs.Places.{places_of_row}
use Rattle.jh_board.specs.Pages.{HoldsPlace}
use Rattle.jh_board.proofs.BytesLemmas.{written_rows}
use Rattle.jh_board.proofs.ListLemmas.{All_right}
use Rattle.jh_board.proofs.memory.Memory.write_places.Goals as goal

pub write_row-rest-requires-2-clause-held : goal.write_row-rest-requires-2-clause-held
write_row-rest-requires-2-clause-held c = λ k d lt.
    c.write_row-rest.ensures.held _ (All_right (HoldsPlace c.args.self.now) (places_of_row c.rows.result.0) (places_of_row c.rows.result.1) (rw c.rows.ensures.places at c.requires) k d lt)

pub returns-clause-bytes : goal.returns-clause-bytes
returns-clause-bytes c = λ q.
    written_rows c.args.self.now c.write_row-rest.new.self c.write_row-rest-2.new.self (places_of_row c.rows.result.0) (places_of_row c.rows.result.1) c.args.places.now c.args.value c.write_row-rest.result c.write_row-rest-2.result q c.rows.ensures.places
    (λ ps. c.write_row-rest.ensures.bytes ps q) (λ ps. c.write_row-rest-2.ensures.bytes ps q)
