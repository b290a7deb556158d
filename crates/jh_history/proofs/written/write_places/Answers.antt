-- One row behind the other.
use Rattle.jh_history.specs.Places.{places_of_row}
use Rattle.jh_history.proofs.KeptLemmas.{over_rows}
use Rattle.jh_history.proofs.written.write_places.Goals as goal

pub returns : goal.returns
returns c = λ image q.
    over_rows image c.args.bytes.now.items c.write_row.new.bytes.items c.write_row-2.new.bytes.items (places_of_row c.rows.result.0) (places_of_row c.rows.result.1) c.args.places.now c.args.value c.in_ok-rest.rest c.in_ok-write_row.field-0 q c.rows.ensures.places
    (λ ps. c.in_ok-rest.ensures image ps q) (λ ps. c.in_ok-write_row.ensures image ps q)
