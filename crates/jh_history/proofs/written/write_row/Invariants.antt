-- What is left to write over the bytes as they stand gives all that is to be written.
use Rattle.std.proofs.Common.{◌≡◌, ◌-◌, ◌++◌, List}
use Rattle.jh_script.specs.declared.image.Image.{Image}
use Rattle.jh_history.specs.declared.place.Place.{Place}
use Rattle.jh_history.specs.Places.{further, places_in_row, overlaid}
use Rattle.jh_history.specs.Private.PlainView.{last_byte}
use Rattle.jh_history.proofs.written.write_row.Given as goal

abbrev pub invariant-loop-k : goal.invariant-loop-k
invariant-loop-k l = (image : Image) (places : List Place) (q : Place)
    → overlaid (places_in_row (further l.row.first l.k) (l.row.count - l.k) ++ places) l.rest q (last_byte image l.bytes.items q)
    ≡ overlaid (places_in_row l.row.first l.row.count ++ places) l.value q (last_byte image l.fn.bytes.items q)
