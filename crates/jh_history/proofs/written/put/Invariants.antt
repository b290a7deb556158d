-- The bytes so far are in the page.
use Rattle.std.proofs.Common.{◌≡◌, take}
use Rattle.jh_script.specs.declared.image.Image.{Image}
use Rattle.jh_history.specs.declared.place.Place.{Place}
use Rattle.jh_history.specs.Private.PlainView.{last_byte, put_in_page}
use Rattle.jh_history.proofs.written.put.Given as goal

abbrev pub invariant-loop-i : goal.invariant-loop-i
invariant-loop-i l = (image : Image) (q : Place) → last_byte image l.bytes.items q ≡ put_in_page l.cell l.at (take l.i l.list) (last_byte image l.fn.bytes.items) q
