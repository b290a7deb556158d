-- None of the cells so far names the pin.
use Rattle.std.proofs.Common.{◌≡◌, drop}
use Rattle.std.specs.Prelude.{find}
use Rattle.jh_pins.specs.Pins.{is_named_by}
use Rattle.jh_pins.proofs.table.first_to_name.Given as goal

abbrev pub invariant-loop-claim : goal.invariant-loop-claim
invariant-loop-claim l = find (is_named_by l.pin) l.claims ≡ find (is_named_by l.pin) (drop l.claim-index l.claims)
