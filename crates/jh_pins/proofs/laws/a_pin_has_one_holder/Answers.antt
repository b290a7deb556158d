-- A holder is one id.
use Rattle.jh_pins.proofs.LawLemmas.{one_holder}
use Rattle.jh_pins.proofs.laws.a_pin_has_one_holder.Goals as goal

pub returns : goal.returns
returns c = one_holder
