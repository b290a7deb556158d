-- By the first that names it.
use Rattle.jh_pins.proofs.LawLemmas.{named_held, held_named}
use Rattle.jh_pins.proofs.laws.each_named_pin_is_held.Goals as goal

pub returns-clause-held : goal.returns-clause-held
returns-clause-held c = named_held

pub returns-clause-named : goal.returns-clause-named
returns-clause-named c = held_named
