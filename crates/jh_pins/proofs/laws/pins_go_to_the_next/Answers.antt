-- A cell is taken out from among those that may hold it.
use Rattle.jh_pins.proofs.LawLemmas.{next_holds, others_stay}
use Rattle.jh_pins.proofs.laws.pins_go_to_the_next.Goals as goal

pub returns-clause-next : goal.returns-clause-next
returns-clause-next c = next_holds

pub returns-clause-others : goal.returns-clause-others
returns-clause-others c = others_stay
