-- By the bits of the bitmap.
use Rattle.jh_pins.proofs.LawLemmas.{given_exactly}
use Rattle.jh_pins.proofs.laws.an_irqchip_gives_its_set_bits.Goals as goal

pub returns : goal.returns
returns c = given_exactly
