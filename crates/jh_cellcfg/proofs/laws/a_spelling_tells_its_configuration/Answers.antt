-- Behind the first eight bytes it is the bytes from the name on, which tell it.
use Rattle.jh_cellcfg.proofs.SpelledFields.{spelling_told}
use Rattle.jh_cellcfg.proofs.laws.a_spelling_tells_its_configuration.Goals as goal

pub returns : goal.returns
returns c = spelling_told
