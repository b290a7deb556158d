-- By the counts that the header tells, each part begins where the one before it ends.
use Rattle.jh_cellcfg.proofs.SpelledFields.{body_told}
use Rattle.jh_cellcfg.proofs.laws.a_body_tells_its_configuration.Goals as goal

pub returns : goal.returns
returns c = body_told
