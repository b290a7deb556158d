-- Record by record, what is spelled alike is alike, and so is what stands behind it.
use Rattle.jh_cellcfg.proofs.Faultless.{one_body}
use Rattle.jh_cellcfg.proofs.laws.one_body.Goals as goal

pub returns : goal.returns
returns c = one_body
