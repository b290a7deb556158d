-- The name and the counts are in the limits, and the length is the one that the counts tell.
use Rattle.jh_cellcfg.proofs.Faultless.{body_unfaulted}
use Rattle.jh_cellcfg.proofs.laws.body_has_no_fault.Goals as goal

pub returns : goal.returns
returns c = body_unfaulted
