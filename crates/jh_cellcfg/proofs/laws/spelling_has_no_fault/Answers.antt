-- It is long enough, it starts as it must, and from the name on it has no fault.
use Rattle.jh_cellcfg.proofs.Faultless.{spelling_unfaulted}
use Rattle.jh_cellcfg.proofs.laws.spelling_has_no_fault.Goals as goal

pub returns : goal.returns
returns c = spelling_unfaulted
