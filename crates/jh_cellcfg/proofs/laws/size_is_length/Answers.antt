-- The header alone has the counts and the name, which tell the length and are in the limits.
use Rattle.jh_cellcfg.proofs.Faultless.{header_sized, header_unfaulted}
use Rattle.jh_cellcfg.proofs.laws.size_is_length.Goals as goal

pub returns-clause-size : goal.returns-clause-size
returns-clause-size c = header_sized

pub returns-clause-fault : goal.returns-clause-fault
returns-clause-fault c = header_unfaulted
