-- The operations of an admitted image's programs are plain.
use Rattle.jh_history.proofs.AdmittedLemmas.{program_ops_well_formed}
use Rattle.jh_history.proofs.cells.ops_in.Goals as goal

pub returns-in-Some-clause-well_formed : goal.returns-in-Some-clause-well_formed
returns-in-Some-clause-well_formed c = rw c.program_ops.ensures (program_ops_well_formed c.args.image.now c.name.result.now c.args.cpu c.requires)
