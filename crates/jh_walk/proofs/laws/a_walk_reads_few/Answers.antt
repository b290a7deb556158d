-- A level adds one read to at most as many as there are levels below.
use Rattle.jh_walk.proofs.PathLemmas.{few_probes}
use Rattle.jh_walk.proofs.laws.a_walk_reads_few.Goals as goal

pub returns : goal.returns
returns c = λ word n table at. few_probes word n table at
