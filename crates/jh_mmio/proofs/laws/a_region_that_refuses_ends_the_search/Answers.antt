-- As no other region has the first byte, it is the first that takes the access.
use Rattle.jh_mmio.proofs.LawLemmas.{refusal_ends}
use Rattle.jh_mmio.proofs.laws.a_region_that_refuses_ends_the_search.Goals as goal

pub returns : goal.returns
returns c = λ l k r apart takes refuses.
    refusal_ends l.regions l.closed l.ecam l.windows l.at l.width l.write k r apart.apart apart.some takes.listed takes.whole refuses
