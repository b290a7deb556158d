-- No window answers as a region, and of regions that are apart one alone has the first byte.
use Rattle.jh_mmio.proofs.LawLemmas.{it_answers, only_answers}
use Rattle.jh_mmio.proofs.laws.the_region_that_answers_is_the_only_one.Goals as goal

pub returns-clause-it : goal.returns-clause-it
returns-clause-it c = λ l number h.
    let it = it_answers l.regions l.closed l.ecam l.windows l.at l.width l.write number h in
    (it.0, it.2, record { region = it.1; takes = record { listed = it.3; whole = it.4 }; lets = it.5 })

pub returns-clause-only : goal.returns-clause-only
returns-clause-only c = λ l number apart h k r has.
    only_answers l.regions l.closed l.ecam l.windows l.at l.width l.write number apart.apart apart.some h k r has.listed has.first
