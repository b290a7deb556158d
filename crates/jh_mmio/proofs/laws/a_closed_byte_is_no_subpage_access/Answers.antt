-- A region with a closed byte of the access doesn't take it, so that what answers is another.
use Rattle.jh_mmio.proofs.LawLemmas.{closed_own, closed_another, closed_none}
use Rattle.jh_mmio.proofs.laws.a_closed_byte_is_no_subpage_access.Goals as goal

pub returns-clause-own : goal.returns-clause-own
returns-clause-own c = λ l k r h. closed_own l.regions l.closed l.ecam l.windows l.at l.width l.write k r h.byte h.listed h.memory h.starts h.ends h.closed

pub returns-clause-another : goal.returns-clause-another
returns-clause-another c = λ l k r h number answers.
    let it = closed_another l.regions l.closed l.ecam l.windows l.at l.width l.write k r h.byte h.listed h.memory h.starts h.ends h.closed number answers in
    (it.0, it.1, it.2, record { region = it.3; takes = record { listed = it.4; whole = it.5 }; lets = it.6 })

pub returns-clause-none : goal.returns-clause-none
returns-clause-none c = λ l k r apart h has. closed_none l.regions l.closed l.ecam l.windows l.at l.width l.write k r h.byte apart h.listed has h.memory h.starts h.ends h.closed
