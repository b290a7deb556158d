-- A write or a reset means endpoints of its own link, and one that isn't meant stays.
use Rattle.jh_ivshmem.proofs.LawLemmas.{written_stays, reset_stays}
use Rattle.jh_ivshmem.proofs.laws.links_never_see_each_other.Goals as goal

pub returns-clause-written : goal.returns-clause-written
returns-clause-written c = λ e bar at value list k d h. written_stays e bar at value list k d h.within h.link h.device

pub returns-clause-reset : goal.returns-clause-reset
returns-clause-reset c = λ e list k d h. reset_stays e list k d h.within h.link h.device
