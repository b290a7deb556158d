-- A raise of an open vector sets its own place alone, and leaves control on but for one-shot.
use Rattle.jh_ivshmem.proofs.LawLemmas.{raised_pending, raised_control, raised_others}
use Rattle.jh_ivshmem.proofs.laws.an_open_vector_is_pending_once_raised.Goals as goal

pub returns-clause-pending : goal.returns-clause-pending
returns-clause-pending c = raised_pending

pub returns-clause-one_shot : goal.returns-clause-one_shot
returns-clause-one_shot c = raised_control

pub returns-clause-others : goal.returns-clause-others
returns-clause-others c = raised_others
