-- Whichever register is written, what changes in an endpoint keeps its pending vectors.
use Rattle.jh_ivshmem.proofs.LawLemmas.{written_keeps_pending}
use Rattle.jh_ivshmem.proofs.laws.a_pending_vector_stays_over_writes.Goals as goal

pub returns : goal.returns
returns c = written_keeps_pending
