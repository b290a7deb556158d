-- After each call the device's endpoint is found again, and its vector is pending there still.
use Rattle.jh_ivshmem.specs.Links.{pending_of}
use Rattle.jh_ivshmem.proofs.PendingLemmas.{pending_written, pending_configured, pending_joined, pending_reset, pending_left, pending_taken}
use Rattle.jh_ivshmem.proofs.laws.a_pending_vector_goes_only_with_its_device_or_taken.Goals as goal

pub returns-clause-written : goal.returns-clause-written
returns-clause-written c = λ p e bar at value. pending_written e bar at value p.list p.cell p.device p.vector p.pending

pub returns-clause-configured : goal.returns-clause-configured
returns-clause-configured c = λ p cell device space. pending_configured cell device space p.list p.cell p.device p.vector p.pending

pub returns-clause-joined : goal.returns-clause-joined
returns-clause-joined c = λ p s new. pending_joined s p.list p.cell p.device p.vector new p.pending

pub returns-clause-reset : goal.returns-clause-reset
returns-clause-reset c = λ p e another. pending_reset e p.list p.cell p.device p.vector another p.pending

pub returns-clause-left : goal.returns-clause-left
returns-clause-left c = λ p e another. pending_left e p.list p.cell p.device p.vector another p.pending

pub returns-clause-taken : goal.returns-clause-taken
returns-clause-taken c = λ p from other. pending_taken from (pending_of from p.list) p.list p.cell p.device p.vector other p.pending
