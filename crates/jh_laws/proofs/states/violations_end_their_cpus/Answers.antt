-- A CPU that has failed is never ready, and a violation is no write that succeeds.
use Rattle.jh_laws.specs.Moments.{facts_before}
use Rattle.jh_laws.proofs.FailedLemmas.{failing_of, failed_rests, memory_kept}
use Rattle.jh_laws.proofs.states.violations_end_their_cpus.Goals as goal

pub returns-clause-rests : goal.returns-clause-rests
returns-clause-rests c = λ s. failed_rests s.image s.form s.before s.between s.rest s.first s.last s.admitted s.legal

pub returns-clause-state : goal.returns-clause-state
returns-clause-state c = λ m violates. failing_of m.image (facts_before m) m.entry m.entry.act violates

pub returns-clause-memory : goal.returns-clause-memory
returns-clause-memory c = λ m place violates. memory_kept m.image m.form m.before m.entry place violates
