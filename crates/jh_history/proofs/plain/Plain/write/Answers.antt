-- A write that succeeds.
use Rattle.jh_history.proofs.plain.Plain.write.Goals as goal

pub returns-in_ok-write_at-in-Write-clause-bytes : goal.returns-in_ok-write_at-in-Write-clause-bytes
returns-in_ok-write_at-in-Write-clause-bytes c = λ i f h q. rw (c.in-Write.is, c.if-ok.true) (c.in_ok-write_at-in-Write.ensures.bytes i f h q)

pub returns-in_ok-write_at-in-Write-clause-endpoints : goal.returns-in_ok-write_at-in-Write-clause-endpoints
returns-in_ok-write_at-in-Write-clause-endpoints c = λ i f h next. rw (c.in-Write.is, c.if-ok.true) (c.in_ok-write_at-in-Write.ensures.endpoints i f h)
