-- By the decision, and what is granted.
use Rattle.jh_laws.proofs.CreateLemmas.{refuses_locked, refuses_unread, refuses_long, refuses_faulty, refuses_cut, verdict_on}
use Rattle.jh_laws.proofs.creates.creates_are_decided_by_what_root_reads.Goals as goal

pub returns-clause-locked : goal.returns-clause-locked
returns-clause-locked c = λ m at refused config decides locked. refuses_locked m at refused config decides locked

pub returns-clause-unread : goal.returns-clause-unread
returns-clause-unread c = λ m at refused decides none. refuses_unread m at refused decides none

pub returns-clause-long : goal.returns-clause-long
returns-clause-long c = λ m at refused header fault decides reads is long. refuses_long m at refused header fault decides reads is long

pub returns-clause-faulty : goal.returns-clause-faulty
returns-clause-faulty c = λ m at refused header fault decides reads is other. refuses_faulty m at refused header fault decides reads is other

pub returns-clause-cut : goal.returns-clause-cut
returns-clause-cut c = λ m at refused header decides reads good none. refuses_cut m at refused header decides reads good none

pub returns-clause-read : goal.returns-clause-read
returns-clause-read c = λ m at refused bytes decides whole. verdict_on m at refused bytes decides whole
