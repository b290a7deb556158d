-- In each phase of an open call something is due to some CPU.
use Rattle.jh_laws.proofs.QuietLemmas.{quiet_closed}
use Rattle.jh_laws.proofs.calls.quiet_journals_have_no_open_call.Goals as goal

pub returns : goal.returns
returns c = λ j quiet. quiet_closed j.image j.form j.entries j.admitted j.legal quiet
