-- What is expected in the phase behind an act, until the caller's next entry.
use Rattle.jh_laws.proofs.CallLemmas.{follows_call}
use Rattle.jh_laws.proofs.calls.calls_go_phase_by_phase.Goals as goal

pub returns : goal.returns
returns c = λ s call more next. follows_call s.image s.form s.before s.between s.rest s.first s.last s.admitted s.legal call more next.others next.own
