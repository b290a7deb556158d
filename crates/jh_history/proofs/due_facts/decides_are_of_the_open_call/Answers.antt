-- By the phase that the call is in.
use Rattle.jh_history.proofs.DueDecideLemmas.{read_from_comes, decide_call, decide_caller, decide_phase, decide_goes_on}
use Rattle.jh_history.proofs.due_facts.decides_are_of_the_open_call.Goals as goal

pub returns : goal.returns
returns c = record {
  call = λ image f entry refused h. decide_call image f entry refused h.sound h.due;
  caller = λ image f entry refused o h. decide_caller image f entry refused o h.sound h.due;
  phase = λ image f entry refused o h. decide_phase image f entry refused o h.sound h.due;
  goes_on = λ image f entry o at h. decide_goes_on image f entry o at h.sound h.due;
  read = read_from_comes;
}
