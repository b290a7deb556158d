-- By the operation that the CPU is at.
use Rattle.std.proofs.Common.{subst}
use Rattle.jh_call.specs.Calls.{decoded}
use Rattle.jh_history.specs.declared.form.Form.{Form}
use Rattle.jh_history.specs.Hypercalls.{call_in}
use Rattle.jh_history.proofs.Public.{facts_form}
use Rattle.jh_laws.specs.Hypercalls.{IsAnswer}
use Rattle.jh_laws.specs.Moments.{facts_before}
use Rattle.jh_laws.proofs.HvcLemmas.{answered_at, hvc_answered, begin_roots}
use Rattle.jh_laws.proofs.hypercalls.hypercalls_are_answered_by_their_cause.Goals as goal

pub returns-clause-answer : goal.returns-clause-answer
returns-clause-answer c = λ m code a b answer is.
    let P : Form → Type 0 = λ form. IsAnswer m.image (facts_before m) m.entry.cell (call_in form (decoded code a b)) answer in
    subst P (facts_form m.image m.form m.before)
    (hvc_answered m.image (facts_before m) m.entry.cell m.entry.act code a b answer is (answered_at m.image m.form m.before m.rest m.entry m.admitted m.legal))

pub returns-clause-begins : goal.returns-clause-begins
returns-clause-begins c = λ m code a b is. begin_roots m.image (facts_before m) m.entry.cell m.entry.act code a b is (answered_at m.image m.form m.before m.rest m.entry m.admitted m.legal)
