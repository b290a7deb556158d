-- One cause at most is the first, and its number is what the tests in their order tell.
use Rattle.std.proofs.Common.{Some, ap, sym, ◌∙◌}
use Rattle.jh_life.proofs.CauseLemmas.{cause_from, cause_to}
use Rattle.jh_life.proofs.laws.a_refusal_tells_its_first_cause.Goals as goal

pub returns : goal.returns
returns c = λ seen create number.
    (cause_from seen create number, λ r. cause_to seen create r.0 r.1 ∙ sym (ap (λ n. Some n) r.2))
