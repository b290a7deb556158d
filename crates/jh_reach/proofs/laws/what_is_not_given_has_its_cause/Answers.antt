-- Byte by byte, the first that has no place leaves the access without.
use Rattle.jh_reach.proofs.CauseLemmas.{cause_of, caused}
use Rattle.jh_reach.proofs.laws.what_is_not_given_has_its_cause.Goals as goal

pub returns : goal.returns
returns c = λ s access. (cause_of s access, caused s access)
