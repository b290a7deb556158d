-- Of what the second fill takes out one at most was held, so the oldest of 64 is gone either way.
use Rattle.jh_cache.proofs.MemberLemmas.{filled_newest, filled_twice}
use Rattle.jh_cache.proofs.laws.fills_keep_the_newest.Goals as goal

pub returns-clause-one : goal.returns-clause-one
returns-clause-one c = filled_newest

pub returns-clause-two : goal.returns-clause-two
returns-clause-two c = λ t u list held other. filled_twice t u list held.few held.apart other
