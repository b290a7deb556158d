-- Each code by computing.
use Rattle.jh_laws.proofs.PlaceWordLemmas.{no_code}
use Rattle.jh_laws.proofs.words.codes_mean_calls.Goals as goal

pub returns-clause-others : goal.returns-clause-others
returns-clause-others c = λ code a b out off on affinity. no_code code a b out off on affinity
