-- Each fill adds one alone, that of a look, and each look is at a page of the access.
use Rattle.jh_reach.proofs.AddedLemmas.{walks_added}
use Rattle.jh_reach.proofs.laws.a_fill_adds_what_walks_find.Goals as goal

pub returns : goal.returns
returns c = λ s access t has. walks_added c.a_fill_adds_one_alone.ensures s access t has
