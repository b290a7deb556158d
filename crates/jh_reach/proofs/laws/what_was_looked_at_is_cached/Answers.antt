-- Where no page was missed the list is as it was, and else each was filled and none took another's place.
use Rattle.jh_reach.proofs.KeptLemmas.{pages_kept}
use Rattle.jh_reach.proofs.laws.what_was_looked_at_is_cached.Goals as goal

pub returns : goal.returns
returns c = λ s access page all some has. pages_kept s access page c.what_is_filled_is_found.ensures.found (λ first k aligned small. c.a_page_is_given_whole.ensures s.word s.base.table first k aligned small) all some has
