-- The first is the last but one, and a fill takes out an older one at most.
use Rattle.jh_cache.specs.Translations.{filled}
use Rattle.jh_reach.proofs.TwoLemmas.{first_stays}
use Rattle.jh_reach.proofs.laws.a_fill_of_two_keeps_both.Goals as goal

pub returns-clause-first : goal.returns-clause-first
returns-clause-first c = λ t u list other. first_stays t u list other

pub returns-clause-second : goal.returns-clause-second
returns-clause-second c = λ t u list. c.what_is_filled_is_found.ensures.found u (filled t list)
