-- The new one stands last, with none for its page before it, and with room all others stay.
use Rattle.jh_cache.proofs.LawLemmas.{filled_found, filled_others}
use Rattle.jh_cache.proofs.laws.what_is_filled_is_found.Goals as goal

pub returns-clause-found : goal.returns-clause-found
returns-clause-found c = λ t list. filled_found t list

pub returns-clause-others : goal.returns-clause-others
returns-clause-others c = λ t list tag page room other. filled_others t list tag page room other
