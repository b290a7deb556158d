-- It stands last, and what stands before it was there.
use Rattle.jh_cache.proofs.MemberLemmas.{filled_adds}
use Rattle.jh_cache.proofs.laws.a_fill_adds_one_alone.Goals as goal

pub returns : goal.returns
returns c = λ t x list. filled_adds t list x
