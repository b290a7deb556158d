-- Only the first of 64 is dropped.
use Rattle.jh_cache.proofs.MemberLemmas.{filled_keeps}
use Rattle.jh_cache.proofs.laws.a_fill_keeps_all_but_the_oldest.Goals as goal

pub returns : goal.returns
returns c = λ t x list. filled_keeps t list x
