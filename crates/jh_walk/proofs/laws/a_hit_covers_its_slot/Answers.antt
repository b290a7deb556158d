-- Addresses of one slot share a slot of each level above, so that both go the same way.
use Rattle.jh_walk.proofs.SlotLemmas.{hit_covers}
use Rattle.jh_walk.proofs.laws.a_hit_covers_its_slot.Goals as goal

pub returns : goal.returns
returns c = λ word table at other hit found same. hit_covers word table at other hit found same
