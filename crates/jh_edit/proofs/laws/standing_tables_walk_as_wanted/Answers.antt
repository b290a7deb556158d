-- At each level the descriptor is what is wanted, so both go the same way.
use Rattle.jh_edit.proofs.WalkLemmas.{walk_as}
use Rattle.jh_edit.proofs.laws.standing_tables_walk_as_wanted.Goals as goal

pub returns : goal.returns
returns c = λ want word n table start at stands. walk_as want word n table start at stands
