-- A table that stays pays its two tests, one that goes its one turn, and a lacking one its two.
use Rattle.jh_edit.proofs.BoundLemmas.{turns_bounded}
use Rattle.jh_edit.proofs.laws.an_edit_is_bounded.Goals as goal

pub returns : goal.returns
returns c = λ want word n table start. turns_bounded want word n table start
