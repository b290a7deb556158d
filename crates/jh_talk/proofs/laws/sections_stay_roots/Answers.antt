-- A place of a section is one of its twin in the cell, which is shared with root.
use Rattle.jh_talk.proofs.TwinLemmas.{sections_stay}
use Rattle.jh_talk.proofs.laws.sections_stay_roots.Goals as goal

pub returns : goal.returns
returns c = sections_stay
