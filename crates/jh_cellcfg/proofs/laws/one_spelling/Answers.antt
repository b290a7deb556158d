-- Two equal spellings are equal from the name on.
use Rattle.jh_cellcfg.proofs.Faultless.{one_spelling}
use Rattle.jh_cellcfg.proofs.laws.one_spelling.Goals as goal

pub returns : goal.returns
returns c = one_spelling
