-- The bit that is set is the slot's own, and every other keeps what it was.
use Rattle.std.proofs.Common.{refl}
use Rattle.jh_shape.proofs.MarkLemmas.{marked}
use Rattle.jh_shape.proofs.marks.mark.Goals as goal

pub returns : goal.returns
returns c = λ k. marked c.args.words.now c.args.n k _ c.requires refl
