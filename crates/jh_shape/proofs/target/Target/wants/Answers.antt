-- At first nothing is wanted of any slot.
use Rattle.jh_shape.proofs.TableLemmas.{nothing_yet}
use Rattle.jh_shape.proofs.target.Target.wants.Goals as goal

pub fill_wants-requires-clause-clear : goal.fill_wants-requires-clause-clear
fill_wants-requires-clause-clear c = λ n few. nothing_yet 512 n few
