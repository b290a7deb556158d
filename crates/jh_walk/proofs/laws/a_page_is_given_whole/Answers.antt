-- A page lies in one slot of each level, so that all its addresses go one way.
use Rattle.std.proofs.Common.{arith}
use Rattle.jh_walk.specs.Walks.{levels}
use Rattle.jh_walk.proofs.WholeLemmas.{walk_behind}
use Rattle.jh_walk.proofs.laws.a_page_is_given_whole.Goals as goal

pub returns : goal.returns
returns c = λ word table page k is small. walk_behind word levels table page k (omega arith) is small
