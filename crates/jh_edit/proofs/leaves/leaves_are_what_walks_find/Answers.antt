-- Level by level an address lies in one slot of a table, and a leaf in that slot.
use Rattle.std.proofs.Common.{arith}
use Rattle.jh_edit.proofs.LeafLemmas.{found, listed, ordered}
use Rattle.jh_edit.proofs.leaves.leaves_are_what_walks_find.Goals as goal

pub returns-clause-found : goal.returns-clause-found
returns-clause-found c = λ word table at leaf hit among gives. found word 4 table 0 at leaf hit (omega arith) (omega arith) among gives

pub returns-clause-listed : goal.returns-clause-listed
returns-clause-listed c = λ word table at hit low walk. let is = listed word 4 table 0 at hit (omega arith) (omega arith) (omega arith) (omega arith) walk in (is.leaf, (is.among, is.gives))

pub returns-clause-order : goal.returns-clause-order
returns-clause-order c = λ word table. ordered word 4 table 0 (omega arith)
