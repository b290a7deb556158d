-- The leaf's slot begins at a multiple of its size below the end, which is a multiple of each size.
use Rattle.std.proofs.Common.{arith}
use Rattle.jh_walk.specs.Walks.{levels}
use Rattle.jh_walk.proofs.PathLemmas.{only_ends}
use Rattle.jh_walk.proofs.WholeLemmas.{ends_placed}
use Rattle.jh_walk.proofs.laws.a_hit_lies_below_the_end.Goals as goal

pub returns-clause-place : goal.returns-clause-place
returns-clause-place c = λ word table at hit found. (ends_placed word levels table at hit (omega arith) (only_ends word levels table at hit found)).place

pub returns-clause-slot : goal.returns-clause-slot
returns-clause-slot c = λ word table at hit found. (ends_placed word levels table at hit (omega arith) (only_ends word levels table at hit found)).slot
