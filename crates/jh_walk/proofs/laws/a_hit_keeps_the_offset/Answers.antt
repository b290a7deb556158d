-- Slots and the leaf's place begin at multiples of 4,096.
use Rattle.std.proofs.Common.{arith}
use Rattle.jh_walk.specs.Walks.{levels}
use Rattle.jh_walk.proofs.PathLemmas.{only_ends}
use Rattle.jh_walk.proofs.WholeLemmas.{ends_placed}
use Rattle.jh_walk.proofs.laws.a_hit_keeps_the_offset.Goals as goal

pub returns : goal.returns
returns c = λ word table at hit found. (ends_placed word levels table at hit (omega arith) (only_ends word levels table at hit found)).offset
