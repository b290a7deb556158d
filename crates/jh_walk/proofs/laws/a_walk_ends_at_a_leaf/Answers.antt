-- At each level the descriptor is a leaf, leads to the next table, or ends the walk.
use Rattle.jh_walk.proofs.PathLemmas.{ends_found, only_ends}
use Rattle.jh_walk.proofs.laws.a_walk_ends_at_a_leaf.Goals as goal

pub returns-clause-found : goal.returns-clause-found
returns-clause-found c = λ word n table at hit ends. ends_found word n table at hit ends

pub returns-clause-only : goal.returns-clause-only
returns-clause-only c = λ word n table at hit found. only_ends word n table at hit found
