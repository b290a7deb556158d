-- Level by level the address lies in a slot, and what is wanted there tells what each of its bytes is granted.
use Rattle.std.proofs.Common.{arith}
use Rattle.jh_walk.specs.Walks.{levels}
use Rattle.jh_edit.proofs.GrantLemmas.{walked_granted, walked_nothing}
use Rattle.jh_edit.proofs.laws.walked_tells_grants.Goals as goal

pub returns-clause-found : goal.returns-clause-found
returns-clause-found c = λ claims at hit sound end found.
    walked_granted claims (λ level start slot. c.what_is_wanted_tells_grants.ensures claims level start sound slot) levels 0 at hit (omega arith) (omega arith) (omega arith) (omega arith) end found

pub returns-clause-nothing : goal.returns-clause-nothing
returns-clause-nothing c = λ claims at place rights device sound end found granted.
    walked_nothing claims (λ level start slot. c.what_is_wanted_tells_grants.ensures claims level start sound slot) levels 0 at place rights device (omega arith) (omega arith) (omega arith) (omega arith) (omega arith) end found granted
