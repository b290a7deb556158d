-- Chains of members end at the first at fault, and so does a chain of such chains.
use Rattle.jh_spec.proofs.FaultLaws.{member_law, told_law}
use Rattle.jh_spec.proofs.laws.the_first_fault_is_to_blame.Goals as goal

pub returns-clause-member : goal.returns-clause-member
returns-clause-member c = member_law

pub returns-clause-told : goal.returns-clause-told
returns-clause-told c = told_law
