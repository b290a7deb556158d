-- Root is what the cell inside is, and a member at fault in there is root's.
use Rattle.jh_spec.proofs.Roots.{root_ok, root_err}
use Rattle.jh_spec.proofs.system.root.Goals as goal

pub returns-in-Ok-clause-told : goal.returns-in-Ok-clause-told
returns-in-Ok-clause-told c = root_ok _ _ _ c.in-Some.ensures c.in-Ok.ensures.told

pub returns-in-Err-clause-told : goal.returns-in-Err-clause-told
returns-in-Err-clause-told c = root_err _ _ _ _ c.in-Some.ensures c.fault_in_root.ensures c.in-Err.ensures.told
