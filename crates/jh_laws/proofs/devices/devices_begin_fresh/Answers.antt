-- By what joins and what is reset.
use Rattle.jh_laws.proofs.FreshLemmas.{opens_fresh, begins_fresh}
use Rattle.jh_laws.proofs.devices.devices_begin_fresh.Goals as goal

pub returns-clause-opening : goal.returns-clause-opening
returns-clause-opening c = λ image form id n e there. opens_fresh image form id n e there

pub returns-clause-begins : goal.returns-clause-begins
returns-clause-begins c = λ m config e begins held cell. begins_fresh m config e begins held cell
