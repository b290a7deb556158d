-- Each check that passes gives a part: the start and root, and any 88 bytes between are fields.
use Rattle.jh_syscfg.proofs.SpelledSystems.{system_found}
use Rattle.jh_syscfg.proofs.laws.no_fault_is_a_system.Goals as goal

pub returns : goal.returns
returns c = system_found
