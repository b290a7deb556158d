-- A spelling is long enough, begins as it must, and has a root without fault behind 96 bytes.
use Rattle.jh_syscfg.proofs.Systems.{system_unfaulted}
use Rattle.jh_syscfg.proofs.laws.system_has_no_fault.Goals as goal

pub returns : goal.returns
returns c = system_unfaulted
