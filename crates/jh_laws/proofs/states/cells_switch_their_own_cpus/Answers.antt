-- By what the hypercall is answered.
use Rattle.jh_laws.proofs.SwitchLemmas.{switched_on, switched_off, one_unknown, root_unknown}
use Rattle.jh_laws.proofs.states.cells_switch_their_own_cpus.Goals as goal

pub returns : goal.returns
returns c = record { on = switched_on; off = switched_off; one = one_unknown; root = root_unknown }
