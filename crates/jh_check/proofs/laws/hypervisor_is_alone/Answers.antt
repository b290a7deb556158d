-- A clean system keeps the hypervisor's memory apart, and one without findings is clean.
use Rattle.jh_check.proofs.JoinLemmas.{clean_from_nothing}
use Rattle.jh_check.proofs.laws.hypervisor_is_alone.Goals as goal

pub returns : goal.returns
returns c = λ e. (clean_from_nothing c.args._system.now c.args._cells.now e).hypervisor
