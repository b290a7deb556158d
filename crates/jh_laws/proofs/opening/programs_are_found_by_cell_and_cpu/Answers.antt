-- No two programs are of the same cell and CPU.
use Rattle.jh_laws.proofs.RootLemmas.{program_ops_found, program_ops_none}
use Rattle.jh_laws.proofs.opening.programs_are_found_by_cell_and_cpu.Goals as goal

pub returns-clause-found : goal.returns-clause-found
returns-clause-found c = program_ops_found

pub returns-clause-none : goal.returns-clause-none
returns-clause-none c = program_ops_none
