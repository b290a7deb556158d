-- By where the CPU is in root's program, entry by entry.
use Rattle.jh_laws.proofs.RootProgramLemmas.{operations_go_on, violation_ends}
use Rattle.jh_laws.proofs.programs.cpus_go_on_in_roots_program.Goals as goal

pub returns-clause-operations : goal.returns-clause-operations
returns-clause-operations c = λ j cpu. operations_go_on j.image j.form j.entries cpu j.admitted j.legal

pub returns-clause-violation : goal.returns-clause-violation
returns-clause-violation c = λ m violates root. violation_ends m violates root
