-- Each entry of the CPU is its next operation.
use Rattle.jh_laws.proofs.CpuLemmas.{operations_taken, operations_counted}
use Rattle.jh_laws.proofs.root_alone.entries_of_root_alone_follow_the_program.Goals as goal

pub returns-clause-operations : goal.returns-clause-operations
returns-clause-operations c = λ j cpu. operations_taken j.image j.form j.entries cpu (record { admitted = j.admitted; bare = j.bare; silent = j.silent }) j.legal

pub returns-clause-position : goal.returns-clause-position
returns-clause-position c = λ j cpu. operations_counted j.image j.form j.entries cpu (record { admitted = j.admitted; bare = j.bare; silent = j.silent }) j.legal
