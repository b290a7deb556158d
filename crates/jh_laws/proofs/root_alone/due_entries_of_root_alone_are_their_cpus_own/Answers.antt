-- By the operation that the CPU is at.
use Rattle.jh_laws.proofs.ReadyLemmas.{own_from_due, due_from_own}
use Rattle.jh_laws.proofs.root_alone.due_entries_of_root_alone_are_their_cpus_own.Goals as goal

pub returns-clause-own : goal.returns-clause-own
returns-clause-own c = λ j cpu entry h. own_from_due j.image j.form j.entries cpu entry (record { admitted = j.admitted; bare = j.bare; silent = j.silent }) j.legal h

pub returns-clause-only : goal.returns-clause-only
returns-clause-only c = λ j cpu entry ready own. due_from_own j.image j.form j.entries cpu entry (record { admitted = j.admitted; bare = j.bare; silent = j.silent }) j.legal ready own
