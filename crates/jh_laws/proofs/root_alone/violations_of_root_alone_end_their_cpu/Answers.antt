-- Nothing is due to a failed CPU.
use Rattle.std.proofs.Common.{◌≢◌, true}
use Rattle.std.proofs.lemmas.List.Elements.{All-from_recursion}
use Rattle.jh_history.specs.declared.entry.Entry.{Entry}
use Rattle.jh_laws.proofs.ByteLemmas.{byte_violation}
use Rattle.jh_laws.proofs.CpuLemmas.{cpu_by, violation_rest}
use Rattle.jh_laws.proofs.root_alone.violations_of_root_alone_end_their_cpu.Goals as goal

pub returns-clause-bytes : goal.returns-clause-bytes
returns-clause-bytes c = λ m place h. byte_violation m.image m.form m.before m.rest m.entry place (record { admitted = m.admitted; bare = m.bare; silent = m.silent }) m.legal h

pub returns-clause-failed : goal.returns-clause-failed
returns-clause-failed c = λ m h. cpu_by m.image m.form m.before m.rest m.entry true (record { admitted = m.admitted; bare = m.bare; silent = m.silent }) m.legal h

pub returns-clause-last : goal.returns-clause-last
returns-clause-last c = λ m h. All-from_recursion (λ (later : Entry). later.cpu ≢ m.entry.cpu) m.rest (violation_rest m.image m.form m.before m.rest m.entry (record { admitted = m.admitted; bare = m.bare; silent = m.silent }) m.legal h).0

pub returns-clause-never : goal.returns-clause-never
returns-clause-never c = λ m h. (violation_rest m.image m.form m.before m.rest m.entry (record { admitted = m.admitted; bare = m.bare; silent = m.silent }) m.legal h).1
