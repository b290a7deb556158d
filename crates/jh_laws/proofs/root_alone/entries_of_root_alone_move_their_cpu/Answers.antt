-- Each entry is an access of its CPU.
use Rattle.std.proofs.Common.{false}
use Rattle.jh_laws.proofs.CpuLemmas.{cpu_by, cpu_other, cpu_position}
use Rattle.jh_laws.proofs.root_alone.entries_of_root_alone_move_their_cpu.Goals as goal

pub returns-clause-position : goal.returns-clause-position
returns-clause-position c = λ m. cpu_position m.image m.form m.before m.rest m.entry (record { admitted = m.admitted; bare = m.bare; silent = m.silent }) m.legal

pub returns-clause-moved : goal.returns-clause-moved
returns-clause-moved c = λ m h. cpu_by m.image m.form m.before m.rest m.entry false (record { admitted = m.admitted; bare = m.bare; silent = m.silent }) m.legal h

pub returns-clause-others : goal.returns-clause-others
returns-clause-others c = λ m cpu ne. cpu_other m.image m.form m.before m.rest m.entry cpu (record { admitted = m.admitted; bare = m.bare; silent = m.silent }) m.legal ne
