-- By the places that a write is granted.
use Rattle.jh_laws.proofs.ByteLemmas.{byte_written_holds, byte_kept_holds}
use Rattle.jh_laws.proofs.root_alone.entries_of_root_alone_write_their_bytes.Goals as goal

pub returns-clause-written : goal.returns-clause-written
returns-clause-written c = λ m place byte writes. byte_written_holds m.image m.form m.before m.rest m.entry place byte (record { admitted = m.admitted; bare = m.bare; silent = m.silent }) m.legal writes

pub returns-clause-others : goal.returns-clause-others
returns-clause-others c = λ m place none. byte_kept_holds m.image m.form m.before m.rest m.entry place (record { admitted = m.admitted; bare = m.bare; silent = m.silent }) m.legal none
