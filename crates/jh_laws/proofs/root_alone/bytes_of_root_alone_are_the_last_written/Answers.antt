-- Entries that don't write a place keep its byte.
use Rattle.std.proofs.Common.{[]}
use Rattle.std.proofs.lemmas.List.Elements.{recursion_from_All}
use Rattle.jh_laws.specs.Writes.{WritesNot}
use Rattle.jh_laws.proofs.ByteLemmas.{byte_last, byte_rest}
use Rattle.jh_laws.proofs.root_alone.bytes_of_root_alone_are_the_last_written.Goals as goal

pub returns-clause-last : goal.returns-clause-last
returns-clause-last c = λ m place byte writes none.
    byte_last m.image m.form m.before m.rest m.entry place byte (record { admitted = m.admitted; bare = m.bare; silent = m.silent }) m.legal writes (recursion_from_All (WritesNot m.image m.image.system.root place) m.rest none)

pub returns-clause-opening : goal.returns-clause-opening
returns-clause-opening c = λ j place none. byte_rest j.image j.form [] j.entries place (record { admitted = j.admitted; bare = j.bare; silent = j.silent }) j.legal (recursion_from_All (WritesNot j.image j.image.system.root place) j.entries none)
