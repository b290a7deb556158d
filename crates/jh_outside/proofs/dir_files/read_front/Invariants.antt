-- The bytes so far are those that the reader has given, and no more than were asked for.
use Rattle.std.proofs.Common.{◌≤◌, length}
use Rattle.std.specs.Io.KnownBytes.{Consumes}
use Rattle.jh_outside.proofs.dir_files.read_front.Given as goal

abbrev pub invariant-loop : goal.invariant-loop
invariant-loop g l = (length l.bytes.items ≤ l.most) × Consumes (g.T.Read.remaining l.initial.file) (g.T.Read.remaining l.file) l.bytes.items
