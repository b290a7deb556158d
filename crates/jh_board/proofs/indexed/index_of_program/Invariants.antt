-- What is left of the programs has the one sought.
use Rattle.std.proofs.Common.{◌≡◌, drop}
use Rattle.std.specs.Prelude.{find}
use Rattle.jh_history.specs.Lives.{is_program_of}
use Rattle.jh_board.proofs.indexed.index_of_program.Given as goal

abbrev pub invariant-loop-k : goal.invariant-loop-k
invariant-loop-k l = find (is_program_of l.name l.cpu) (drop l.k l.programs) ≡ find (is_program_of l.name l.cpu) l.programs
