-- What is left of the programs has the one sought.
use Rattle.std.proofs.Common.{◌≡◌, drop}
use Rattle.std.specs.Prelude.{find}
use Rattle.jh_history.specs.Lives.{is_program_of}
use Rattle.jh_history.proofs.cells.program_ops.Given as goal

abbrev pub invariant-loop-program : goal.invariant-loop-program
invariant-loop-program l = find (is_program_of l.name l.cpu) (drop l.program-index l.program-items) ≡ find (is_program_of l.name l.cpu) l.program-items
