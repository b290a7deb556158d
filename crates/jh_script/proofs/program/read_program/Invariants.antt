-- The operations so far are few and well formed; the rest, and any fault, are in the lines left.
use Rattle.std.proofs.Common.{◌≡◌, ◌≤◌, ◌-◌, ◌++◌, length}
use Rattle.std.specs.List.{All}
use Rattle.jh_script.specs.Operations.{IsWellFormed}
use Rattle.jh_script.specs.Programs.{lines_of, first_fault, ops_of_lines}
use Rattle.jh_script.proofs.program.read_program.Given as goal
use Rattle.jh_script.specs.Limits.{most_ops}

abbrev pub invariant-loop-line : goal.invariant-loop-line
invariant-loop-line l = record {
  faults : first_fault 0 most_ops (lines_of l.text) ≡ first_fault l.number (most_ops - length l.ops) (lines_of l.rest);
  found : ops_of_lines (lines_of l.text) ≡ l.ops ++ ops_of_lines (lines_of l.rest);
  few : length l.ops ≤ most_ops;
  well_formed : All IsWellFormed l.ops;
}

abbrev pub decreases-loop-line : goal.decreases-loop-line
decreases-loop-line l = length l.rest
