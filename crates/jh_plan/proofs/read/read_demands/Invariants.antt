-- The demands so far are few and within their limits; the rest, and any fault, are in the lines left.
use Rattle.std.proofs.Common.{◌≡◌, ◌≤◌, ◌-◌, ◌++◌, length}
use Rattle.std.specs.List.{All}
use Rattle.jh_plan.specs.Demands.{IsDemand, lines_of, first_fault, demands_of_lines}
use Rattle.jh_plan.specs.Limits.{most_demands}
use Rattle.jh_plan.proofs.read.read_demands.Given as goal

abbrev pub invariant-loop-demands : goal.invariant-loop-demands
invariant-loop-demands l = record {
  faults : first_fault 0 most_demands (lines_of l.text) ≡ first_fault l.number (most_demands - length l.demands) (lines_of l.rest);
  found : demands_of_lines (lines_of l.text) ≡ l.demands ++ demands_of_lines (lines_of l.rest);
  few : length l.demands ≤ most_demands;
  each : All IsDemand l.demands;
}

abbrev pub decreases-loop-demands : goal.decreases-loop-demands
decreases-loop-demands l = length l.rest
