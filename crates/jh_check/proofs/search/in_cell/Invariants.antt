-- The findings so far and those of the regions ahead are the cell's.
use Rattle.std.proofs.Common.{◌≡◌, ◌++◌, drop}
use Rattle.jh_check.specs.Lists.{found_from, capped}
use Rattle.jh_check.specs.Findings.{in_cell_at, in_cell}
use Rattle.jh_check.proofs.search.in_cell.Given as goal

abbrev pub invariant-loop-r : goal.invariant-loop-r
invariant-loop-r l =
    capped (l.found ++ found_from (in_cell_at l.rule l.hypervisor l.a l.regions) l.r (drop l.r l.regions)) ≡ capped (l.initial.found ++ in_cell l.rule l.hypervisor l.a l.regions)
