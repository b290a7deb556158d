-- A region ahead breaks the rule exactly if any of the cell does.
use Rattle.std.proofs.Common.{◌≡◌, drop}
use Rattle.jh_check.specs.Lists.{found_from, is_any}
use Rattle.jh_check.specs.Findings.{in_cell_at, in_cell}
use Rattle.jh_check.proofs.verdict.any_region.Given as goal

abbrev pub invariant-loop-r : goal.invariant-loop-r
invariant-loop-r l = is_any (found_from (in_cell_at l.rule l.hypervisor l.a l.regions) l.r (drop l.r l.regions)) ≡ is_any (in_cell l.rule l.hypervisor l.a l.regions)
