-- With those of the cells ahead, the findings are all, up to the first thousand.
use Rattle.std.proofs.Common.{◌≡◌, ◌++◌, drop}
use Rattle.jh_check.specs.Private.Cells.{cells_of}
use Rattle.jh_check.specs.Lists.{found_from, capped}
use Rattle.jh_check.specs.Findings.{in_regions_at, in_regions}
use Rattle.jh_check.proofs.search.in_regions.Given as goal

abbrev pub invariant-loop-a : goal.invariant-loop-a
invariant-loop-a l =
    capped (l.found ++ found_from (in_regions_at l.rule l.setup.hypervisor.now) l.a (drop l.a (cells_of l.setup))) ≡ capped (l.initial.found ++ in_regions l.rule l.setup.hypervisor.now (cells_of l.setup))
