-- The findings so far and those of the cells ahead are all, as far as there is room.
use Rattle.std.proofs.Common.{◌≡◌, ◌++◌, drop}
use Rattle.jh_check.specs.Private.Cells.{cells_of}
use Rattle.jh_check.specs.Lists.{found_from, capped}
use Rattle.jh_check.specs.Findings.{in_cpus_at, in_cpus}
use Rattle.jh_check.proofs.search.in_cpus.Given as goal

abbrev pub invariant-loop-a : goal.invariant-loop-a
invariant-loop-a l =
    capped (l.found ++ found_from (in_cpus_at) l.a (drop l.a (cells_of l.setup))) ≡ capped (l.initial.found ++ in_cpus (cells_of l.setup))
