-- What is found so far, with what the rules ahead find, is what all rules find, up to the cap.
use Rattle.std.proofs.Common.{◌≡◌, ◌++◌, drop}
use Rattle.jh_check.specs.Private.Cells.{cells_of}
use Rattle.jh_check.specs.Lists.{found_from, capped}
use Rattle.jh_check.specs.Findings.{found_at, rules_in_order}
use Rattle.jh_check.proofs.checking.found_in.Given as goal

abbrev pub invariant-loop-i : goal.invariant-loop-i
invariant-loop-i l =
    capped (l.found ++ found_from (found_at l.setup.hypervisor.now (cells_of l.setup)) l.i (drop l.i rules_in_order))
    ≡ capped (found_from (found_at l.setup.hypervisor.now (cells_of l.setup)) 0 rules_in_order)
