-- A rule ahead has a finding that makes the cell invalid exactly if any rule has.
use Rattle.std.proofs.Common.{◌≡◌, ◌++◌, [], ◌∷◌, drop}
use Rattle.std.specs.List.{list_any}
use Rattle.jh_check.specs.Private.Cells.{cells_of}
use Rattle.jh_check.specs.Lists.{found_from}
use Rattle.jh_check.specs.Findings.{found_at, rules_in_order}
use Rattle.jh_check.specs.Verdicts.{makes_invalid}
use Rattle.jh_check.proofs.verdict.is_invalid.Given as goal

abbrev pub invariant-loop-i : goal.invariant-loop-i
invariant-loop-i l =
    list_any (makes_invalid l.number) (found_from (found_at l.setup.hypervisor.now (cells_of l.setup ++ l.new ∷ [])) l.i (drop l.i rules_in_order))
    ≡ list_any (makes_invalid l.number) (found_from (found_at l.setup.hypervisor.now (cells_of l.setup ++ l.new ∷ [])) 0 rules_in_order)
