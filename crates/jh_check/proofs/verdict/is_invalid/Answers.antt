-- Rule by rule in their order, up to the first that the new cell breaks.
use Rattle.std.proofs.Common.{◌≡◌, ◌<◌, ◌++◌, [], ◌∷◌, true, false, length, get_or, refl}
use Rattle.std.specs.List.{list_any}
use Rattle.jh_check.specs.declared.rule.Rule.TheVariants.{VirtOverlap}
use Rattle.jh_check.specs.Private.Cells.{cells_of}
use Rattle.jh_check.specs.Findings.{found_at, rules_in_order}
use Rattle.jh_check.specs.Verdicts.{makes_invalid}
use Rattle.jh_check.proofs.VerdictLemmas.{list_step, list_hit, list_done}
use Rattle.jh_check.proofs.verdict.is_invalid.Goals as goal

pub loop-i-init : goal.loop-i-init
loop-i-init c = refl

pub returns-then-branch : goal.returns-then-branch
returns-then-branch c =
    let found = found_at c.args.setup.now.hypervisor.now (cells_of c.args.setup.now ++ c.args.new.now ∷ []) in
    let v = c.rule_at.ensures in
    let b = c.in_ok-breaks.ensures in
    let i = c.if-branch.true in
    let h : c.loop-i.i < length rules_in_order = c.loop-i-test.true in
    let e : list_any (makes_invalid c.args.number) (found c.loop-i.i (get_or rules_in_order c.loop-i.i VirtOverlap)) ≡ true = cc in
    list_hit (makes_invalid c.args.number) found rules_in_order c.loop-i.i VirtOverlap _ h e c.loop-i.invariant

pub loop-i-preserved : goal.loop-i-preserved
loop-i-preserved c =
    let found = found_at c.args.setup.now.hypervisor.now (cells_of c.args.setup.now ++ c.args.new.now ∷ []) in
    let v = c.rule_at.ensures in
    let b = c.in_ok-breaks.ensures in
    let i = c.if-branch.false in
    let h : c.loop-i.i < length rules_in_order = c.loop-i-test.true in
    let e : list_any (makes_invalid c.args.number) (found c.loop-i.i (get_or rules_in_order c.loop-i.i VirtOverlap)) ≡ false = cc in
    list_step (makes_invalid c.args.number) found rules_in_order c.loop-i.i VirtOverlap _ h e c.loop-i.invariant

pub returns : goal.returns
returns c =
    list_done (makes_invalid c.args.number) (found_at c.args.setup.now.hypervisor.now (cells_of c.args.setup.now ++ c.args.new.now ∷ [])) rules_in_order c.loop-i.i _ c.loop-i-test.false c.loop-i.invariant
