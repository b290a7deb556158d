-- Each rule in turn adds what it finds, and behind the last rule nothing is left to find.
use Rattle.std.proofs.Common.{◌≡◌, ◌<◌, ◌++◌, length, get_or}
use Rattle.jh_check.specs.declared.rule.Rule.TheVariants.{VirtOverlap}
use Rattle.jh_check.specs.Private.Cells.{cells_of}
use Rattle.jh_check.specs.Lists.{capped}
use Rattle.jh_check.specs.Findings.{found_at, rules_in_order}
use Rattle.jh_check.proofs.ListLemmas.{found_step, found_done}
use Rattle.jh_check.proofs.checking.found_in.Goals as goal

pub loop-i-preserved : goal.loop-i-preserved
loop-i-preserved c =
    let found = found_at c.args.setup.now.hypervisor.now (cells_of c.args.setup.now) in
    let v = c.rule_at.ensures in
    let h : c.loop-i.i < length rules_in_order = c.loop-i-test.true in
    let a = c.in_ok-found_by.ensures in
    let e : capped c.found_by.new.found ≡ capped (c.loop-i.found ++ found c.loop-i.i (get_or rules_in_order c.loop-i.i VirtOverlap)) = cc in
    found_step found rules_in_order c.loop-i.i VirtOverlap c.loop-i.found c.found_by.new.found _ h e c.loop-i.invariant

pub returns : goal.returns
returns c = found_done (found_at c.args.setup.now.hypervisor.now (cells_of c.args.setup.now)) rules_in_order c.loop-i.i c.loop-i.found _ c.loop-i-test.false c.loop-i.invariant
