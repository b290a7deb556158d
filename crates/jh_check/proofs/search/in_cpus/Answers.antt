-- Cell by cell, a bitmap of CPUs that breaks the rule adds one finding.
use Rattle.std.proofs.Common.{◌≡◌, ◌<◌, ◌++◌, length, get_or, refl, arith}
use Rattle.jh_check.specs.Private.Cells.{cells_of}
use Rattle.jh_check.specs.Lists.{capped}
use Rattle.jh_check.specs.Findings.{in_cpus, in_cpus_at}
use Rattle.jh_check.proofs.ListLemmas.{found_step, found_done}
use Rattle.jh_check.proofs.search.in_cpus.Goals as goal

pub loop-a-init : goal.loop-a-init
unfolding in_cpus
loop-a-init c = refl

pub loop-a-preserved : goal.loop-a-preserved
loop-a-preserved c =
    let found = in_cpus_at in
    let all = cells_of c.args.setup.now in
    let v = c.cell.ensures in
    let i = c.as_slice.ensures.value in
    let b = c.cpus_break-breaks.ensures in
    let f = c.finding.ensures in
    let h : c.loop-a.a < length all = omega arith in
    let a = c.in_ok-put.ensures in
    let e : capped c.put.new.found ≡ capped (c.loop-a.found ++ found c.loop-a.a (get_or all c.loop-a.a c.cell.result.now)) = cc in
    found_step found all c.loop-a.a c.cell.result.now c.loop-a.found c.put.new.found _ h e c.loop-a.invariant

pub returns : goal.returns
returns c =
    found_done (in_cpus_at) (cells_of c.args.setup.now) c.loop-a.a c.loop-a.found _ (omega arith) c.loop-a.invariant
