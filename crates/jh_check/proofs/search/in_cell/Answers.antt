-- A sound cell gives no finding, and any other those of its regions in their order.
use Rattle.std.proofs.Common.{◌≡◌, ◌++◌, get_or, refl}
use Rattle.jh_cellcfg.specs.declared.region.Region.{Region}
use Rattle.jh_check.specs.Lists.{capped}
use Rattle.jh_check.specs.Findings.{in_cell, in_cell_at}
use Rattle.jh_check.proofs.ListLemmas.{found_step, found_done}
use Rattle.jh_check.proofs.EnvelopeLemmas.{capped_none_more}
use Rattle.jh_check.proofs.search.in_cell.Goals as goal

pub loop-r-init : goal.loop-r-init
unfolding in_cell
loop-r-init c = refl

pub loop-r-preserved : goal.loop-r-preserved
loop-r-preserved c =
    let found = in_cell_at c.args.rule c.args.hypervisor.now c.args.a c.args.regions.now in
    let none : Region = record { phys_start = 0; virt_start = 0; size = 0; flags = 0 } in
    let a = c.in_ok-put.ensures in
    let b = c.region_breaks-breaks.ensures in
    let f = c.finding.ensures in
    let e : capped c.put.new.found ≡ capped (c.loop-r.found ++ found c.loop-r.r (get_or c.args.regions.now c.loop-r.r none)) = cc in
    found_step found c.args.regions.now c.loop-r.r none c.loop-r.found c.put.new.found _ c.loop-r-test.true e c.loop-r.invariant

pub returns : goal.returns
returns c =
    found_done (in_cell_at c.args.rule c.args.hypervisor.now c.args.a c.args.regions.now) c.args.regions.now c.loop-r.r c.loop-r.found _ c.loop-r-test.false c.loop-r.invariant

pub returns-then-sound : goal.returns-then-sound
returns-then-sound c = capped_none_more c.args.found.now (in_cell c.args.rule c.args.hypervisor.now c.args.a c.args.regions.now) (c.requires c.if-sound.true c.args.rule)
