-- A sound cell has no finding, and in any other the first region that breaks the rule tells.
use Rattle.std.proofs.Common.{◌≡◌, ◌<◌, true, false, take, length, get_or, refl, sym, ap}
use Rattle.jh_cellcfg.specs.declared.region.Region.{Region}
use Rattle.jh_check.specs.Regions.{region_breaks}
use Rattle.jh_check.specs.Lists.{is_any}
use Rattle.jh_check.specs.Findings.{in_cell_at, in_cell, finding_of}
use Rattle.jh_check.proofs.ListLemmas.{any_step, any_hit, any_done, any_only}
use Rattle.jh_check.proofs.verdict.any_region.Goals as goal

pub loop-r-init : goal.loop-r-init
unfolding in_cell
loop-r-init c = refl

pub returns-then-region_breaks : goal.returns-then-region_breaks
returns-then-region_breaks c =
    let found = in_cell_at c.args.rule c.args.hypervisor.now c.args.a c.args.regions.now in
    let items = c.args.regions.now in
    let none : Region = record { phys_start = 0; virt_start = 0; size = 0; flags = 0 } in
    let h : c.loop-r.r < length items = c.loop-r-test.true in
    let b = c.region_breaks.ensures in
    let i = c.if-region_breaks.true in
    let o = any_only (region_breaks c.args.rule c.args.hypervisor.now c.args.a (take c.loop-r.r items) (get_or items c.loop-r.r none)) (finding_of c.args.rule c.args.a c.loop-r.r 0 0) in
    let e : is_any (found c.loop-r.r (get_or items c.loop-r.r none)) ≡ true = cc in
    any_hit found items c.loop-r.r none _ h e c.loop-r.invariant

pub loop-r-preserved : goal.loop-r-preserved
loop-r-preserved c =
    let found = in_cell_at c.args.rule c.args.hypervisor.now c.args.a c.args.regions.now in
    let items = c.args.regions.now in
    let none : Region = record { phys_start = 0; virt_start = 0; size = 0; flags = 0 } in
    let h : c.loop-r.r < length items = c.loop-r-test.true in
    let b = c.region_breaks.ensures in
    let i = c.if-region_breaks.false in
    let o = any_only (region_breaks c.args.rule c.args.hypervisor.now c.args.a (take c.loop-r.r items) (get_or items c.loop-r.r none)) (finding_of c.args.rule c.args.a c.loop-r.r 0 0) in
    let e : is_any (found c.loop-r.r (get_or items c.loop-r.r none)) ≡ false = cc in
    any_step found items c.loop-r.r none _ h e c.loop-r.invariant

pub returns : goal.returns
returns c = any_done (in_cell_at c.args.rule c.args.hypervisor.now c.args.a c.args.regions.now) (c.args.regions.now) c.loop-r.r _ c.loop-r-test.false c.loop-r.invariant

pub returns-then-sound : goal.returns-then-sound
returns-then-sound c = sym (ap is_any (c.requires c.if-sound.true c.args.rule))
