-- Region by region the scan is extended, and the scan of all gives the stretch.
use Rattle.std.proofs.Common.{get_or}
use Rattle.std.proofs.lemmas.List.{get_or_default}
use Rattle.jh_cellcfg.specs.declared.region.Region.{Region}
use Rattle.jh_check.proofs.RisingLemmas.{scan_none, scan_more, scan_done}
use Rattle.jh_check.proofs.rising.stretch_of.Goals as goal

pub loop-item-init : goal.loop-item-init
loop-item-init c = scan_none c.args.rule c.args.regions.now _

pub loop-item-preserved : goal.loop-item-preserved
loop-item-preserved c =
    let none : Region = record { phys_start = 0; virt_start = 0; size = 0; flags = 0 } in
    let x = get_or c.args.regions.now c.loop-item.item none in
    scan_more c.args.rule c.args.regions.now c.loop-item.item x c.loop-item.scan c.in-Some.more c.loop-item-test.true (get_or_default c.args.regions.now c.loop-item.item none x c.loop-item-test.true) c.in-Some.ensures c.loop-item.invariant

pub returns : goal.returns
returns c = scan_done c.args.rule c.args.regions.now c.loop-item.item c.loop-item.scan c.loop-item-test.false c.loop-item.invariant
