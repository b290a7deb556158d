-- The end never falls, so a region that begins behind it begins behind all before it.
use Rattle.std.proofs.Common.{get_or}
use Rattle.std.proofs.lemmas.List.{get_or_default}
use Rattle.jh_cellcfg.specs.declared.region.Region.{Region}
use Rattle.jh_check.proofs.SpanLemmas.{stand_none, stand_more}
use Rattle.jh_check.proofs.spans.are_disjoint.Goals as goal

pub loop-item-init : goal.loop-item-init
loop-item-init c = stand_none c.args.rule c.args.regions.now

pub loop-item-preserved : goal.loop-item-preserved
loop-item-preserved c =
    let none : Region = record { phys_start = 0; virt_start = 0; size = 0; flags = 0 } in
    let x = get_or c.args.regions.now c.loop-item.item none in
    stand_more c.args.rule c.args.regions.now c.loop-item.item c.loop-item.end c.in-Some.more x c.loop-item-test.true (get_or_default c.args.regions.now c.loop-item.item none x c.loop-item-test.true) c.in-Some.ensures.grows c.in-Some.ensures.behind c.loop-item.invariant
