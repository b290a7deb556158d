-- A region that takes no part has no finding, and else the first that breaks the rule tells.
use Rattle.std.proofs.Common.{◌≡◌, ◌<◌, true, false, length, get_or, refl, sym, ap}
use Rattle.jh_cellcfg.specs.declared.region.Region.{Region}
use Rattle.jh_check.specs.Private.Sites.{spot_of}
use Rattle.jh_check.specs.Regions.{pair_breaks}
use Rattle.jh_check.specs.Private.Spans.{takes_part}
use Rattle.jh_check.specs.Lists.{is_any}
use Rattle.jh_check.specs.Findings.{beside_at, beside, spot, finding_of}
use Rattle.jh_check.proofs.ListLemmas.{any_step, any_hit, any_done, any_only}
use Rattle.jh_check.proofs.BreakLemmas.{beside_idle}
use Rattle.jh_check.proofs.verdict.any_beside.Goals as goal

pub returns-then-not-takes_part : goal.returns-then-not-takes_part
returns-then-not-takes_part c =
    let one = spot_of c.args.one.now in
    let h : takes_part c.args.rule one.region ≡ false = cc in
    sym (ap is_any (beside_idle c.args.rule one c.args.b c.args.other.now h))

pub loop-s-init : goal.loop-s-init
unfolding beside
loop-s-init c = refl

pub returns-then-pair_breaks : goal.returns-then-pair_breaks
returns-then-pair_breaks c =
    let found = beside_at c.args.rule (spot_of c.args.one.now) c.args.b c.args.other.now in
    let items = c.args.other.now.memory_regions in
    let none : Region = record { phys_start = 0; virt_start = 0; size = 0; flags = 0 } in
    let v = c.as_slice-region-items.ensures.value in
    let t = c.loop-s-test.true in
    let h : c.loop-s.s < length items = rw v at t in
    let b = c.pair_breaks.ensures in
    let i = c.if-pair_breaks.true in
    let o = any_only (pair_breaks c.args.rule (spot_of c.args.one.now) (spot c.args.b c.args.other.now c.loop-s.s (get_or items c.loop-s.s none))) (finding_of c.args.rule c.args.one.now.cell c.args.one.now.item c.args.b c.loop-s.s) in
    let e : is_any (found c.loop-s.s (get_or items c.loop-s.s none)) ≡ true = cc in
    any_hit found items c.loop-s.s none _ h e c.loop-s.invariant

pub loop-s-preserved : goal.loop-s-preserved
loop-s-preserved c =
    let found = beside_at c.args.rule (spot_of c.args.one.now) c.args.b c.args.other.now in
    let items = c.args.other.now.memory_regions in
    let none : Region = record { phys_start = 0; virt_start = 0; size = 0; flags = 0 } in
    let v = c.as_slice-region-items.ensures.value in
    let t = c.loop-s-test.true in
    let h : c.loop-s.s < length items = rw v at t in
    let b = c.pair_breaks.ensures in
    let i = c.if-pair_breaks.false in
    let o = any_only (pair_breaks c.args.rule (spot_of c.args.one.now) (spot c.args.b c.args.other.now c.loop-s.s (get_or items c.loop-s.s none))) (finding_of c.args.rule c.args.one.now.cell c.args.one.now.item c.args.b c.loop-s.s) in
    let e : is_any (found c.loop-s.s (get_or items c.loop-s.s none)) ≡ false = cc in
    any_step found items c.loop-s.s none _ h e c.loop-s.invariant

pub returns : goal.returns
returns c = any_done (beside_at c.args.rule (spot_of c.args.one.now) c.args.b c.args.other.now) (c.args.other.now.memory_regions) c.loop-s.s _ (rw c.as_slice-region-items.ensures.value at c.loop-s-test.false) c.loop-s.invariant
