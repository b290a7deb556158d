-- The search goes over the one cell's regions, up to the first that has a finding.
use Rattle.std.proofs.Common.{◌≡◌, ◌<◌, true, false, length, get_or, refl}
use Rattle.jh_cellcfg.specs.declared.region.Region.{Region}
use Rattle.jh_check.specs.Lists.{is_any}
use Rattle.jh_check.specs.Findings.{between_at, between}
use Rattle.jh_check.proofs.ListLemmas.{any_step, any_hit, any_done}
use Rattle.jh_check.proofs.verdict.any_between.Goals as goal

pub loop-r-init : goal.loop-r-init
unfolding between
loop-r-init c = refl

pub returns-then-any_beside : goal.returns-then-any_beside
returns-then-any_beside c =
    let found = between_at c.args.rule c.args.a c.args.one.now c.args.b c.args.other.now in
    let items = c.args.one.now.memory_regions in
    let none : Region = record { phys_start = 0; virt_start = 0; size = 0; flags = 0 } in
    let v = c.as_slice-region-items.ensures.value in
    let t = c.loop-r-test.true in
    let h : c.loop-r.r < length items = rw v at t in
    let b = c.any_beside.ensures in
    let i = c.if-any_beside.true in
    let e : is_any (found c.loop-r.r (get_or items c.loop-r.r none)) ≡ true = cc in
    any_hit found items c.loop-r.r none _ h e c.loop-r.invariant

pub loop-r-preserved : goal.loop-r-preserved
loop-r-preserved c =
    let found = between_at c.args.rule c.args.a c.args.one.now c.args.b c.args.other.now in
    let items = c.args.one.now.memory_regions in
    let none : Region = record { phys_start = 0; virt_start = 0; size = 0; flags = 0 } in
    let v = c.as_slice-region-items.ensures.value in
    let t = c.loop-r-test.true in
    let h : c.loop-r.r < length items = rw v at t in
    let b = c.any_beside.ensures in
    let i = c.if-any_beside.false in
    let e : is_any (found c.loop-r.r (get_or items c.loop-r.r none)) ≡ false = cc in
    any_step found items c.loop-r.r none _ h e c.loop-r.invariant

pub returns : goal.returns
returns c = any_done (between_at c.args.rule c.args.a c.args.one.now c.args.b c.args.other.now) (c.args.one.now.memory_regions) c.loop-r.r _ (rw c.as_slice-region-items.ensures.value at c.loop-r-test.false) c.loop-r.invariant
