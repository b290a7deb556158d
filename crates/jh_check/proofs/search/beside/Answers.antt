-- Regions outside the range give no finding, so they may be passed over.
use Rattle.std.proofs.Common.{◌≡◌, ◌^◌, ◌<◌, [], ◌++◌, length, get_or, drop, sym, ap, ◌∙◌, arith}
use Rattle.std.proofs.lemmas.List.{append-nil}
use Rattle.jh_cellcfg.specs.declared.region.Region.{Region}
use Rattle.jh_check.specs.Private.Sites.{spot_of}
use Rattle.jh_check.specs.Lists.{capped, found_from}
use Rattle.jh_check.specs.Findings.{beside, beside_at}
use Rattle.jh_check.proofs.ListLemmas.{found_step}
use Rattle.jh_check.proofs.EnvelopeLemmas.{found_skip, found_rest, beside_outside}
use Rattle.jh_check.proofs.search.beside.Goals as goal

pub loop-s-init : goal.loop-s-init
unfolding beside
loop-s-init c =
    let one = spot_of c.args.one.now in
    let other = c.args.other.now in
    let none : Region = record { phys_start = 0; virt_start = 0; size = 0; flags = 0 } in
    let v = c.as_slice-regions.ensures.value in
    let size : length other.memory_regions < 2 ^ 64 = let t = c.as_slice-regions.type_inv in rw (sym v) (omega arith) in
    ap (λ xs. capped (c.args.found.now ++ xs)) (sym (found_skip (beside_at c.args.rule one c.args.b other) other.memory_regions c.args.range.first none (λ i within below.
    beside_outside c.args.rule one c.args.b other c.args.range c.requires.hits i none within (omega arith) (λ is. absurd (let f = is.0 in omega arith)))))

pub loop-s-preserved : goal.loop-s-preserved
loop-s-preserved c =
    let found = beside_at c.args.rule (spot_of c.args.one.now) c.args.b c.args.other.now in
    let regions = c.args.other.now.memory_regions in
    let none : Region = record { phys_start = 0; virt_start = 0; size = 0; flags = 0 } in
    let v = c.as_slice-regions.ensures.value in
    let t = c.loop-s-test.true in
    let m = c.min-s-end.ensures in
    let w : c.loop-s.s < length c.as_slice-regions.result.now = omega (arith, m, t) in
    let h : c.loop-s.s < length regions = rw v at w in
    let a = c.in_ok-put.ensures in
    let b = c.pair_breaks-breaks.ensures in
    let f = c.finding.ensures in
    let e : capped c.put.new.found ≡ capped (c.loop-s.found ++ found c.loop-s.s (get_or regions c.loop-s.s none)) = cc in
    found_step found regions c.loop-s.s none c.loop-s.found c.put.new.found _ h e c.loop-s.invariant

pub returns : goal.returns
returns c =
    let one = spot_of c.args.one.now in
    let other = c.args.other.now in
    let regions = other.memory_regions in
    let found = beside_at c.args.rule one c.args.b other in
    let none : Region = record { phys_start = 0; virt_start = 0; size = 0; flags = 0 } in
    let v = c.as_slice-regions.ensures.value in
    let size : length regions < 2 ^ 64 = let t = c.as_slice-regions.type_inv in rw (sym v) (omega arith) in
    let same : length c.as_slice-regions.result.now ≡ length regions = ap length v in
    let p = c.saturating_add.ensures in
    let m = c.min-s-end.ensures in
    let t = c.loop-s-test.false in
    let rest : found_from found c.loop-s.s (drop c.loop-s.s regions) ≡ [] = found_rest found regions c.loop-s.s none (λ i within beyond.
    beside_outside c.args.rule one c.args.b other c.args.range c.requires.hits i none within (omega arith) (λ is. absurd (let l = is.1 in omega arith)))
    in
    ap capped (sym (append-nil c.loop-s.found)) ∙ ap (λ xs. capped (c.loop-s.found ++ xs)) (sym rest) ∙ c.loop-s.invariant
