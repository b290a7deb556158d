-- Regions outside the stretch give nothing, and each within it adds its own findings.
use Rattle.std.proofs.Common.{◌≡◌, ◌<◌, [], ◌++◌, length, drop, sym, ap, ◌∙◌, arith}
use Rattle.std.proofs.lemmas.List.{append-nil}
use Rattle.jh_cellcfg.specs.declared.region.Region.{Region}
use Rattle.jh_check.specs.Lists.{capped, found_from}
use Rattle.jh_check.specs.Findings.{between, between_at}
use Rattle.jh_check.proofs.ListLemmas.{found_step}
use Rattle.jh_check.proofs.EnvelopeLemmas.{found_skip, found_rest}
use Rattle.jh_check.proofs.RisingLemmas.{beside_before, beside_behind}
use Rattle.jh_check.proofs.pairing.along.Goals as goal

pub loop-r-init : goal.loop-r-init
unfolding between
loop-r-init c =
    let one = c.args.one.now in
    let none : Region = record { phys_start = 0; virt_start = 0; size = 0; flags = 0 } in
    ap (λ xs. capped (c.args.found.now ++ xs)) (sym (found_skip (between_at c.args.rule c.args.a one c.args.a one) one.memory_regions c.args.stretch.first none (λ i within below.
    beside_before c.args.rule c.args.a one c.args.stretch i none c.requires.within c.requires.stretch below)))

pub loop-r-preserved : goal.loop-r-preserved
loop-r-preserved c =
    let one = c.args.one.now in
    let regions = one.memory_regions in
    let none : Region = record { phys_start = 0; virt_start = 0; size = 0; flags = 0 } in
    let t = c.loop-r-test.true in
    let m = c.min-r-end.ensures in
    let n = c.len.ensures in
    let h : c.loop-r.r < length regions = omega (arith, m, n, t) in
    found_step (between_at c.args.rule c.args.a one c.args.a one) regions c.loop-r.r none c.loop-r.found c.look_behind.new.found _ h (c.in_ok-look_behind.ensures none) c.loop-r.invariant

pub returns : goal.returns
returns c =
    let one = c.args.one.now in
    let regions = one.memory_regions in
    let found = between_at c.args.rule c.args.a one c.args.a one in
    let none : Region = record { phys_start = 0; virt_start = 0; size = 0; flags = 0 } in
    let m = c.min-r-end.ensures in
    let n = c.len.ensures in
    let t = c.loop-r-test.false in
    let rest : found_from found c.loop-r.r (drop c.loop-r.r regions) ≡ [] = found_rest found regions c.loop-r.r none (λ i within beyond.
    beside_behind c.args.rule c.args.a one c.args.stretch i none c.requires.within c.requires.stretch (omega arith))
    in
    ap capped (sym (append-nil c.loop-r.found)) ∙ ap (λ xs. capped (c.loop-r.found ++ xs)) (sym rest) ∙ c.loop-r.invariant
