-- A region that takes no part gives nothing, and those it breaks the rule with are in the range.
use Rattle.std.proofs.Common.{◌≡◌, false, get_or, subst, arith}
use Rattle.jh_cellcfg.specs.declared.region.Region.{Region}
use Rattle.jh_check.specs.Private.Spans.{takes_part}
use Rattle.jh_check.specs.Findings.{spot, beside}
use Rattle.jh_check.proofs.BreakLemmas.{beside_idle}
use Rattle.jh_check.proofs.EnvelopeLemmas.{capped_none_more}
use Rattle.std.proofs.lemmas.List.{get_or_default}
use Rattle.jh_check.proofs.RisingLemmas.{scan_hits}
use Rattle.jh_check.proofs.pairing.look_behind.Goals as goal

pub returns-then-not-takes_part : goal.returns-then-not-takes_part
returns-then-not-takes_part c = λ d.
    let one = c.args.one.now in
    let regions = one.memory_regions in
    let none : Region = record { phys_start = 0; virt_start = 0; size = 0; flags = 0 } in
    let v = c.as_slice-regions.ensures.value in
    let t = c.takes_part.ensures in
    let i = c.if-not-takes_part.true in
    let idle : takes_part c.args.rule (get_or regions c.args.item none) ≡ false = cc in
    let same = get_or_default regions c.args.item none d c.requires.among in
    capped_none_more c.args.found.now (beside c.args.rule (spot c.args.a one c.args.item (get_or regions c.args.item d)) c.args.a one)
    (beside_idle c.args.rule (spot c.args.a one c.args.item (get_or regions c.args.item d)) c.args.a one (subst (λ x. takes_part c.args.rule x ≡ false) same idle))

pub beside-requires-clause-hits : goal.beside-requires-clause-hits
beside-requires-clause-hits c =
    let one = c.args.one.now in
    let none : Region = record { phys_start = 0; virt_start = 0; size = 0; flags = 0 } in
    let v = c.as_slice-regions.ensures.value in
    let s = c.saturating_add.ensures in
    let e = c.first_behind.ensures in
    let p = c.span_of.ensures in
    let k = scan_hits c.args.rule c.args.a one c.args.stretch (record { first = c.saturating_add.result; last = c.first_behind.result }) c.args.item none c.requires.within c.requires.stretch (λ n h small. omega arith) (rw v at (rw p at e)) in
    rw v k
