-- The first region that takes the access ends the search.
use Rattle.std.proofs.Common.{◌≡◌, sym, ◌∙◌, ap, below_more, arith, length}
use Rattle.std.proofs.lemmas.List.{get_or_default}
use Rattle.jh_num.specs.Bytes.{has_byte}
use Rattle.jh_num.proofs.Public.{position_here, position_nowhere}
use Rattle.jh_cellcfg.proofs.Public.{no_region}
use Rattle.jh_mmio.specs.Dispatch.{takes_all}
use Rattle.jh_mmio.proofs.cases.first_subpage.Goals as goal

pub returns-then-takes_all : goal.returns-then-takes_all
returns-then-takes_all c =
    position_here (takes_all (has_byte c.args.closed.now.ranges) c.args.at c.args.width) c.args.regions.now c.loop-number.number no_region c.loop-number-test.true (λ j lt. c.loop-number.invariant j lt no_region) (sym c.if-takes_all.ensures)

pub loop-number-preserved : goal.loop-number-preserved
loop-number-preserved c =
    below_more _ _ c.loop-number.invariant (λ d.
    ap (takes_all (has_byte c.args.closed.now.ranges) c.args.at c.args.width) (get_or_default c.args.regions.now c.loop-number.number d no_region c.loop-number-test.true) ∙ sym c.if-takes_all.ensures)

pub returns : goal.returns
returns c =
    let all : c.loop-number.number ≡ length c.args.regions.now = omega arith in
    position_nowhere (takes_all (has_byte c.args.closed.now.ranges) c.args.at c.args.width) c.args.regions.now no_region (λ j lt. c.loop-number.invariant j (omega arith) no_region)
