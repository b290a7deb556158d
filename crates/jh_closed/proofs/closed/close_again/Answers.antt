-- One cell more.
use Rattle.std.proofs.Common.{◌≡◌, List, length, get_or, ap, ◌∙◌, arith}
use Rattle.jh_num.specs.Bits.{has_bit}
use Rattle.jh_num.specs.Bytes.{has_byte}
use Rattle.jh_cellcfg.specs.declared.region.Region.{Region}
use Rattle.jh_closed.proofs.ClosedLemmas.{closed_step, closed_all, few_regions}
use Rattle.jh_closed.proofs.closed.close_again.Goals as goal

pub loop-i-preserved : goal.loop-i-preserved
loop-i-preserved c =
    let cells = c.args.cells.now in
    let i = c.loop-i.i in
    let cell = c.index-cells-i.result in
    let counts = few_regions cells i cell c.loop-i-test.true in
    let here : length cell ≡ length (get_or cells i cell) = ap (λ (r : List Region). length r) c.index-cells-i.is in
    let few = c.loop-i.invariant.few in
    let more = c.close_cell.ensures.few in
    record {
      bytes = λ lives same marks place.
          closed_step lives cells i c.has_bit.result cell (has_byte c.loop-i.closed.ranges place) (has_byte c.close_cell.new.closed.ranges place) place same c.loop-i-test.true c.index-cells-i.is (c.has_bit.ensures ∙ ap (λ mask. has_bit mask i) c.from.ensures ∙ marks i)
          (c.loop-i.invariant.bytes lives same marks place)
          (c.close_cell.ensures.bytes place);
      few = (let sum = counts.0 in omega arith);
      room = (let old = c.loop-i.invariant.room in let new = c.close_cell.ensures.room in omega arith);
    }

pub returns-clause-bytes : goal.returns-clause-bytes
returns-clause-bytes c = λ lives same marks place. c.loop-i.invariant.bytes lives same marks place ∙ closed_all lives c.args.cells.now c.loop-i.i place same c.loop-i-test.false
