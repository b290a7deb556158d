-- One region more.
use Rattle.std.proofs.Common.{arith}
use Rattle.jh_num.specs.Bytes.{has_byte}
use Rattle.jh_cellcfg.specs.declared.region.Region.{Region}
use Rattle.jh_closed.proofs.ClosedLemmas.{taken_more}
use Rattle.jh_closed.proofs.cell_regions.taken_places.Goals as goal

pub loop-region-preserved : goal.loop-region-preserved
loop-region-preserved c =
    let k = c.loop-region.region-index in
    let none : Region = record { phys_start = 0; virt_start = 0; size = 0; flags = 0 } in
    let few = c.loop-region.invariant.few in
    let more = c.take_region.ensures.few in
    record {
      bytes = λ within place.
          taken_more c.args.loadable c.args.regions.now k none (has_byte c.loop-region.places.ranges place) (has_byte c.take_region.new.places.ranges place) place c.loop-region-test.true
          (c.loop-region.invariant.bytes within place)
          (c.in_ok-take_region.ensures.bytes (within k none c.loop-region-test.true) place);
      few = omega arith;
    }
