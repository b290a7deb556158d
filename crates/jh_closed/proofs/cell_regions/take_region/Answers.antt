-- A range more at most.
use Rattle.jh_closed.proofs.ClosedLemmas.{few_inserted}
use Rattle.jh_closed.proofs.cell_regions.take_region.Goals as goal

pub returns-clause-few : goal.returns-clause-few
returns-clause-few c = few_inserted c.insert.new.self.ranges c.args.places.now.ranges c.places.result c.insert.ensures.apart c.in_ok-insert.ensures.bytes
