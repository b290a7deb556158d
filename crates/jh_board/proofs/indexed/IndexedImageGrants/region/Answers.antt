-- The regions are root's.
use Rattle.jh_board.proofs.IndexLemmas.{region_of_in_range}
use Rattle.jh_board.proofs.indexed.IndexedImageGrants.region.Goals as goal

pub returns-then-cell-self-clause-within : goal.returns-then-cell-self-clause-within
returns-then-cell-self-clause-within c =
    let image = c.self.inside.image in
    region_of_in_range image c.args.access c.args.at c.giving.result c.self.invariant.admitted (c.giving.ensures.found image.system.root.memory_regions (rw c.self.invariant.regions at c.at.ensures))
