-- No region is left to root.
use Rattle.std.proofs.Common.{rules}
use Rattle.jh_closed.proofs.ClosedLemmas.{same_taken}
use Rattle.jh_closed.proofs.cell_regions.withheld_places.Goals as goal

pub returns-else-any_left_to_root-clause-same : goal.returns-else-any_left_to_root-clause-same
returns-else-any_left_to_root-clause-same c = λ place. same_taken c.args.regions.now place (search rules)
