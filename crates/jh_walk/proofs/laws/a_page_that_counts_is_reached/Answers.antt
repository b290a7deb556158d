-- A way of table descriptors is found slot by slot, and each on it counts.
use Rattle.std.proofs.Common.{None}
use Rattle.jh_walk.specs.Counts.{unmoved}
use Rattle.jh_walk.proofs.LiftLemmas.{on_times}
use Rattle.jh_walk.proofs.ReachLemmas.{reached_in, reached_plain}
use Rattle.jh_walk.proofs.laws.a_page_that_counts_is_reached.Goals as goal

pub returns-clause-reached : goal.returns-clause-reached
returns-clause-reached c = λ word n table page. (λ some. reached_plain word n table page some, λ on. on_times unmoved word n None table on.0 None page on.1)

pub returns-clause-state : goal.returns-clause-state
returns-clause-state c = λ step word n state table page. (λ some. reached_in step word n state table page some, λ on. on_times step word n state table on.0 on.1.0 page on.1.1)
