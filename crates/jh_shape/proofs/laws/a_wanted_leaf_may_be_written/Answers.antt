-- A block's places are aligned like its addresses, a page's to pages, and both end where the region ends at the latest.
use Rattle.jh_shape.proofs.WantedLemmas.{leaf_written}
use Rattle.jh_shape.proofs.laws.a_wanted_leaf_may_be_written.Goals as goal

pub returns : goal.returns
returns c = leaf_written
