-- Each slot that is read stands in a page that is reached, and so it is at each level below.
use Rattle.jh_walk.specs.Counts.{unmoved}
use Rattle.jh_walk.specs.Pages.{page_weight}
use Rattle.std.proofs.Common.{None, refl}
use Rattle.jh_walk.proofs.SameLemmas.{walk_same, probes_same, counts_same}
use Rattle.jh_walk.proofs.laws.walks_read_their_pages.Goals as goal

pub returns-clause-walk : goal.returns-clause-walk
returns-clause-walk c = λ word word' n table at same. walk_same word word' n table at same

pub returns-clause-probes : goal.returns-clause-probes
returns-clause-probes c = λ word word' n table at same. probes_same word word' n table at same

pub returns-clause-pages : goal.returns-clause-pages
returns-clause-pages c = λ word word' n table q same. counts_same unmoved (λ state. page_weight q) word word' n None table same (λ state m page some. refl)

pub returns-clause-counts : goal.returns-clause-counts
returns-clause-counts c = λ step weight word word' n state table same weighs. counts_same step weight word word' n state table same weighs
