-- At each level what reads valid keeps its word, and what reads invalid gave nothing before.
use Rattle.jh_walk.proofs.GrowLemmas.{grown_walk, grown_times}
use Rattle.jh_walk.proofs.laws.walks_grow.Goals as goal

pub returns-clause-walk : goal.returns-clause-walk
returns-clause-walk c = λ word word' n table at hit grows found. grown_walk word word' n table at hit grows found

pub returns-clause-pages : goal.returns-clause-pages
returns-clause-pages c = λ word word' n table q grows. grown_times word word' n table q grows
