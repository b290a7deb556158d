-- There are looks at one page or at two that differ, and fills of one or two leave the newest.
use Rattle.jh_reach.proofs.LeftLemmas.{newest_left}
use Rattle.jh_reach.proofs.laws.a_fill_leaves_the_newest.Goals as goal

pub returns : goal.returns
returns c = λ s access held missed. newest_left c.fills_keep_the_newest.ensures.one c.fills_keep_the_newest.ensures.two s access held missed
