-- Ranges before the one that tells end too early, and those behind it start no earlier.
use Rattle.jh_num.proofs.SearchLemmas.{meets_first, meets_past}
use Rattle.jh_num.proofs.splice.any_meets.Goals as goal

pub returns-then-at-ranges : goal.returns-then-at-ranges
returns-then-at-ranges c = meets_first c.args.ranges.now c.args.r c.ending_before-at.result c.index-ranges-at.result c.requires.apart c.if-at-ranges.true c.ending_before-at.ensures.before c.ending_before-at.ensures.at

pub returns-else-at-ranges : goal.returns-else-at-ranges
returns-else-at-ranges c = meets_past c.args.ranges.now c.args.r c.ending_before-at.result c.requires.apart c.if-at-ranges.false c.ending_before-at.ensures.before
