-- The first range that ends late enough tells for all, and without one all end too early.
use Rattle.jh_num.proofs.SearchLemmas.{covers_first, covers_past}
use Rattle.jh_num.proofs.splice.any_covers.Goals as goal

pub returns-then-at-ranges : goal.returns-then-at-ranges
returns-then-at-ranges c = covers_first c.args.ranges.now c.args.r c.ending_before-at.result c.index-ranges-at.result c.requires c.if-at-ranges.true c.ending_before-at.ensures.before c.ending_before-at.ensures.at

pub returns-else-at-ranges : goal.returns-else-at-ranges
returns-else-at-ranges c = covers_past c.args.ranges.now c.args.r c.ending_before-at.result c.requires c.if-at-ranges.false c.ending_before-at.ensures.before
