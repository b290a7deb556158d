-- The bytes behind the first are enough, or the first lies before the start.
use Rattle.std.proofs.Common.{arith}
use Rattle.jh_mmio.proofs.AccessLemmas.{lies_test, lies_not}
use Rattle.jh_mmio.proofs.cases.lies_in.Goals as goal

pub returns-then-at-start : goal.returns-then-at-start
returns-then-at-start c = lies_test c.args.start c.args.size c.args.at c.args.width _ _ c.from.ensures c.saturating_sub.ensures (omega arith) (omega arith)

pub returns-else-at-start : goal.returns-else-at-start
returns-else-at-start c = lies_not c.args.start _ c.args.at c.args.width (omega arith) (omega arith)
