-- The findings of each rule are in order, and the rules come by rising number.
use Rattle.jh_check.proofs.OrderLemmas.{findings_ordered}
use Rattle.jh_check.proofs.laws.findings_are_ordered.Goals as goal

pub returns : goal.returns
returns c = findings_ordered c.args._system.now c.args._cells.now
