-- A demand that isn't within its limits is told as no demand, so that one that is told is.
use Rattle.jh_script.specs.Words.{words, line_gaps}
use Rattle.jh_plan.proofs.LineLemmas.{result_good}
use Rattle.jh_plan.proofs.line.read_line.Goals as goal

pub returns-clause-good : goal.returns-clause-good
returns-clause-good c = result_good c.read_demand.result (words line_gaps c.in-Some.behind.now) c.read_demand.ensures
