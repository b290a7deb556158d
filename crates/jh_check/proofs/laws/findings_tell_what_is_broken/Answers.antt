-- The tests that list a finding say the same as the words of its rule, rule by rule.
use Rattle.jh_check.proofs.RuleLemmas.{broken_from_listed, listed_from_broken}
use Rattle.jh_check.proofs.laws.findings_tell_what_is_broken.Goals as goal

pub returns : goal.returns
returns c = (broken_from_listed c.args._system.now c.args._cells.now c.args._finding, listed_from_broken c.args._system.now c.args._cells.now c.args._finding)
