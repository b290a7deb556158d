-- A sound device has a table with room for its number, and a link is told from either cell.
use Rattle.jh_check.proofs.GivenLemmas.{may_join, numbers_differ}
use Rattle.jh_check.proofs.laws.endpoints_may_join.Goals as goal

pub returns : goal.returns
returns c = record {
  each = may_join c.args._system.now c.args._cells.now;
  links = numbers_differ c.args._system.now c.args._cells.now;
}
