-- A finding with the new cell names it, which the verdict denies, or was there without it.
use Rattle.jh_check.proofs.JoinLemmas.{joins_clean, joined_clean}
use Rattle.jh_check.proofs.laws.a_clean_cell_joins.Goals as goal

pub returns : goal.returns
returns c = record {
  joins = joins_clean c.args._system.now c.args._live.now c.args._new.now;
  only = joined_clean c.args._system.now c.args._live.now c.args._new.now;
}
