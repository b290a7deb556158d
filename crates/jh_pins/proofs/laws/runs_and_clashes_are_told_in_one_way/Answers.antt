-- Each run of the one list is one of the other, and they stand in one order.
use Rattle.jh_pins.proofs.AlikeLemmas.{same_runs, same_clashes}
use Rattle.jh_pins.proofs.laws.runs_and_clashes_are_told_in_one_way.Goals as goal

pub returns-clause-runs : goal.returns-clause-runs
returns-clause-runs c = same_runs

pub returns-clause-clashes : goal.returns-clause-clashes
returns-clause-clashes c = same_clashes
