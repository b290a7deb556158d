-- By the numbers below 16, and by the end of a schedule.
use Rattle.jh_laws.proofs.RunLemmas.{cpus_of_each, cpus_of_board, cpus_of_rising, played_enough}
use Rattle.jh_laws.proofs.items.rounds_are_of_the_boards_cpus.Goals as goal

pub returns-clause-each : goal.returns-clause-each
returns-clause-each c = λ image cpu admitted. (cpus_of_each image cpu admitted, cpus_of_board image cpu)

pub returns-clause-rising : goal.returns-clause-rising
returns-clause-rising c = cpus_of_rising

pub returns-clause-enough : goal.returns-clause-enough
returns-clause-enough c = played_enough
