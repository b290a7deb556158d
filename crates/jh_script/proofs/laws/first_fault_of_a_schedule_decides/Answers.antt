-- Before the first refused item stand CPUs of the board, and past these the reader comes to it.
use Rattle.jh_script.proofs.LawLemmas.{schedule_to, schedule_from, item_to, item_from, many_items_to, many_items_from}
use Rattle.jh_script.proofs.laws.first_fault_of_a_schedule_decides.Goals as goal

pub returns-clause-schedule : goal.returns-clause-schedule
returns-clause-schedule c = λ cpus text items. (schedule_to cpus text items, schedule_from cpus text items)

pub returns-clause-item : goal.returns-clause-item
returns-clause-item c = λ cpus text number. (item_to cpus text number, item_from cpus text number)

pub returns-clause-too_long : goal.returns-clause-too_long
returns-clause-too_long c = λ cpus text. (many_items_to cpus text, many_items_from cpus text)
