-- From what a line tells to the words that it must have, and from these words back.
use Rattle.jh_script.proofs.GrammarLemmas.{line_to, line_from, width_to, width_from, blank_to, blank_from}
use Rattle.jh_script.proofs.laws.lines_are_words_of_operations.Goals as goal

pub returns-clause-operation : goal.returns-clause-operation
returns-clause-operation c = λ text op. (line_to text op, line_from text op)

pub returns-clause-width : goal.returns-clause-width
returns-clause-width c = λ text. (width_to text, width_from text)

pub returns-clause-skipped : goal.returns-clause-skipped
returns-clause-skipped c = λ text. (blank_to text, blank_from text)
