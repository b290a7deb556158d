-- Before the first fault all lines are good, and good lines lead to what stands behind them.
use Rattle.jh_script.proofs.LawLemmas.{program_to, program_from, syntax_to, syntax_from, width_to, width_from, too_long_to, too_long_from}
use Rattle.jh_script.proofs.laws.first_fault_of_a_program_decides.Goals as goal

pub returns-clause-program : goal.returns-clause-program
returns-clause-program c = λ text ops. (program_to text ops, program_from text ops)

pub returns-clause-syntax : goal.returns-clause-syntax
returns-clause-syntax c = λ text line. (syntax_to text line, syntax_from text line)

pub returns-clause-width : goal.returns-clause-width
returns-clause-width c = λ text line. (width_to text line, width_from text line)

pub returns-clause-too_long : goal.returns-clause-too_long
returns-clause-too_long c = λ text. (too_long_to text, too_long_from text)
